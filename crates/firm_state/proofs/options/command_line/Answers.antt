use Rattle.std.proofs.Common.{◌≡◌, rules}
use Rattle.clap.specs.Words.{app_of}
use Rattle.firm_state.specs.CommandLine.{versioned_app}
use Rattle.firm_program.specs.Laws.{has_rule}
use Rattle.firm_state.proofs.Naming.{is_command_line}
use Rattle.firm_state.proofs.options.command_line.Goals as goal

pub returns : goal.returns
returns c =
    let bare = c.after_help.result in
    let app : app_of bare ≡ versioned_app = search rules in
    is_command_line bare c.in_ok-arg.field-0 c.in_ok-arg-2.field-0 c.in_ok-arg-3.field-0 c.roster_option.result
    c.state_option.result c.merge_option.result c.tenant_option.result c.arg-4.result app
    (has_rule c.roster_option.ensures) (has_rule c.state_option.ensures) c.merge_option.ensures
    c.tenant_option.ensures c.in_ok-arg.ensures c.in_ok-arg-2.ensures c.in_ok-arg-3.ensures c.arg-4.ensures
