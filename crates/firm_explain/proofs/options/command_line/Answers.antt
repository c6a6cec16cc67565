use Rattle.std.proofs.Common.{◌≡◌, codes, rules}
use Rattle.clap.specs.Words.{app_of, new_app}
use Rattle.firm_program.specs.Laws.{has_rule}
use Rattle.firm_explain.proofs.Naming.{is_command_line}
use Rattle.firm_explain.proofs.options.command_line.Goals as goal

pub returns : goal.returns
returns c =
    let bare = c.after_help.result in
    let app : app_of bare ≡ new_app (codes "firm_explain") = search rules in
    is_command_line bare c.in_ok-arg.field-0 c.in_ok-arg-2.field-0 c.in_ok-arg-3.field-0 c.in_ok-arg-4.field-0
    c.in_ok-arg-5.field-0 c.in_ok-arg-6.field-0 c.roster_option.result c.state_option.result c.tenant_option.result
    c.why_option.result c.machine_option.result c.all_option.result c.rows_option.result c.arg-7.result app
    (has_rule c.roster_option.ensures) (has_rule c.state_option.ensures) c.tenant_option.ensures c.why_option.ensures
    c.machine_option.ensures c.all_option.ensures c.rows_option.ensures c.in_ok-arg.ensures c.in_ok-arg-2.ensures
    c.in_ok-arg-3.ensures c.in_ok-arg-4.ensures c.in_ok-arg-5.ensures c.in_ok-arg-6.ensures c.arg-7.ensures
