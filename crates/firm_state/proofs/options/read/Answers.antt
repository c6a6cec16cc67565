use Rattle.std.proofs.Common.{◌∙◌, Ok, codes}
use Rattle.std.specs.Prelude.{map}
use Rattle.firm_program.specs.Laws.{fails_by_faults, finds, finds_value}
use Rattle.firm_state.specs.CommandLine.{command_line}
use Rattle.firm_state.proofs.Naming.{finds_all, simple, simple_and_free}
use Rattle.firm_state.proofs.options.read.Goals as goal

pub returns-clause-faults : goal.returns-clause-faults
returns-clause-faults g c =
    fails_by_faults command_line simple_and_free c.in_ok-command_line.field-0 c.in_ok-command_line.ensures _
    (Ok c.in_ok-matches.matches) c.in_ok-matches.ensures.kinds

pub returns-clause-given : goal.returns-clause-given
returns-clause-given g c =
    let m = c.in_ok-matches.matches in
    let words = map g.S.AsStr.text c.args.words.now in
    let found = finds command_line simple c.in_ok-command_line.field-0 c.in_ok-command_line.ensures words m
    c.in_ok-matches.ensures.matches in
    record {
      paths = record {
        roster_path =
            finds_value command_line words m (codes "roster") c.get_str-roster.result found c.get_str-roster.ensures;
        state_path =
            finds_value command_line words m (codes "state") c.get_str-state.result found c.get_str-state.ensures;
      };
      others_are = c.in_ok-others.ensures ∙ finds_all words m (codes "merge") found;
      tenants_are = c.in_ok-tenants.ensures ∙ finds_all words m (codes "tenant") found;
    }
