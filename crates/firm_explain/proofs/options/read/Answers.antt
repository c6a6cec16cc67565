use Rattle.std.proofs.Common.{Ok, codes}
use Rattle.std.specs.Prelude.{map}
use Rattle.firm_program.specs.Laws.{fails_by_faults, finds, finds_value}
use Rattle.firm_explain.specs.CommandLine.{command_line}
use Rattle.firm_explain.proofs.Naming.{is_flag, simple, simple_and_free}
use Rattle.firm_explain.proofs.options.read.Goals as goal

pub returns-clause-faults : goal.returns-clause-faults
returns-clause-faults g c =
    fails_by_faults command_line simple_and_free c.in_ok-command_line.field-0 c.in_ok-command_line.ensures _
    (Ok c.in_ok-matches.matches) c.in_ok-matches.ensures.kinds

pub returns-clause-given : goal.returns-clause-given
returns-clause-given g c =
    let m = c.in_ok-matches.matches in
    let words = map g.S.AsStr.text c.args.words.now in
    let found = finds command_line simple c.in_ok-command_line.field-0 c.in_ok-command_line.ensures words m
    c.in_ok-matches.ensures.matches in
    record {
      paths = record {
        roster_path =
            finds_value command_line words m (codes "roster") c.get_str-roster.result found c.get_str-roster.ensures;
        state_path =
            finds_value command_line words m (codes "state") c.get_str-state.result found c.get_str-state.ensures;
      };
      tenant_is =
          finds_value command_line words m (codes "tenant") c.get_str-tenant.result found c.get_str-tenant.ensures;
      task_is = finds_value command_line words m (codes "why") c.get_str-why.result found c.get_str-why.ensures;
    }

pub returns-clause-rows : goal.returns-clause-rows
returns-clause-rows g c =
    let m = c.in_ok-matches.matches in
    let words = map g.S.AsStr.text c.args.words.now in
    let found = finds command_line simple c.in_ok-command_line.field-0 c.in_ok-command_line.ensures words m
    c.in_ok-matches.ensures.matches in
    is_flag words m c.get_flag-rows.result found c.get_flag-rows.ensures.none c.get_flag-rows.ensures.value
    c.get_flag-rows.ensures.other
