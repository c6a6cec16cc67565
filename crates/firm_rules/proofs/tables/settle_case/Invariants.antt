use Rattle.std.proofs.Common.{◌≡◌}
use Rattle.indexmap.specs.IndexMap.{values}
use Rattle.firm_rules.specs.Placement.{Case}
use Rattle.firm_rules.specs.inner.Tables.{seated, weight_in}
use Rattle.firm_rules.proofs.TaskWrites.{written}
use Rattle.firm_rules.proofs.tables.settle_case.Given as goal

-- the tasks before this number have their choices
abbrev pub invariant-loop-number : goal.invariant-loop-number
invariant-loop-number g l =
    l.case
    ≡ record l.fn.case {
      tasks = written (seated (weight_in (values l.jobs)) (values l.tasks) l.choices l.fn.case.tasks)
          l.fn.case.tasks l.number;
    }
