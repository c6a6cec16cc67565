use Rattle.std.proofs.Common.{◌≡◌, take}
use Rattle.indexmap.specs.IndexMap.{keys, values}
use Rattle.firm_rules.specs.Book.{running_count}
use Rattle.firm_rules.specs.Round.{settled, zipped}
use Rattle.firm_rules.proofs.TaskWrites.{written}
use Rattle.firm_rules.proofs.tables.settle_all.Given as goal

-- the tasks before the place have their choices
abbrev pub invariant-loop-place : goal.invariant-loop-place
invariant-loop-place g l =
    (keys l.tasks ≡ keys l.fn.tasks)
    × (values l.tasks
    ≡ written (zipped (settled l.fn.patience (values l.fn.machines)) (values l.fn.tasks) l.fn.choices)
    (values l.fn.tasks) l.place)
    × (l.running
    ≡ running_count (take l.place
    (zipped (settled l.fn.patience (values l.fn.machines)) (values l.fn.tasks) l.fn.choices)))
