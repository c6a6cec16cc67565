use Rattle.std.proofs.Common.{◌≡◌, ◌*◌, ◌≤◌, take, count_by, map}
use Rattle.indexmap.specs.IndexMap.{keys, values}
use Rattle.firm_rules.specs.Book.{is_on, evicted}
use Rattle.firm_rules.specs.ArenaUse.{preference_count}
use Rattle.firm_rules.proofs.TaskWrites.{written}
use Rattle.firm_rules.proofs.tables.evict.Given as goal

-- the tasks before the place have been seen
abbrev pub invariant-loop-place : goal.invariant-loop-place
invariant-loop-place g l =
    (keys l.tasks ≡ keys l.fn.tasks)
    × (values l.tasks ≡ written (map (evicted l.fn.name) (values l.fn.tasks)) (values l.fn.tasks) l.place)
    × (l.evicted ≡ count_by (λ task. is_on l.fn.name task.machine) (take l.place (values l.fn.tasks)))
    × (l.preferences ≡ preference_count (take l.place (map (evicted l.fn.name) (values l.fn.tasks))))
    × (l.preferences ≤ 4 * l.place)
