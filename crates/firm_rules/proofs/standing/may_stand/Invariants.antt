use Rattle.std.proofs.Common.{◌≡◌, true, take}
use Rattle.std.specs.List.{list_all}
use Rattle.firm_rules.specs.SoundBook.{may_stand}
use Rattle.firm_rules.proofs.standing.may_stand.Given as goal

abbrev pub invariant-loop-place : goal.invariant-loop-place
invariant-loop-place l =
    list_all (λ task. may_stand l.rows l.rounds task task.machine) (take l.place l.rows.tasks) ≡ true
