use Rattle.std.proofs.Common.{◌≡◌, ◌*◌, ◌≤◌, take}
use Rattle.firm_rents.specs.OtherSlots.{drawn}
use Rattle.firm_rents.proofs.slots.drawn_at.Given as goal

abbrev pub invariant-loop-task : goal.invariant-loop-task
invariant-loop-task l =
    (l.drawn ≡ drawn l.case l.rents l.rent (take l.task l.case.tasks)) × (l.drawn ≤ l.task * 4194304)
