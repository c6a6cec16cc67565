use Rattle.std.proofs.Common.{◌≡◌, ◌-◌}
use Rattle.crossbeam_queue.specs.Passes.{view, IsPassOf}
use Rattle.firm_rounds.specs.inner.Seats.{held_from}
use Rattle.firm_rounds.specs.Passes.{queue_of, new_puts}
use Rattle.firm_rounds.proofs.cuts.cut_puts.Given as goal

abbrev pub invariant-loop-place : goal.invariant-loop-place
invariant-loop-place l =
    IsPassOf l.ring l.keep × ((view l.keep).all ≡ (view l.initial.keep).all)
    × (view l.keep ≡ held_from l.place ((view l.initial.keep).all - 1))
    × (l.passes.items ≡ new_puts (queue_of l.bell l.initial.keep) l.place)
