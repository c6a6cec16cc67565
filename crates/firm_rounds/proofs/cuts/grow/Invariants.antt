use Rattle.std.proofs.Common.{◌≡◌, ◌+◌, ◌-◌}
use Rattle.crossbeam_queue.specs.Passes.{view, IsPassOf}
use Rattle.firm_rounds.specs.inner.Seats.{grown_to}
use Rattle.firm_rounds.proofs.cuts.grow.Given as goal

abbrev pub invariant-loop : goal.invariant-loop
invariant-loop l = IsPassOf l.ring l.keep × (view l.keep ≡ grown_to (((view l.initial.keep).all - 1) + l.counter))
