use Rattle.std.proofs.Common.{◌≡◌, ◌+◌, ◌-◌}
use Rattle.crossbeam_queue.specs.Passes.{view, IsPassOf}
use Rattle.firm_rounds.specs.inner.Seats.{held_from}
use Rattle.firm_rounds.specs.Passes.{queue_of, new_pops}
use Rattle.firm_rounds.proofs.cuts.cut_pops.Given as goal

abbrev pub invariant-loop-k : goal.invariant-loop-k
invariant-loop-k l =
    IsPassOf l.ring l.keep × ((view l.keep).all ≡ (view l.fn.keep).all)
    × (view l.keep ≡ held_from (l.counts.puts + l.k) ((view l.fn.keep).all - 1))
    × (l.passes.items ≡ new_pops (queue_of l.bell l.fn.keep) l.k)
