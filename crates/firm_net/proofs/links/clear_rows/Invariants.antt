-- The arcs below the place are cleared.
use Rattle.firm_net.specs.inner.Links.{IsClearedTo}
use Rattle.firm_net.proofs.links.clear_rows.Given as goal

abbrev pub invariant-loop-place : goal.invariant-loop-place
invariant-loop-place l = IsClearedTo l.initial.links l.links l.place
