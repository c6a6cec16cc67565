use Rattle.firm_hall.specs.inner.Serving.{Follows, Keeps}
use Rattle.firm_hall.proofs.serving.Serving.look.Given as goal

abbrev pub invariant-loop-place : goal.invariant-loop-place
invariant-loop-place g l = record { follows : Follows l.fn.self l.self; keeps : Keeps l.fn.self l.self }
