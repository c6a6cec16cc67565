use Rattle.std.proofs.Common.{◌≡◌, length, take}
use Rattle.firm_rounds.specs.Rounds.{weigh}
use Rattle.firm_hall.proofs.close.rounds_of.Given as goal

abbrev pub invariant-loop-i : goal.invariant-loop-i
invariant-loop-i l = l.rounds ≡ weigh (λ r. length r.got) (take l.i l.reports)
