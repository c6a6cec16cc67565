use Rattle.std.proofs.Common.{take}
use Rattle.firm_held.specs.Held.{NoneWaits}
use Rattle.firm_held.proofs.held.Held.first_of.Given as goal

abbrev pub invariant-loop-at : goal.invariant-loop-at
invariant-loop-at l = record { none : NoneWaits l.place (take l.at l.self.answers) }
