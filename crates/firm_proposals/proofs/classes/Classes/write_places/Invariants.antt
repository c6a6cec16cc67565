use Rattle.std.proofs.Common.{◌≡◌, length}
use Rattle.firm_proposals.proofs.classes.Classes.write_places.Given as goal

abbrev pub invariant-loop-machine : goal.invariant-loop-machine
invariant-loop-machine l = length l.places.items ≡ l.machine
