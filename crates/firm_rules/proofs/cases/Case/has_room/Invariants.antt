use Rattle.std.proofs.Common.{◌≡◌}
use Rattle.std.specs.Prelude.{nat_le, slice_index}
use Rattle.std.specs.List.{list_all}
use Rattle.firm_rules.specs.Placement.{numbers, load}
use Rattle.firm_rules.proofs.cases.Case.has_room.Given as goal

abbrev pub invariant-loop-place : goal.invariant-loop-place
invariant-loop-place g l =
    l.has_room
    ≡ list_all (λ j. nat_le (load l.placement j) (slice_index l.self.slots j)) (numbers l.place)
