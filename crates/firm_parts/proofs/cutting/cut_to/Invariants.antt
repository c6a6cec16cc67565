use Rattle.std.proofs.Common.{◌≡◌, ◌++◌, drop, map, take}
use Rattle.firm_parts.specs.Parts.{kept_place}
use Rattle.firm_parts.proofs.cutting.cut_to.Given as goal

-- the first places, `at` in number, are cut
abbrev pub invariant-loop-at : goal.invariant-loop-at
invariant-loop-at l =
    l.places.items
    ≡ map (kept_place l.names) (take l.at l.initial.places.items) ++ drop l.at l.initial.places.items
