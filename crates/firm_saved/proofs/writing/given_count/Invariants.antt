use Rattle.std.proofs.Common.{◌≡◌, ◌≤◌, List, length, take}
use Rattle.firm_saved.specs.Saved.{register_of}
use Rattle.firm_saved.specs.StateText.{given_places}
use Rattle.firm_saved.specs.declared.saved.SavedPlace.{SavedPlace}
use Rattle.firm_saved.proofs.writing.given_count.Given as goal

-- the places that are left out were never given
abbrev pub invariant-loop-rest : goal.invariant-loop-rest
invariant-loop-rest l = record {
  few : length l.rest ≤ length l.entries;
  front : l.rest ≡ take (length l.rest) l.entries;
  same : (places : List SavedPlace) → register_of places ≡ l.entries
      → given_places places ≡ given_places (take (length l.rest) places);
}

abbrev pub decreases-loop-rest : goal.decreases-loop-rest
decreases-loop-rest l = length l.rest
