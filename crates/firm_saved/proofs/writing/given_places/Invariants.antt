use Rattle.std.proofs.Common.{◌≡◌, ◌≤◌, length}
use Rattle.firm_text.specs.Rosters.{most_places}
use Rattle.firm_saved.specs.StateText.{given_places}
use Rattle.firm_saved.proofs.writing.given_places.Given as goal

-- the places that are left out were never given
abbrev pub invariant-loop-rest : goal.invariant-loop-rest
invariant-loop-rest l = record {
  few : length l.rest ≤ most_places;
  same : given_places l.rest ≡ given_places l.places;
}

abbrev pub decreases-loop-rest : goal.decreases-loop-rest
decreases-loop-rest l = length l.rest
