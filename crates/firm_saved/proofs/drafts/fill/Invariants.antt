use Rattle.std.proofs.Common.{◌≡◌, ◌≤◌, ◌-◌, length}
use Rattle.firm_text.specs.Rosters.{most_places}
use Rattle.firm_saved.specs.Saved.{filled}
use Rattle.firm_saved.proofs.drafts.fill.Given as goal

-- filling up from here gives what filling up gave from the start
abbrev pub invariant-loop-places : goal.invariant-loop-places
invariant-loop-places l = record {
  few : length l.places.items ≤ most_places;
  same : filled l.places.items ≡ filled l.initial.places.items;
}

abbrev pub decreases-loop-places : goal.decreases-loop-places
decreases-loop-places l = most_places - length l.places.items
