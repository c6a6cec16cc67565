-- The places after tenants have come to them.
use Rattle.std.specs.Prelude.{◌≡◌, List, Result, Ok, Err}
use Rattle.firm_parts.specs.declared.joining.JoinFault.{JoinFault}
use Rattle.firm_saved.specs.declared.saved.SavedPlace.{SavedPlace}

-- these are the places that were to come of it, or it failed as it was to
abbrev pub Comes : {A : Type 0} → List SavedPlace → Result A JoinFault → Result (List SavedPlace) JoinFault → Type 0
Comes places (Ok done) wanted = wanted ≡ Ok places
Comes places (Err fault) wanted = wanted ≡ Err fault
