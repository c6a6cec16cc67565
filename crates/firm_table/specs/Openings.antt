-- The opening of a service: its tenants and their books.
use Rattle.std.specs.Prelude.{ℕ, List, slice_index_or}
use Rattle.firm_table.specs.Opened.{Opened, opened_roster, opened_state}
use Rattle.firm_table.specs.Places.{Place, unused_place}
use Rattle.firm_table.specs.declared.openings.Opening.{Opening}
use Rattle.firm_table.specs.declared.openings.Opening.TheVariants.{Roster, State}

-- the heading and the places before the first line
abbrev pub opened : Opening → Opened
opened (Roster roster) = opened_roster roster.now
opened (State saved) = opened_state saved.now

-- the places
abbrev pub places_opened : Opening → List Place
places_opened opening = (opened opening).places

-- one of them
abbrev pub place_opened : Opening → ℕ → Place
place_opened opening place = slice_index_or (places_opened opening) place unused_place
