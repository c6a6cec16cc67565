-- The desks with which a hall opens.
use Rattle.std.specs.Prelude.{ℕ, zero, suc, List, [], ◌∷◌}
use Rattle.firm_rules.specs.Book.{opening_book}
use Rattle.firm_text.specs.Rosters.{RosterRow}
use Rattle.firm_rounds.specs.Passes.{QueueId}
use Rattle.firm_hall.specs.Desks.{DeskIs, desk_is, PlaceIs, place_is}

-- from this place on, a desk for each row of the roster, with the opening book of the row's limits; no round was
-- requested there, and the place was given once
abbrev pub opening_desks : QueueId → ℕ → List RosterRow → List DeskIs
opening_desks queue place [] = []
opening_desks queue place (tenant ∷ rest) =
    desk_is queue place 0 1 (opening_book tenant.1) ∷ opening_desks queue (suc place) rest

-- this many unused places, from this one on
abbrev pub unused_places : QueueId → ℕ → ℕ → List PlaceIs
unused_places queue place zero = []
unused_places queue place (suc count) = place_is queue place 0 0 ∷ unused_places queue (suc place) count
