-- A state with some of its tenants alone, and the state that two of them make up.
use Rattle.std.specs.Prelude.{◌+◌, ℕ, List, [], ◌∷◌, map, option_map, Option, Some, None, Result, Ok, Err}
use Rattle.std.specs.Prelude.{slice_index_or, slice_set, if◌then◌else◌}
use Rattle.firm_rules.specs.Book.{Book}
use Rattle.firm_rules.specs.Names.{is_among}
use Rattle.firm_text.specs.Commands.{◌>>=◌}
use Rattle.firm_text.specs.Registers.{is_named, place_for}
use Rattle.firm_text.specs.declared.headings.Heading.{Heading}
use Rattle.firm_text.specs.declared.headings.Heading.TheVariants.{Plain, Extended}
use Rattle.firm_text.specs.declared.operator.OperatorRefusal.{OperatorRefusal}
use Rattle.firm_saved.specs.Saved.{SavedIs, register_of, saved_with, tenant_name, untouched}
use Rattle.firm_parts.specs.declared.joining.JoinFault.{JoinFault}
use Rattle.firm_saved.specs.declared.saved.SavedPlace.{SavedPlace}

-- the book of the tenant of this name, if it stays at one of the places
abbrev pub book_in : List SavedPlace → List ℕ → Option Book
book_in [] name = None
book_in (place ∷ rest) name =
    if is_named name (tenant_name place) then option_map (λ (tenant : List ℕ × Book). tenant.1) place.tenant
    else book_in rest name

-- the tenant, if it has one of these names
abbrev pub kept_tenant : List (List ℕ) → Option (List ℕ × Book) → Option (List ℕ × Book)
kept_tenant names None = None
kept_tenant names (Some tenant) = if is_among names tenant.0 then Some tenant else None

-- the place once its tenant has left, unless that has one of these names; how often it was given stays
abbrev pub kept_place : List (List ℕ) → SavedPlace → SavedPlace
kept_place names place = record place { tenant = kept_tenant names place.tenant }

-- the places with the tenants of these names alone: the others have left
abbrev pub cut_to : List (List ℕ) → List SavedPlace → List SavedPlace
cut_to names places = map (kept_place names) places

-- the state with the tenants of these names alone, of the same heading
abbrev pub cut_state : List (List ℕ) → SavedIs → SavedIs
cut_state names saved = saved_with saved.heading (cut_to names saved.places)

-- the places once a tenant has come to this one with its book; that counts as an admission
abbrev pub settled_at : List SavedPlace → ℕ → List ℕ × Book → List SavedPlace
settled_at places at tenant =
    let admissions : ℕ = (slice_index_or places at untouched).admissions in
    slice_set places at (record { admissions = admissions + 1; tenant = Some tenant })

-- the places once a tenant has come to the one that the register gives to one of its name, or why it gives none
abbrev pub settled : List SavedPlace → List ℕ × Book → Result ℕ OperatorRefusal → Result (List SavedPlace) JoinFault
settled places tenant (Ok at) = Ok (settled_at places at tenant)
settled places tenant (Err refusal) = Err (record { tenant = tenant.0; refusal = refusal })

-- the places once the tenant of another, if any, has come
abbrev pub joined_by : List SavedPlace → Option (List ℕ × Book) → Result (List SavedPlace) JoinFault
joined_by places None = Ok places
joined_by places (Some tenant) = settled places tenant (place_for (register_of places) tenant.0)

-- the places once the tenants of others have come, in the order of their places: each gets the place that an admission
-- would give it. A tenant that is there already has no place, and is a fault, as is want of one
abbrev pub joined : List SavedPlace → List SavedPlace → Result (List SavedPlace) JoinFault
joined places [] = Ok places
joined places (other ∷ rest) = joined_by places other.tenant >>= λ more. joined more rest

-- the heading of two states that are joined: extended if one of them is
abbrev pub either_heading : Heading → Heading → Heading
either_heading Plain second = second
either_heading Extended second = Extended

-- the state of this heading and of the places, if they can be joined
abbrev pub with_heading : Heading → Result (List SavedPlace) JoinFault → Result SavedIs JoinFault
with_heading heading places = places >>= λ found. Ok (saved_with heading found)

-- the state once the tenants of another have come
abbrev pub joined_state : SavedIs → SavedIs → Result SavedIs JoinFault
joined_state saved other =
    with_heading (either_heading saved.heading other.heading) (joined saved.places other.places)

-- the first of two books, or the second
abbrev pub either_book : Option Book → Option Book → Option Book
either_book (Some book) second = Some book
either_book None second = second
