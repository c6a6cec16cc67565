-- The state of a service: its heading, its 64 places, how often each was given, and the books of the tenants that stay
-- there.
use Rattle.std.specs.Prelude.{◌≡◌, ◌<◌, ◌++◌, ◌-◌, ℕ, true, All, IfSome, List, length, map, replicate, Option, None}
use Rattle.std.specs.Prelude.{option_map}
use Rattle.firm_rules.specs.Book.{Book}
use Rattle.firm_rules.specs.Names.{is_name}
use Rattle.firm_rules.specs.SoundBook.{IsSoundBook}
use Rattle.firm_text.specs.Registers.{IsRegister, admissions_at}
use Rattle.firm_text.specs.Rosters.{FitsHeading, most_places}
use Rattle.firm_text.specs.declared.headings.Heading.{Heading}
use Rattle.firm_text.specs.declared.registers.Entry.{Entry}
use Rattle.firm_saved.specs.declared.saved.SavedPlace.{SavedPlace}

-- the name of the tenant that stays at a place, if one does
abbrev pub tenant_name : SavedPlace → Option (List ℕ)
tenant_name place = option_map (λ (tenant : List ℕ × Book). tenant.0) place.tenant

-- a place as a register has it: the name there, and how often it was given
abbrev pub entry_of : SavedPlace → Entry
entry_of place = record { tenant = tenant_name place; admissions = place.admissions }

-- the register of the places
abbrev pub register_of : List SavedPlace → List Entry
register_of places = map entry_of places

-- the tenant of a place, if any, has a name of the form and a sound book
abbrev pub IsSoundPlace : SavedPlace → Type 0
IsSoundPlace place = IfSome place.tenant (λ (tenant : List ℕ × Book). (is_name tenant.0 ≡ true) × IsSoundBook tenant.1)

-- places are first given in their order: the first was given, and so was each that stands before one that was
pub record AreGivenInOrder (places : List Entry) : Type 0 where
  pub first : 0 < admissions_at places 0
  pub before : (at behind : ℕ) → at < behind → 0 < admissions_at places behind → 0 < admissions_at places at

-- what holds of the places of a service at all times
pub record AreSoundSaved (places : List SavedPlace) : Type 0 where
  pub register : IsRegister (register_of places)
  pub in_order : AreGivenInOrder (register_of places)
  pub books : All IsSoundPlace places

-- a state: the heading under which the service reads lines, and its places
pub record SavedIs : Type 0 where
  pub heading : Heading
  pub places : List SavedPlace

-- the state of this heading and these places
abbrev pub saved_with : Heading → List SavedPlace → SavedIs
saved_with heading places = record { heading = heading; places = places }

-- the limits of a place's tenant, if any, are such as a row under this heading can give
abbrev pub PlaceFits : Heading → SavedPlace → Type 0
PlaceFits heading place =
    IfSome place.tenant (λ (tenant : List ℕ × Book). FitsHeading heading tenant.1.rows.limits)

-- what holds of the state of a service at all times
pub record IsSoundSaved (saved : SavedIs) : Type 0 where
  pub places : AreSoundSaved saved.places
  pub fit : All (PlaceFits saved.heading) saved.places

-- a place that was never given
abbrev pub untouched : SavedPlace
untouched = record { admissions = 0; tenant = None }

-- these places, and then places that were never given, 64 in all
abbrev pub filled : List SavedPlace → List SavedPlace
filled places = places ++ replicate (most_places - length places) untouched
