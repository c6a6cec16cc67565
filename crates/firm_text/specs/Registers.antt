-- The tenant of each place while tenants come and go, and the number of times that each place was given.
use Rattle.std.specs.Prelude.{◌≡◌, ◌≤◌, ◌<◌, ◌+◌, ◌-◌, ◌&&◌, ℕ, Bool, false, All, AllPairs, List, ◌++◌, IsSome}
use Rattle.std.specs.Prelude.{Option, Some, None, Result, Ok, Err, bytes_eq, length, map, replicate, position, nat_lt}
use Rattle.std.specs.Prelude.{slice_index_or, slice_set, if◌then◌else◌}
use Rattle.std.specs.Option.{is_some, is_none, ok_or}
use Rattle.firm_text.specs.Rosters.{RosterRow, most_places}
use Rattle.firm_text.specs.declared.operator.OperatorRefusal.{OperatorRefusal}
use Rattle.firm_text.specs.declared.operator.OperatorRefusal.TheVariants.{TenantExists, Full}
use Rattle.firm_text.specs.declared.registers.Entry.{Entry}

-- at most this many times one place is given
abbrev pub most_admissions : ℕ
most_admissions = 32768

-- a place without a tenant that was given this many times
abbrev pub vacant : ℕ → Entry
vacant admissions = record { tenant = None; admissions = admissions }

-- a place that the tenant of this name has
abbrev pub occupied : List ℕ → ℕ → Entry
occupied name admissions = record { tenant = Some name; admissions = admissions }

-- the places at first: those of a roster's tenants in their order, each given once, and then those that nobody had
abbrev pub first_places : List RosterRow → List Entry
first_places tenants =
    map (λ tenant. occupied tenant.0 1) tenants ++ replicate (most_places - length tenants) (vacant 0)

-- whether the name is the tenant's, if any
abbrev pub is_named : List ℕ → Option (List ℕ) → Bool
is_named name None = false
is_named name (Some tenant) = bytes_eq tenant name

-- the place that the tenant of this name has
abbrev pub place_in : List Entry → List ℕ → Option ℕ
place_in places name = position (λ place. is_named name place.tenant) places

-- whether a place may be given: no tenant has it, and it has an admission left
abbrev pub is_free : Entry → Bool
is_free place = is_none place.tenant && nat_lt place.admissions most_admissions

-- the place that a tenant of this name is given: the first that may be given, unless a tenant of this name is there
abbrev pub place_for : List Entry → List ℕ → Result ℕ OperatorRefusal
place_for places name =
    if is_some (place_in places name) then Err TenantExists else ok_or (position is_free places) Full

-- how often the place was given
abbrev pub admissions_at : List Entry → ℕ → ℕ
admissions_at places at = (slice_index_or places at (vacant 0)).admissions

-- the places once this one was given to a tenant of this name
abbrev pub with_tenant : List Entry → ℕ → List ℕ → List Entry
with_tenant places at name = slice_set places at (occupied name (admissions_at places at + 1))

-- the places once the tenant of this one has left
abbrev pub without_tenant : List Entry → ℕ → List Entry
without_tenant places at = slice_set places at (vacant (admissions_at places at))

-- a tenant of this name was admitted to that place, which led from these places to those
pub record IsAdmission (before : List Entry) (name : List ℕ) (at : ℕ) (after : List Entry) : Type 0 where
  pub given : place_for before name ≡ Ok at
  pub led : after ≡ with_tenant before at name

-- no tenant has both
abbrev pub AreApart : Entry → Entry → Type 0
AreApart first second = (name : List ℕ) → first.tenant ≡ Some name → second.tenant ≡ Some name → ⊥

-- a place was given no more often than it may be, and at least once where a tenant has it
abbrev pub IsCounted : Entry → Type 0
IsCounted place = (place.admissions ≤ most_admissions) × (IsSome place.tenant → 0 < place.admissions)

-- what holds of the places at all times
pub record IsRegister (places : List Entry) : Type 0 where
  pub all : length places ≡ most_places
  pub apart : AllPairs AreApart places
  pub counted : All IsCounted places
