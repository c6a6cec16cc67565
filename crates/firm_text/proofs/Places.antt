-- Places that are given, left and taken back.
use Rattle.std.proofs.Common.{◌≡◌, ◌≢◌, ◌≤◌, ◌<◌, ◌+◌, ◌-◌, ℕ, Bool, true, false, suc, List, [], ◌∷◌, ◌++◌, Some}
use Rattle.std.proofs.Common.{None, Ok, Err, Option, All, AllPairs, length, map, take, get_or, inl, inr, arith, refl}
use Rattle.std.proofs.Common.{sym, ap, ◌∙◌, subst}
use Rattle.std.specs.Prelude.{◌&&◌, nat_lt, position, replicate, set, if◌then◌else◌}
use Rattle.std.specs.List.{position_or_len}
use Rattle.std.specs.Option.{is_none, is_some, ok_or}
use Rattle.std.proofs.lemmas.Bool.{cases_eq, cases_lt, ltb-true}
use Rattle.std.proofs.lemmas.Bool.Decides.{nat_tests}
use Rattle.std.proofs.lemmas.List.{get_or_append_left, get_or-append_right, get_or-map, get_or-replicate}
use Rattle.std.proofs.lemmas.List.{get_or-set_same, get_or-set_other, length-append, length-map, length-replicate}
use Rattle.std.proofs.lemmas.List.{append_assoc, length-set, length-take-le, map-append, set-set, set-get_or, set_at}
use Rattle.std.proofs.lemmas.List.{take_all, take_more}
use Rattle.std.proofs.lemmas.List.Elements.{All-set}
use Rattle.std.proofs.lemmas.List.Quantifiers.{position-Some}
use Rattle.std.proofs.lemmas.List.Sums.{fails_before_first}
use Rattle.std.proofs.lemmas.Slice.Eq.{bytes_eq-Decides}
use Rattle.firm_text.specs.Rosters.{RosterRow, NamesDiffer, most_places}
use Rattle.firm_text.specs.Registers.{AreApart, IsRegister, IsAdmission, IsCounted, admissions_at, is_free, is_named}
use Rattle.firm_text.specs.Registers.{first_places, most_admissions, occupied, place_for, place_in, vacant}
use Rattle.firm_text.specs.declared.operator.OperatorRefusal.{OperatorRefusal}
use Rattle.firm_text.specs.declared.operator.OperatorRefusal.TheVariants.{TenantExists, Full}
use Rattle.firm_text.specs.declared.registers.Entry.{Entry}

-- where no element passes, each fails
fails_everywhere : {X : Type 0} (p : X → Bool) (xs : List X) (k : ℕ) (d : X) → position p xs ≡ None → k < length xs
    → p (get_or xs k d) ≡ false
fails_everywhere p xs k d none within =
    let late : length xs ≤ position_or_len p xs = grind (arith, nat_tests) in
    fails_before_first p xs k d (omega arith)

-- a name that no place has
pub name_missing : (places : List Entry) (name : List ℕ) (k : ℕ) (d : Entry) → place_in places name ≡ None
    → k < length places → (get_or places k d).tenant ≡ Some name → ⊥
name_missing places name k d none within held =
    let fails = fails_everywhere (λ (place : Entry). is_named name place.tenant) places k d none within in
    let passes : is_named name (Some name) ≡ true = (bytes_eq-Decides name name).1 refl in
    let at_name : is_named name (Some name) ≡ false =
    subst (λ (o : Option (List ℕ)). is_named name o ≡ false) held fails in
    cc

-- what is known where a place is given
given_free : (held : Bool) (free : Option ℕ) (at : ℕ)
    → (if held then Err TenantExists else ok_or {E = OperatorRefusal} free Full) ≡ Ok at
    → (held ≡ false) × (free ≡ Some at)
given_free true free at e = absurd (cc)
given_free false None at e = absurd (cc)
given_free false (Some i) at e = (refl, cc)

none_of : {X : Type 0} (o : Option X) → is_some o ≡ false → o ≡ None
none_of None e = refl
none_of (Some x) e = absurd (cc)

pub record IsFreeFor (places : List Entry) (name : List ℕ) (at : ℕ) : Type 0 where
  pub within : at < length places
  pub none : place_in places name ≡ None
  pub free : (d : Entry) → is_free (get_or places at d) ≡ true

pub free_for : (places : List Entry) (name : List ℕ) (at : ℕ) → place_for places name ≡ Ok at → IsFreeFor places name at
free_for places name at given =
    let both = given_free (is_some (place_in places name)) (position is_free places) at given in
    record {
      within = (position-Some is_free places at (vacant 0) both.1).0;
      none = none_of (place_in places name) both.0;
      free = λ d. (position-Some is_free places at d both.1).1;
    }

-- what a place that may be given is
vacant_fields : (tenant : Option (List ℕ)) (admissions : ℕ)
    → (is_none tenant && nat_lt admissions most_admissions) ≡ true
    → (tenant ≡ None) × (nat_lt admissions most_admissions ≡ true)
vacant_fields None admissions free = (refl, free)
vacant_fields (Some name) admissions free = absurd (cc)

with_fields : ℕ → Option (List ℕ) → Entry
with_fields admissions tenant = record { tenant = tenant; admissions = admissions }

vacant_of : (place : Entry) → is_free place ≡ true → place ≡ vacant place.admissions
unfolding with_fields
vacant_of place free = ap (with_fields place.admissions) (vacant_fields place.tenant place.admissions free).0

spare_of : (place : Entry) → is_free place ≡ true → place.admissions < most_admissions
spare_of place free =
    ltb-true place.admissions most_admissions (vacant_fields place.tenant place.admissions free).1

-- each element and each later one, after a write
apart_set : (places : List Entry) (at : ℕ) (place : Entry) → AllPairs AreApart places
    → ((name : List ℕ) → place.tenant ≡ Some name → place_in places name ≡ None)
    → AllPairs AreApart (set places at place)
apart_set places at place apart new i j d before within name first second =
    let inside : j < length places = subst (λ (n : ℕ). j < n) (length-set places at place) within in
    elim (cases_eq i at) [
      | inl here ↦
          let other : j ≢ at = omega arith in
          let is : get_or (set places at place) i d ≡ place =
          subst (λ (k : ℕ). get_or (set places at place) k d ≡ place) (sym here)
          (get_or-set_same places at place d (omega arith)) in
          let late = get_or-set_other places at j place d other in
          name_missing places name j d (new name (subst (λ (p : Entry). p.tenant ≡ Some name) is first)) inside
          (subst (λ (p : Entry). p.tenant ≡ Some name) late second)
      | inr other ↦
          let early = get_or-set_other places at i place d other in
          let held : (get_or places i d).tenant ≡ Some name = subst (λ (p : Entry). p.tenant ≡ Some name) early first in
          elim (cases_eq j at) [
            | inl here ↦
                let is : get_or (set places at place) j d ≡ place =
                subst (λ (k : ℕ). get_or (set places at place) k d ≡ place) (sym here)
                (get_or-set_same places at place d (omega arith)) in
                name_missing places name i d (new name (subst (λ (p : Entry). p.tenant ≡ Some name) is second))
                (omega arith) held
            | inr another ↦
                let late = get_or-set_other places at j place d another in
                apart i j d before inside name held (subst (λ (p : Entry). p.tenant ≡ Some name) late second)
          ]
    ]

pub sound_set : (places : List Entry) (at : ℕ) (place : Entry) → IsRegister places → IsCounted place
    → ((name : List ℕ) → place.tenant ≡ Some name → place_in places name ≡ None) → IsRegister (set places at place)
sound_set places at place sound counted new = record {
  all = length-set places at place ∙ sound.all;
  apart = apart_set places at place sound.apart new;
  counted = All-set IsCounted places at place counted sound.counted;
}

-- a tenant is admitted to a place that may be given
pub sound_given : (places : List Entry) (name : List ℕ) (at : ℕ) (d : Entry) → IsRegister places
    → place_for places name ≡ Ok at → IsRegister (set places at (occupied name ((get_or places at d).admissions + 1)))
sound_given places name at d sound given =
    let free = free_for places name at given in
    let spare = spare_of (get_or places at d) (free.free d) in
    sound_set places at (occupied name ((get_or places at d).admissions + 1)) sound (omega arith, λ _. omega arith)
    (λ other held. subst (λ (n : List ℕ). place_in places n ≡ None) (cc) free.none)

-- a place that is emptied, given no more often than it was
pub sound_left : (places : List Entry) (at : ℕ) (admissions : ℕ) (d : Entry) → IsRegister places → at < length places
    → admissions ≤ (get_or places at d).admissions → IsRegister (set places at (vacant admissions))
sound_left places at admissions d sound within fewer =
    let counted = (sound.counted at d within).0 in
    sound_set places at (vacant admissions) sound (omega arith, λ some. absurd (cc)) (λ name held. absurd (cc))

-- an admission is taken back
pub taken_back : (before : List Entry) (name : List ℕ) (at : ℕ) (after : List Entry) (d : Entry)
    → IsAdmission before name at after → set after at (vacant ((get_or after at d).admissions - 1)) ≡ before
taken_back before name at after d admission =
    let free = free_for before name at admission.given in
    let was : Entry = get_or before at (vacant 0) in
    let now : Entry = occupied name (was.admissions + 1) in
    let is : get_or after at d ≡ now =
    ap (λ (places : List Entry). get_or places at d) admission.led ∙ get_or-set_same before at now d free.within in
    let less : (get_or after at d).admissions - 1 ≡ was.admissions =
    ap (λ (place : Entry). place.admissions - 1) is ∙ omega arith in
    ap (λ (n : ℕ). set after at (vacant n)) less
    ∙ ap (λ (places : List Entry). set places at (vacant was.admissions)) admission.led
    ∙ set-set before at now (vacant was.admissions)
    ∙ ap (λ (place : Entry). set before at place) (sym (vacant_of was (free.free (vacant 0))))
    ∙ set-get_or before at (vacant 0)

pub within_of : (before : List Entry) (name : List ℕ) (at : ℕ) (after : List Entry) → IsAdmission before name at after
    → at < length after
within_of before name at after admission =
    let free = free_for before name at admission.given in
    let same = ap (λ (places : List Entry). length places) admission.led
    ∙ length-set before at (occupied name (admissions_at before at + 1)) in
    omega (arith, free.within)

-- the places once the first tenants, `count` in number, have theirs
abbrev pub places_to : ℕ → List RosterRow → List Entry
places_to count tenants =
    map (λ (tenant : RosterRow). occupied tenant.0 1) (take count tenants) ++ replicate (most_places - count) (vacant 0)

pub next_place : (tenants : List RosterRow) (at : ℕ) (d : RosterRow) → at < length tenants
    → length tenants ≤ most_places
    → set (places_to at tenants) at (occupied (get_or tenants at d).0 1) ≡ places_to (at + 1) tenants
next_place tenants at d within few =
    let f : RosterRow → Entry = λ tenant. occupied tenant.0 1 in
    let rest : List Entry = replicate (most_places - (at + 1)) (vacant 0) in
    let one : most_places - at ≡ suc (most_places - (at + 1)) = omega arith in
    let split : replicate (most_places - at) (vacant 0) ≡ vacant 0 ∷ rest =
    ap (λ (n : ℕ). replicate n (vacant 0)) one in
    let wide : length (map f (take at tenants)) ≡ at =
    length-map (take at tenants) f ∙ length-take-le at tenants (omega arith) in
    ap (λ (places : List Entry). set (map f (take at tenants) ++ places) at (f (get_or tenants at d))) split
    ∙ set_at (map f (take at tenants)) (vacant 0) rest (f (get_or tenants at d)) at wide
    ∙ sym (append_assoc (map f (take at tenants)) (f (get_or tenants at d) ∷ []) rest)
    ∙ ap (λ (places : List Entry). places ++ rest)
    (sym (ap (map f) (take_more tenants at d within) ∙ map-append f (take at tenants) (get_or tenants at d ∷ [])))

pub all_placed : (tenants : List RosterRow) → places_to (length tenants) tenants ≡ first_places tenants
all_placed tenants =
    ap (λ (some : List RosterRow).
    map (λ (tenant : RosterRow). occupied tenant.0 1) some ++ replicate (most_places - length tenants) (vacant 0))
    (take_all (length tenants) tenants (omega arith))

none_placed : (tenants : List RosterRow) → places_to 0 tenants ≡ replicate most_places (vacant 0)
none_placed tenants = refl

some_of : (tenants : List RosterRow) (k : ℕ) → k < length tenants → RosterRow
some_of [] k within = absurd (omega arith)
some_of (tenant ∷ rest) k within = tenant

-- the first places, one by one
first_of : (tenants : List RosterRow) (k : ℕ) (d : Entry) (e : RosterRow) → k < length tenants
    → get_or (first_places tenants) k d ≡ occupied (get_or tenants k e).0 1
first_of tenants k d e within =
    let f : RosterRow → Entry = λ tenant. occupied tenant.0 1 in
    let wide = length-map tenants f in
    get_or_append_left (map f tenants) (replicate (most_places - length tenants) (vacant 0)) d k (omega arith)
    ∙ get_or-map f tenants k e d within

vacant_from : (tenants : List RosterRow) (k : ℕ) (d : Entry) → length tenants ≤ k → k < most_places
    → get_or (first_places tenants) k d ≡ vacant 0
vacant_from tenants k d late within =
    let f : RosterRow → Entry = λ tenant. occupied tenant.0 1 in
    get_or-append_right (map f tenants) (replicate (most_places - length tenants) (vacant 0)) (length tenants) k d
    (length-map tenants f) late
    ∙ get_or-replicate (most_places - length tenants) (k - length tenants) (vacant 0) d (omega arith)

first_wide : (tenants : List RosterRow) → length tenants ≤ most_places → length (first_places tenants) ≡ most_places
first_wide tenants few =
    let f : RosterRow → Entry = λ tenant. occupied tenant.0 1 in
    omega (
      arith,
      length-append (map f tenants) (replicate (most_places - length tenants) (vacant 0)),
      length-map tenants f,
      length-replicate (most_places - length tenants) (vacant 0),
    )

-- what a first place is, given once and taken, or not given
first_counted : (tenants : List RosterRow) → length tenants ≤ most_places → All IsCounted (first_places tenants)
first_counted tenants few k d within =
    let wide = first_wide tenants few in
    elim (cases_lt k (length tenants)) [
      | inl early ↦
          subst IsCounted (sym (first_of tenants k d (some_of tenants k early) early)) (omega arith, λ _. omega arith)
      | inr late ↦ subst IsCounted (sym (vacant_from tenants k d late (omega arith))) (omega arith, λ some. absurd (cc))
    ]

first_apart : (tenants : List RosterRow) → NamesDiffer tenants → length tenants ≤ most_places
    → AllPairs AreApart (first_places tenants)
first_apart tenants differ few i j d before within name first second =
    let wide = first_wide tenants few in
    elim (cases_lt j (length tenants)) [
      | inl early ↦
          let e = some_of tenants j early in
          let one = ap (λ (place : Entry). place.tenant) (first_of tenants i d e (omega arith)) in
          let two = ap (λ (place : Entry). place.tenant) (first_of tenants j d e early) in
          differ i j e before early (cc)
      | inr late ↦
          let none = ap (λ (place : Entry). place.tenant) (vacant_from tenants j d late (omega arith)) in
          absurd (cc)
    ]

pub sound_first : (tenants : List RosterRow) → NamesDiffer tenants → length tenants ≤ most_places
    → IsRegister (first_places tenants)
sound_first tenants differ few = record {
  all = first_wide tenants few;
  apart = first_apart tenants differ few;
  counted = first_counted tenants few;
}
