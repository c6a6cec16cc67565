-- The places of a service as the register knows them, and the books of those who stay there.
use Rattle.std.proofs.Common.{◌≡◌, ℕ, suc, ◌+◌, ◌<◌, AllPairs, List, [], ◌∷◌, refl, sym, ap, ◌∙◌, length, get_or}
use Rattle.std.proofs.Common.{arith}
use Rattle.std.specs.Prelude.{Bool, true, false, Option, Some, None, Ok, Err, map, option_map, set, if◌then◌else◌}
use Rattle.std.specs.Option.{is_some, ok_or}
use Rattle.std.proofs.Math.ListN.{get_or-map}
use Rattle.std.proofs.lemmas.List.{map-set}
use Rattle.std.proofs.lemmas.Slice.Eq.{bytes_eq-Decides}
use Rattle.firm_rules.specs.Limits.{TenantLimits}
use Rattle.firm_text.specs.Registers.{AreApart, is_named, place_in, vacant, with_tenant, without_tenant}
use Rattle.firm_text.specs.declared.operator.OperatorRefusal.{OperatorRefusal}
use Rattle.firm_text.specs.declared.operator.OperatorRefusal.TheVariants.{TenantExists, Full}
use Rattle.firm_text.specs.declared.registers.Entry.{Entry}
use Rattle.firm_table.specs.Places.{Given, Stay, Place, new_stay, unused_place, is_stay_of, stay_of, with_command}
use Rattle.firm_table.specs.Places.{commanded, entered_at, registered, register_of}
use Rattle.firm_table.proofs.Firsts.{FirstAt, here, behind, first, none_first}

named_is : (name : List ℕ) (s : Option Stay) → is_named name (option_map (λ stay. stay.name) s) ≡ is_stay_of name s
named_is name None = refl
named_is name (Some s) = refl

-- a tenant that has no place stays nowhere
pub none_there : (places : List Place) (name : List ℕ) → place_in (register_of places) name ≡ None
    → stay_of places name ≡ None
none_there [] name none = refl
none_there (place ∷ rest) name none =
    let parts = none_first (λ (p : Entry). is_named name p.tenant) (registered place) (register_of rest) none in
    rw (sym (named_is name place.stay) ∙ parts.0) (none_there rest name parts.1)

-- and one that has a place stays there
pub record StaysAt (places : List Place) (name : List ℕ) (at : ℕ) : Type 0 where
  pub stay : Stay
  pub is : stay_of places name ≡ Some stay
  pub at_place : (d : Place) → (get_or places at d).stay ≡ Some stay

staying : (name : List ℕ) (s : Option Stay) → is_stay_of name s ≡ true → (stay : Stay) × (s ≡ Some stay)
staying name None e = cc
staying name (Some stay) e = (stay, refl)

pub stays_there : (places : List Place) (name : List ℕ) (at : ℕ) → place_in (register_of places) name ≡ Some at
    → StaysAt places name at
stays_there [] name at found = cc
stays_there (place ∷ rest) name at found =
    by at (first (λ (p : Entry). is_named name p.tenant) (registered place) (register_of rest) at found)
    (λ n is. stays_there rest name n is)
  where
    by : (at : ℕ) → FirstAt (λ (p : Entry). is_named name p.tenant) (registered place) (register_of rest) at
        → ((n : ℕ) → place_in (register_of rest) name ≡ Some n → StaysAt rest name n) → StaysAt (place ∷ rest) name at
    by _ (here passes) more =
        let mine : is_stay_of name place.stay ≡ true = sym (named_is name place.stay) ∙ passes in
        let front : stay_of (place ∷ rest) name ≡ place.stay = rw mine refl in
        let has = staying name place.stay mine in
        record { stay = has.0; is = front ∙ has.1; at_place = λ d. has.1 }
    by _ (behind n fails is) more =
        let not_mine : is_stay_of name place.stay ≡ false = sym (named_is name place.stay) ∙ fails in
        let front : stay_of (place ∷ rest) name ≡ stay_of rest name = rw not_mine refl in
        let later = more n is in
        record { stay = later.stay; is = front ∙ later.is; at_place = λ d. later.at_place d }

-- what is known where the register gives a place
pub given_place : (held : Bool) (free : Option ℕ) (at : ℕ)
    → (if held then Err TenantExists else ok_or {E = OperatorRefusal} free Full) ≡ Ok at
    → (held ≡ false) × (free ≡ Some at)
given_place true free at e = absurd (cc)
given_place false None at e = absurd (cc)
given_place false (Some i) at e = (refl, cc)

pub is_nowhere : (o : Option ℕ) → is_some o ≡ false → o ≡ None
is_nowhere None e = refl
is_nowhere (Some at) e = absurd (cc)

-- the places, changed where the tenant of this name stays
abbrev pub changed : List ℕ → (Place → Place) → Place → Place
changed name change place = if is_stay_of name place.stay then change place else place

changed_none : (places : List Place) (name : List ℕ) (change : Place → Place)
    → ((k : ℕ) (d : Place) → k < length places → is_stay_of name (get_or places k d).stay ≡ false)
    → map (changed name change) places ≡ places
changed_none [] name change none = refl
changed_none (place ∷ rest) name change none =
    let not_mine : is_stay_of name place.stay ≡ false = none 0 place (omega arith) in
    rw not_mine (ap (λ (ps : List Place). place ∷ ps)
    (changed_none rest name change (λ k d low. none (suc k) d (omega (arith, low)))))

name_of_stay : (name : List ℕ) (s : Option Stay) → is_stay_of name s ≡ true → option_map (λ stay. stay.name) s
    ≡ Some name
name_of_stay name None e = cc
name_of_stay name (Some s) e = ap (λ (n : List ℕ). Some n) ((bytes_eq-Decides s.name name).0 e)

-- it stays at one place alone
pub changed_once : (places : List Place) (name : List ℕ) (change : Place → Place) (at : ℕ) (d : Place)
    → AllPairs AreApart (register_of places)
    → place_in (register_of places) name ≡ Some at → map (changed name change) places
    ≡ set places at (change (get_or places at d))
changed_once [] name change at d apart found = cc
changed_once (place ∷ rest) name change at d apart found =
    by at (first (λ (p : Entry). is_named name p.tenant) (registered place) (register_of rest) at found)
    (λ n is. changed_once rest name change n d
    (λ i j e before low. apart (suc i) (suc j) e (omega (arith, before)) (omega (arith, low))) is)
  where
    others : is_stay_of name place.stay ≡ true → (k : ℕ) (e : Place) → k < length rest
        → is_stay_of name (get_or rest k e).stay ≡ false
    others mine k e low = elim (is_stay_of name (get_or rest k e).stay) as
        (λ b. is_stay_of name (get_or rest k e).stay ≡ b → b ≡ false) [
          | true ↦ λ twice.
              let again : (get_or (register_of rest) k (registered e)).tenant ≡ Some name =
              ap (λ (p : Entry). p.tenant) (get_or-map registered rest k e)
              ∙ name_of_stay name (get_or rest k e).stay twice in
              let wide : suc k < length (register_of (place ∷ rest)) = search_wide rest k low in
              absurd (apart 0 (suc k) (registered e) (omega arith) wide name (name_of_stay name place.stay mine) again)
          | false ↦ λ once. refl
        ] refl
      where
        search_wide : (rest : List Place) (k : ℕ) → k < length rest → suc k < suc (length (register_of rest))
        search_wide rest k low = let same = length_registered rest in omega (arith, low, same)
          where
            length_registered : (ps : List Place) → length (register_of ps) ≡ length ps
            length_registered [] = refl
            length_registered (p ∷ ps) = ap (λ (n : ℕ). suc n) (length_registered ps)

    by : (at : ℕ) → FirstAt (λ (p : Entry). is_named name p.tenant) (registered place) (register_of rest) at
        → ((n : ℕ) → place_in (register_of rest) name ≡ Some n → map (changed name change) rest
        ≡ set rest n (change (get_or rest n d)))
        → map (changed name change) (place ∷ rest) ≡ set (place ∷ rest) at (change (get_or (place ∷ rest) at d))
    by _ (here passes) more =
        let mine : is_stay_of name place.stay ≡ true = sym (named_is name place.stay) ∙ passes in
        rw mine (ap (λ (ps : List Place). change place ∷ ps) (changed_none rest name change (others mine)))
    by _ (behind n fails is) more =
        let not_mine : is_stay_of name place.stay ≡ false = sym (named_is name place.stay) ∙ fails in
        rw not_mine (ap (λ (ps : List Place). place ∷ ps) (more n is))

-- a command leaves the register
pub register_commanded : (places : List Place) (name : List ℕ) (given : Given)
    → register_of (map (commanded name given) places) ≡ register_of places
register_commanded [] name given = refl
register_commanded (place ∷ rest) name given =
    elim (is_stay_of name place.stay) as (λ b. is_stay_of name place.stay ≡ b
    → register_of (map (commanded name given) (place ∷ rest)) ≡ register_of (place ∷ rest)) [
      | true ↦ λ e. rw e (same_name place.admissions place.stay (register_commanded rest name given))
      | false ↦ λ e. rw e (ap (λ (ps : List Entry). registered place ∷ ps) (register_commanded rest name given))
    ] refl
  where
    same_name : (admissions : ℕ) (s : Option Stay) → register_of (map (commanded name given) rest) ≡ register_of rest
        → registered (record { admissions = admissions; stay = option_map (with_command given) s }) ∷ register_of
        (map (commanded name given) rest)
        ≡ registered (record { admissions = admissions; stay = s }) ∷ register_of rest
    same_name admissions None more = ap (λ (ps : List Entry). vacant admissions ∷ ps) more
    same_name admissions (Some stay) more =
        ap (λ (ps : List Entry). registered (record { admissions = admissions; stay = Some stay }) ∷ ps) more

-- the tenant at this place has left
pub register_left : (places : List Place) (at : ℕ)
    → register_of (set places at (record (get_or places at unused_place) { stay = None }))
    ≡ without_tenant (register_of places) at
register_left places at =
    map-set registered places at (record (get_or places at unused_place) { stay = None })
    ∙ ap (λ (p : Entry). set (register_of places) at (vacant p.admissions))
    (sym (get_or-map registered places at unused_place))

-- a tenant has come to it
pub register_entered : (places : List Place) (at : ℕ) (name : List ℕ) (limits : TenantLimits)
    → register_of (entered_at at name limits places) ≡ with_tenant (register_of places) at name
register_entered places at name limits =
    map-set registered places at (record {
      admissions = (get_or places at unused_place).admissions + 1;
      stay =
          Some (new_stay name limits);
    })
    ∙ ap (λ (p : Entry). let new : Entry =
    record { tenant = Some name; admissions = p.admissions + 1 } in set (register_of places) at new)
    (sym (get_or-map registered places at unused_place))
