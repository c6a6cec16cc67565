-- Places are first given in their order, and stay so while tenants are admitted and retired.
use Rattle.std.proofs.Common.{◌≡◌, ◌<◌, ◌≤◌, ◌+◌, ◌-◌, ℕ, zero, suc, Bool, true, false, List, [], ◌∷◌, ◌++◌, refl}
use Rattle.std.proofs.Common.{sym, ap, subst, ◌∙◌, arith, length, eqb, true≢false, get_or, Option, Some, None, Ok, Err}
use Rattle.std.specs.Prelude.{◌&&◌, IsSome, if◌then◌else◌, map, nat_lt, position, replicate, set}
use Rattle.std.specs.List.{AllByRecursion}
use Rattle.std.specs.Option.{is_none, is_some, ok_or}
use Rattle.std.proofs.lemmas.Bool.{eq-eqb, eqb-true, ltb-false}
use Rattle.std.proofs.lemmas.List.{get_or-set_other, length-map}
use Rattle.std.proofs.lemmas.List.Quantifiers.{position-Some}
use Rattle.firm_text.specs.Registers.{IsCounted, admissions_at, is_free, most_admissions, occupied, place_in, vacant}
use Rattle.firm_text.specs.Rosters.{RosterRow, most_places}
use Rattle.firm_text.specs.declared.operator.OperatorRefusal.{OperatorRefusal}
use Rattle.firm_text.specs.declared.operator.OperatorRefusal.TheVariants.{TenantExists, Full}
use Rattle.firm_text.specs.declared.registers.Entry.{Entry}
use Rattle.firm_saved.specs.Saved.{AreGivenInOrder}
use Rattle.firm_saved.specs.StateLaws.{AdmissionsKeepOrder, RetirementsKeepOrder, RostersGiveInOrder}

-- some given places, and then others
abbrev pub AreGiven : List Entry → Type 0
AreGiven places = AllByRecursion (λ (place : Entry). 0 < place.admissions) places

never_given : (n at : ℕ) → admissions_at (replicate n (vacant 0)) at ≡ 0
never_given zero at = refl
never_given (suc n) zero = refl
never_given (suc n) (suc at) = never_given n at

given_before : (given : List Entry) (n : ℕ) → AreGiven given → (at behind : ℕ) → at < behind
    → 0 < admissions_at (given ++ replicate n (vacant 0)) behind
    → 0 < admissions_at (given ++ replicate n (vacant 0)) at
given_before [] n each at behind less some = absurd (let none = never_given n behind in omega arith)
given_before (place ∷ given) n each zero behind less some = each.0
given_before (place ∷ given) n each (suc at) zero less some = absurd (omega arith)
given_before (place ∷ given) n each (suc at) (suc behind) less some =
    given_before given n each.1 at behind (omega arith) some

given_first : (given : List Entry) (n : ℕ) → AreGiven given → 0 < length given
    → 0 < admissions_at (given ++ replicate n (vacant 0)) 0
given_first [] n each some = absurd (omega arith)
given_first (place ∷ given) n each some = each.0

pub given_in_order : (given : List Entry) (n : ℕ) → AreGiven given → 0 < length given
    → AreGivenInOrder (given ++ replicate n (vacant 0))
given_in_order given n each some =
    record { first = given_first given n each some; before = given_before given n each }

-- those of a roster
pub rosters_give_in_order : RostersGiveInOrder
rosters_give_in_order roster some =
    let first : RosterRow → Entry = λ (row : RosterRow). occupied row.0 1 in
    given_in_order (map first roster) (most_places - length roster) (each roster)
    (omega (arith, length-map roster first))
  where
    each : (rows : List RosterRow) → AreGiven (map (λ (row : RosterRow). occupied row.0 1) rows)
    each [] = tt
    each (row ∷ rows) = (omega arith, each rows)

-- a place that changes, and was not given less
no_less : (places : List Entry) (at : ℕ) (entry : Entry) (k : ℕ) → admissions_at places at ≤ entry.admissions
    → admissions_at places k ≤ admissions_at (set places at entry) k
no_less [] at entry k few = omega arith
no_less (place ∷ places) zero entry zero few = few
no_less (place ∷ places) zero entry (suc k) few = omega arith
no_less (place ∷ places) (suc at) entry zero few = omega arith
no_less (place ∷ places) (suc at) entry (suc k) few = no_less places at entry k few

-- the place that the register gives: each before it has a tenant, or no admission left
not_free : (place : Entry) → IsCounted place → is_free place ≡ false → 0 < place.admissions
not_free place counted taken = by place.tenant refl
  where
    by : (tenant : Option (List ℕ)) → place.tenant ≡ tenant → 0 < place.admissions
    by (Some name) is = counted.1 (subst (λ (t : Option (List ℕ)). IsSome t) (sym is) refl)
    by None is =
        let full = ltb-false place.admissions most_admissions
        (sym (ap (λ (t : Option (List ℕ)). is_none t && nat_lt place.admissions most_admissions) is) ∙ taken) in
        omega arith

found_free : (held : Bool) (found : Option ℕ) (at : ℕ)
    → (if held then Err TenantExists else ok_or {E = OperatorRefusal} found Full) ≡ Ok at → found ≡ Some at
found_free true found at e = absurd (cc)
found_free false None at e = absurd (cc)
found_free false (Some i) at e = cc

pub admissions_keep_order : AdmissionsKeepOrder
admissions_keep_order places name at register order given =
    let entry : Entry = occupied name (admissions_at places at + 1) in
    let found = position-Some is_free places at (vacant 0)
    (found_free (is_some (place_in places name)) (position is_free places) at given) in
    let few : admissions_at places at ≤ entry.admissions = omega arith in
    record {
      first = let more = no_less places at entry 0 few in let some = order.first in omega arith;
      before = λ k behind less some.
          let more = no_less places at entry k few in
          let here : 0 < admissions_at places k = elim (eqb behind at) as
          (λ b. eqb behind at ≡ b → 0 < admissions_at places k) [
            | true ↦ λ same.
                let is = eqb-true behind at same in
                not_free (get_or places k (vacant 0)) (register.counted k (vacant 0) (omega (arith, found.0)))
                (found.2 k (omega arith))
            | false ↦ λ differ.
                order.before k behind less (subst (λ (place : Entry). 0 < place.admissions)
                (get_or-set_other places at behind entry (vacant 0)
                (λ same. true≢false (sym (eq-eqb behind at same) ∙ differ))) some)
          ] refl in
          omega arith;
    }

-- a place whose tenant leaves was given as often as before
as_often : (places : List Entry) (at k : ℕ)
    → admissions_at places k ≡ admissions_at (set places at (vacant (admissions_at places at))) k
as_often [] at k = refl
as_often (place ∷ places) zero zero = refl
as_often (place ∷ places) zero (suc k) = refl
as_often (place ∷ places) (suc at) zero = refl
as_often (place ∷ places) (suc at) (suc k) = as_often places at k

pub retirements_keep_order : RetirementsKeepOrder
retirements_keep_order places at order = record {
  first = subst (λ (n : ℕ). 0 < n) (as_often places at 0) order.first;
  before = λ k behind less some. subst (λ (n : ℕ). 0 < n) (as_often places at k)
      (order.before k behind less (subst (λ (n : ℕ). 0 < n) (sym (as_often places at behind)) some));
}
