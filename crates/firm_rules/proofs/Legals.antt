-- The test of legality says yes to the legal placements and to no others.
use Rattle.std.proofs.Common.{◌≡◌, ℕ, zero, suc, ◌<◌, ◌≤◌, Bool, true, false, eqb, ◌&&◌, List, [], ◌∷◌, ◌++◌, length}
use Rattle.std.proofs.Common.{refl, sym, ap, subst, ◌∙◌, arith, ⊎_elim}
use Rattle.std.specs.Prelude.{nat_le, slice_index}
use Rattle.std.specs.List.{All, list_all}
use Rattle.std.proofs.lemmas.List.Elements.{All-nil, All-cons, All-head, All-tail}
use Rattle.std.proofs.lemmas.Bool.{cases_lt, and_from, and_parts, eq-eqb, eqb-true, ltb-true, lt-ltb, leb-true, le-leb}
use Rattle.firm_rules.specs.declared.rounds.Choice.{Choice}
use Rattle.firm_rules.specs.declared.rounds.Choice.TheVariants.{On, Wait}
use Rattle.firm_rules.specs.Placement.{Case, numbers, IsPlace, IsLegal, is_place, is_legal, load, LegalityIsJudged}

to_places : (m : ℕ) (p : List Choice) → list_all (is_place m) p ≡ true → All (IsPlace m) p
to_places m [] h = All-nil (IsPlace m)
to_places m (Wait ∷ p) h = All-cons (IsPlace m) Wait p tt (to_places m p h)
to_places m (On j ∷ p) h =
    let one = and_parts (is_place m (On j)) (list_all (is_place m) p) h in
    All-cons (IsPlace m) (On j) p (ltb-true j m one.0) (to_places m p one.1)

from_places : (m : ℕ) (p : List Choice) → All (IsPlace m) p → list_all (is_place m) p ≡ true
from_places m [] h = refl
from_places m (Wait ∷ p) h = from_places m p (All-tail (IsPlace m) Wait p h)
from_places m (On j ∷ p) h =
    and_from (is_place m (On j)) (list_all (is_place m) p) (lt-ltb j m (All-head (IsPlace m) (On j) p h))
    (from_places m p (All-tail (IsPlace m) (On j) p h))

pub list_all-append : (f : ℕ → Bool) (xs ys : List ℕ) → list_all f (xs ++ ys) ≡ (list_all f xs && list_all f ys)
list_all-append f [] ys = refl
list_all-append f (x ∷ xs) ys =
    ap (λ b. f x && b) (list_all-append f xs ys)
    ∙ elim (f x) as (λ b. (b && (list_all f xs && list_all f ys)) ≡ ((b && list_all f xs) && list_all f ys))
    [ true ↦ refl | false ↦ refl ]

to_room : (f : ℕ → Bool) (n : ℕ) → list_all f (numbers n) ≡ true → (j : ℕ) → j < n → f j ≡ true
to_room f zero h j l = absurd (omega arith)
to_room f (suc n) h j l =
    let both = and_parts (list_all f (numbers n)) (list_all f (n ∷ [])) (sym (list_all-append f (numbers n) (n ∷ []))
    ∙ h) in
    let here = and_parts (f n) true both.1 in
    ⊎_elim (λ (q : j < n). to_room f n both.0 j q)
    (λ (q : n ≤ j). subst (λ z. f z ≡ true) (let e : n ≡ j = omega arith in e) here.0) (cases_lt j n)

from_room : (f : ℕ → Bool) (n : ℕ) → ((j : ℕ) → j < n → f j ≡ true) → list_all f (numbers n) ≡ true
from_room f zero h = refl
from_room f (suc n) h =
    list_all-append f (numbers n) (n ∷ [])
    ∙ and_from (list_all f (numbers n)) (list_all f (n ∷ [])) (from_room f n (λ j l. h j (omega arith)))
    (and_from (f n) true (h n (omega arith)) refl)

abbrev has_room : Case → List Choice → ℕ → Bool
has_room c p j = nat_le (load p j) (slice_index c.slots j)

pub to_legal : (c : Case) (p : List Choice) → is_legal c p ≡ true → IsLegal c p
to_legal c p h =
    let one = and_parts (eqb (length p) (length c.tasks) && list_all (is_place (length c.slots)) p)
    (list_all (has_room c p) (numbers (length c.slots))) h in
    let two = and_parts (eqb (length p) (length c.tasks)) (list_all (is_place (length c.slots)) p) one.0 in
    record {
      one_each = eqb-true (length p) (length c.tasks) two.0;
      places = to_places (length c.slots) p two.1;
      room = λ j l. leb-true (load p j) (slice_index c.slots j) (to_room (has_room c p) (length c.slots) one.1 j l);
    }

pub from_legal : (c : Case) (p : List Choice) → IsLegal c p → is_legal c p ≡ true
from_legal c p h =
    and_from (eqb (length p) (length c.tasks) && list_all (is_place (length c.slots)) p)
    (list_all (has_room c p) (numbers (length c.slots)))
    (and_from (eqb (length p) (length c.tasks)) (list_all (is_place (length c.slots)) p)
    (eq-eqb (length p) (length c.tasks) h.one_each) (from_places (length c.slots) p h.places))
    (from_room (has_room c p) (length c.slots) (λ j l. le-leb (load p j) (slice_index c.slots j) (h.room j l)))

pub judged : LegalityIsJudged
judged case placement = record { yes = to_legal case placement; only = from_legal case placement }
