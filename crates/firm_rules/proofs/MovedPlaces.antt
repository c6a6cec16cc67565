-- Places of names as names are added last and removed.
use Rattle.std.proofs.Common.{◌≡◌, ℕ, zero, suc, ◌+◌, ◌-◌, ◌<◌, ◌≤◌, Bool, true, false, not, cond, eqb, ltb, ◌||◌}
use Rattle.std.proofs.Common.{List, []}
use Rattle.std.proofs.Common.{◌∷◌, ◌++◌, length, map, filter, remove, Option, None, Some, bytes_eq, true≢false, ⊎_elim}
use Rattle.std.proofs.Common.{refl, sym, ap, ◌∙◌, arith}
use Rattle.std.specs.Prelude.{slice_index_or}
use Rattle.std.specs.List.{IsDistinct, position_or_len}
use Rattle.std.proofs.lemmas.Bool.{cases_lt, cond-true, cond-false, lt-ltb, le-ltb, eqb-true}
use Rattle.firm_rules.specs.Names.{is_among}
use Rattle.firm_rules.specs.Book.{name_at}
use Rattle.firm_rules.specs.Preferences.{without_preference}
use Rattle.firm_rules.specs.inner.Demands.{place_without, preferred_without}
use Rattle.firm_rules.proofs.NamedRows.{bytes_eq-own, bytes_eq-other, stands-at}

abbrev pub place_in : List (List ℕ) → List ℕ → ℕ
place_in names name = position_or_len (bytes_eq name) names

-- a name that is there stays where it is as others come
pub place-appended : (names more : List (List ℕ)) (name : List ℕ) → is_among names name ≡ true
    → place_in (names ++ more) name ≡ place_in names name
place-appended [] more name there = absurd (true≢false (sym there))
place-appended (first ∷ names) more name there =
    elim (bytes_eq name first) as (λ b. (b || is_among names name) ≡ true
    → cond (not b) (1 + place_in (names ++ more) name) 0 ≡ cond (not b) (1 + place_in names name) 0) [
      | true ↦ λ h. refl
      | false ↦ λ h. ap (λ (n : ℕ). 1 + n) (place-appended names more name h)
    ] there

-- and is at a place below their number
pub place-below : (names : List (List ℕ)) (name : List ℕ) → is_among names name ≡ true
    → place_in names name < length names
place-below [] name there = absurd (true≢false (sym there))
place-below (first ∷ names) name there =
    elim (bytes_eq name first) as (λ b. (b || is_among names name) ≡ true
    → cond (not b) (1 + place_in names name) 0 < suc (length names)) [
      | true ↦ λ h. omega arith
      | false ↦ λ h. omega (arith, place-below names name h)
    ] there

-- the name at a place is found there
pub place-of-name : (names : List (List ℕ)) (place : ℕ) → IsDistinct bytes_eq names → place < length names
    → place_in names (name_at names place) ≡ place
place-of-name names place differ below =
    eqb-true (place_in names (name_at names place)) place
    (stands-at names (name_at names place) place differ below ∙ bytes_eq-own (name_at names place))

one-further : (gone place : ℕ) → 1 + place_without gone place ≡ place_without (suc gone) (1 + place)
one-further gone place =
    ⊎_elim
    (λ (l : gone < place).
    let here : place_without gone place ≡ place - 1 =
    cond-true (ltb gone place) (place - 1) place (lt-ltb gone place l) in
    let there : place_without (suc gone) (1 + place) ≡ 1 + place - 1 =
    cond-true (ltb (suc gone) (1 + place)) (1 + place - 1) (1 + place)
    (lt-ltb (suc gone) (1 + place) (omega (arith, l))) in
    omega (arith, here, there, l))
    (λ (l : place ≤ gone).
    let here : place_without gone place ≡ place =
    cond-false (ltb gone place) (place - 1) place (le-ltb gone place l) in
    let there : place_without (suc gone) (1 + place) ≡ 1 + place =
    cond-false (ltb (suc gone) (1 + place)) (1 + place - 1) (1 + place)
    (le-ltb (suc gone) (1 + place) (omega (arith, l))) in
    omega (arith, here, there))
    (cases_lt gone place)

-- the place of another name once the one at a place is gone
pub place-removed : (names : List (List ℕ)) (gone : ℕ) (name : List ℕ) → gone < length names
    → bytes_eq name (name_at names gone) ≡ false
    → place_in (remove names gone) name ≡ place_without gone (place_in names name)
place-removed [] gone name below other = absurd (omega (arith, below))
place-removed (first ∷ names) zero name below other =
    let later : ℕ = place_in names name in
    let was : place_in (first ∷ names) name ≡ 1 + later = ap (λ (b : Bool). cond (not b) (1 + later) 0) other in
    let down : place_without 0 (1 + later) ≡ 1 + later - 1 =
    cond-true (ltb 0 (1 + later)) (1 + later - 1) (1 + later) (lt-ltb 0 (1 + later) (omega arith)) in
    let same : later ≡ 1 + later - 1 = omega arith in
    same ∙ sym down ∙ ap (place_without 0) (sym was)
place-removed (first ∷ names) (suc gone) name below other =
    let later : ℕ = place_in names name in
    elim (bytes_eq name first) as (λ b. cond (not b) (1 + place_in (remove names gone) name) 0
    ≡ place_without (suc gone) (cond (not b) (1 + later) 0)) [
      | true ↦ sym (cond-false (ltb (suc gone) 0) (0 - 1) 0 (le-ltb (suc gone) 0 (omega arith)))
      | false ↦ ap (λ (n : ℕ). 1 + n) (place-removed names gone name (omega (arith, below)) other)
          ∙ one-further gone later
    ]

-- what stands at another place, once that at a place is gone
pub read-removed : {X : Type 0} (xs : List X) (gone place : ℕ) (d : X) → (place ≡ gone → ⊥) → gone < length xs
    → slice_index_or (remove xs gone) (place_without gone place) d ≡ slice_index_or xs place d
read-removed [] gone place d other below = absurd (omega (arith, below))
read-removed (x ∷ xs) zero zero d other below = absurd (other refl)
read-removed {X} (x ∷ xs) zero (suc place) d other below =
    let down : place_without 0 (suc place) ≡ suc place - 1 =
    cond-true (ltb 0 (suc place)) (suc place - 1) (suc place) (lt-ltb 0 (suc place) (omega arith)) in
    let same : suc place - 1 ≡ place = omega arith in
    ap (λ (n : ℕ). slice_index_or xs n d) (down ∙ same)
read-removed (x ∷ xs) (suc gone) zero d other below =
    ap (λ (n : ℕ). slice_index_or (x ∷ remove xs gone) n d)
    (cond-false (ltb (suc gone) 0) (0 - 1) 0 (le-ltb (suc gone) 0 (omega arith)))
read-removed (x ∷ xs) (suc gone) (suc place) d other below =
    let up : place_without (suc gone) (suc place) ≡ suc (place_without gone place) =
    (let e : suc place ≡ 1 + place = omega arith in ap (place_without (suc gone)) e)
    ∙ sym (one-further gone place) ∙ (let e : 1 + place_without gone place ≡ suc (place_without gone place) =
    omega arith in e) in
    ap (λ (n : ℕ). slice_index_or (x ∷ remove xs gone) n d) up
    ∙ read-removed xs gone place d (λ e. other (ap suc e)) (omega (arith, below))

-- the places of preferred machines, once one machine is gone
module _ (names : List (List ℕ)) (gone : ℕ) (differ : IsDistinct bytes_eq names) (below : gone < length names) where
  abbrev gone_name : List ℕ
  gone_name = name_at names gone

  pub is-gone : (name : List ℕ) → eqb (place_in names name) gone ≡ bytes_eq name gone_name
  is-gone name = stands-at names name gone differ below

  pub preferred-removed : (preferred : List (List ℕ))
      → map (place_in (remove names gone)) (without_preference gone_name preferred)
      ≡ preferred_without gone (map (place_in names) preferred)
  preferred-removed [] = refl
  preferred-removed (name ∷ preferred) =
      let rest = preferred-removed preferred in
      let left : List (List ℕ) = without_preference gone_name preferred in
      let places : List ℕ = filter (λ p. not (eqb p gone)) (map (place_in names) preferred) in
      elim (bytes_eq gone_name name) as (λ b. bytes_eq gone_name name ≡ b
      → map (place_in (remove names gone)) (cond (not b) (name ∷ left) left)
      ≡ map (place_without gone) (cond (not (eqb (place_in names name) gone)) (place_in names name ∷ places) places)) [
        | true ↦ λ e. rest
            ∙ ap (λ (b : Bool). map (place_without gone) (cond (not b) (place_in names name ∷ places) places))
            (sym (is-gone name ∙ own name e))
        | false ↦ λ e. ap (λ (n : ℕ). n ∷ map (place_in (remove names gone)) left)
            (place-removed names gone name below (bytes_eq-other gone_name name e))
            ∙ ap (λ (l : List ℕ). place_without gone (place_in names name) ∷ l) rest
            ∙ ap (λ (b : Bool). map (place_without gone) (cond (not b) (place_in names name ∷ places) places))
            (sym (is-gone name ∙ bytes_eq-other gone_name name e))
      ] refl
    where
      own : (name : List ℕ) → bytes_eq gone_name name ≡ true → bytes_eq name gone_name ≡ true
      own name e = elim (bytes_eq name gone_name) as (λ b. bytes_eq name gone_name ≡ b → b ≡ true) [
        | true ↦ λ f. refl
        | false ↦ λ f. absurd (true≢false (sym e ∙ bytes_eq-other name gone_name f))
      ] refl
