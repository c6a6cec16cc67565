-- Rows in a list, told by their names.
use Rattle.std.proofs.Common.{◌≡◌, ℕ, zero, suc, ◌<◌, ◌≤◌, Bool, true, false, not, cond, ◌||◌, List, [], ◌∷◌, ◌++◌, map}
use Rattle.std.proofs.Common.{filter, remove, length, sum_by, Option, None, Some, IfSome, find, position, bytes_eq}
use Rattle.std.proofs.Common.{true≢false, ◌+◌, eqb, ⊎_elim, refl, sym, ap, subst, ◌∙◌, arith}
use Rattle.std.specs.List.{IsDistinct, AllByRecursion, position_or_len}
use Rattle.std.specs.Map.{lookup, keys_of, values_of}
use Rattle.std.proofs.lemmas.Bool.{cond_both, cases_eq, eq-eqb, ne_eqb}
use Rattle.std.proofs.lemmas.Slice.Eq.{bytes_eq-Decides}
use Rattle.std.proofs.lemmas.List.{length-map}
use Rattle.std.proofs.lemmas.List.Elements.{All-from_recursion}
use Rattle.std.proofs.lemmas.List.Sums.{sum_by-cons}
use Rattle.std.proofs.lemmas.List.Quantifiers.{position-Some}
use Rattle.std.proofs.lemmas.List.Folds.{list_any-append}
use Rattle.firm_rules.specs.Names.{is_among}
use Rattle.firm_rules.specs.Book.{name_at}

pub bytes_eq-own : (name : List ℕ) → bytes_eq name name ≡ true
bytes_eq-own name = (bytes_eq-Decides name name).1 refl

pub bytes_eq-other : (xs ys : List ℕ) → bytes_eq xs ys ≡ false → bytes_eq ys xs ≡ false
bytes_eq-other xs ys e = elim (bytes_eq ys xs) as (λ b. bytes_eq ys xs ≡ b → b ≡ false) [
  | true ↦ λ f. absurd (true≢false (sym ((bytes_eq-Decides xs ys).1 (sym ((bytes_eq-Decides ys xs).0 f))) ∙ e))
  | false ↦ λ f. refl
] refl

-- sums and counts over fewer rows, or of less in each
pub sum_by-le-each : {X : Type 0} (f g : X → ℕ) (xs : List X) → ((x : X) → f x ≤ g x) → sum_by f xs ≤ sum_by g xs
sum_by-le-each f g [] each = omega arith
sum_by-le-each f g (x ∷ xs) each =
    omega (arith, sum_by-cons f x xs, sum_by-cons g x xs, each x, sum_by-le-each f g xs each)

pub sum_by-filter-le : {X : Type 0} (f : X → ℕ) (p : X → Bool) (xs : List X) → sum_by f (filter p xs) ≤ sum_by f xs
sum_by-filter-le f p [] = omega arith
sum_by-filter-le {X} f p (x ∷ xs) =
    let rest = sum_by-filter-le f p xs in
    cond_both (p x) (x ∷ filter p xs) (filter p xs) (λ (l : List X). sum_by f l ≤ sum_by f (x ∷ xs))
    (λ _. omega (arith, sum_by-cons f x xs, sum_by-cons f x (filter p xs), rest))
    (λ _. omega (arith, sum_by-cons f x xs, rest))

pub length-filter-le : {X : Type 0} (p : X → Bool) (xs : List X) → length (filter p xs) ≤ length xs
length-filter-le p [] = omega arith
length-filter-le {X} p (x ∷ xs) =
    let rest = length-filter-le p xs in
    cond_both (p x) (x ∷ filter p xs) (filter p xs) (λ (l : List X). length l ≤ length (x ∷ xs))
    (λ _. omega (arith, rest)) (λ _. omega (arith, rest))

pub sum_by-map : {X Y : Type 0} (f : Y → ℕ) (g : X → Y) (xs : List X) → sum_by f (map g xs) ≡ sum_by (λ x. f (g x)) xs
sum_by-map f g [] = refl
sum_by-map f g (x ∷ xs) =
    omega (arith, sum_by-cons f (g x) (map g xs), sum_by-cons (λ x. f (g x)) x xs, sum_by-map f g xs)

-- a name that is among the names stays there as others come, and is there without another name
pub among-append : (names more : List (List ℕ)) (name : List ℕ) → is_among names name ≡ true
    → is_among (names ++ more) name ≡ true
among-append names more name there =
    list_any-append (bytes_eq name) names more ∙ ap (λ b. b || is_among more name) there

module _ {Row : Type 0} (name_of : Row → List ℕ) where
  abbrev pub is_other : List ℕ → Row → Bool
  is_other name row = not (bytes_eq name (name_of row))

  all-others : (name : List ℕ) (rows : List Row)
      → AllByRecursion (λ other. bytes_eq name other ≡ false) (map name_of rows) → filter (is_other name) rows ≡ rows
  all-others name [] differ = refl
  all-others name (row ∷ rows) differ =
      ap (λ (b : Bool). cond (not b) (row ∷ filter (is_other name) rows) (filter (is_other name) rows)) differ.0
      ∙ ap (λ (l : List Row). row ∷ l) (all-others name rows differ.1)

  -- where names differ, the rows without the name at a place are those without that place
  pub filter-remove : (rows : List Row) (place : ℕ) → IsDistinct bytes_eq (map name_of rows) → place < length rows
      → filter (is_other (name_at (map name_of rows) place)) rows ≡ remove rows place
  unfolding IsDistinct
  filter-remove [] place differ below = absurd (omega arith)
  filter-remove (row ∷ rows) zero differ below =
      ap (λ (b : Bool).
      cond (not b) (row ∷ filter (is_other (name_of row)) rows) (filter (is_other (name_of row)) rows))
      (bytes_eq-own (name_of row))
      ∙ all-others (name_of row) rows differ.0
  filter-remove (row ∷ rows) (suc place) differ below =
      let name : List ℕ = name_at (map name_of rows) place in
      let apart : bytes_eq (name_of row) name ≡ false =
      All-from_recursion (λ other. bytes_eq (name_of row) other ≡ false) (map name_of rows) differ.0 place []
      (omega (arith, length-map rows name_of)) in
      ap (λ (b : Bool). cond (not b) (row ∷ filter (is_other name) rows) (filter (is_other name) rows))
      (bytes_eq-other (name_of row) name apart)
      ∙ ap (λ (l : List Row). row ∷ l) (filter-remove rows place differ.1 (omega arith))

  -- a name that is among the names is there without another one
  pub among-filter : (rows : List Row) (gone name : List ℕ) → bytes_eq gone name ≡ false
      → is_among (map name_of rows) name ≡ true
      → is_among (map name_of (filter (is_other gone) rows)) name ≡ true
  among-filter [] gone name apart there = there
  among-filter (row ∷ rows) gone name apart there =
      let rest : is_among (map name_of rows) name ≡ true
      → is_among (map name_of (filter (is_other gone) rows)) name ≡ true = among-filter rows gone name apart in
      cond_both (is_other gone row) (row ∷ filter (is_other gone) rows) (filter (is_other gone) rows)
      (λ (l : List Row). is_among (map name_of l) name ≡ true)
      (λ _. elim (bytes_eq name (name_of row)) as (λ b. (b || is_among (map name_of rows) name) ≡ true
      → (b || is_among (map name_of (filter (is_other gone) rows)) name) ≡ true) [
        | true ↦ λ _. refl
        | false ↦ λ h. rest h
      ] there)
      (λ own. rest (elim (bytes_eq name (name_of row)) as (λ b. bytes_eq name (name_of row) ≡ b
      → (b || is_among (map name_of rows) name) ≡ true → is_among (map name_of rows) name ≡ true) [
        | true ↦ λ e h. absurd (true≢false
            (same_not_other gone name (name_of row) apart ((bytes_eq-Decides name (name_of row)).0 e) own))
        | false ↦ λ e h. h
      ] refl there))
    where
      same_not_other : (gone name own : List ℕ) → bytes_eq gone name ≡ false → name ≡ own
          → not (bytes_eq gone own) ≡ false → true ≡ false
      same_not_other gone name own apart same gone_is =
          sym (ap not apart) ∙ ap (λ (n : List ℕ). not (bytes_eq gone n)) same ∙ gone_is

  -- a look-up by name among entries that stand by their names finds the first row of the name
  pub lookup-find : (entries : List (List ℕ × Row)) (name : List ℕ) → keys_of entries ≡ map name_of (values_of entries)
      → lookup (bytes_eq name) entries ≡ find (λ row. bytes_eq name (name_of row)) (values_of entries)
  lookup-find [] name stands = refl
  lookup-find (entry ∷ entries) name stands =
      let head : List (List ℕ) → List ℕ = λ l. name_at l 0 in
      let tail : List (List ℕ) → List (List ℕ) = λ l. elim l [ [] ↦ [] | _ ∷ rest ↦ rest ] in
      let first : entry.0 ≡ name_of entry.1 = ap head stands in
      ap (λ (n : List ℕ). cond (bytes_eq name n) (Some entry.1) (lookup (bytes_eq name) entries)) first
      ∙ ap (λ (o : Option Row). cond (bytes_eq name (name_of entry.1)) (Some entry.1) o)
      (lookup-find entries name (ap tail stands))

-- a place that was found is below the length
pub place-below : {Row : Type 0} (entries : List (List ℕ × Row)) (place : Option ℕ) (many : ℕ)
    → IfSome place (λ i. i < length entries)
    → length (values_of entries) ≡ many → IfSome place (λ i. i < many)
place-below entries None many below is = tt
place-below {Row} entries (Some i) many below is =
    omega (arith, below, length-map entries (λ (e : List ℕ × Row). e.1), is)

-- and has the name
pub place-named : (keys names : List (List ℕ)) (name : List ℕ) (place : Option ℕ)
    → place ≡ position (bytes_eq name) keys → keys ≡ names
    → IfSome place (λ i. name_at names i ≡ name)
place-named keys names name None is same = tt
place-named keys names name (Some i) is same =
    subst (λ (l : List (List ℕ)). name_at l i ≡ name) same
    (sym ((bytes_eq-Decides name (name_at keys i)).0 (position-Some (bytes_eq name) keys i [] (sym is)).1))

eqb-next : (a b : ℕ) → eqb (1 + a) (suc b) ≡ eqb a b
eqb-next a b =
    ⊎_elim
    (λ (e : a ≡ b). eq-eqb (1 + a) (suc b) (omega (arith, e)) ∙ sym (eq-eqb a b e))
    (λ (ne : a ≡ b → ⊥). ne_eqb (1 + a) (suc b) (λ e. ne (omega (arith, e))) ∙ sym (ne_eqb a b ne))
    (cases_eq a b)

-- where names differ, a name stands at a place exactly if it is the name there
pub stands-at : (names : List (List ℕ)) (name : List ℕ) (place : ℕ) → IsDistinct bytes_eq names → place < length names
    → eqb (position_or_len (bytes_eq name) names) place ≡ bytes_eq name (name_at names place)
unfolding IsDistinct
stands-at [] name place differ below = absurd (omega arith)
stands-at (first ∷ names) name zero differ below =
    let later : ℕ = position_or_len (bytes_eq name) names in
    elim (bytes_eq name first) as (λ b. eqb (cond (not b) (1 + later) 0) zero ≡ b) [
      | true ↦ refl
      | false ↦ ne_eqb (1 + later) 0 (λ (e : 1 + later ≡ 0). absurd (omega (arith, e)))
    ]
stands-at (first ∷ names) name (suc place) differ below =
    let later : ℕ = position_or_len (bytes_eq name) names in
    let there : List ℕ = name_at names place in
    let apart : bytes_eq first there ≡ false =
    All-from_recursion (λ other. bytes_eq first other ≡ false) names differ.0 place [] (omega (arith, below)) in
    elim (bytes_eq name first) as (λ b. bytes_eq name first ≡ b
    → eqb (cond (not b) (1 + later) 0) (suc place) ≡ bytes_eq name there) [
      | true ↦ λ own. ne_eqb 0 (suc place) (λ (e : 0 ≡ suc place). absurd (omega (arith, e)))
          ∙ sym (ap (λ (n : List ℕ). bytes_eq n there) ((bytes_eq-Decides name first).0 own) ∙ apart)
      | false ↦ λ other. eqb-next later place ∙ stands-at names name place differ.1 (omega (arith, below))
    ] refl
