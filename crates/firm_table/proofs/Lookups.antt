-- The stays after a line.
use Rattle.std.proofs.Common.{◌≡◌, ℕ, List, [], ◌∷◌, refl, sym, ap, ◌∙◌}
use Rattle.std.specs.Prelude.{Bool, true, false, ◌&&◌, nat_lt, Option, Some, None, map, bytes_eq, option_map}
use Rattle.std.specs.Prelude.{position, slice_set, if◌then◌else◌}
use Rattle.std.specs.Option.{is_none}
use Rattle.std.proofs.lemmas.Slice.Eq.{bytes_eq-Decides}
use Rattle.firm_text.specs.Registers.{is_free, most_admissions}
use Rattle.firm_table.specs.Places.{Given, Stay, Place, is_stay_of, stay_of, with_command, commanded, left_by}
use Rattle.firm_table.specs.Places.{registered, register_of}
use Rattle.firm_table.proofs.Firsts.{FirstAt, here, behind, first}

pub eq_same : (xs : List ℕ) → bytes_eq xs xs ≡ true
eq_same xs = (bytes_eq-Decides xs xs).1 refl

-- which of two a name is
pub data Which : List ℕ → List ℕ → Type 0 where
  same : (name : List ℕ) → Which name name
  other : (tenant name : List ℕ) → bytes_eq tenant name ≡ false → bytes_eq name tenant ≡ false → Which tenant name

eq_other : (xs ys : List ℕ) → bytes_eq xs ys ≡ false → bytes_eq ys xs ≡ false
eq_other xs ys e = elim (bytes_eq ys xs) as (λ b. bytes_eq ys xs ≡ b → b ≡ false) [
  | true ↦ λ f. sym ((bytes_eq-Decides xs ys).1 (sym ((bytes_eq-Decides ys xs).0 f))) ∙ e
  | false ↦ λ f. refl
] refl

pub which : (tenant name : List ℕ) → Which tenant name
which tenant name = elim (bytes_eq tenant name) as (λ b. bytes_eq tenant name ≡ b → Which tenant name) [
  | true ↦ λ e. rw ((bytes_eq-Decides tenant name).0 e) (same name)
  | false ↦ λ e. other tenant name e (eq_other tenant name e)
] refl

-- a stay of one tenant is none of another
not_of_other : (tenant name : List ℕ) (s : Option Stay) → bytes_eq tenant name ≡ false → is_stay_of tenant s ≡ true
    → is_stay_of name s ≡ false
not_of_other tenant name None out e = cc
not_of_other tenant name (Some s) out e = let is : s.name ≡ tenant = (bytes_eq-Decides s.name tenant).0 e in rw is out

is_stay_of-more : (name : List ℕ) (given : Given) (s : Option Stay)
    → is_stay_of name (option_map (with_command given) s) ≡ is_stay_of name s
is_stay_of-more name given None = refl
is_stay_of-more name given (Some s) = refl

-- a command to the tenant
pub stay_of-commanded : (places : List Place) (name : List ℕ) (given : Given)
    → stay_of (map (commanded name given) places) name ≡ option_map (with_command given) (stay_of places name)
stay_of-commanded [] name given = refl
stay_of-commanded (place ∷ rest) name given =
    elim (is_stay_of name place.stay) as (λ b. is_stay_of name place.stay ≡ b
    → stay_of (map (commanded name given) (place ∷ rest)) name
    ≡ option_map (with_command given) (stay_of (place ∷ rest) name)) [
      | true ↦ λ e. rw (e, is_stay_of-more name given place.stay ∙ e) refl
      | false ↦ λ e. rw (e, e) (stay_of-commanded rest name given)
    ] refl

-- a command to another
pub stay_of-commanded-other : (places : List Place) (tenant name : List ℕ) (given : Given) → bytes_eq tenant name
    ≡ false
    → stay_of (map (commanded tenant given) places) name ≡ stay_of places name
stay_of-commanded-other [] tenant name given out = refl
stay_of-commanded-other (place ∷ rest) tenant name given out =
    elim (is_stay_of tenant place.stay) as (λ b. is_stay_of tenant place.stay ≡ b
    → stay_of (map (commanded tenant given) (place ∷ rest)) name ≡ stay_of (place ∷ rest) name) [
      | true ↦ λ e. let not : is_stay_of name place.stay ≡ false = not_of_other tenant name place.stay out e in
          rw (
            e,
            is_stay_of-more name given place.stay
                ∙ not,
            not,
          ) (stay_of-commanded-other rest tenant name given out)
      | false ↦ λ e. rw e (ap (λ (s : Option Stay). if is_stay_of name place.stay then place.stay else s)
          (stay_of-commanded-other rest tenant name given out))
    ] refl

-- the tenant has left
pub stay_of-left : (places : List Place) (name : List ℕ) → stay_of (map (left_by name) places) name ≡ None
stay_of-left [] name = refl
stay_of-left (place ∷ rest) name = elim (is_stay_of name place.stay) as (λ b. is_stay_of name place.stay ≡ b
    → stay_of (map (left_by name) (place ∷ rest)) name ≡ None) [
      | true ↦ λ e. rw e (stay_of-left rest name)
      | false ↦ λ e. rw (e, e) (stay_of-left rest name)
    ] refl

-- another has left
pub stay_of-left-other : (places : List Place) (tenant name : List ℕ) → bytes_eq tenant name ≡ false
    → stay_of (map (left_by tenant) places) name ≡ stay_of places name
stay_of-left-other [] tenant name out = refl
stay_of-left-other (place ∷ rest) tenant name out =
    elim (is_stay_of tenant place.stay) as (λ b. is_stay_of tenant place.stay ≡ b
    → stay_of (map (left_by tenant) (place ∷ rest)) name ≡ stay_of (place ∷ rest) name) [
      | true ↦ λ e. let not : is_stay_of name place.stay ≡ false = not_of_other tenant name place.stay out e in
          rw (e, not) (stay_of-left-other rest tenant name out)
      | false ↦ λ e. rw e (ap (λ (s : Option Stay). if is_stay_of name place.stay then place.stay else s)
          (stay_of-left-other rest tenant name out))
    ] refl

-- nobody stays at a place that may be given
free_place : (name : List ℕ) (place : Place) → is_free (registered place) ≡ true → is_stay_of name place.stay ≡ false
free_place name place free = nobody place.stay (nat_lt place.admissions most_admissions) free
  where
    nobody : (s : Option Stay) (b : Bool) → (is_none (option_map (λ stay. stay.name) s) && b) ≡ true
        → is_stay_of name s ≡ false
    nobody None b e = refl
    nobody (Some s) b e = cc

-- a stay is not of the tenant, nor is any after it
pub not_here : (name : List ℕ) (s t : Option Stay) → (if is_stay_of name s then s else t) ≡ None
    → (is_stay_of name s ≡ false) × (t ≡ None)
not_here name None t e = (refl, e)
not_here name (Some s) t e =
    elim (bytes_eq s.name name) as (λ b. bytes_eq s.name name ≡ b → (bytes_eq s.name name ≡ false) × (t ≡ None)) [
      | true ↦ λ f. absurd (let wrong : Some s ≡ None = rw f at e in cc)
      | false ↦ λ f. (f, rw f at e)
    ] refl

-- the first place that may be given was given to the tenant
pub stay_of-entered : (places : List Place) (name : List ℕ) (at : ℕ) (new : Place)
    → position is_free (register_of places) ≡ Some at
    → stay_of places name ≡ None → is_stay_of name new.stay ≡ true → stay_of (slice_set places at new) name ≡ new.stay
stay_of-entered [] name at new free none mine = cc
stay_of-entered (place ∷ rest) name at new free none mine =
    by at (first is_free (registered place) (register_of rest) at free)
    (λ n is. stay_of-entered rest name n new is (not_here name place.stay (stay_of rest name) none).1 mine)
  where
    by : (at : ℕ) → FirstAt is_free (registered place) (register_of rest) at
        → ((n : ℕ) → position is_free (register_of rest) ≡ Some n → stay_of (slice_set rest n new) name ≡ new.stay)
        → stay_of (slice_set (place ∷ rest) at new) name ≡ new.stay
    by _ (here free) more = rw mine refl
    by _ (behind n full is) more = rw ((not_here name place.stay (stay_of rest name) none).0) (more n is)

-- it was given to another
pub stay_of-entered-other : (places : List Place) (name : List ℕ) (at : ℕ) (new : Place)
    → position is_free (register_of places) ≡ Some at
    → is_stay_of name new.stay ≡ false → stay_of (slice_set places at new) name ≡ stay_of places name
stay_of-entered-other [] name at new free others = cc
stay_of-entered-other (place ∷ rest) name at new free others =
    by at (first is_free (registered place) (register_of rest) at free)
    (λ n is. stay_of-entered-other rest name n new is others)
  where
    by : (at : ℕ) → FirstAt is_free (registered place) (register_of rest) at
        → ((n : ℕ) → position is_free (register_of rest) ≡ Some n → stay_of (slice_set rest n new) name
        ≡ stay_of rest name)
        → stay_of (slice_set (place ∷ rest) at new) name ≡ stay_of (place ∷ rest) name
    by _ (here free) more = rw (others, free_place name place free) refl
    by _ (behind n full is) more =
        ap (λ (s : Option Stay). if is_stay_of name place.stay then place.stay else s) (more n is)
