-- A table of preferences, and one more; and preferences without one of them.
use Rattle.std.proofs.Common.{◌≡◌, ℕ, suc, ◌+◌, ◌<◌, ◌≤◌, Bool, true, false, not, cond, ◌||◌, List, [], ◌∷◌, ◌++◌}
use Rattle.std.proofs.Common.{length}
use Rattle.std.proofs.Common.{None, take, bytes_eq, true≢false, refl, sym, ap, subst, ◌∙◌, arith}
use Rattle.std.specs.Prelude.{slice_set, slice_index_or, codes, drop}
use Rattle.std.specs.Cmp.{IsEquivalence}
use Rattle.std.specs.List.{IsDistinct, AllByRecursion}
use Rattle.std.proofs.Math.Seq.{drop-cons}
use Rattle.std.proofs.lemmas.Slice.Eq.{bytes_eq-Decides}
use Rattle.std.proofs.lemmas.List.{length-append}
use Rattle.std.proofs.lemmas.Map.Keys.{IsDistinct-push}
use Rattle.firm_rules.specs.Names.{is_among}
use Rattle.firm_rules.specs.Book.{is_on, evicted, forgetting}
use Rattle.firm_rules.specs.declared.book.Task.{Task}
use Rattle.firm_rules.specs.Preferences.{with_preference, without_preference}
use Rattle.firm_rules.specs.inner.Padding.{padded_preferences, ArePreferences}
use Rattle.firm_rules.proofs.NamedRows.{bytes_eq-own, bytes_eq-other, length-filter-le}
use Rattle.firm_rules.proofs.Padded.{written, long, taken}
use Rattle.firm_rules.proofs.SoundRows.{IsDistinct-without}

pub names-equivalent : IsEquivalence bytes_eq
names-equivalent = record {
  refl = bytes_eq-own;
  symm = λ xs ys. elim (bytes_eq xs ys) as (λ b. bytes_eq xs ys ≡ b → b ≡ bytes_eq ys xs) [
    | true ↦ λ e. sym ((bytes_eq-Decides ys xs).1 (sym ((bytes_eq-Decides xs ys).0 e)))
    | false ↦ λ e. sym (bytes_eq-other xs ys e)
  ] refl;
  congr = λ xs ys zs e. ap (λ (l : List ℕ). bytes_eq l zs) ((bytes_eq-Decides xs ys).0 e);
}

pub added : (table : List (List ℕ)) (count : ℕ) (name : List ℕ) → ArePreferences table count → count < 4
    → is_among (take count table) name ≡ false → ArePreferences (slice_set table count name) (count + 1)
added table count name kept few new =
    let held = taken 4 (codes "-") table count name kept.rest kept.counted few in
    record {
      rest = written 4 (codes "-") table count name kept.rest kept.counted few ∙ ap padded_preferences (sym held);
      counted = ap length held ∙ long 4 (codes "-") table count name kept.rest kept.counted few;
      few = omega arith;
      differ = subst (IsDistinct bytes_eq) (sym held)
          (IsDistinct-push names-equivalent (take count table) name kept.differ new);
    }

-- a name that is new goes last
pub with_new : (table : List (List ℕ)) (count : ℕ) (name : List ℕ) → ArePreferences table count → count < 4
    → is_among (take count table) name ≡ false
    → take (count + 1) (slice_set table count name) ≡ with_preference (take count table) name
with_new table count name kept few new =
    taken 4 (codes "-") table count name kept.rest kept.counted few
    ∙ sym (ap (λ (b : Bool). cond b (take count table) (take count table ++ name ∷ [])) new)

-- a name of those that differ is not among those before it
not_before : (names : List (List ℕ)) (name : List ℕ) (rest : List (List ℕ)) → IsDistinct bytes_eq (names ++ name ∷ rest)
    → is_among names name ≡ false
unfolding IsDistinct
not_before [] name rest differ = refl
not_before (first ∷ names) name rest differ =
    ap (λ (b : Bool). b || is_among names name) (bytes_eq-other first name (at-end names differ.0))
    ∙ not_before names name rest differ.1
  where
    at-end : (names : List (List ℕ)) → AllByRecursion (λ other. bytes_eq first other ≡ false) (names ++ name ∷ rest)
        → bytes_eq first name ≡ false
    at-end [] all = all.0
    at-end (_ ∷ names) all = at-end names all.1

-- the next of the names that are still to be seen
pub seen_next : (gone : List ℕ) (names left : List (List ℕ)) (i : ℕ) (next : List ℕ) → i < length names
    → next ≡ slice_index_or names i next
    → left ++ without_preference gone (drop i names) ≡ without_preference gone names
    → left ++ without_preference gone (next ∷ drop (i + 1) names) ≡ without_preference gone names
seen_next gone names left i next below is so_far =
    let after : suc i ≡ i + 1 = omega arith in
    ap (λ (l : List (List ℕ)). left ++ without_preference gone l)
    (ap (λ (name : List ℕ). name ∷ drop (i + 1) names) is
    ∙ ap (λ (n : ℕ). slice_index_or names i next ∷ drop n names) (sym after)
    ∙ sym (drop-cons names i next below))
    ∙ so_far

-- of some preferences those but one are gathered: `left` so far, `next` and `rest` still to be seen
module _ (gone : List ℕ) (names left : List (List ℕ)) (next : List ℕ) (rest : List (List ℕ))
    (differ : IsDistinct bytes_eq names) (few : length names ≤ 4)
    (so_far : left ++ without_preference gone (next ∷ rest) ≡ without_preference gone names) where
  kept_next : bytes_eq gone next ≡ false → left ++ next ∷ without_preference gone rest ≡ without_preference gone names
  kept_next other =
      sym (ap (λ (b : Bool). left ++ cond (not b) (next ∷ without_preference gone rest) (without_preference gone rest))
      other)
      ∙ so_far

  -- there is room for one that is kept
  pub room_for : bytes_eq gone next ≡ false → length left < 4
  room_for other =
      omega (
        arith,
        few,
        ap (λ (l : List (List ℕ)). length l) (kept_next other),
        length-append left (next ∷ without_preference gone rest),
        length-filter-le (λ other. not (bytes_eq gone other)) names,
      )

  -- and it goes last
  pub gathered : bytes_eq gone next ≡ false
      → with_preference left next ++ without_preference gone rest ≡ without_preference gone names
  gathered other =
      let new : is_among left next ≡ false =
      not_before left next (without_preference gone rest)
      (subst (IsDistinct bytes_eq) (sym (kept_next other)) (IsDistinct-without gone names differ)) in
      ap (λ (b : Bool). cond b left (left ++ next ∷ []) ++ without_preference gone rest) new
      ∙ append_one left next (without_preference gone rest)
      ∙ kept_next other
    where
      append_one : (xs : List (List ℕ)) (y : List ℕ) (zs : List (List ℕ)) → (xs ++ y ∷ []) ++ zs ≡ xs ++ y ∷ zs
      append_one [] y zs = refl
      append_one (x ∷ xs) y zs = ap (λ (l : List (List ℕ)). x ∷ l) (append_one xs y zs)

  -- the one that is gone is passed over
  pub passed : bytes_eq gone next ≡ true → left ++ without_preference gone rest ≡ without_preference gone names
  passed own =
      sym (ap (λ (b : Bool). left ++ cond (not b) (next ∷ without_preference gone rest) (without_preference gone rest))
      own)
      ∙ so_far

-- preferences without a name that is none of them
without_other : (gone : List ℕ) (names : List (List ℕ)) → is_among names gone ≡ false
    → without_preference gone names ≡ names
without_other gone [] none = refl
without_other gone (name ∷ names) none =
    elim (bytes_eq gone name) as (λ b. (b || is_among names gone) ≡ false
    → cond (not b) (name ∷ without_preference gone names) (without_preference gone names) ≡ name ∷ names) [
      | true ↦ λ e. absurd (true≢false e)
      | false ↦ λ e. ap (λ (l : List (List ℕ)). name ∷ l) (without_other gone names e)
    ] none

-- a task that has nothing to do with a machine does not run there, and is as it was once that is gone
pub evicted-other : (gone : List ℕ) (task : Task) → (is_on gone task.machine || is_among task.preferred gone) ≡ false
    → (is_on gone task.machine ≡ false) × (evicted gone task ≡ task)
evicted-other gone task apart =
    elim (is_on gone task.machine) as (λ b. (b || is_among task.preferred gone) ≡ false
    → (b ≡ false)
    × (cond b (record (forgetting gone task) { machine = None; waited = 0 }) (forgetting gone task) ≡ task)) [
      | true ↦ λ e. absurd (true≢false e)
      | false ↦ λ e. (
        refl,
        ap (λ (l : List (List ℕ)). let t : Task = record task { preferred = l } in t)
            (without_other gone task.preferred e),
      )
    ] apart
