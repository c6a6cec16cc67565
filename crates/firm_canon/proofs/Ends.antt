-- How the choice of a task ends: with the first machine that it can reach, or with waiting.
use Rattle.std.proofs.Common.{◌≡◌, ℕ, ◌<◌, ◌==◌, Bool, true, false, List, length, get_or}
use Rattle.std.proofs.Common.{Option, Some, None, sym, ap, subst, ◌∙◌, inl, inr, ⊎_elim}
use Rattle.std.specs.List.{list_any}
use Rattle.std.proofs.lemmas.Bool.{cases_Bool, both_ways, eq-eqb, eqb-true}
use Rattle.std.proofs.lemmas.List.Folds.{list_any_at}
use Rattle.firm_rules.specs.declared.rounds.Choice.{Choice}
use Rattle.firm_rules.specs.declared.rounds.Choice.TheVariants.{On, Wait}
use Rattle.firm_rules.specs.Placement.{Case, Demand, runs_at, prefers}
use Rattle.firm_graph.specs.declared.network.Key.TheVariants.{Through, Wide, Stay}
use Rattle.firm_graph.specs.Network.{demand}
use Rattle.firm_graph.specs.View.{View, IsSameCase, flows}
use Rattle.firm_canon.specs.inner.Choosing.{Keeps, HasRoom, IsBare, IsChosen, IsPassed, IsSpent, best}
use Rattle.firm_canon.proofs.AsCheap.{spent_few}
use Rattle.firm_canon.proofs.Choices.{shut_own, shut_far, shut_same, chose_wait, chosen_on, none_aside}

-- a task that runs on a machine runs on no other
home_only : (home : Option ℕ) (j : ℕ) → runs_at home j ≡ true → home ≡ Some j
home_only None j e = absurd cc
home_only (Some h) j e = ap Some (eqb-true h j e)

not_preferred : (xs : List ℕ) (j k : ℕ) → list_any (λ z. z == j) xs ≡ false → k < length xs → get_or xs k 0 ≡ j → ⊥
not_preferred xs j k none l e =
    let is_j : ℕ → Bool = λ z. z == j in
    both_ways (list_any is_j xs) none (list_any_at is_j xs k 0 l (eq-eqb (get_or xs k 0) j e))

module _ (v : View) (price : ℕ → ℕ) (p : List Choice) (keeps : Keeps v price p)
    (next : length p < length v.case.tasks) where
  abbrev task : Demand
  task = demand v.case (length p)

  -- A MACHINE IS PASSED: the task's own
  pub passed_own : (at_hub : Bool) → IsSpent v.case p (best v p) (Stay (length p))
      → ((j : ℕ) → task.home ≡ Some j → IsBare v p at_hub j)
      → (j : ℕ) → runs_at task.home j ≡ true → IsPassed v p at_hub j
  passed_own at_hub spent bare j own = record {
    bare = bare j (home_only task.home j own);
    shut = shut_own v price p keeps next spent j own;
  }

  -- one that is not preferred
  pub passed_far : (at_hub : Bool) (j : ℕ) → runs_at task.home j ≡ false → prefers task j ≡ false
      → (at_hub ≡ false → IsSpent v.case p (best v p) (Wide (length p)))
      → (at_hub ≡ true → IsSpent v.case p (best v p) (Through j)) → IsPassed v p at_hub j
  passed_far at_hub j other far apart there = record {
    bare = record {
      near = λ apart k l e. absurd (not_preferred task.preferred j k far l e);
      far = λ hub. spent_few v price p (Through j) keeps (there hub);
    };
    shut = shut_far v price p keeps next j other far
        (⊎_elim (λ (hub : at_hub ≡ true). inl (there hub)) (λ (off : at_hub ≡ false). inr (apart off))
        (cases_Bool at_hub));
  }

  -- WHERE ALL WERE PASSED a task that is not at the hub waits
  pub all_passed : flows v (Wide (length p)) ≡ 0 → flows v (Stay (length p)) ≡ 0
      → ((k : ℕ) → k < length v.case.slots → IsPassed v p false k) → IsChosen v p Wait
  all_passed no_wide no_stay passed =
      chose_wait v price p keeps next no_wide no_stay
      (none_aside v price p keeps next (λ j l. (passed j l).bare)) (λ j l. (passed j l).shut)

-- THE FIRST MACHINE that was not passed is chosen
pub first_found : (v new : View) (p : List Choice) (at_hub : Bool) (home : Option ℕ) (o : ℕ)
    → home ≡ (demand v.case (length p)).home → IsSameCase v new → best new p ≡ best v p
    → o < length v.case.slots → runs_at home o ≡ false → HasRoom new.case p (On o) (flows new)
    → ((j : ℕ) → runs_at home j ≡ true → IsPassed v p at_hub j)
    → ((k : ℕ) → k < o → runs_at home k ≡ false → IsPassed v p at_hub k) → IsChosen new p (On o)
first_found v new p at_hub home o is same e below other room own before =
    let at_new : home ≡ (demand new.case (length p)).home =
    is ∙ sym (ap (λ (c : Case). (demand c (length p)).home) same.case) in
    let here : (j : ℕ) (b : Bool) → runs_at (demand new.case (length p)).home j ≡ b → runs_at home j ≡ b =
    λ j b f. ap (λ (h : Option ℕ). runs_at h j) at_new ∙ f in
    chosen_on new p o (subst (λ (c : Case). o < length c.slots) (sym same.case) below)
    (ap (λ (h : Option ℕ). runs_at h o) (sym at_new) ∙ other) room
    (λ j t. shut_same v new p j same e (own j (here j true t)).shut)
    (λ j less f. shut_same v new p j same e (before j less (here j false f)).shut)
