-- Rents in levels, at a worked example.
use Rattle.std.proofs.Common.{◌≡◌, ℕ, zero, suc, ◌-◌, ◌<◌, ◌≤◌, cond, eqb, List, [], ◌∷◌, None, refl, arith, subst}
use Rattle.std.proofs.Common.{⊎_elim}
use Rattle.std.specs.Prelude.{slice_index}
use Rattle.std.proofs.lemmas.Bool.{cases_lt, cases_eq}
use Rattle.firm_rules.specs.declared.rounds.Choice.{Choice}
use Rattle.firm_rules.specs.declared.rounds.Choice.TheVariants.{On, Wait}
use Rattle.firm_rules.specs.Placement.{Demand, Case, load, IsPlace}
use Rattle.firm_rules.specs.Placement.{choice_at}
use Rattle.firm_rents.specs.Levels.{IsAtMost, time, paid_by_level, slot_by_level, SuitByLevel}

-- one slot, and two tasks whose waits cost the same
abbrev one_of_two : Case
one_of_two =
    let task : Demand = record { home = None; preferred = []; delay = 5; job = 0 } in
    record { spread = 1; churn = 2; remote = 0; slots = 1 ∷ []; jobs = 1; limit = 9; tasks = task ∷ task ∷ [] }

-- the first has it
abbrev found : List Choice
found = On 0 ∷ Wait ∷ []

-- the times of the machine and of waiting, for each of the two
times : (time one_of_two 0 (On 0) ∷ time one_of_two 0 Wait ∷ time one_of_two 1 (On 0) ∷ time one_of_two 1 Wait ∷ [])
    ≡ 1 ∷ 2 ∷ 4 ∷ 5 ∷ []
times = refl

-- the machine's rent is what a wait costs and, from the time at which the second would have it, a little more
abbrev rents : Choice → ℕ → ℕ
rents Wait level = 0
rents (On j) zero = 5
rents (On j) (suc t) = cond (eqb t 4) 1 0

-- decided at this level, with nothing before it
decided : (one another : ℕ → ℕ) (d : ℕ) → ((e : ℕ) → e < d → one e ≤ another e) → one d < another d
    → IsAtMost one another
decided one another d before less level same =
    ⊎_elim (λ (h : level < d). before level h)
    (λ (h : d ≤ level).
    ⊎_elim (λ (e : d ≡ level). subst (λ l. one l ≤ another l) e (omega (arith, less)))
    (λ (ne : d ≡ level → ⊥). let e : one d ≡ another d = same d (omega arith) in absurd (omega (arith, e, less)))
    (cases_eq d level))
    (cases_lt level d)

suits : SuitByLevel one_of_two rents found
suits =
    record {
      cheapest = cheapest;
      worth = worth;
      free = free;
    }
  where
    cheapest : (i : ℕ) → i < 2 → (other : Choice) → IsPlace 1 other
        → IsAtMost (paid_by_level one_of_two rents i (choice_at found i)) (paid_by_level one_of_two rents i other)
    cheapest zero l (On zero) h = λ level same. omega arith
    cheapest zero l (On (suc j)) h = absurd (omega (arith, h))
    cheapest zero l Wait h =
        decided (paid_by_level one_of_two rents 0 (On 0)) (paid_by_level one_of_two rents 0 Wait) 2 first (omega arith)
      where
        first : (e : ℕ) → e < 2
            → paid_by_level one_of_two rents 0 (On 0) e ≤ paid_by_level one_of_two rents 0 Wait e
        first zero l = omega arith
        first (suc zero) l = omega arith
        first (suc (suc e)) l = absurd (omega arith)
    cheapest (suc zero) l Wait h = λ level same. omega arith
    cheapest (suc zero) l (On (suc j)) h = absurd (omega (arith, h))
    cheapest (suc zero) l (On zero) h =
        decided (paid_by_level one_of_two rents 1 Wait) (paid_by_level one_of_two rents 1 (On 0)) 6 first (omega arith)
      where
        first : (e : ℕ) → e < 6
            → paid_by_level one_of_two rents 1 Wait e ≤ paid_by_level one_of_two rents 1 (On 0) e
        first zero l = omega arith
        first (suc zero) l = omega arith
        first (suc (suc zero)) l = omega arith
        first (suc (suc (suc zero))) l = omega arith
        first (suc (suc (suc (suc zero)))) l = omega arith
        first (suc (suc (suc (suc (suc zero))))) l = omega arith
        first (suc (suc (suc (suc (suc (suc e)))))) l = absurd (omega arith)
    cheapest (suc (suc i)) l other h = absurd (omega (arith, l))

    worth : (j : ℕ) → j < 1 → 0 < load found j
        → IsAtMost (slot_by_level one_of_two rents (load found j - 1)) (rents (On j))
    worth zero l h =
        decided (slot_by_level one_of_two rents 0) (rents (On 0)) 0 (λ e l. absurd (omega arith)) (omega arith)
    worth (suc j) l h = absurd (omega (arith, l))

    free : (j : ℕ) → j < 1 → load found j < slice_index one_of_two.slots j
        → IsAtMost (rents (On j)) (slot_by_level one_of_two rents (load found j))
    free zero l h = absurd (omega (arith, h))
    free (suc j) l h = absurd (omega (arith, l))
