-- The cost of a placement, summed along its choices: what each costs its task, and the slot that it takes.
use Rattle.std.proofs.Common.{◌≡◌, ℕ, zero, suc, ◌+◌, ◌*◌, ◌<◌, ◌≤◌, false, List, [], length, set, take, refl, sym}
use Rattle.std.proofs.Common.{ap, ◌∙◌}
use Rattle.std.proofs.Common.{arith}
use Rattle.std.specs.Prelude.{slice_index, slice_index_or}
use Rattle.std.proofs.Math.Nat.{mul_comm, mul-zero}
use Rattle.std.proofs.lemmas.Bool.{eq-eqb, ne_eqb}
use Rattle.std.proofs.lemmas.List.{get_or_default, length-take}
use Rattle.firm_rules.specs.declared.rounds.Choice.{Choice}
use Rattle.firm_rules.specs.declared.rounds.Choice.TheVariants.{On, Wait}
use Rattle.firm_rules.specs.Placement.{Case, goes_to, load, load_cost, slot_cost, task_at, task_cost}
use Rattle.firm_rules.specs.Placement.{tasks_cost, total}
use Rattle.firm_rules.proofs.CaseLists.{tasks_cost_more}
use Rattle.firm_rules.proofs.Causes.{total_one, total_same-below}
use Rattle.firm_rules.proofs.CountedLoads.{load-next, one-written}
use Rattle.firm_rules.proofs.SlotCosts.{load-step}
use Rattle.firm_rules.proofs.SoundRows.{one_if}
use Rattle.firm_rules.proofs.TaskWrites.{count_by-le-length}

-- no machine has more tasks than have been counted
pub load-few : (placement : List Choice) (i j : ℕ) → load (take i placement) j ≤ i
load-few placement i j =
    omega (arith, count_by-le-length (goes_to j) (take i placement), length-take i placement)

module _ (case : Case) (placement : List Choice) where
  abbrev loads_cost : ℕ → ℕ
  loads_cost i = total (λ j. load_cost case.spread (load (take i placement) j)) (length case.slots)

  abbrev own_cost : ℕ → ℕ
  own_cost i = tasks_cost case (take i case.tasks) (take i placement)

  -- the choices before this one have these loads, and cost this
  pub record Spent (i : ℕ) (loads : List ℕ) (cost : ℕ) : Type 0 where
    pub counts : (j : ℕ) → j < length case.slots → slice_index loads j ≡ load (take i placement) j
    pub spent : cost ≡ loads_cost i + own_cost i

  pub spent-none : (loads : List ℕ) → ((j : ℕ) → j < length case.slots → slice_index loads j ≡ 0) → Spent 0 loads 0
  spent-none loads none = record { counts = none; spent = omega (arith, nothing (length case.slots)) }
    where
      nothing : (n : ℕ) → total (λ j. load_cost case.spread (load [] j)) n ≡ 0
      nothing zero = omega arith
      nothing (suc n) = omega (arith, nothing n, mul-zero case.spread)

  module _ (one_each : length placement ≡ length case.tasks) (i : ℕ) (d choice : Choice) (now : List ℕ) (cost : ℕ)
      (so_far : Spent i now cost) (below : i < length placement) (is : slice_index_or placement i d ≡ choice) where
    own-next : own_cost (i + 1) ≡ own_cost i + task_cost case (task_at case i) choice
    own-next =
        tasks_cost_more case case.tasks placement i (omega (arith, below, one_each)) one_each
        ∙ ap (λ (c : Choice). own_cost i + task_cost case (task_at case i) c)
        (get_or_default placement i Wait d below ∙ is)

    -- a choice of none of the machines fills no slot
    beside : ((j : ℕ) → j < length case.slots → goes_to j choice ≡ false) → (after : ℕ)
        → after ≡ cost + task_cost case (task_at case i) choice → Spent (i + 1) now after
    beside none after after-is = record {
      counts = λ j l. omega (arith, so_far.counts j l, same j l);
      spent = omega (
        arith,
        after-is,
        so_far.spent,
        own-next,
        total_same-below (λ j. load_cost case.spread (load (take (i + 1) placement) j))
            (λ j. load_cost case.spread (load (take i placement) j)) (length case.slots)
            (λ j l. ap (load_cost case.spread) (same j l)),
      );
    }
      where
        same : (j : ℕ) → j < length case.slots → load (take (i + 1) placement) j ≡ load (take i placement) j
        same j l = omega (arith, load-next placement i d choice below is j, ap one_if (none j l))

    pub spent-wait : choice ≡ Wait → (after : ℕ) → after ≡ cost + task_cost case (task_at case i) choice
        → Spent (i + 1) now after
    spent-wait wait = beside (λ j l. ap (goes_to j) wait)

    module _ (k : ℕ) (on : choice ≡ On k) where
      pub spent-beyond : length case.slots ≤ k → (after : ℕ) → after ≡ cost + task_cost case (task_at case i) choice
          → Spent (i + 1) now after
      spent-beyond far =
          beside (λ j l. ap (goes_to j) on ∙ ne_eqb k j (λ (e : k ≡ j). absurd (omega (arith, e, far, l))))

      -- and one that is there the next of its machine
      pub spent-on : k < length case.slots → k < length now → (next : List ℕ)
          → next ≡ set now k (slice_index now k + 1) → (spread count after : ℕ) → spread ≡ case.spread
          → count ≡ slice_index now k
          → after ≡ cost + task_cost case (task_at case i) choice + spread * count → Spent (i + 1) next after
      spent-on inside there next next-is spread count after spread-is count-is after-is = record {
        counts = λ j l. omega (
          arith,
          ap (λ (n : List ℕ). slice_index n j) next-is,
          one-written now k there j,
          grown j,
          so_far.counts j l,
        );
        spent = omega (
          arith,
          after-is,
          so_far.spent,
          own-next,
          slot,
          total_one (λ j. load_cost case.spread (load (take (i + 1) placement) j))
              (λ j. load_cost case.spread (load (take i placement) j)) (length case.slots) k
              (slot_cost case.spread (load (take i placement) k)) inside
              (ap (load_cost case.spread) here ∙ load-step case.spread (load (take i placement) k))
              (λ j apart. ap (load_cost case.spread) (elsewhere j apart)),
        );
      }
        where
          grown : (j : ℕ) → load (take (i + 1) placement) j ≡ load (take i placement) j + one_if (goes_to j (On k))
          grown j = load-next placement i d (On k) below (is ∙ on) j

          here : load (take (i + 1) placement) k ≡ suc (load (take i placement) k)
          here = omega (arith, grown k, ap one_if (eq-eqb k k refl))

          elsewhere : (j : ℕ) → (j ≡ k → ⊥) → load (take (i + 1) placement) j ≡ load (take i placement) j
          elsewhere j apart = omega (arith, grown j, ap one_if (ne_eqb k j (λ (e : k ≡ j). apart (sym e))))

          slot : spread * count ≡ slot_cost case.spread (load (take i placement) k)
          slot =
              ap (λ n. n * count) spread-is ∙ ap (λ n. case.spread * n) (count-is ∙ so_far.counts k inside)
              ∙ mul_comm case.spread (load (take i placement) k)
