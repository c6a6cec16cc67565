use Rattle.std.proofs.Common.{◌≡◌, ◌+◌, ◌<◌, ◌≤◌, ℕ, List, length, set, take, refl, sym, ap, subst, ◌∙◌, arith}
use Rattle.std.specs.Prelude.{slice_index, slice_index_or}
use Rattle.std.proofs.lemmas.Bool.{ne_eqb}
use Rattle.std.proofs.lemmas.List.{get_or-replicate, length-set, take_all}
use mir.Syntax.{w32}
use mir.Val.{Fits}
use Rattle.firm_rules.specs.Placement.{goes_to, load}
use Rattle.firm_rules.specs.declared.rounds.Choice.{Choice}
use Rattle.firm_rules.specs.declared.rounds.Choice.TheVariants.{On, Wait}
use Rattle.firm_rules.proofs.CountedLoads.{load-next, one-written}
use Rattle.firm_rules.proofs.RunningCosts.{load-few}
use Rattle.firm_rules.proofs.SoundRows.{one_if}
use Rattle.firm_rules.proofs.placements.loads_of.Goals.{in-On+then-place-lt-MOST_MACHINES}
use Rattle.firm_rules.proofs.placements.loads_of.Goals.{in-On+else-place-lt-MOST_MACHINES, in_default}
use Rattle.firm_rules.proofs.placements.loads_of.Goals as goal

-- the loads of the choices before this one
abbrev AreLoads : List Choice → ℕ → List ℕ → Type 0
AreLoads placement i loads = (j : ℕ) → j < 4096 → slice_index loads j ≡ load (take i placement) j

module _ (placement : List Choice) (i : ℕ) (now next : List ℕ) (so_far : AreLoads placement i now)
    (below : i < length placement) where
  counted-on : (k : ℕ) → slice_index_or placement i (On 0) ≡ On k → k < 4096 → length now ≡ 4096
      → next ≡ set now k (slice_index now k + 1) → AreLoads placement (i + 1) next
  counted-on k is there long written j inside =
      ap (λ (l : List ℕ). slice_index l j) written ∙ one-written now k (subst (λ n. k < n) (sym long) there) j
      ∙ ap (λ n. n + one_if (goes_to j (On k))) (so_far j inside)
      ∙ sym (load-next placement i (On 0) (On k) below is j)

  -- a choice of no machine that is counted
  counted-beside : (choice : Choice) → slice_index_or placement i (On 0) ≡ choice
      → ((j : ℕ) → j < 4096 → one_if (goes_to j choice) ≡ 0) → next ≡ now → AreLoads placement (i + 1) next
  counted-beside choice is none same j inside =
      omega (
        arith,
        ap (λ (l : List ℕ). slice_index l j) same,
        so_far j inside,
        none j inside,
        load-next placement i (On 0) choice below is j,
      )

far : (k j : ℕ) → 4096 ≤ k → j < 4096 → one_if (goes_to j (On k)) ≡ 0
far k j beyond inside = ap one_if (ne_eqb k j (λ (e : k ≡ j). absurd (omega (arith, beyond, inside, e))))

pub loop-task-init : goal.loop-task-init
loop-task-init c = (refl, λ j inside. get_or-replicate 4096 j 0 0 inside)

pub loop-task-preserved : goal.loop-task-preserved
loop-task-preserved c =
    let placement = c.args.placement.now in
    let i = c.loop-task.task in
    let now = c.loop-task.loads in
    let next = c.match-placement-task.loads in
    let long : length now ≡ 4096 = c.loop-task.invariant.0 in
    elim c.match-placement-task.branch [
      | in-On+then-place-lt-MOST_MACHINES w ↦
          let k = w.in-On.place in (
            ap (λ (l : List ℕ). length l) w.loads-is ∙ length-set now k (slice_index now k + 1) ∙ long,
            counted-on placement i now next c.loop-task.invariant.1 c.loop-task-test.true k w.in-On.is
                w.if-place-lt-MOST_MACHINES.true long w.loads-is,
          )
      | in-On+else-place-lt-MOST_MACHINES w ↦ (
        ap (λ (l : List ℕ). length l) w.loads-is ∙ long,
        counted-beside placement i now next c.loop-task.invariant.1 c.loop-task-test.true (On w.in-On.place) w.in-On.is
            (λ j inside. far w.in-On.place j w.if-place-lt-MOST_MACHINES.false inside) w.loads-is,
      )
      | in_default w ↦ (
        ap (λ (l : List ℕ). length l) w.loads-is ∙ long,
        counted-beside placement i now next c.loop-task.invariant.1 c.loop-task-test.true Wait w.in_default.is
            (λ j inside. refl) w.loads-is,
      )
    ]

small : (placement : List Choice) (loads : List ℕ) (i k : ℕ) → AreLoads placement i loads → k < 4096
    → i < length placement → length placement ≤ 4096 → Fits w32 (slice_index loads k + 1)
small placement loads i k so_far there below few =
    omega (arith, so_far k there, load-few placement i k, below, few)

pub overflow_add-loads : goal.overflow_add-loads
overflow_add-loads c =
    small c.args.placement.now c.loop-task.loads c.loop-task.task c.in-On.place c.loop-task.invariant.1
    c.if-place-lt-MOST_MACHINES.true c.loop-task-test.true c.requires

pub returns : goal.returns
returns c = λ j inside.
    c.loop-task.invariant.1 j inside
    ∙ ap (λ (l : List Choice). load l j) (take_all c.loop-task.task c.args.placement.now c.loop-task-test.false)
