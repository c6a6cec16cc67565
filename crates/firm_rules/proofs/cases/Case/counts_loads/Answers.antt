use Rattle.std.proofs.Common.{ℕ, ◌≡◌, ◌+◌, ◌<◌, ◌≤◌, List, length, sym, ap, subst, ◌∙◌, arith}
use mir.Syntax.{w8}
use mir.Val.{Fits}
use Rattle.std.specs.Prelude.{slice_index}
use borrow.Author.Count.{falls}
use Rattle.firm_rules.specs.declared.rounds.Choice.TheVariants.{On}
use Rattle.firm_rules.proofs.CountedLoads.{Counted, counted-on, counted-wait, legal-counted, not_legal-beyond}
use Rattle.firm_rules.proofs.CountedLoads.{not_legal-full, not_legal-length}
use Rattle.firm_rules.proofs.cases.Case.counts_loads.Goals.{then-at-slots-via-then-at-slots}
use Rattle.firm_rules.proofs.cases.Case.counts_loads.Goals.{then-at-slots-via-else-at-slots+then-from-slots}
use Rattle.firm_rules.proofs.cases.Case.counts_loads.Goals.{in-On+else-at-slots+else-from-slots, in_default}
use Rattle.firm_rules.proofs.cases.Case.counts_loads.Goals as goal

pub returns-then-at-slots-clause-legal : goal.returns-then-at-slots-clause-legal
returns-then-at-slots-clause-legal g c =
    let case = c.args.self.now in
    let placement = c.args.placement.now in
    let i = c.loop-choice.choice-index in
    let slots = ap length c.all_slots-slots.ensures.slots in
    let below : i < length placement = omega (arith, c.loop-choice-test.true) in
    sym (elim c.then-at-slots.branch [
      | then-at-slots-via-then-at-slots w ↦
          not_legal-beyond case placement i c.in-On.place (On 0) below c.in-On.is
          (omega (arith, slots, w.if-at-slots.true))
      | then-at-slots-via-else-at-slots+then-from-slots w ↦
          not_legal-full case placement i c.in-On.place (On 0) c.loop-choice.loads c.loop-choice.invariant.counted below
          c.in-On.is (omega (arith, slots, w.if-at-slots.false))
          (omega (
            arith,
            w.if-from-slots.true,
            w.from.ensures,
            ap (λ (l : List ℕ). slice_index l c.in-On.place) c.all_slots-slots.ensures.slots,
          ))
    ])

pub loop-choice-preserved : goal.loop-choice-preserved
loop-choice-preserved g c =
    let slots = c.args.self.now.slots in
    let placement = c.args.placement.now in
    let i = c.loop-choice.choice-index in
    let now = c.loop-choice.loads in
    let below : i < length placement = omega (arith, c.loop-choice-test.true) in
    let so_far : Counted slots placement i now = c.loop-choice.invariant.counted in
    let same = c.all_slots-slots.ensures.slots in
    record {
      long = c.match-choice.array_long;
      counted = elim c.match-choice.branch [
        | in-On+else-at-slots+else-from-slots w ↦
            let at = w.in-On.place in
            let inside : at < length slots = omega (arith, w.if-at-slots.false, ap length same) in
            counted-on slots placement i (On 0) now so_far below at w.in-On.is inside
            (omega (arith, inside, ap length same, c.all_slots-slots.ensures.few, c.loop-choice.invariant.long))
            (omega (arith, w.if-from-slots.false, w.from.ensures, ap (λ (l : List ℕ). slice_index l at) same))
            c.match-choice.loads w.loads-is
        | in_default w ↦
            subst (Counted slots placement (i + 1)) (sym w.loads-is)
            (counted-wait slots placement i (On 0) now so_far below w.in_default.is)
      ];
    }

pub returns-clause-legal : goal.returns-clause-legal
returns-clause-legal g c =
    sym (legal-counted c.args.self.now c.args.placement.now c.loop-choice.choice-index c.loop-choice.loads
    c.loop-choice.invariant.counted (omega (arith, c.loop-choice-test.false))
    (omega (arith, c.if-placement-task_count.false, c.task_count.ensures.count))).0

pub returns-clause-loads : goal.returns-clause-loads
returns-clause-loads g c = λ _.
    (legal-counted c.args.self.now c.args.placement.now c.loop-choice.choice-index c.loop-choice.loads
    c.loop-choice.invariant.counted (omega (arith, c.loop-choice-test.false))
    (omega (arith, c.if-placement-task_count.false, c.task_count.ensures.count))).1

pub returns-then-placement-task_count-clause-legal : goal.returns-then-placement-task_count-clause-legal
returns-then-placement-task_count-clause-legal g c =
    sym (not_legal-length c.args.self.now c.args.placement.now
    (λ e. c.if-placement-task_count.true (e ∙ sym c.task_count.ensures.count)))

-- a machine of the case has an entry among the loads, and no machine has more slots than 64
within : (place count : ℕ) → place < count → count ≤ 4096 → place < 4096
within place count there few = omega (arith, there, few)

small : (load count slots : ℕ) → count ≡ load → count < slots → slots ≤ 64 → Fits w8 (load + 1)
small load count slots is room most = omega (arith, is, room, most)

pub bounds-loads-at : goal.bounds-loads-at
bounds-loads-at g c =
    within c.in-On.place (length c.all_slots-slots.result.now) c.if-at-slots.false c.all_slots-slots.ensures.few

pub bounds-loads-at-in-On : goal.bounds-loads-at-in-On
bounds-loads-at-in-On g c =
    within c.in-On.place (length c.all_slots-slots.result.now) c.if-at-slots.false c.all_slots-slots.ensures.few

pub bounds-loads-at-in-On-2 : goal.bounds-loads-at-in-On-2
bounds-loads-at-in-On-2 g c =
    within c.in-On.place (length c.all_slots-slots.result.now) c.if-at-slots.false c.all_slots-slots.ensures.few

pub overflow_add-loads : goal.overflow_add-loads
overflow_add-loads g c =
    small (slice_index c.loop-choice.loads c.in-On.place) c.from.result
    (slice_index c.all_slots-slots.result.now c.in-On.place) c.from.ensures c.if-from-slots.false
    (c.all_slots-slots.ensures.most c.in-On.place 0 c.if-at-slots.false)

pub loop-choice-smaller : goal.loop-choice-smaller
loop-choice-smaller g c = falls (length c.args.placement.now) c.loop-choice.choice-index c.loop-choice-test.true
