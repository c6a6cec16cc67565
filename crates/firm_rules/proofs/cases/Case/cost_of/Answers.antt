use Rattle.std.proofs.Common.{◌≡◌, ◌+◌, ◌*◌, ◌^◌, ◌<◌, ◌≤◌, ℕ, List, length, take, refl, sym, ap, subst, ◌∙◌, arith}
use Rattle.std.specs.Prelude.{slice_index, slice_index_or}
use Rattle.std.proofs.Math.Nat.{mul-le-mul}
use Rattle.std.proofs.lemmas.List.{get_or-replicate, length-set, take_all}
use borrow.Author.Count.{falls}
use mir.Syntax.{w16, w64}
use mir.Val.{Fits}
use Rattle.firm_rules.specs.declared.rounds.Choice.{Choice}
use Rattle.firm_rules.specs.declared.rounds.Choice.TheVariants.{On}
use Rattle.firm_rules.specs.Placement.{Case, Demand, load, load_cost, placement_cost, task_at, task_cost, tasks_cost}
use Rattle.firm_rules.specs.Placement.{total}
use Rattle.firm_rules.proofs.RunningCosts.{Spent, load-few, spent-beyond, spent-none, spent-on, spent-wait}
use Rattle.firm_rules.proofs.cases.Case.cost_of.Goals.{in-On+then-at-machines, in-On+else-at-machines, in_default}
use Rattle.firm_rules.proofs.cases.Case.cost_of.Goals as goal

pub loop-task-init : goal.loop-task-init
loop-task-init g c = record {
  long = refl;
  spent = spent-none c.args.self.now c.args.placement.now _ (λ j l. get_or-replicate 4096 j 0 0
      (omega (arith, l, c.machine_count-machines.ensures.count, c.machine_count-machines.ensures.few)));
  most = omega arith;
}

pub loop-task-preserved : goal.loop-task-preserved
loop-task-preserved g c =
    let case = c.args.self.now in
    let placement = c.args.placement.now in
    let task = c.loop-task.task in
    let now = c.loop-task.loads in
    let machines : c.machine_count-machines.result ≡ length case.slots = c.machine_count-machines.ensures.count in
    let tasks : task < length case.tasks = omega (
      arith,
      c.loop-task-test.true,
      c.task_count-task-end.ensures.count,
    ) in
    let below : task < length placement = omega (arith, tasks, c.requires) in
    let choice : Choice = slice_index_or placement task (On 0) in
    let own : c.cost_of_choice-cost.result ≡ task_cost case (task_at case task) choice =
    c.cost_of_choice-cost.ensures.cost in
    let so_far = c.loop-task.invariant.spent in
    elim c.match-choice.branch [
      | in-On+then-at-machines w ↦
          let at = w.in-On.place in
          let inside : at < length case.slots = omega (arith, w.if-at-machines.true, machines) in
          let count : w.from.result ≤ 4096 = omega (
            arith,
            w.from.ensures,
            so_far.counts at inside,
            load-few placement task at,
            c.loop-task-test.true,
            c.task_count-task-end.ensures.few,
          ) in
          let slot : c.spread-spread.result * w.from.result ≤ 1000 * 4096 =
          mul-le-mul c.spread-spread.ensures.most count in
          record {
            long = ap length w.loads-is ∙ length-set now at (slice_index now at + 1) ∙ c.loop-task.invariant.long;
            spent = spent-on case placement c.requires task (On 0) choice now c.loop-task.cost so_far below refl at
                w.in-On.is inside
                (omega (arith, inside, machines, c.machine_count-machines.ensures.few, c.loop-task.invariant.long))
                c.match-choice.loads w.loads-is c.spread-spread.result w.from.result c.match-choice.cost
                c.spread-spread.ensures.spread w.from.ensures (omega (arith, w.cost-is, own));
            most = omega (arith, w.cost-is, slot, c.cost_of_choice-cost.ensures.most, c.loop-task.invariant.most);
          }
      | in-On+else-at-machines w ↦ record {
        long = ap length w.loads-is ∙ c.loop-task.invariant.long;
        spent = subst (λ (l : List ℕ). Spent case placement (task + 1) l c.match-choice.cost) (sym w.loads-is)
            (spent-beyond case placement c.requires task (On 0) choice now c.loop-task.cost so_far below refl
            w.in-On.place w.in-On.is (omega (arith, w.if-at-machines.false, machines)) c.match-choice.cost
            (omega (arith, w.cost-is, own)));
        most = omega (arith, w.cost-is, c.cost_of_choice-cost.ensures.most, c.loop-task.invariant.most);
      }
      | in_default w ↦ record {
        long = ap length w.loads-is ∙ c.loop-task.invariant.long;
        spent = subst (λ (l : List ℕ). Spent case placement (task + 1) l c.match-choice.cost) (sym w.loads-is)
            (spent-wait case placement c.requires task (On 0) choice now c.loop-task.cost so_far below refl
            w.in_default.is c.match-choice.cost (omega (arith, w.cost-is, own)));
        most = omega (arith, w.cost-is, c.cost_of_choice-cost.ensures.most, c.loop-task.invariant.most);
      }
    ]

below : (task count long : ℕ) → task < count → count ≡ long → task < long
below task count long there is = subst (λ n. task < n) is there

pub bounds-placement-task : goal.bounds-placement-task
bounds-placement-task g c =
    below c.loop-task.task c.task_count-task-end.result (length c.args.placement.now) c.loop-task-test.true
    (c.task_count-task-end.ensures.count ∙ sym c.requires)

pub cost_of_choice-cost-requires : goal.cost_of_choice-cost-requires
cost_of_choice-cost-requires g c =
    below c.loop-task.task c.task_count-task-end.result (length c.args.self.now.tasks) c.loop-task-test.true
    c.task_count-task-end.ensures.count

within : (place count : ℕ) → place < count → count ≤ 4096 → place < 4096
within place count there few = omega (arith, there, few)

pub bounds-loads-at : goal.bounds-loads-at
bounds-loads-at g c =
    within c.in-On.place c.machine_count-machines.result c.if-at-machines.true c.machine_count-machines.ensures.few

pub bounds-loads-at-then-at-machines : goal.bounds-loads-at-then-at-machines
bounds-loads-at-then-at-machines g c =
    within c.in-On.place c.machine_count-machines.result c.if-at-machines.true c.machine_count-machines.ensures.few

pub bounds-loads-at-then-at-machines-2 : goal.bounds-loads-at-then-at-machines-2
bounds-loads-at-then-at-machines-2 g c =
    within c.in-On.place c.machine_count-machines.result c.if-at-machines.true c.machine_count-machines.ensures.few

-- what is spent for the tasks so far, with one more
spends : (task count cost own : ℕ) → task < count → count ≤ 4096 → cost ≤ task * 8388608 → own ≤ 2 ^ 22
    → Fits w64 (cost + own)
spends task count cost own there few most own-most = omega (arith, there, few, most, own-most)

pub overflow_add-cost : goal.overflow_add-cost
overflow_add-cost g c =
    spends c.loop-task.task c.task_count-task-end.result c.loop-task.cost c.cost_of_choice-cost.result
    c.loop-task-test.true c.task_count-task-end.ensures.few c.loop-task.invariant.most
    c.cost_of_choice-cost.ensures.most

most-cost : (task count cost : ℕ) → task ≤ count → count ≤ 4096 → cost ≤ task * 8388608 → cost ≤ 2 ^ 46
most-cost task count cost past few most = omega (arith, past, few, most)

pub returns-clause-most : goal.returns-clause-most
returns-clause-most g c =
    most-cost c.loop-task.task c.task_count-task-end.result c.loop-task.cost c.loop-task.auto.task-end
    c.task_count-task-end.ensures.few c.loop-task.invariant.most

-- all tasks are counted
whole : (case : Case) (placement : List Choice) (i count cost : ℕ) (loads : List ℕ) → Spent case placement i loads cost
    → count ≤ i → count ≡ length case.tasks → length placement ≡ length case.tasks
    → cost ≡ placement_cost case placement
whole case placement i count cost loads spent past counted one_each =
    let choices : take i placement ≡ placement =
    take_all i placement (omega (arith, past, counted, one_each)) in
    let tasks : take i case.tasks ≡ case.tasks = take_all i case.tasks (omega (arith, past, counted)) in
    spent.spent
    ∙ ap (λ (p : List Choice). total (λ j. load_cost case.spread (load p j)) (length case.slots)
    + tasks_cost case (take i case.tasks) p) choices
    ∙ ap (λ (l : List Demand). total (λ j. load_cost case.spread (load placement j)) (length case.slots)
    + tasks_cost case l placement) tasks

pub returns-clause-cost : goal.returns-clause-cost
returns-clause-cost g c =
    whole c.args.self.now c.args.placement.now c.loop-task.task c.task_count-task-end.result c.loop-task.cost
    c.loop-task.loads c.loop-task.invariant.spent c.loop-task-test.false c.task_count-task-end.ensures.count
    c.requires

pub loop-task-smaller : goal.loop-task-smaller
loop-task-smaller g c = falls c.task_count-task-end.result c.loop-task.task c.loop-task-test.true
