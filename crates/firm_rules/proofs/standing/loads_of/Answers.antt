use Rattle.std.proofs.Common.{◌≡◌, ◌<◌, ◌≤◌, ℕ, List, length, take, refl, sym, ap, ◌∙◌, arith}
use Rattle.std.specs.Prelude.{count_by}
use Rattle.std.proofs.lemmas.List.{get_or-replicate, take_all}
use borrow.Author.Count.{falls}
use Rattle.firm_rules.specs.Placement.{Case, Demand, home_choice, runs_at, task_at}
use Rattle.firm_rules.specs.Round.{case_of}
use Rattle.firm_rules.proofs.Seating.{no_demand}
use Rattle.firm_rules.proofs.StandingTasks.{counted-far, counted-none, counted-on, homes-named}
use Rattle.firm_rules.proofs.standing.loads_of.Goals.{in-On+then-place-lt-MOST_MACHINES}
use Rattle.firm_rules.proofs.standing.loads_of.Goals.{in-On+else-place-lt-MOST_MACHINES, in_default}
use Rattle.firm_rules.proofs.standing.loads_of.Goals as goal

pub loop-task-init : goal.loop-task-init
loop-task-init c = (refl, λ j inside. get_or-replicate 4096 j 0 0 inside)

pub loop-task-preserved : goal.loop-task-preserved
loop-task-preserved c =
    let tasks : List Demand = (case_of c.args.rows.now).tasks in
    let i = c.loop-task.task in
    let same = ap (λ (case : Case). home_choice (task_at case i).home) c.case-case.ensures in
    let inside : i < length tasks =
    omega (
      arith,
      c.loop-task-test.true,
      c.task_count-task-end.ensures.count,
      ap (λ (case : Case). length case.tasks) c.case-case.ensures,
    ) in
    elim c.match-home.branch [
      | in-On+then-place-lt-MOST_MACHINES w ↦
          counted-on tasks i no_demand inside c.loop-task.loads c.loop-task.invariant.0 c.loop-task.invariant.1
          w.in-On.place c.match-home.loads (sym same ∙ sym c.home.ensures.home ∙ w.in-On.is) w.loads-is
          (omega (arith, w.if-place-lt-MOST_MACHINES.true))
      | in-On+else-place-lt-MOST_MACHINES w ↦
          counted-far tasks i no_demand inside c.loop-task.loads c.loop-task.invariant.0 c.loop-task.invariant.1
          w.in-On.place c.match-home.loads (sym same ∙ sym c.home.ensures.home ∙ w.in-On.is) w.loads-is
          (omega (arith, w.if-place-lt-MOST_MACHINES.false))
      | in_default w ↦
          counted-none tasks i no_demand inside c.loop-task.loads c.loop-task.invariant.0 c.loop-task.invariant.1
          c.match-home.loads
          (λ place e. w.in_default.not-On place (c.home.ensures.home ∙ same ∙ e)) w.loads-is
    ]

pub returns : goal.returns
returns c j below =
    let rows = c.args.rows.now in
    let tasks : List Demand = (case_of rows).tasks in
    let sound = c.limits.ensures.sound in
    let far : length tasks ≤ c.loop-task.task =
    omega (
      arith,
      c.loop-task-test.false,
      c.task_count-task-end.ensures.count,
      ap (λ (case : Case). length case.tasks) c.case-case.ensures,
    ) in
    c.loop-task.invariant.1 j (omega (arith, below, sound.fits.nodes, sound.most_nodes))
    ∙ ap (count_by (λ (task : Demand). runs_at task.home j)) (take_all c.loop-task.task tasks far)
    ∙ homes-named rows sound j below

pub loop-task-smaller : goal.loop-task-smaller
loop-task-smaller c = falls c.task_count-task-end.result c.loop-task.task c.loop-task-test.true
