use Rattle.std.proofs.lemmas.Grind.{common_steps}
use Rattle.std.proofs.Common.{◌≡◌, ◌+◌, ◌<◌, ℕ, List, ◌∷◌, [], ◌++◌, Option, None, Some, length, map, take, arith}
use Rattle.std.proofs.Common.{refl, sym, ap, subst, ◌∙◌, arith}
use Rattle.std.specs.Prelude.{slice_index_or}
use Rattle.std.specs.List.{All}
use Rattle.std.proofs.lemmas.List.{length-map, take_all, take_more, map_push, get_or-map}
use Rattle.firm_rules.specs.declared.book.Machine.{Machine}
use Rattle.firm_rules.specs.declared.book.Task.{Task}
use Rattle.firm_rules.specs.declared.rounds.Choice.{Choice}
use Rattle.firm_rules.specs.Book.{TenantRows}
use Rattle.firm_rules.specs.Placement.{home_choice, task_at, Case, Demand, IsPlace}
use Rattle.firm_rules.specs.Round.{case_of, demand_of, machine_place}
use Rattle.firm_rents.specs.Placed.{choice_of, placement_of}
use Rattle.firm_rents.proofs.Names.{placement_left}
use Rattle.firm_rents.proofs.placed.placement_of.Goals as goal

no_task : Task
no_task = record { name = []; job = []; preferred = []; machine = None; waited = 0 }

-- a task's home in the case is where its row says
home_said : (rows : TenantRows) (machine : Option (List ℕ)) → home_choice (machine_place rows machine)
    ≡ choice_of rows machine
home_said rows None = refl
home_said rows (Some name) = refl

home_read : (rows : TenantRows) (i : ℕ) → i < length rows.tasks
    → home_choice (task_at (case_of rows) i).home ≡ choice_of rows (slice_index_or rows.tasks i no_task).machine
home_read rows i below =
    ap (λ (d : Demand). home_choice d.home) (get_or-map (demand_of rows) rows.tasks i no_task
    (record { home = None; preferred = []; delay = 0; job = 0 }) below)
    ∙ home_said rows (slice_index_or rows.tasks i no_task).machine

pub loop-task-preserved : goal.loop-task-preserved
loop-task-preserved c =
    let rows = c.args.rows.now in
    let f : Task → Choice = λ t. choice_of rows t.machine in
    let i = c.loop-task.task in
    let below : i < length rows.tasks = omega (
      arith,
      c.loop-task-test.true,
      c.task_count-task-end.ensures.count,
      ap (λ (k : Case). length k.tasks) c.case-case.ensures,
      length-map rows.tasks (demand_of rows),
    ) in
    c.in_ok-push.ensures.items
    ∙ ap (λ (l : List Choice). l ++ c.home.result ∷ []) c.loop-task.invariant
    ∙ ap (λ (x : Choice). map f (take i rows.tasks) ++ x ∷ []) (c.home.ensures.home
    ∙ ap (λ (k : Case). home_choice (task_at k i).home) c.case-case.ensures ∙ home_read rows i below)
    ∙ sym (ap (map f) (take_more rows.tasks i no_task below) ∙ map_push f (take i rows.tasks)
    (slice_index_or rows.tasks i no_task))

pub returns-clause-round : goal.returns-clause-round
returns-clause-round c = λ before placement sound legal is.
    let judged = (c.legality_is_judged.ensures (case_of before) placement).yes legal in
    c.loop-task.invariant
    ∙ (ap (λ (tasks : List Task). map (λ task. choice_of c.args.rows.now task.machine) tasks)
    (take_all c.loop-task.task c.args.rows.now.tasks
    (omega (
      arith,
      c.task_count-task-end.ensures.count,
      c.loop-task-test.false,
      ap (λ (k : Case). length k.tasks) c.case-case.ensures,
      length-map c.args.rows.now.tasks (demand_of c.args.rows.now),
    )))
    ∙ (ap placement_of is
    ∙ placement_left before sound.machine_names_differ placement
    (judged.one_each ∙ length-map before.tasks (demand_of before))
    (subst (λ (m : ℕ). All (IsPlace m) placement)
    (length-map before.machines (λ (machine : Machine). machine.slots)) judged.places)))

pub returns-clause-placement : goal.returns-clause-placement
returns-clause-placement c = grind (arith, common_steps)
