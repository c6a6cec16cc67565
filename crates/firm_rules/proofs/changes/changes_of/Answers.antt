use Rattle.std.proofs.Common.{◌≡◌, ◌<◌, ◌≤◌, ◌++◌, ℕ, true, List, [], length, drop, sym, ap, subst, ◌∙◌, arith}
use Rattle.std.specs.Prelude.{slice_index_or}
use Rattle.std.specs.List.{flat_map}
use borrow.Author.Count.{falls}
use Rattle.std.proofs.lemmas.List.{append-nil, drop_all, length-map}
use Rattle.firm_rules.specs.Book.{TenantRows}
use Rattle.firm_rules.specs.Placement.{IsPlace, is_legal}
use Rattle.firm_rules.specs.Round.{case_of, changes_made, demand_of, task_changes, zipped}
use Rattle.firm_rules.specs.declared.book.Machine.{Machine}
use Rattle.firm_rules.specs.declared.rounds.Choice.{Choice}
use Rattle.firm_rules.specs.declared.rounds.Change.{Change}
use Rattle.firm_rules.proofs.CaseLists.{changes_next}
use Rattle.firm_rules.proofs.Legals.{to_legal}
use Rattle.firm_rules.proofs.TaskWrites.{any_choice, no_task}
use Rattle.firm_rules.proofs.changes.changes_of.Goals as goal

-- there is one choice for each task
one_each : (rows : TenantRows) (placement : List Choice) → is_legal (case_of rows) placement ≡ true
    → length placement ≡ length rows.tasks
one_each rows placement legal =
    (to_legal (case_of rows) placement legal).one_each ∙ length-map rows.tasks (demand_of rows)

below : (task count long : ℕ) → task < count → count ≡ long → task < long
below task count long l is = omega (arith, l, is)

chosen : (rows : TenantRows) (placement : List Choice) → is_legal (case_of rows) placement ≡ true → (task : ℕ)
    → task < length rows.tasks → IsPlace (length rows.machines) (slice_index_or placement task any_choice)
chosen rows placement legal task there =
    subst (λ n. IsPlace n (slice_index_or placement task any_choice))
    (length-map rows.machines (λ (machine : Machine). machine.slots))
    ((to_legal (case_of rows) placement legal).places task any_choice
    (subst (λ n. task < n) (sym (one_each rows placement legal)) there))

-- past the last task no change is left
all : {X A B : Type 0} (f : A → B → List X) (now made : List X) (xs : List A) (ys : List B) (i : ℕ) → length xs ≤ i
    → now ++ flat_map (λ some. some) (zipped f (drop i xs) (drop i ys)) ≡ made → now ≡ made
all {X} {A} {B} f now made xs ys i past is =
    let none : drop i xs ≡ [] = drop_all i xs past in
    sym (ap (λ (l : List A). now ++ flat_map (λ some. some) (zipped f l (drop i ys))) none ∙ append-nil now) ∙ is

pub moves-requires : goal.moves-requires
moves-requires g c = one_each c.args.rows.now c.args.placement.now c.requires

pub loop-task-init : goal.loop-task-init
loop-task-init g c =
    ap (λ (l : List Change). l ++ changes_made c.args.rows.now c.args.placement.now) c.in_ok-list.ensures.items

pub bounds-placement-task : goal.bounds-placement-task
bounds-placement-task g c =
    below c.loop-task.task c.task_count-task-end.result (length c.args.placement.now) c.loop-task-test.true
    (c.task_count-task-end.ensures ∙ sym (one_each c.args.rows.now c.args.placement.now c.requires))

pub change_at-requires-clause-there : goal.change_at-requires-clause-there
change_at-requires-clause-there g c =
    below c.loop-task.task c.task_count-task-end.result (length c.args.rows.now.tasks) c.loop-task-test.true
    c.task_count-task-end.ensures

pub change_at-requires-clause-machine : goal.change_at-requires-clause-machine
change_at-requires-clause-machine g c =
    chosen c.args.rows.now c.args.placement.now c.requires c.loop-task.task
    (below c.loop-task.task c.task_count-task-end.result (length c.args.rows.now.tasks) c.loop-task-test.true
    c.task_count-task-end.ensures)

pub loop-task-preserved : goal.loop-task-preserved
loop-task-preserved g c =
    let rows = c.args.rows.now in
    let placement = c.args.placement.now in
    let i = c.loop-task.task in
    let there : i < length rows.tasks =
    below i c.task_count-task-end.result (length rows.tasks) c.loop-task-test.true c.task_count-task-end.ensures in
    changes_next (task_changes rows) c.loop-task.list.items c.note.new.list.items rows.tasks placement i no_task
    any_choice there (subst (λ n. i < n) (sym (one_each rows placement c.requires)) there)
    (c.in_ok-note.ensures ∙ ap (λ (l : List Change). c.loop-task.list.items ++ l) (c.change_at.ensures no_task))
    ∙ c.loop-task.invariant

pub returns : goal.returns
returns g c =
    c.into.ensures
    ∙ all (task_changes c.args.rows.now) c.loop-task.list.items
    (changes_made c.args.rows.now c.args.placement.now) c.args.rows.now.tasks c.args.placement.now c.loop-task.task
    (subst (λ n. n ≤ c.loop-task.task) c.task_count-task-end.ensures c.loop-task-test.false) c.loop-task.invariant

pub loop-task-smaller : goal.loop-task-smaller
loop-task-smaller g c = falls c.task_count-task-end.result c.loop-task.task c.loop-task-test.true
