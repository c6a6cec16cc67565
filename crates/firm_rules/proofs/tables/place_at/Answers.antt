use Rattle.std.proofs.Common.{◌≡◌, None, Some, set, is_some, sym, ap, ◌∙◌}
use Rattle.std.specs.Map.{values_of}
use Rattle.std.proofs.lemmas.Option.{slice_get-get_or}
use Rattle.indexmap.proofs.CallerLemmas.{keys-with_value_at}
use Rattle.firm_rules.specs.declared.book.Task.{Task}
use Rattle.firm_rules.proofs.PlacedRows.{set-placed}
use Rattle.firm_rules.proofs.TaskWrites.{no_task, values-written, read-at}
use Rattle.firm_rules.proofs.tables.place_at.Goals as goal

pub returns-clause-names : goal.returns-clause-names
returns-clause-names g c = keys-with_value_at c.args.tasks.now c.args.place c.placed.result

pub returns-clause-tasks : goal.returns-clause-tasks
returns-clause-tasks g c =
    let tasks = values_of c.args.tasks.now.entries in
    let task : Task = c.in-Some.task.now in
    values-written c.args.tasks.now.entries c.args.place c.placed.result
    ∙ ap (set tasks c.args.place) c.placed.ensures
    ∙ set-placed tasks c.args.place c.args.machine c.args.waited task task c.requires.there
    (read-at tasks c.args.place task c.in-Some.ensures.value task)

pub returns-clause-ran : goal.returns-clause-ran
returns-clause-ran g c d =
    c.is_some-ran.ensures
    ∙ ap (λ (t : Task). is_some t.machine)
    (sym (read-at (values_of c.args.tasks.now.entries) c.args.place c.in-Some.task.now c.in-Some.ensures.value d))

never : {X : Type 0} (x : X) → None ≡ Some x → ⊥
never x e = cc

pub unreachable-requires : goal.unreachable-requires
unreachable-requires g c =
    never _ (c.in_default.ensures.value
    ∙ slice_get-get_or (values_of c.args.tasks.now.entries) c.args.place no_task c.requires.there)
