use Rattle.std.proofs.Common.{◌≡◌, ◌≤◌, ℕ, true, List, All, IfSome, Result, Err, ap, subst, sym, ◌∙◌}
use Rattle.firm_rules.specs.Book.{TenantRows, machine_names, task_names, with_task, with_task_placed}
use Rattle.firm_rules.specs.Names.{is_among}
use Rattle.firm_rules.specs.Sound.{HasRoom}
use Rattle.firm_rules.specs.declared.book.Task.{Task}
use Rattle.firm_graph.specs.Graph.{LackNodes, LackArcs}
use Rattle.firm_graph.specs.declared.ids.GraphRefusal.{GraphRefusal}
use Rattle.firm_graph.proofs.Restores.{fresh-at, task-fits, task-next, room-next, of-task}
use Rattle.firm_graph.proofs.restore.add_task_at.Goals as goal

abbrev refused : GraphRefusal → Result (Unit {0}) GraphRefusal
refused refusal = Err refusal

pub add_task-requires-clause-new_name : goal.add_task-requires-clause-new_name
add_task-requires-clause-new_name c =
    ap (λ (r : TenantRows). is_among (task_names r) c.in-Some.task.name) c.requires.before
    ∙ fresh-at (λ (t : Task). t.name) c.args.rows.now.tasks c.args.place c.in-Some.task
    c.limits.ensures.sound.task_names_differ c.requires.place c.in-Some.ensures

pub add_task-requires-clause-machines_there : goal.add_task-requires-clause-machines_there
add_task-requires-clause-machines_there c =
    let rows : TenantRows = c.args.rows.now in
    let task : Task = c.in-Some.task in
    subst (λ (r : TenantRows). All (λ (n : List ℕ). is_among (machine_names r) n ≡ true) task.preferred)
    (sym c.requires.before)
    (of-task rows c.limits.ensures.sound c.args.place task c.requires.place c.in-Some.ensures
    (λ (t : Task). All (λ (n : List ℕ). is_among (machine_names rows) n ≡ true) t.preferred)
    c.limits.ensures.sound.preferred_there)

pub place_task-requires-clause-machine_there : goal.place_task-requires-clause-machine_there
place_task-requires-clause-machine_there c =
    let rows : TenantRows = c.args.rows.now in
    let task : Task = c.in-Some.task in
    let there : TenantRows → Task → Type 0 = λ (r : TenantRows) (t : Task).
    IfSome t.machine (λ (n : List ℕ). is_among (machine_names r) n ≡ true) in
    subst (λ (r : TenantRows). there r task)
    (sym (c.in-Ok.ensures.ok ∙ ap (λ (r : TenantRows). with_task r task.job task.name task.preferred)
    c.requires.before))
    (of-task rows c.limits.ensures.sound c.args.place task c.requires.place c.in-Some.ensures (there rows)
    c.limits.ensures.sound.machines_there)

pub place_task-requires-clause-room : goal.place_task-requires-clause-room
place_task-requires-clause-room c =
    let rows : TenantRows = c.args.rows.now in
    let task : Task = c.in-Some.task in
    subst (λ (r : TenantRows). IfSome task.machine (λ (_ : List ℕ).
    HasRoom (with_task_placed r c.args.place task.machine task.waited)))
    (sym (c.in-Ok.ensures.ok ∙ ap (λ (r : TenantRows). with_task r task.job task.name task.preferred)
    c.requires.before))
    (room-next rows c.limits.ensures.sound c.args.place task c.requires.place c.in-Some.ensures)

pub place_task-requires-clause-waited : goal.place_task-requires-clause-waited
place_task-requires-clause-waited c =
    let rows : TenantRows = c.args.rows.now in
    let task : Task = c.in-Some.task in
    subst (λ (r : TenantRows). task.waited ≤ r.limits.patience)
    (sym (c.in-Ok.ensures.ok ∙ ap (λ (r : TenantRows). with_task r task.job task.name task.preferred)
    c.requires.before))
    (of-task rows c.limits.ensures.sound c.args.place task c.requires.place c.in-Some.ensures
    (λ (t : Task). t.waited ≤ rows.limits.patience) c.limits.ensures.sound.waited)

pub place_task-requires-clause-running : goal.place_task-requires-clause-running
place_task-requires-clause-running c =
    of-task c.args.rows.now c.limits.ensures.sound c.args.place c.in-Some.task c.requires.place c.in-Some.ensures
    (λ (t : Task). IfSome t.machine (λ (_ : List ℕ). t.waited ≡ 0)) c.limits.ensures.form.running

pub unreachable-requires-in-Err-Nodes : goal.unreachable-requires-in-Err-Nodes
unreachable-requires-in-Err-Nodes c =
    let task : Task = c.in-Some.task in
    (task-fits c.args.rows.now c.limits.ensures.sound c.args.place task c.requires.place c.in-Some.ensures).0
    (subst (λ (r : TenantRows). LackNodes (with_task r task.job task.name task.preferred)) c.requires.before
    (c.add_task.ensures.nodes.0 (c.in-Err-Nodes.is ∙ ap refused c.in-Err-Nodes.field-0-is)))

pub unreachable-requires-in-Err-Arcs : goal.unreachable-requires-in-Err-Arcs
unreachable-requires-in-Err-Arcs c =
    let task : Task = c.in-Some.task in
    (task-fits c.args.rows.now c.limits.ensures.sound c.args.place task c.requires.place c.in-Some.ensures).1
    (subst (λ (r : TenantRows). LackArcs (with_task r task.job task.name task.preferred)) c.requires.before
    (c.add_task.ensures.arcs.0 (c.in-Err-Arcs.is ∙ ap refused c.in-Err-Arcs.field-0-is)))

pub returns-in-Ok-clause-rows : goal.returns-in-Ok-clause-rows
returns-in-Ok-clause-rows c =
    let rows : TenantRows = c.args.rows.now in
    let task : Task = c.in-Some.task in
    c.place_task.ensures.rows
    ∙ ap (λ (r : TenantRows). with_task_placed r c.args.place task.machine task.waited)
    (c.in-Ok.ensures.ok
    ∙ ap (λ (r : TenantRows). with_task r task.job task.name task.preferred) c.requires.before)
    ∙ task-next rows c.limits.ensures.sound c.args.place task c.requires.place c.in-Some.ensures
