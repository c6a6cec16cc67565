use Rattle.std.proofs.Common.{Result, Err, ap, subst, ◌∙◌}
use Rattle.firm_rules.specs.Book.{TenantRows, machine_names, with_machine}
use Rattle.firm_rules.specs.Names.{is_among}
use Rattle.firm_rules.specs.declared.book.Machine.{Machine}
use Rattle.firm_graph.specs.declared.ids.GraphRefusal.{GraphRefusal}
use Rattle.firm_graph.specs.Graph.{LackArcs}
use Rattle.firm_graph.proofs.Restores.{fresh-at, machine-fits, machine-next}
use Rattle.firm_graph.proofs.restore.add_machine_at.Goals as goal

abbrev refused : GraphRefusal → Result (Unit {0}) GraphRefusal
refused refusal = Err refusal

pub add_machine-requires-clause-new_name : goal.add_machine-requires-clause-new_name
add_machine-requires-clause-new_name c =
    ap (λ (r : TenantRows). is_among (machine_names r) c.in-Some.machine.name) c.requires.before
    ∙ fresh-at (λ (m : Machine). m.name) c.args.rows.now.machines c.args.place c.in-Some.machine
    c.limits.ensures.sound.machine_names_differ c.requires.place c.in-Some.ensures

pub unreachable-requires-in-Err-Arcs : goal.unreachable-requires-in-Err-Arcs
unreachable-requires-in-Err-Arcs c =
    (machine-fits c.args.rows.now c.limits.ensures.sound c.args.place c.in-Some.machine c.requires.place
    c.in-Some.ensures).1
    (subst (λ (r : TenantRows). LackArcs (with_machine r c.in-Some.machine.name c.in-Some.machine.slots))
    c.requires.before
    (c.add_machine.ensures.arcs.0 (c.in-Err-Arcs.is ∙ ap refused c.in-Err-Arcs.field-0-is)))

pub returns-in-Ok-clause-rows : goal.returns-in-Ok-clause-rows
returns-in-Ok-clause-rows c =
    c.in-Ok.ensures.ok
    ∙ ap (λ (r : TenantRows). with_machine r c.in-Some.machine.name c.in-Some.machine.slots) c.requires.before
    ∙ machine-next c.args.rows.now c.limits.ensures.sound c.args.place c.in-Some.machine c.requires.place
    c.in-Some.ensures
