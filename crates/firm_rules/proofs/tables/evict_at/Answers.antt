use Rattle.std.proofs.Common.{◌≡◌, None, Some, sym, ap, ◌∙◌}
use Rattle.std.specs.Map.{values_of}
use Rattle.std.proofs.lemmas.Option.{slice_get-get_or}
use Rattle.indexmap.proofs.CallerLemmas.{keys-with_value_at}
use Rattle.firm_rules.proofs.PreferredNames.{evicted-other}
use Rattle.firm_rules.proofs.SoundRows.{one_if, one_if-from_bool}
use Rattle.firm_rules.proofs.TaskWrites.{evicted-written, no_task}
use Rattle.firm_rules.proofs.tables.evict_at.Goals as goal

pub returns-then-not-names_machine-clause-names : goal.returns-then-not-names_machine-clause-names
returns-then-not-names_machine-clause-names g c =
    keys-with_value_at c.args.tasks.now c.args.place c.in-Some.task.now

pub returns-then-not-names_machine-clause-tasks : goal.returns-then-not-names_machine-clause-tasks
returns-then-not-names_machine-clause-tasks g c d =
    let other = evicted-other c.args.name c.in-Some.task.now
    (sym c.names_machine.ensures ∙ c.if-not-names_machine.true) in
    (evicted-written c.args.name c.args.tasks.now.entries c.args.place c.in-Some.task.now c.in-Some.ensures.value
    c.in-Some.task.now (sym other.1) d).0

pub returns-then-not-names_machine-clause-count : goal.returns-then-not-names_machine-clause-count
returns-then-not-names_machine-clause-count g c d =
    let other = evicted-other c.args.name c.in-Some.task.now
    (sym c.names_machine.ensures ∙ c.if-not-names_machine.true) in
    sym (ap one_if other.0)
    ∙ (evicted-written c.args.name c.args.tasks.now.entries c.args.place c.in-Some.task.now c.in-Some.ensures.value
    c.in-Some.task.now (sym other.1) d).1

pub returns-then-not-names_machine-clause-preferences : goal.returns-then-not-names_machine-clause-preferences
returns-then-not-names_machine-clause-preferences g c d =
    let other = evicted-other c.args.name c.in-Some.task.now
    (sym c.names_machine.ensures ∙ c.if-not-names_machine.true) in
    c.len.ensures.value
    ∙ (evicted-written c.args.name c.args.tasks.now.entries c.args.place c.in-Some.task.now c.in-Some.ensures.value
    c.in-Some.task.now (sym other.1) d).2

pub returns-clause-names : goal.returns-clause-names
returns-clause-names g c = keys-with_value_at c.args.tasks.now c.args.place c.without_machine.result

pub returns-clause-tasks : goal.returns-clause-tasks
returns-clause-tasks g c d =
    (evicted-written c.args.name c.args.tasks.now.entries c.args.place c.in-Some.task.now c.in-Some.ensures.value
    c.without_machine.result c.without_machine.ensures d).0

pub returns-clause-count : goal.returns-clause-count
returns-clause-count g c d =
    c.from.ensures ∙ one_if-from_bool c.runs_on-ran.result ∙ ap one_if c.runs_on-ran.ensures
    ∙ (evicted-written c.args.name c.args.tasks.now.entries c.args.place c.in-Some.task.now c.in-Some.ensures.value
    c.without_machine.result c.without_machine.ensures d).1

pub returns-clause-preferences : goal.returns-clause-preferences
returns-clause-preferences g c d =
    c.len-2.ensures.value
    ∙ (evicted-written c.args.name c.args.tasks.now.entries c.args.place c.in-Some.task.now c.in-Some.ensures.value
    c.without_machine.result c.without_machine.ensures d).2

never : {X : Type 0} (x : X) → None ≡ Some x → ⊥
never x e = cc

pub unreachable-requires : goal.unreachable-requires
unreachable-requires g c =
    never _ (c.in_default.ensures.value
    ∙ slice_get-get_or (values_of c.args.tasks.now.entries) c.args.place no_task c.requires.there)

pub returns-then-not-names_machine-clause-few : goal.returns-then-not-names_machine-clause-few
returns-then-not-names_machine-clause-few g c = c.len.ensures.most

pub returns-clause-few : goal.returns-clause-few
returns-clause-few g c = c.len-2.ensures.most
