use Rattle.std.proofs.Common.{◌≡◌, ◌<◌, ℕ, List, length, Some, None, ap, sym, subst, ◌∙◌}
use Rattle.std.proofs.lemmas.List.{length-map}
use Rattle.std.proofs.lemmas.Option.{slice_get-get_or}
use Rattle.indexmap.specs.IndexMap.{values}
use Rattle.indexmap.proofs.CallerLemmas.{keys-with_value_at}
use Rattle.firm_rules.specs.Placement.{IsPlace}
use Rattle.firm_rules.specs.Round.{settled}
use Rattle.firm_rules.specs.inner.Tables.{is_placed}
use Rattle.firm_rules.specs.declared.book.Machine.{Machine}
use Rattle.firm_rules.specs.declared.book.Task.{Task}
use Rattle.firm_rules.specs.declared.rounds.Choice.{Choice}
use Rattle.firm_rules.proofs.SoundRows.{one_if}
use Rattle.firm_rules.proofs.TaskWrites.{no_task, settled-written, settled-on}
use Rattle.firm_rules.proofs.tables.settle_at.Goals as goal

pub returns-in-On-clause-names : goal.returns-in-On-clause-names
returns-in-On-clause-names g c = keys-with_value_at c.args.tasks.now c.args.place c.run_on.new.self

pub returns-in-On-clause-tasks : goal.returns-in-On-clause-tasks
returns-in-On-clause-tasks g c =
    settled-written c.args.patience (values c.args.machines.now) c.args.tasks.now.entries c.args.place
    c.in-Some.task.now c.run_on.new.self c.args.choice c.in-Some.ensures.value
    (c.run_on.ensures
    ∙ settled-on c.args.patience (values c.args.machines.now) c.in-On.machine c.index.result.now c.in-Some.task.now
    c.index.ensures
    ∙ ap (settled c.args.patience (values c.args.machines.now) c.in-Some.task.now) (sym c.in-On.is))

pub returns-in-Wait-clause-names : goal.returns-in-Wait-clause-names
returns-in-Wait-clause-names g c = keys-with_value_at c.args.tasks.now c.args.place c.wait_once_more.new.self

pub returns-in-Wait-clause-tasks : goal.returns-in-Wait-clause-tasks
returns-in-Wait-clause-tasks g c =
    settled-written c.args.patience (values c.args.machines.now) c.args.tasks.now.entries c.args.place
    c.in-Some.task.now c.wait_once_more.new.self c.args.choice c.in-Some.ensures.value
    (c.wait_once_more.ensures
    ∙ ap (settled c.args.patience (values c.args.machines.now) c.in-Some.task.now) (sym c.in-Wait.is))

never : {X : Type 0} (x : X) → None ≡ Some x → ⊥
never x e = cc

pub unreachable-requires : goal.unreachable-requires
unreachable-requires g c =
    let tasks : List Task = values c.args.tasks.now in
    never _ (c.in_default.ensures.value ∙ slice_get-get_or tasks c.args.place no_task c.requires.there)

pub index-requires : goal.index-requires
index-requires g c =
    subst (λ n. c.in-On.machine < n) (length-map c.args.machines.now.entries (λ (e : List ℕ × Machine). e.1))
    (subst (IsPlace (length (values c.args.machines.now))) c.in-On.is c.requires.machine)

pub returns-in-On-clause-running : goal.returns-in-On-clause-running
returns-in-On-clause-running g c = sym (ap (λ (choice : Choice). one_if (is_placed choice)) c.in-On.is)

pub returns-in-Wait-clause-running : goal.returns-in-Wait-clause-running
returns-in-Wait-clause-running g c = sym (ap (λ (choice : Choice). one_if (is_placed choice)) c.in-Wait.is)
