use Rattle.std.proofs.Common.{◌<◌, List, [], None, ℕ, length, remove, sym, ap, subst, ◌∙◌, arith}
use Rattle.std.proofs.lemmas.List.{length-map}
use Rattle.std.proofs.lemmas.Option.{slice_get-get_or}
use Rattle.std.specs.Map.{values_of}
use Rattle.indexmap.proofs.SetLemmas.{map-remove}
use Rattle.firm_rules.specs.Book.{TenantRows}
use Rattle.firm_rules.specs.declared.book.Task.{Task}
use Rattle.firm_rules.proofs.SoundRows.{one_if, one_if-from_bool}
use Rattle.firm_rules.specs.Placement.{Case}
use Rattle.firm_rules.proofs.CaseKept.{kept, sound-rows, tasks-counted}
use Rattle.firm_rules.proofs.CaseLaws.{case-without_task}
use Rattle.firm_rules.proofs.TableLemmas.{tables-without_task, running-at, preferences-at}
use Rattle.firm_rules.proofs.tables.Rows.remove_task.Goals as goal

pub overflow_sub-self : goal.overflow_sub-self
overflow_sub-self g c =
    omega (
      arith,
      c.len.ensures.value,
      preferences-at c.self.invariant.tables c.self.view_is c.args.place c.in-Some.field-0-0 c.in-Some.task
          (sym c.in-Some.is ∙ c.shift_remove_index.ensures.entry) c.requires.there,
    )

pub overflow_sub-self-2 : goal.overflow_sub-self-2
overflow_sub-self-2 g c =
    omega (
      arith,
      c.from.ensures ∙ one_if-from_bool c.is_some.result ∙ ap one_if c.is_some.ensures,
      running-at c.self.invariant.tables c.self.view_is c.args.place c.in-Some.field-0-0 c.in-Some.task
          (sym c.in-Some.is ∙ c.shift_remove_index.ensures.entry) c.requires.there,
    )

pub invariant_of-self : goal.invariant_of-self
invariant_of-self g c =
    let all = tables-without_task c.self.invariant.tables c.self.view_is c.args.place
    c.shift_remove_index.ensures.entries
    c.shift_remove_index.ensures.unique (sym c.in-Some.is ∙ c.shift_remove_index.ensures.entry) c.requires.there
    c.len.ensures.value (c.from.ensures ∙ one_if-from_bool c.is_some.result ∙ ap one_if c.is_some.ensures) in
    record {
      tables = all.tables;
      case = kept (λ (case : Case). let k : Case = record case { tasks = remove case.tasks c.args.place } in k)
          c.self.invariant.case c.self.view_is c.drop_task.ensures
          (case-without_task c.args.self.now (sound-rows c.self.invariant c.self.view_is) c.args.place
          c.requires.there) all.view;
    }

pub drop_task-requires : goal.drop_task-requires
drop_task-requires g c =
    omega (arith, c.requires.there, tasks-counted c.self.invariant c.self.view_is)

pub returns-clause-rows : goal.returns-clause-rows
returns-clause-rows g c =
    (tables-without_task c.self.invariant.tables c.self.view_is c.args.place c.shift_remove_index.ensures.entries
    c.shift_remove_index.ensures.unique (sym c.in-Some.is ∙ c.shift_remove_index.ensures.entry) c.requires.there
    c.len.ensures.value (c.from.ensures ∙ one_if-from_bool c.is_some.result ∙ ap one_if c.is_some.ensures)).view

pub returns-clause-sound : goal.returns-clause-sound
returns-clause-sound g c =
    (tables-without_task c.self.invariant.tables c.self.view_is c.args.place c.shift_remove_index.ensures.entries
    c.shift_remove_index.ensures.unique (sym c.in-Some.is ∙ c.shift_remove_index.ensures.entry) c.requires.there
    c.len.ensures.value (c.from.ensures ∙ one_if-from_bool c.is_some.result ∙ ap one_if c.is_some.ensures)).tables.sound

pub returns-clause-tasks : goal.returns-clause-tasks
returns-clause-tasks g c =
    ap values_of c.shift_remove_index.ensures.entries
    ∙ map-remove (λ (e : List ℕ × Task). e.1) c.self.inside.tasks.entries c.args.place
    ∙ ap (λ (rows : TenantRows). remove rows.tasks c.args.place) c.self.view_is

pub unreachable-requires : goal.unreachable-requires
unreachable-requires g c =
    let entries : List (List ℕ × Task) = c.self.inside.tasks.entries in
    let none : Task = record { name = []; job = []; preferred = []; machine = None; waited = 0 } in
    c.in_default.not-Some _ (c.shift_remove_index.ensures.entry ∙ slice_get-get_or entries c.args.place ([], none)
    (subst (λ n. c.args.place < n)
    (sym (ap (λ (rows : TenantRows). length rows.tasks) c.self.view_is)
    ∙ length-map entries (λ (e : List ℕ × Task). e.1)) c.requires.there))
