use Rattle.std.proofs.Common.{◌≡◌, ◌+◌, ◌^◌, ◌<◌, ◌≤◌, List, [], ℕ, length, map, remove, sym, ap, subst, ◌∙◌, arith}
use Rattle.std.proofs.lemmas.List.{length-map}
use Rattle.std.proofs.lemmas.Option.{slice_get-get_or}
use Rattle.std.specs.Map.{values_of}
use Rattle.indexmap.proofs.SetLemmas.{map-remove}
use Rattle.firm_rules.specs.Book.{TenantRows, running_on}
use Rattle.firm_rules.specs.declared.book.Machine.{Machine}
use Rattle.firm_rules.specs.Placement.{Case}
use Rattle.firm_rules.specs.inner.Demands.{without_machine_at}
use Rattle.firm_rules.proofs.CaseKept.{few-rows, form-rows, kept, slots-counted, sound-rows}
use Rattle.firm_rules.proofs.CaseLaws.{case-without_machine}
use Rattle.firm_rules.proofs.TableLemmas.{tables-without_machine, arcs-at, running-drained, read-name}
use Rattle.firm_rules.proofs.tables.Rows.drain.Goals as goal

pub invariant_of-self : goal.invariant_of-self
invariant_of-self g c =
    let all = tables-without_machine c.self.invariant.tables c.self.view_is c.args.place
    c.shift_remove_index.ensures.entries
    c.shift_remove_index.ensures.unique (sym c.in-Some.is ∙ c.shift_remove_index.ensures.entry) c.requires.there
    c.evict-departure.ensures.names c.evict-departure.ensures.tasks (c.from.ensures ∙ c.get.ensures.value)
    c.evict-departure.ensures.preferences (c.from-2.ensures ∙ c.evict-departure.ensures.count) in
    record {
      tables = all.tables;
      case = kept (λ (case : Case). let k : Case = record case {
        slots = remove case.slots c.args.place;
        tasks = map (without_machine_at c.args.place) case.tasks;
      } in k)
          c.self.invariant.case c.self.view_is c.drop_machine.ensures
          (case-without_machine c.args.self.now (sound-rows c.self.invariant c.self.view_is)
          (form-rows c.self.invariant c.self.view_is) c.args.place c.requires.there) all.view;
    }

pub drop_machine-requires : goal.drop_machine-requires
drop_machine-requires g c =
    omega (arith, c.requires.there, slots-counted c.self.invariant c.self.view_is)

pub returns-clause-rows : goal.returns-clause-rows
returns-clause-rows g c =
    (tables-without_machine c.self.invariant.tables c.self.view_is c.args.place c.shift_remove_index.ensures.entries
    c.shift_remove_index.ensures.unique (sym c.in-Some.is ∙ c.shift_remove_index.ensures.entry) c.requires.there
    c.evict-departure.ensures.names c.evict-departure.ensures.tasks (c.from.ensures ∙ c.get.ensures.value)
    c.evict-departure.ensures.preferences (c.from-2.ensures ∙ c.evict-departure.ensures.count)).view

pub returns-clause-sound : goal.returns-clause-sound
returns-clause-sound g c =
    (tables-without_machine c.self.invariant.tables c.self.view_is c.args.place c.shift_remove_index.ensures.entries
    c.shift_remove_index.ensures.unique (sym c.in-Some.is ∙ c.shift_remove_index.ensures.entry) c.requires.there
    c.evict-departure.ensures.names c.evict-departure.ensures.tasks (c.from.ensures ∙ c.get.ensures.value)
    c.evict-departure.ensures.preferences (c.from-2.ensures ∙ c.evict-departure.ensures.count)).tables.sound

pub overflow_sub-self : goal.overflow_sub-self
overflow_sub-self g c = omega (
  arith,
  c.from.ensures ∙ c.get.ensures.value,
  (arcs-at c.self.invariant.tables c.self.view_is c.args.place c.in-Some.field-0-0 c.in-Some.machine
      (sym c.in-Some.is ∙ c.shift_remove_index.ensures.entry) c.requires.there),
)

pub overflow_sub-self-2 : goal.overflow_sub-self-2
overflow_sub-self-2 g c = omega (
  arith,
  c.from-2.ensures,
  (running-drained c.self.invariant.tables c.self.view_is c.in-Some.machine.name c.evict-departure.result.evicted
      c.evict-departure.ensures.count),
)

pub returns-clause-machines : goal.returns-clause-machines
returns-clause-machines g c =
    ap values_of c.shift_remove_index.ensures.entries
    ∙ map-remove (λ (e : List ℕ × Machine). e.1) c.self.inside.machines.entries c.args.place
    ∙ ap (λ (rows : TenantRows). remove rows.machines c.args.place) c.self.view_is

pub returns-clause-evicted : goal.returns-clause-evicted
returns-clause-evicted g c =
    c.evict-departure.ensures.count
    ∙ ap (λ (rows : TenantRows). running_on rows c.in-Some.machine.name) c.self.view_is
    ∙ ap (running_on c.args.self.now)
    (read-name c.self.invariant.tables c.self.view_is c.args.place c.in-Some.field-0-0 c.in-Some.machine
    (sym c.in-Some.is ∙ c.shift_remove_index.ensures.entry) c.requires.there)

pub unreachable-requires : goal.unreachable-requires
unreachable-requires g c =
    let entries : List (List ℕ × Machine) = c.self.inside.machines.entries in
    let none : Machine = record { name = []; slots = 0 } in
    c.in_default.not-Some _ (c.shift_remove_index.ensures.entry ∙ slice_get-get_or entries c.args.place ([], none)
    (subst (λ n. c.args.place < n)
    (sym (ap (λ (rows : TenantRows). length rows.machines) c.self.view_is)
    ∙ length-map entries (λ (e : List ℕ × Machine). e.1)) c.requires.there))

small : (machines jobs tasks count : ℕ) → machines + jobs + tasks ≤ 4096 → count ≡ tasks → count < 2 ^ 32
small machines jobs tasks count few is = omega (arith, few, is)

pub evict-departure-requires : goal.evict-departure-requires
evict-departure-requires g c =
    let rows : TenantRows = c.args.self.now in
    record {
      few = small (length rows.machines) (length rows.jobs) (length rows.tasks)
          (length (values_of c.self.inside.tasks.entries)) (few-rows c.self.invariant c.self.view_is)
          (ap (λ (r : TenantRows). length r.tasks) c.self.view_is);
    }
