use Rattle.std.proofs.Common.{◌≡◌, [], Option, Some, None, refl, length, sym, ap, ◌∙◌}
use Rattle.std.proofs.lemmas.List.{get_or-map}
use Rattle.std.proofs.lemmas.Option.{get_or_from_slice_get}
use Rattle.firm_rules.specs.declared.book.Machine.{Machine}
use Rattle.firm_rules.proofs.CaseLists.{read_below}
use Rattle.firm_rules.proofs.changes.name_of.Goals as goal

apart : {X : Type 0} (o : Option X) (x : X) → o ≡ Some x → o ≡ None → ⊥
apart o x one other = cc

pub unreachable-requires : goal.unreachable-requires
unreachable-requires g c =
    let none : Machine = record { name = []; slots = 0 } in
    apart c.machine_at.result _ (c.machine_at.ensures ∙ read_below c.args.rows.now.machines c.args.place
    (length c.args.rows.now.machines) none c.requires refl) c.in-None.is

pub returns : goal.returns
returns g c =
    let machines = c.args.rows.now.machines in
    let it : Machine = c.in-Some.machine in
    sym (get_or-map (λ (machine : Machine). machine.name) machines c.args.place it [] c.requires
    ∙ ap (λ (machine : Machine). machine.name)
    (get_or_from_slice_get machines c.args.place it it (sym c.machine_at.ensures ∙ c.in-Some.is)))
