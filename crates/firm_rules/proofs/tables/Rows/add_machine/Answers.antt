use Rattle.std.proofs.Common.{ℕ, ◌≡◌, ◌≤◌, ◌+◌, List, ◌++◌, ◌∷◌, [], refl, ap, subst, arith, ◌∙◌}
use Rattle.std.specs.Map.{keys_of}
use Rattle.firm_rules.specs.Book.{TenantRows, machine_names}
use Rattle.firm_rules.specs.Names.{is_among}
use Rattle.firm_rules.specs.Placement.{Case}
use Rattle.firm_rules.specs.declared.book.Machine.{Machine}
use Rattle.firm_rules.proofs.TableLemmas.{tables-with_machine}
use Rattle.firm_rules.proofs.CaseKept.{kept, sound-rows, unchanged, room-for_machine, arcs-few, few-fit}
use Rattle.firm_rules.proofs.CaseLaws.{case-with_machine}
use Rattle.firm_rules.proofs.tables.Rows.add_machine.Goals as goal

pub invariant_of-self-2 : goal.invariant_of-self-2
invariant_of-self-2 g c =
    let machine : Machine = record { name = c.args.name; slots = c.args.slots } in
    let all = tables-with_machine c.self.invariant.tables c.self.view_is c.args.name c.args.slots
    (c.add_last.ensures.entries
    ∙ ap (λ (l : List (List ℕ × Machine)). l ++ (c.args.name, machine) ∷ []) c.make_room.ensures.entries)
    c.add_last.ensures.unique c.requires.new_name c.requires.fits
    (subst (λ n. 1 ≤ n) c.get.ensures.value c.get.ensures.least)
    (subst (λ n. n ≤ 64) c.get.ensures.value c.get.ensures.most) (c.from-arcs.ensures ∙ c.get.ensures.value)
    c.as_bytes.ensures.formed in
    record {
      tables = all.tables;
      case = kept (λ (case : Case). let k : Case = record case { slots = case.slots ++ c.args.slots ∷ [] } in k)
          c.self.invariant.case c.self.view_is c.in_ok-add_machine.ensures.ok
          (case-with_machine c.args.self.now (sound-rows c.self.invariant c.self.view_is) c.args.name c.args.slots)
          all.view;
    }

pub returns : goal.returns
returns g c =
    let machine : Machine = record { name = c.args.name; slots = c.args.slots } in
    let all = tables-with_machine c.self.invariant.tables c.self.view_is c.args.name c.args.slots
    (c.add_last.ensures.entries
    ∙ ap (λ (l : List (List ℕ × Machine)). l ++ (c.args.name, machine) ∷ []) c.make_room.ensures.entries)
    c.add_last.ensures.unique c.requires.new_name c.requires.fits
    (subst (λ n. 1 ≤ n) c.get.ensures.value c.get.ensures.least)
    (subst (λ n. n ≤ 64) c.get.ensures.value c.get.ensures.most) (c.from-arcs.ensures ∙ c.get.ensures.value)
    c.as_bytes.ensures.formed in
    record { ok = all.view; err = tt; sound = all.tables.sound }

pub add_machine-requires : goal.add_machine-requires
add_machine-requires g c =
    room-for_machine c.self.invariant c.self.view_is c.args.name c.args.slots c.requires.fits

pub invariant_of-self : goal.invariant_of-self
invariant_of-self g c = unchanged c.self.invariant c.make_room.ensures.entries refl refl refl

pub returns-in_err-make_room-clause-sound : goal.returns-in_err-make_room-clause-sound
returns-in_err-make_room-clause-sound g c =
    (unchanged c.self.invariant c.make_room.ensures.entries refl refl refl).tables.sound

pub invariant_of-self-in_err-add_machine : goal.invariant_of-self-in_err-add_machine
invariant_of-self-in_err-add_machine g c =
    unchanged c.self.invariant c.make_room.ensures.entries refl refl c.in_err-add_machine.ensures.err

pub returns-in_err-add_machine-clause-sound : goal.returns-in_err-add_machine-clause-sound
returns-in_err-add_machine-clause-sound g c =
    (unchanged c.self.invariant c.make_room.ensures.entries refl refl c.in_err-add_machine.ensures.err).tables.sound

pub add_last-requires-clause-new_name : goal.add_last-requires-clause-new_name
add_last-requires-clause-new_name g c =
    ap (λ (l : List (List ℕ × Machine)). is_among (keys_of l) c.args.name) c.make_room.ensures.entries
    ∙ ap (λ (names : List (List ℕ)). is_among names c.args.name) c.self.invariant.tables.machines_by_name
    ∙ ap (λ (rows : TenantRows). is_among (machine_names rows) c.args.name) c.self.view_is ∙ c.requires.new_name

few : (wide got : ℕ) → wide ≡ got → got ≤ 64 → wide ≤ 65536
few wide got is most = omega (arith, is, most)

next : (wide got : ℕ) → wide ≡ got → got ≤ 64 → 1 + wide ≤ 65536
next wide got is most = omega (arith, is, most)

least : 1 ≤ 65536
least = omega arith

pub overflow_add-arcs : goal.overflow_add-arcs
overflow_add-arcs g c =
    few-fit 1 c.from-arcs.result least
    (few c.from-arcs.result c.get.result c.from-arcs.ensures c.get.ensures.most)

pub overflow_add-self : goal.overflow_add-self
overflow_add-self g c =
    few-fit c.self.inside.machine_arc_count (1 + c.from-arcs.result) (arcs-few c.self.invariant c.self.view_is)
    (next c.from-arcs.result c.get.result c.from-arcs.ensures c.get.ensures.most)
