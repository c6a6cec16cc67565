use Rattle.std.proofs.Common.{◌≡◌, ◌+◌, List, Some, Ok, refl, subst, sym, arith}
use Rattle.firm_text.specs.Registers.{admissions_at, occupied, place_for}
use Rattle.firm_text.specs.declared.registers.Entry.{Entry}
use Rattle.firm_table.specs.Tenants.{AreSoundTenants, tenants_are}
use Rattle.firm_table.proofs.Books.{admissions_are_answered, admissions_find_no_memory}
use Rattle.firm_table.proofs.Seated.{seated_within, seated_set}
use Rattle.firm_table.proofs.tenants.Tenants.admit.Goals as goal

-- where memory is refused, the register is as it was
undone : (c : goal.After-undo) → c.undo.new.self ≡ c.self.inside.register
undone c =
    c.undo.ensures c.self.inside.register c.args.name
    (record { given = sym c.in-Ok.ensures.place; led = c.in-Ok.ensures.admitted })

pub invariant_of-self-in_default : goal.invariant_of-self-in_default
invariant_of-self-in_default c =
    subst (λ (register : List Entry). AreSoundTenants (tenants_are register c.self.inside.places.items))
    (sym (undone c)) c.self.invariant

pub returns-in_default : goal.returns-in_default
returns-in_default c =
    let tenants = tenants_are c.self.inside.register c.self.inside.places.items in
    rw (← c.self.view_is, undone c)
    (admissions_find_no_memory tenants c.args.name c.args.limits c.in-Ok.place (sym c.in-Ok.ensures.place))

pub invariant_of-self-2 : goal.invariant_of-self-2
invariant_of-self-2 c =
    let register = c.self.inside.register in
    rw (c.in-Ok.ensures.admitted) (record {
      books = seated_set register c.self.inside.places.items c.self.invariant.books c.in-Ok.place
          (occupied c.args.name (admissions_at register c.in-Ok.place + 1)) (Some c.in-Ok-admit.tenant) refl;
      in_order = c.places_are_given_in_order.ensures.admissions register c.args.name c.in-Ok.place
          c.admit.ensures.sound c.self.invariant.in_order (sym c.in-Ok.ensures.place);
    })

pub index_mut-requires : goal.index_mut-requires
index_mut-requires c =
    let low =
    seated_within c.self.inside.register c.self.inside.places.items c.self.invariant.books c.admit.ensures.sound
    c.in-Ok.place c.in-Ok.ensures.within in
    omega (arith, low, c.self.inside.places.ok.0)

pub returns : goal.returns
returns c =
    let tenants = tenants_are c.self.inside.register c.self.inside.places.items in
    let given : place_for c.self.inside.register c.args.name ≡ Ok c.in-Ok.place = sym c.in-Ok.ensures.place in
    rw (← c.self.view_is, c.in-Ok.ensures.admitted, c.in-Ok-admit.ensures)
    (admissions_are_answered tenants c.args.name c.args.limits c.in-Ok.place given)
