use Rattle.std.proofs.Common.{◌≡◌, ℕ, Some, None, Ok, Err, Option, refl, arith}
use Rattle.std.specs.Option.{ok_or}
use Rattle.firm_text.specs.Registers.{admissions_at, place_in, vacant}
use Rattle.firm_text.specs.declared.operator.OperatorRefusal.{OperatorRefusal}
use Rattle.firm_text.specs.declared.operator.OperatorRefusal.TheVariants.{NoSuchTenant}
use Rattle.firm_table.specs.Tenants.{tenants_are}
use Rattle.firm_table.proofs.Books.{retirements_are_answered, retirements_are_refused}
use Rattle.firm_table.proofs.Seated.{seated_within, seated_set}
use Rattle.firm_table.proofs.tenants.Tenants.retire.Goals as goal

-- the tenant's place by the register's answer
found_some : (found : Option ℕ) (at : ℕ) → Ok at ≡ ok_or {E = OperatorRefusal} found NoSuchTenant → found ≡ Some at
found_some None at e = absurd (cc)
found_some (Some place) at e = cc

found_none : (found : Option ℕ) (refusal : OperatorRefusal) → Err refusal ≡ ok_or found NoSuchTenant → (found ≡ None)
    × (refusal ≡ NoSuchTenant)
found_none None refusal e = (refl, cc)
found_none (Some place) refusal e = absurd (cc)

pub index_mut-requires : goal.index_mut-requires
index_mut-requires c =
    let low =
    seated_within c.self.inside.register c.self.inside.places.items c.self.invariant.books c.retire.ensures.sound
    c.in-Ok.place c.in-Ok.ensures.within in
    omega (arith, low, c.self.inside.places.ok.0)

pub invariant_of-self : goal.invariant_of-self
invariant_of-self c =
    let register = c.self.inside.register in
    rw (c.in-Ok.ensures.retired) (record {
      books = seated_set register c.self.inside.places.items c.self.invariant.books c.in-Ok.place
          (vacant (admissions_at register c.in-Ok.place)) None refl;
      in_order = c.places_are_given_in_order.ensures.retirements register c.in-Ok.place c.self.invariant.in_order;
    })

pub returns-in-Ok : goal.returns-in-Ok
returns-in-Ok c =
    let register = c.self.inside.register in
    let found = found_some (place_in register c.args.name) c.in-Ok.place c.in-Ok.ensures.place in
    rw (← c.self.view_is, c.in-Ok.ensures.retired)
    (retirements_are_answered
    (tenants_are register c.self.inside.places.items) c.args.name c.in-Ok.place c.retire.ensures.sound found)

pub returns-in-Err : goal.returns-in-Err
returns-in-Err c =
    let register = c.self.inside.register in
    let none = found_none (place_in register c.args.name) c.in-Err.refusal c.in-Err.ensures.place in
    rw (← c.self.view_is, c.in-Err.ensures.unchanged, none.1)
    (retirements_are_refused (tenants_are register c.self.inside.places.items) c.args.name none.0)
