use Rattle.std.proofs.Common.{◌∙◌, ◌<◌, ap, arith, length, subst, sym, List}
use Rattle.std.proofs.lemmas.List.Elements.{All-set}
use Rattle.firm_text.specs.Registers.{IsRegister, with_tenant}
use Rattle.firm_text.specs.declared.registers.Entry.{Entry}
use Rattle.firm_saved.specs.Saved.{AreGivenInOrder, IsSoundPlace}
use Rattle.firm_parts.proofs.Settling.{settled_found, wide}
use Rattle.firm_parts.proofs.joining.settle.Goals as goal

pub returns-in-Ok-clause-register : goal.returns-in-Ok-clause-register
returns-in-Ok-clause-register c =
    let places = c.args.places.now.items in
    let within : c.in-Ok.at < length places =
    omega (arith, c.in-Ok.ensures.within, wide places (subst IsRegister c.requires.register c.in-Ok.ensures.sound)) in
    c.in-Ok.ensures.admitted
    ∙ ap (λ (entries : List Entry). with_tenant entries c.in-Ok.at c.args.name) c.requires.register
    ∙ settled_found places c.in-Ok.at c.index.result.now (c.args.name, c.args.book) within c.index.ensures

pub returns-in-Ok-clause-books : goal.returns-in-Ok-clause-books
returns-in-Ok-clause-books c =
    All-set IsSoundPlace c.args.places.now.items c.in-Ok.at _ (c.as_bytes.ensures.formed, c.given.ensures.sound)
    c.requires.books

pub returns-in-Ok-clause-in_order : goal.returns-in-Ok-clause-in_order
returns-in-Ok-clause-in_order c =
    subst AreGivenInOrder (sym c.in-Ok.ensures.admitted)
    (c.places_are_given_in_order.ensures.admissions c.args.register.now c.args.name c.in-Ok.at c.in-Ok.ensures.sound
    c.requires.in_order (sym c.in-Ok.ensures.place))
