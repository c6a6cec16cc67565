use Rattle.std.proofs.Common.{◌≡◌, ◌∙◌, None, sym}
use Rattle.firm_text.specs.Registers.{place_in}
use Rattle.firm_table.specs.declared.answers.LineAnswer.TheVariants.{UnknownTenant}
use Rattle.firm_hall.proofs.Taking.{known_stands, stranger_told}
use Rattle.firm_hall.proofs.serving.Serving.command.Goals as goal

pub returns-in_default-clause-takes : goal.returns-in_default-clause-takes
returns-in_default-clause-takes g c =
    let s = c.self.inside in
    let none : place_in s.register c.args.name ≡ None = sym c.place_of.ensures.place ∙ c.in_default.is in
    rw (← c.self.view_is, c.push.ensures)
    (λ opening. stranger_told c.answers_add_up.ensures.one_more c.answers_add_up.ensures.unknown opening s.register
    s.desk_states.items s.held.answers s.held.output c.args.name c.args.command none)

pub invariant_of-self : goal.invariant_of-self
invariant_of-self g c =
    let s = c.self.inside in
    rw c.push.ensures
    (known_stands s.hall.value.id s.register s.desk_states.items s.held UnknownTenant c.self.invariant)

pub hold-requires-clause-sound : goal.hold-requires-clause-sound
hold-requires-clause-sound g c = rw (← c.self.view_is) c.place_of.ensures.sound

pub hold-requires-clause-found : goal.hold-requires-clause-found
hold-requires-clause-found g c = rw (← c.self.view_is) (sym c.place_of.ensures.place ∙ c.in-Some.is)

pub take-requires-clause-sound : goal.take-requires-clause-sound
take-requires-clause-sound g c = rw (← c.self.view_is) c.place_of.ensures.sound

pub take-requires-clause-found : goal.take-requires-clause-found
take-requires-clause-found g c = rw (← c.self.view_is) (sym c.place_of.ensures.place ∙ c.in-Some.is)

pub tell-requires-clause-sound : goal.tell-requires-clause-sound
tell-requires-clause-sound g c = rw (← c.self.view_is) c.place_of.ensures.sound

pub tell-requires-clause-found : goal.tell-requires-clause-found
tell-requires-clause-found g c = rw (← c.self.view_is) (sym c.place_of.ensures.place ∙ c.in-Some.is)
