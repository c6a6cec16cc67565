use Rattle.std.proofs.Common.{◌∙◌, ap, refl, ◌++◌, ◌∷◌, []}
use Rattle.firm_text.specs.Inputs.{input_lines}
use Rattle.firm_text.specs.declared.inputs.Line.{Line}
use Rattle.firm_text.specs.declared.inputs.Line.TheVariants.{Long, Nameless}
use Rattle.firm_table.specs.declared.answers.LineAnswer.TheVariants.{LineTooLong, ToOperator, UnknownTenant}
use Rattle.firm_hall.proofs.Taking.{known_stands, known_told, nothing_told}
use Rattle.firm_hall.proofs.serving.Serving.take_line.Goals as goal

pub returns-in-Nothing-clause-takes : goal.returns-in-Nothing-clause-takes
returns-in-Nothing-clause-takes g c opening =
    let s = c.args.self.now in
    nothing_told c.answers_add_up.ensures.one_more opening s.register s.desk_states s.answers s.output c.args.line
    c.in-Nothing.is

pub returns-in-Long-clause-takes : goal.returns-in-Long-clause-takes
returns-in-Long-clause-takes g c =
    let s = c.self.inside in
    rw (← c.self.view_is, c.push.ensures)
    (λ opening text after written now more told.
    known_told c.answers_add_up.ensures.one_more opening s.register s.desk_states.items s.held.answers s.held.output
    Long LineTooLong (λ books. record { answers = λ places shows. refl; leaves = λ places shows. shows }) refl text
    after written now (more ∙ ap (λ (l : Line). input_lines opening.heading text ++ l ∷ []) c.in-Long.is) told)

pub invariant_of-self : goal.invariant_of-self
invariant_of-self g c =
    let s = c.self.inside in
    rw c.push.ensures
    (known_stands s.hall.value.id s.register s.desk_states.items s.held LineTooLong c.self.invariant)

pub returns-in-Nameless-clause-takes : goal.returns-in-Nameless-clause-takes
returns-in-Nameless-clause-takes g c =
    let s = c.self-in-Nameless.inside in
    rw (← c.self-in-Nameless.view_is, c.push-in-Nameless.ensures)
    (λ opening text after written now more told.
    known_told c.answers_add_up.ensures.one_more opening s.register s.desk_states.items s.held.answers s.held.output
    Nameless UnknownTenant (λ books. record { answers = λ places shows. refl; leaves = λ places shows. shows }) refl
    text after written now (more ∙ ap (λ (l : Line). input_lines opening.heading text ++ l ∷ []) c.in-Nameless.is) told)

pub invariant_of-self-in-Nameless : goal.invariant_of-self-in-Nameless
invariant_of-self-in-Nameless g c =
    let s = c.self-in-Nameless.inside in
    rw c.push-in-Nameless.ensures
    (known_stands s.hall.value.id s.register s.desk_states.items s.held UnknownTenant c.self-in-Nameless.invariant)

pub returns-in-For-clause-takes : goal.returns-in-For-clause-takes
returns-in-For-clause-takes g c opening text after written now more told =
    c.command.ensures.takes opening text after written now
    (more ∙ ap (λ (l : Line). input_lines opening.heading text ++ l ∷ []) c.in-For.is) told

pub returns-in-Operator-clause-takes : goal.returns-in-Operator-clause-takes
returns-in-Operator-clause-takes g c opening text after written now more told =
    let obeyed = c.obey-reply.ensures.obeys opening text after written now
    (more ∙ ap (λ (l : Line). input_lines opening.heading text ++ l ∷ []) c.in-Operator.is) told in
    rw c.push-in-Operator.ensures (rw (← c.self-in-Operator.view_is) at obeyed)

pub invariant_of-self-in-Operator : goal.invariant_of-self-in-Operator
invariant_of-self-in-Operator g c =
    let s = c.self-in-Operator.inside in
    rw c.push-in-Operator.ensures
    (known_stands s.hall.value.id s.register s.desk_states.items s.held (ToOperator c.obey-reply.result)
    c.self-in-Operator.invariant)
