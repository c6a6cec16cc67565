use Rattle.std.proofs.Common.{◌∙◌, ap, ◌++◌, ◌∷◌, []}
use Rattle.firm_text.specs.Inputs.{input_lines}
use Rattle.firm_text.specs.declared.inputs.Line.TheVariants.{Operator}
use Rattle.firm_text.specs.declared.operator.OperatorLine.{OperatorLine}
use Rattle.firm_hall.proofs.Obeying.{faulty_told}
use Rattle.firm_hall.proofs.serving.Serving.obey.Goals as goal

pub returns-in-Faulty-clause-obeys : goal.returns-in-Faulty-clause-obeys
returns-in-Faulty-clause-obeys c opening text after written now more told =
    let s = c.args.self.now in
    faulty_told c.answers_add_up.ensures.one_more opening s.register s.desk_states s.answers s.output
    c.in-Faulty.refusal text after written now
    (more ∙ ap (λ (request : OperatorLine). input_lines opening.heading text ++ Operator request ∷ []) c.in-Faulty.is)
    told

pub returns-in-Admit-clause-obeys : goal.returns-in-Admit-clause-obeys
returns-in-Admit-clause-obeys c opening text after written now more told =
    c.admit.ensures.obeys opening text after written now (more
    ∙ ap (λ (request : OperatorLine). input_lines opening.heading text ++ Operator request ∷ []) c.in-Admit.is) told

pub returns-in-Retire-clause-obeys : goal.returns-in-Retire-clause-obeys
returns-in-Retire-clause-obeys c opening text after written now more told =
    c.retire.ensures.obeys opening text after written now (more
    ∙ ap (λ (request : OperatorLine). input_lines opening.heading text ++ Operator request ∷ []) c.in-Retire.is) told
