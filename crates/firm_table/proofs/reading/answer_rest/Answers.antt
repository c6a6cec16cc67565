use Rattle.std.proofs.Common.{◌≡◌, ◌∙◌, rules, sym, ap, subst, List, ℕ, [], ◌∷◌, ◌++◌, append-nil, true, false}
use Rattle.std.proofs.lemmas.Result.{on_ok_weaker, on_err_weaker}
use Rattle.firm_text.specs.declared.headings.Heading.{Heading}
use Rattle.firm_table.specs.Service.{BeginsAnswersFrom}
use Rattle.firm_table.proofs.Pieces.{input_last, rest_none, taken_line}
use Rattle.firm_table.proofs.reading.answer_rest.Goals as goal

pub returns-then-not-rest-clause-told : goal.returns-then-not-rest-clause-told
returns-then-not-rest-clause-told g c heard written h =
    let none : c.rest.result ≡ false = search rules in
    let empty = rest_none h.rest (sym (c.rest.ensures h.rest h.stands) ∙ none) in
    subst (λ (l : List ℕ). g.C.Clerk.told c.args.clerk.now l written (g.W.Sink.written c.args.writer.now))
    (sym (append-nil h.text) ∙ ap (λ (l : List ℕ). h.text ++ l) (sym empty) ∙ sym h.both) h.told

pub returns-clause-told : goal.returns-clause-told
returns-clause-told g c =
    let heading : Heading = (g.C.Clerk.opening c.args.clerk.now).heading in
    let some : c.rest.result ≡ true = search rules in
    on_ok_weaker c.answer.result (λ told. λ heard written h.
    subst (λ (l : List ℕ). g.C.Clerk.told c.answer.new.self l written (g.W.Sink.written c.answer.new.writer))
    (sym h.both)
    (told h.text (h.text ++ h.rest) written
    (input_last heading h.text h.rest h.ended h.stands.in_line (sym (c.rest.ensures h.rest h.stands) ∙ some)
    ∙ taken_line heading c.heading.result h.text h.rest c.take_under-line.result c.heading.ensures
    (c.take_under-line.ensures.line h.rest h.stands)) h.told))
    c.answer.ensures.told

pub returns-clause-begins : goal.returns-clause-begins
returns-clause-begins g c =
    let heading : Heading = (g.C.Clerk.opening c.args.clerk.now).heading in
    let some : c.rest.result ≡ true = search rules in
    on_err_weaker c.answer.result (λ begins. λ heard written h.
    subst (λ (l : List ℕ). BeginsAnswersFrom (g.C.Clerk.opening c.args.clerk.now) l written
    (g.W.Sink.written c.answer.new.writer)) (sym h.both)
    (begins h.text (h.text ++ h.rest) written
    (input_last heading h.text h.rest h.ended h.stands.in_line (sym (c.rest.ensures h.rest h.stands) ∙ some)
    ∙ taken_line heading c.heading.result h.text h.rest c.take_under-line.result c.heading.ensures
    (c.take_under-line.ensures.line h.rest h.stands)) h.told))
    c.answer.ensures.begins
