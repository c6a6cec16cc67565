use Rattle.std.proofs.Common.{◌≡◌, ℕ, List, ◌++◌, ◌∷◌, []}
use Rattle.std.specs.Prelude.{Option}
use Rattle.firm_text.specs.Inputs.{input_lines}
use Rattle.firm_table.specs.Openings.{opened}
use Rattle.firm_table.specs.Service.{BeginsAnswersFrom}
use Rattle.firm_hall.specs.inner.Serving.{TellsAll}
use Rattle.firm_hall.proofs.Giving.{on_err_always}
use Rattle.firm_hall.proofs.Telling.{begun_more}
use Rattle.firm_hall.proofs.clerk.HallClerkClerk.answer.Goals as goal

pub returns-in_err-take_turn-clause-begins : goal.returns-in_err-take_turn-clause-begins
returns-in_err-take_turn-clause-begins g c =
    let opening = opened c.args.self.now.opening in
    let begins : (text after : List ℕ) (written : Option (List ℕ))
    → input_lines opening.heading after ≡ input_lines opening.heading text ++ c.args.line ∷ []
    → TellsAll opening c.args.self.now.serving text written (g.W.Sink.written c.args.writer.now)
    → BeginsAnswersFrom opening after written (g.W.Sink.written c.take_turn.new.writer) =
    λ text after written more told.
    begun_more c.answers_add_up.ensures.short opening text after written _ c.args.line more
    (c.in_err-take_turn.ensures.begins opening text written told) in
    on_err_always _ begins

pub returns-clause-told : goal.returns-clause-told
returns-clause-told g c text after written more told =
    let opening = opened c.args.self.now.opening in
    c.take_line.ensures.takes opening text after written _ more
    (c.in_ok-take_turn.ensures.told opening text written told)
