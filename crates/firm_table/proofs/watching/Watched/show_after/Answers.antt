use Rattle.std.proofs.Common.{List, refl, subst}
use Rattle.firm_table.specs.Opened.{Opened}
use Rattle.firm_table.specs.Service.{BeginsAnswersFrom}
use Rattle.firm_table.proofs.Progress.{told_begins}
use Rattle.firm_table.proofs.watching.Watched.show_after.Goals as goal

pub returns-in-Err-clause-begins : goal.returns-in-Err-clause-begins
returns-in-Err-clause-begins g c text written told =
    subst (λ (o : Opened). BeginsAnswersFrom o text written (g.W.Sink.written c.finish.new.writer))
    c.in_ok-finish.ensures.opening (told_begins _ text written _ (c.in_ok-finish.ensures.told text written told).told)

pub returns-then-not-has_solved-clause-told : goal.returns-then-not-has_solved-clause-told
returns-then-not-has_solved-clause-told g c = λ text written told. told

pub returns-then-not-has_solved-clause-begins : goal.returns-then-not-has_solved-clause-begins
returns-then-not-has_solved-clause-begins g c = tt

pub returns-then-not-has_solved-clause-cause : goal.returns-then-not-has_solved-clause-cause
returns-then-not-has_solved-clause-cause g c = tt

pub returns-then-not-has_solved-clause-well : goal.returns-then-not-has_solved-clause-well
returns-then-not-has_solved-clause-well g c = c.requires

pub returns-then-not-has_solved-clause-opening : goal.returns-then-not-has_solved-clause-opening
returns-then-not-has_solved-clause-opening g c = refl
