use Rattle.std.proofs.lemmas.Result.{on_ok_weaker, on_err_weaker}
use Rattle.firm_table.proofs.Granting.{all_written_as}
use Rattle.firm_table.proofs.Progress.{all_is_written, partly_written, told_begins}
use Rattle.firm_table.proofs.Stops.{both_ok}
use Rattle.firm_table.proofs.serving.ServiceClerk.finish.Goals as goal

pub returns-clause-told : goal.returns-clause-told
returns-clause-told g c =
    on_ok_weaker c.write_held.result
    (λ both text written told. all_written_as _ _ text _ written _ _ told both.0 both.1)
    (both_ok c.write_held.result _ _ c.write_held.ensures.ok c.write_held.ensures.empty)

pub returns-clause-answers : goal.returns-clause-answers
returns-clause-answers g c =
    on_ok_weaker c.write_held.result
    (λ both text written told. all_is_written _ text written _
    (all_written_as _ _ text _ written _ _ told both.0 both.1).told both.1)
    (both_ok c.write_held.result _ _ c.write_held.ensures.ok c.write_held.ensures.empty)

pub returns-clause-begins : goal.returns-clause-begins
returns-clause-begins g c =
    on_err_weaker c.write_held.result
    (λ part text written told. told_begins _ text written _ (partly_written _ text written _ _ part.0 told.told part.2))
    c.write_held.ensures.err
