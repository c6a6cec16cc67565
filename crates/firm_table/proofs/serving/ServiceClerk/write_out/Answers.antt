use Rattle.std.proofs.lemmas.Result.{on_ok_weaker}
use Rattle.firm_table.proofs.Granting.{all_written_as}
use Rattle.firm_table.proofs.Progress.{partly_written, so_much_written, told_begins}
use Rattle.firm_table.proofs.Stops.{both_ok}
use Rattle.firm_table.proofs.serving.ServiceClerk.write_out.Goals as goal

pub returns-clause-told : goal.returns-clause-told
returns-clause-told g c =
    on_ok_weaker c.write_held.result
    (λ both text written told. all_written_as _ _ text _ written _ _ told both.0 both.1)
    (both_ok c.write_held.result _ _ c.write_held.ensures.ok c.write_held.ensures.empty)

pub returns-clause-begins : goal.returns-clause-begins
returns-clause-begins g c text written told =
    let part = so_much_written c.write_held.result _ _ _ c.write_held.ensures.ok c.write_held.ensures.err in
    told_begins _ text written _ (partly_written _ text written _ _ part.0 told.told part.1)
