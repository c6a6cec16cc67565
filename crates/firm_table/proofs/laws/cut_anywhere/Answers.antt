use Rattle.firm_table.proofs.Cuts.{saved_is_kept, answers_go_on_from, states_go_on_from}
use Rattle.firm_table.proofs.Texts.{texts_are_cut, texts_are_joined, outputs_go_on_from}
use Rattle.firm_table.proofs.laws.cut_anywhere.Goals as goal

pub returns-clause-kept : goal.returns-clause-kept
returns-clause-kept c = saved_is_kept

pub returns-clause-answers : goal.returns-clause-answers
returns-clause-answers c = answers_go_on_from

pub returns-clause-states : goal.returns-clause-states
returns-clause-states c = states_go_on_from

pub returns-clause-texts : goal.returns-clause-texts
returns-clause-texts c = texts_are_cut

pub returns-clause-joined : goal.returns-clause-joined
returns-clause-joined c = texts_are_joined

pub returns-clause-outputs : goal.returns-clause-outputs
returns-clause-outputs c = outputs_go_on_from
