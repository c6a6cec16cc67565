use Rattle.firm_table.proofs.Books.{tenants_are_answered, strangers_are_answered, admissions_are_answered}
use Rattle.firm_table.proofs.Books.{admissions_find_no_memory, admissions_are_refused}
use Rattle.firm_table.proofs.Books.{retirements_are_answered, retirements_are_refused}
use Rattle.firm_table.proofs.Progress.{nothing_told, one_more, front_written, told_begins, all_is_written}
use Rattle.firm_table.proofs.Progress.{one_more_begins}
use Rattle.firm_table.proofs.laws.answers_add_up.Goals as goal

pub returns-clause-opening : goal.returns-clause-opening
returns-clause-opening c = nothing_told

pub returns-clause-one_more : goal.returns-clause-one_more
returns-clause-one_more c = one_more

pub returns-clause-written : goal.returns-clause-written
returns-clause-written c = front_written

pub returns-clause-begins : goal.returns-clause-begins
returns-clause-begins c = told_begins

pub returns-clause-answers : goal.returns-clause-answers
returns-clause-answers c = all_is_written

pub returns-clause-short : goal.returns-clause-short
returns-clause-short c = one_more_begins c.unmarked_steps_are_granted.ensures c.refuses_for_the_form.ensures

pub returns-clause-known : goal.returns-clause-known
returns-clause-known c = tenants_are_answered

pub returns-clause-unknown : goal.returns-clause-unknown
returns-clause-unknown c = strangers_are_answered

pub returns-clause-admitted : goal.returns-clause-admitted
returns-clause-admitted c = admissions_are_answered

pub returns-clause-no_memory : goal.returns-clause-no_memory
returns-clause-no_memory c = admissions_find_no_memory

pub returns-clause-not_admitted : goal.returns-clause-not_admitted
returns-clause-not_admitted c = admissions_are_refused

pub returns-clause-retired : goal.returns-clause-retired
returns-clause-retired c = retirements_are_answered

pub returns-clause-not_retired : goal.returns-clause-not_retired
returns-clause-not_retired c = retirements_are_refused
