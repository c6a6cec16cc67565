use Rattle.firm_table.proofs.Stays.{line_by_line, replies_are_alone, stays_are_isolated, stays_are_served_alone}
use Rattle.firm_table.proofs.Limited.{stays_open_with_limits}
use Rattle.firm_table.proofs.Lines.{stays_hold_their_lines, needs_no_marks}
use Rattle.firm_table.proofs.Beginnings.{admissions_are_isolated, stays_begin_anew}
use Rattle.firm_table.proofs.SameRow.{tenants_are_isolated}
use Rattle.firm_table.proofs.Unmarked.{may_go_unmarked}
use Rattle.firm_table.proofs.Machine.{events_keep_alone, stays_are_counted}
use Rattle.firm_table.proofs.Rows.{rows_stay}
use Rattle.firm_table.proofs.Agreeing.{events_are_isolated}
use Rattle.firm_table.proofs.laws.isolation.Goals as goal

pub returns-clause-line_by_line : goal.returns-clause-line_by_line
returns-clause-line_by_line c = line_by_line

pub returns-clause-limits : goal.returns-clause-limits
returns-clause-limits c = stays_open_with_limits

pub returns-clause-alone : goal.returns-clause-alone
returns-clause-alone c = replies_are_alone

pub returns-clause-isolated : goal.returns-clause-isolated
returns-clause-isolated c = stays_are_isolated

pub returns-clause-served_alone : goal.returns-clause-served_alone
returns-clause-served_alone c = stays_are_served_alone

pub returns-clause-lines : goal.returns-clause-lines
returns-clause-lines c = stays_hold_their_lines

pub returns-clause-anew : goal.returns-clause-anew
returns-clause-anew c = stays_begin_anew

pub returns-clause-tenants : goal.returns-clause-tenants
returns-clause-tenants c = tenants_are_isolated

pub returns-clause-admissions : goal.returns-clause-admissions
returns-clause-admissions c = admissions_are_isolated

pub returns-clause-no_marks : goal.returns-clause-no_marks
returns-clause-no_marks c = needs_no_marks

pub returns-clause-unmarked : goal.returns-clause-unmarked
returns-clause-unmarked c = may_go_unmarked c.unmarked_steps_are_granted.ensures c.refuses_for_the_form.ensures

pub returns-clause-events : goal.returns-clause-events
returns-clause-events c = events_keep_alone c.replies_tell_their_marks.ensures

pub returns-clause-rows : goal.returns-clause-rows
returns-clause-rows c = rows_stay

pub returns-clause-counted : goal.returns-clause-counted
returns-clause-counted c = stays_are_counted c.replies_tell_their_marks.ensures

pub returns-clause-agreeing : goal.returns-clause-agreeing
returns-clause-agreeing c = events_are_isolated c.replies_tell_their_marks.ensures
