use Rattle.firm_table.proofs.Saving.{rosters_are_saved}
use Rattle.firm_table.proofs.Stays.{answers_go_on, saved_replies_are_alone, saved_stays_are_isolated}
use Rattle.firm_table.proofs.Stays.{saved_stays_are_served_alone}
use Rattle.firm_table.proofs.Lines.{places_hold_their_lines, places_need_no_marks}
use Rattle.firm_table.proofs.Beginnings.{places_begin_anew, saved_admissions_are_isolated}
use Rattle.firm_table.proofs.SameRow.{saved_tenants_are_isolated}
use Rattle.firm_table.proofs.laws.saved_isolation.Goals as goal

pub returns-clause-rosters : goal.returns-clause-rosters
returns-clause-rosters c = rosters_are_saved

pub returns-clause-line_by_line : goal.returns-clause-line_by_line
returns-clause-line_by_line c = answers_go_on

pub returns-clause-alone : goal.returns-clause-alone
returns-clause-alone c = saved_replies_are_alone

pub returns-clause-isolated : goal.returns-clause-isolated
returns-clause-isolated c = saved_stays_are_isolated

pub returns-clause-served_alone : goal.returns-clause-served_alone
returns-clause-served_alone c = saved_stays_are_served_alone

pub returns-clause-lines : goal.returns-clause-lines
returns-clause-lines c = places_hold_their_lines

pub returns-clause-anew : goal.returns-clause-anew
returns-clause-anew c = places_begin_anew

pub returns-clause-tenants : goal.returns-clause-tenants
returns-clause-tenants c = saved_tenants_are_isolated

pub returns-clause-admissions : goal.returns-clause-admissions
returns-clause-admissions c = saved_admissions_are_isolated

pub returns-clause-no_marks : goal.returns-clause-no_marks
returns-clause-no_marks c = places_need_no_marks
