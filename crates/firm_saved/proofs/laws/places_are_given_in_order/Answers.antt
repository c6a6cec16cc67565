use Rattle.firm_saved.proofs.Orders.{admissions_keep_order, retirements_keep_order, rosters_give_in_order}
use Rattle.firm_saved.proofs.laws.places_are_given_in_order.Goals as goal

pub returns-clause-rosters : goal.returns-clause-rosters
returns-clause-rosters c = rosters_give_in_order

pub returns-clause-admissions : goal.returns-clause-admissions
returns-clause-admissions c = admissions_keep_order

pub returns-clause-retirements : goal.returns-clause-retirements
returns-clause-retirements c = retirements_keep_order
