use Rattle.firm_paths.proofs.ArcRows.{each_arc_has_its_row, each_row_is_listed, changed_row_is_found}
use Rattle.firm_paths.proofs.ArcRows.{as_many_as_counted}
use Rattle.firm_paths.proofs.laws.arcs_are_rows.Goals as goal

pub returns-clause-arcs : goal.returns-clause-arcs
returns-clause-arcs c = each_arc_has_its_row

pub returns-clause-rows : goal.returns-clause-rows
returns-clause-rows c = each_row_is_listed

pub returns-clause-changed : goal.returns-clause-changed
returns-clause-changed c = changed_row_is_found

pub returns-clause-count : goal.returns-clause-count
returns-clause-count c = as_many_as_counted
