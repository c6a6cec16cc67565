use Rattle.firm_paths.proofs.Counts.{none_counts_nothing, searches_add_up}
use Rattle.firm_paths.proofs.laws.searches_add_up.Goals as goal

pub returns-clause-none : goal.returns-clause-none
returns-clause-none c = none_counts_nothing

pub returns-clause-more : goal.returns-clause-more
returns-clause-more c = searches_add_up
