use Rattle.std.proofs.Common.{rules, inr}
use Rattle.firm_bell.proofs.Moves.{looks_for_rest_in, owes_in}
use Rattle.firm_bell.proofs.bell.Bell.came.Goals as goal

pub load-resting-requires : goal.load-resting-requires
load-resting-requires c = (search rules, search rules, looks_for_rest_in _ _ _ (inr (search rules)))

pub store-requires : goal.store-requires
store-requires c = (search rules, search rules, owes_in _ _ _ (search rules))
