use Rattle.std.proofs.Common.{rules, inl}
use Rattle.firm_bell.proofs.Moves.{looks_for_round_in, looks_for_rest_in}
use Rattle.firm_bell.proofs.bell.Bell.call_if_waiting.Goals as goal

pub load-requires : goal.load-requires
load-requires c = (search rules, search rules, looks_for_round_in _ _ _ c.requires.1)

pub load-resting-requires : goal.load-resting-requires
load-resting-requires c = (search rules, search rules, looks_for_rest_in _ _ _ (inl (search rules)))
