use Rattle.std.proofs.Common.{rules}
use Rattle.firm_bell.proofs.Moves.{ends_rest_in}
use Rattle.firm_bell.proofs.bell.Bell.rest_or_look.Goals as goal

pub fetch_sub-requires : goal.fetch_sub-requires
fetch_sub-requires c d = (search rules, search rules, ends_rest_in _ _ _ (search rules))
