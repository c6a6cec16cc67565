use Rattle.std.proofs.Common.{rules}
use Rattle.firm_bell.proofs.Moves.{expects_in}
use Rattle.firm_bell.proofs.bell.Bell.expect.Goals as goal

pub fetch_add-requires : goal.fetch_add-requires
fetch_add-requires c = (search rules, search rules, expects_in _ _ _ (search rules))
