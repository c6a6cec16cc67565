use Rattle.firm_bell.proofs.Moves.{opens}
use Rattle.firm_bell.proofs.bell.Bell.open.Goals as goal

pub of_words-requires : goal.of_words-requires
of_words-requires c = opens
