use Rattle.firm_rules.proofs.SoundBooks.{openings}
use Rattle.firm_rules.proofs.laws.opening_books_are_sound.Goals as goal

pub returns : goal.returns
returns c = openings
