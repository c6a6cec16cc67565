use Rattle.firm_parts.proofs.Books.{joins_are_apart, joins_keep_books}
use Rattle.firm_parts.proofs.Parts.{cuts_keep_books}
use Rattle.firm_parts.proofs.laws.books_are_kept.Goals as goal

pub returns-clause-cuts : goal.returns-clause-cuts
returns-clause-cuts c = cuts_keep_books

pub returns-clause-joins : goal.returns-clause-joins
returns-clause-joins c = joins_keep_books

pub returns-clause-apart : goal.returns-clause-apart
returns-clause-apart c = joins_are_apart
