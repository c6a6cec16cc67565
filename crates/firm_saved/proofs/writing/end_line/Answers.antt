use Rattle.std.proofs.Transfers.{starts_with_of_append}
use Rattle.firm_saved.proofs.writing.end_line.Goals as goal

pub returns-clause-kept : goal.returns-clause-kept
returns-clause-kept c = starts_with_of_append _ _ _ c.in_ok-push.ensures.items

pub returns-clause-added : goal.returns-clause-added
returns-clause-added c = c.in_ok-push.ensures.items
