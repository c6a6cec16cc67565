use Rattle.std.proofs.Common.{subst}
use Rattle.firm_rules.specs.Book.{Book}
use Rattle.firm_tray.specs.Solved.{IsSolved}
use Rattle.firm_tray.proofs.sides.AskSide.wait.Goals as goal

pub returns-in-Back : goal.returns-in-Back
returns-in-Back g c = subst (λ (book : Book). IsSolved book c.in-Back.solved) c.loop.invariant c.in-Back.ensures
