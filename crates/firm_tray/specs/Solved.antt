-- The content of an answered tray.
use Rattle.std.specs.Prelude.{◌≡◌}
use Rattle.firm_rules.specs.Book.{Book}
use Rattle.firm_rules.specs.declared.commands.Command.TheVariants.{Round}
use Rattle.firm_tenant.specs.Step.{step, is_memory}
use Rattle.firm_tray.specs.declared.protocol.Solved.{Solved}

-- reply and tenant are the step of this book for a round, with memory refused exactly if the reply says so
pub record IsSolved (book : Book) (solved : Solved) : Type 0 where
  pub round : (solved.reply, solved.tenant) ≡ step book Round (is_memory solved.reply)
