-- The result of polling a requested round.
use Rattle.std.specs.Prelude.{◌≡◌}
use Rattle.firm_rules.specs.declared.commands.Command.TheVariants.{Round}
use Rattle.firm_hall.specs.Desks.{DeskIs, IsStep}
use Rattle.firm_hall.specs.declared.desks.AskedPoll.{AskedPoll}
use Rattle.firm_hall.specs.declared.desks.AskedPoll.TheVariants.{Back, Not}

-- the round of the book that was handed over, or the same token again
abbrev pub IsAskedPoll : DeskIs → AskedPoll → Type 0
IsAskedPoll asked (Back desk reply) = IsStep asked Round reply desk
IsAskedPoll asked (Not same) = same ≡ asked
