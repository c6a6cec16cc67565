-- The result of a look at a tray.
use Rattle.std.specs.Prelude.{◌≡◌, ◌+◌}
use Rattle.firm_tray.specs.Solved.{IsSolved}
use Rattle.firm_tray.specs.Sides.{Side}
use Rattle.firm_tray.specs.declared.sides.Polled.{Polled}
use Rattle.firm_tray.specs.declared.sides.Polled.TheVariants.{Back, Not}

-- the side after one more poll that found the tray's word at 0
abbrev pub polled_in_vain : Side → Side
polled_in_vain side = record { tray = side.tray; book = side.book; vain = side.vain + 1 }

-- the round of the book for which the tray was opened, or the same side again, as the word was 0 at one step
abbrev pub IsPolled : Side → Polled → Type 0
IsPolled side (Back solved) = IsSolved side.book solved
IsPolled side (Not same) = same ≡ polled_in_vain side
