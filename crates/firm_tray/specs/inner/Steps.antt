-- The effect of each step on the seat that takes it, and the tray of a seat.
use Rattle.std.specs.Prelude.{◌≡◌, ℕ, ◌+◌, ◌==◌, [], ◌∷◌, Option, Some, None, MatchBool}
use Rattle.atomic_table.specs.Table.{Me, Step}
use Rattle.atomic_table.specs.Seated.{TableId}
use Rattle.firm_rules.specs.Book.{Book}
use Rattle.firm_tray.specs.Solved.{IsSolved}
use Rattle.firm_tray.specs.Rule.{asking_sight, tray_sight}
use Rattle.firm_tray.specs.declared.protocol.Stage.TheVariants.{Opening, Holding, Open, Spent, Asked, Taken}
use Rattle.firm_tray.specs.declared.protocol.TraySight.{TraySight}
use Rattle.firm_tray.specs.declared.protocol.Solved.{Solved}

abbrev pub opening_sight : Book → TraySight
opening_sight book = tray_sight Opening book

-- the two sides of one seat: one answers, one asks
abbrev pub open_sight : TraySight → TraySight
open_sight seen = tray_sight Open seen.book

abbrev pub asked_sight : TraySight → TraySight
asked_sight seen = tray_sight Asked seen.book

-- what a seat knows, and the slots that it holds
abbrev pub Hand : Type 0
Hand = Me (Option Solved) TraySight

-- the opening seat takes the slot
abbrev pub takes_slot : Step (Option Solved) → Hand → ℕ → Hand → Type 0
takes_slot step before word after = after ≡ (tray_sight Holding before.0.book, (0, None) ∷ [])

-- the answering seat gives the slot back, and is spent
abbrev pub gives_answer : Step (Option Solved) → Hand → ℕ → Hand → Type 0
gives_answer step before word after = after ≡ (tray_sight Spent before.0.book, [])

-- the asking seat read 1 and holds the slot with the round of the book, or it read 0 and looked in vain
abbrev pub looks : Step (Option Solved) → Hand → ℕ → Hand → Type 0
looks step before word after =
    MatchBool (word == 1)
    ((solved : Solved) × IsSolved before.0.book solved
    × (after ≡ (asking_sight Taken before.0.vain before.0.book, (0, Some solved) ∷ [])))
    ((word ≡ 0) × (after ≡ (asking_sight Asked (before.0.vain + 1) before.0.book, [])))

-- the seat belongs to this table of one word and one slot, under the rule of the seat's book
abbrev pub IsSeated : TableId → Book → TableId → Book → Type 0
IsSeated table key seated book = (seated ≡ table) × (seated.words ≡ 1) × (seated.slots ≡ 1) × (key ≡ book)
