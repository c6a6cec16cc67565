-- The rule of a tray in words, rather than as the list of its states.
use Rattle.std.specs.Prelude.{◌≡◌, ◌↔◌, ◌⊎◌, ◌≤◌, ℕ, [], ◌∷◌, Some}
use mathlib.Core.Option.{some}
use Rattle.firm_rules.specs.Book.{Book}
use Rattle.firm_tray.specs.Solved.{IsSolved}
use Rattle.firm_tray.specs.Rule.{Tray, KeepsRule, asking_sight, tray_sight}
use Rattle.firm_tray.specs.declared.protocol.Solved.{Solved}
use Rattle.firm_tray.specs.declared.protocol.Stage.{Stage}
use Rattle.firm_tray.specs.declared.protocol.Stage.TheVariants.{Opening, Holding, Open, Spent, Asked, Taken}

-- what a tray with two sides shows: one side is open or spent, and the other asks or has taken
pub record IsReadAloud (book : Book) (state : Tray) (word vain : ℕ) (answering asking : Stage) : Type 0 where
  pub one_word : state.words ≡ word ∷ []
  pub small : word ≤ 2
  pub answers : (answering ≡ Open) ⊎ (answering ≡ Spent)
  pub asks : (asking ≡ Asked) ⊎ (asking ≡ Taken)
  pub one_book : state.views ≡ tray_sight answering book ∷ asking_sight asking vain book ∷ []
  pub opens : answering ≡ Open ↔ word ≡ 0
  pub takes : asking ≡ Taken ↔ word ≡ 2
  pub solved : word ≡ 1 → (answer : Solved) × (state.homes ≡ some (Some answer) ∷ []) × IsSolved book answer

-- before the tray has two sides, its single seat has the book, and the word is 0
pub record IsOpening (book : Book) (state : Tray) (stage : Stage) : Type 0 where
  pub word : state.words ≡ 0 ∷ []
  pub before : (stage ≡ Opening) ⊎ (stage ≡ Holding)
  pub one_book : state.views ≡ tray_sight stage book ∷ []

-- a tray that keeps the rule has one seat and is opening, or has two and reads as above
pub data Reads (book : Book) (state : Tray) : Type 0 where
  one_seat : (stage : Stage) → IsOpening book state stage → Reads book state
  two_seats : (word vain : ℕ) (answering asking : Stage) → IsReadAloud book state word vain answering asking
      → Reads book state

abbrev pub TraysAreReadAloud : Type 0
TraysAreReadAloud = (book : Book) (state : Tray) → KeepsRule book state → Reads book state
