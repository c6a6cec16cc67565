-- The states that a tray may be in.
use Rattle.std.specs.Prelude.{◌≡◌, ℕ, ⊤, List, [], ◌∷◌, Option, Some, None}
use mathlib.Core.Option.{Option as Home, none, some}
use Rattle.atomic_table.specs.Table.{State}
use Rattle.firm_rules.specs.Book.{Book}
use Rattle.firm_tray.specs.Solved.{IsSolved}
use Rattle.firm_tray.specs.declared.protocol.Stage.{Stage}
use Rattle.firm_tray.specs.declared.protocol.Stage.TheVariants.{Opening, Holding, Open, Spent, Asked, Taken}
use Rattle.firm_tray.specs.declared.protocol.TraySight.{TraySight}
use Rattle.firm_tray.specs.declared.protocol.Solved.{Solved}

-- what the asking seat at this stage knows of a tray for this book, after this many looks in vain
abbrev pub asking_sight : Stage → ℕ → Book → TraySight
asking_sight stage vain book = record { stage = stage; book = book; vain = vain }

-- what another seat at this stage knows of it
abbrev pub tray_sight : Stage → Book → TraySight
tray_sight stage book = asking_sight stage 0 book

-- the life of a tray: new, with its slot out, with two sides, answered, and with the answer taken; and from two sides
-- on how many looks were in vain
pub data Phase : Type 0 where
  fresh : Phase
  dealt : Phase
  waiting : ℕ → Phase
  answered : ℕ → Solved → Phase
  gone : ℕ → Phase

-- the word, the slot (none while it is out with a seat) and what the seats know
abbrev pub Tray : Type 0
Tray = State (Option Solved) TraySight

abbrev pub tray : ℕ → Home (Option Solved) → List TraySight → Tray
tray word slot seats = record { words = word ∷ []; homes = slot ∷ []; views = seats }

-- the whole tray at each moment of its life; the answering seat stands first
abbrev pub tray_at : Book → Phase → Tray
tray_at book fresh = tray 0 (some None) (tray_sight Opening book ∷ [])
tray_at book dealt = tray 0 none (tray_sight Holding book ∷ [])
tray_at book (waiting vain) = tray 0 none (tray_sight Open book ∷ asking_sight Asked vain book ∷ [])
tray_at book (answered vain solved) =
    tray 1 (some (Some solved)) (tray_sight Spent book ∷ asking_sight Asked vain book ∷ [])
tray_at book (gone vain) = tray 2 none (tray_sight Spent book ∷ asking_sight Taken vain book ∷ [])

-- the answer in the slot is the round of the book
abbrev pub IsFair : Book → Phase → Type 0
IsFair book fresh = ⊤
IsFair book dealt = ⊤
IsFair book (waiting vain) = ⊤
IsFair book (answered vain solved) = IsSolved book solved
IsFair book (gone vain) = ⊤

-- the rule of a tray for this book: it is at one of those moments
abbrev pub KeepsRule : Book → Tray → Type 0
KeepsRule book state = (phase : Phase) × (state ≡ tray_at book phase) × IsFair book phase
