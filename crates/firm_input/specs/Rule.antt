-- The states between a source and its thread.
use Rattle.std.specs.Prelude.{◌≡◌, ℕ, ⊤, List, [], ◌∷◌, Option, Some, None}
use Rattle.std.specs.Io.KnownBytes.{Keeps}
use mathlib.Core.Option.{Option as Home, none, some}
use Rattle.atomic_table.specs.Table.{State}
use Rattle.firm_input.specs.declared.turns.Stage.{Stage}
use Rattle.firm_input.specs.declared.turns.Stage.TheVariants.{Opening, Holding, Reads, Lends, Rests, Takes}
use Rattle.firm_input.specs.declared.turns.Sight.{Sight}

-- what is left for reads, where it is known
abbrev pub Left : Type 0
Left = Option (List ℕ)

-- what a seat at this stage knows of what is left
abbrev pub sight : Stage → Left → Sight
sight stage left = record { stage = stage; left = left }

-- New; with the slot out; the source has the reader; it asks the thread to read; the thread reads; the thread has read;
-- and closed. Of the two, the first is what was left when the reader was handed over, the second what is left behind
-- the reader in the slot.
pub data Phase : Type 0 where
  fresh : Left → Phase
  dealt : Left → Phase
  home : Left → Phase
  asked : Left → Left → Phase
  taken : Left → Phase
  read : Left → Left → Phase
  closed : Left → Phase

-- the word, the slot (none while it is out with a seat) and what the seats know
abbrev pub Turn : Type 0
Turn = State (Option Left) Sight

abbrev pub turn : ℕ → Home (Option Left) → List Sight → Turn
turn word slot seats = record { words = word ∷ []; homes = slot ∷ []; views = seats }

-- the whole state at each moment; the source's seat stands first
abbrev pub turn_at : Phase → Turn
turn_at (fresh left) = turn 0 (some None) (sight Opening left ∷ [])
turn_at (dealt left) = turn 0 none (sight Holding left ∷ [])
turn_at (home left) = turn 0 none (sight Reads left ∷ sight Rests None ∷ [])
turn_at (asked left reader) = turn 1 (some (Some reader)) (sight Lends left ∷ sight Rests None ∷ [])
turn_at (taken left) = turn 1 none (sight Lends left ∷ sight Takes left ∷ [])
turn_at (read left reader) = turn 2 (some (Some reader)) (sight Lends left ∷ sight Rests None ∷ [])
turn_at (closed left) = turn 3 none (sight Reads left ∷ sight Rests None ∷ [])

-- the reader in the slot has left what it had left when it was handed over
abbrev pub IsFair : Phase → Type 0
IsFair (fresh left) = ⊤
IsFair (dealt left) = ⊤
IsFair (home left) = ⊤
IsFair (asked left reader) = Keeps left reader
IsFair (taken left) = ⊤
IsFair (read left reader) = Keeps left reader
IsFair (closed left) = ⊤

-- the rule: one of those moments
abbrev pub KeepsRule : Turn → Type 0
KeepsRule state = (phase : Phase) × (state ≡ turn_at phase) × IsFair phase
