-- The effect of each step on the seat that takes it.
use Rattle.std.specs.Prelude.{◌≡◌, ℕ, ◌==◌, List, [], ◌∷◌, Option, Some, None, MatchBool}
use Rattle.std.specs.Io.KnownBytes.{Keeps}
use Rattle.atomic_table.specs.Table.{Me, Step}
use Rattle.atomic_table.specs.Seated.{TableId}
use Rattle.firm_input.specs.Rule.{Left, sight}
use Rattle.firm_input.specs.declared.turns.Stage.TheVariants.{Opening, Holding, Reads, Lends, Rests, Takes}
use Rattle.firm_input.specs.declared.turns.Sight.{Sight}

abbrev pub opening_sight : Left → Sight
opening_sight left = sight Opening left

-- the two sides of one seat: one reads, one rests
abbrev pub reading_sight : Sight → Sight
reading_sight seen = sight Reads seen.left

abbrev pub resting_sight : Sight → Sight
resting_sight seen = sight Rests None

-- what a seat knows, and the slots that it holds
abbrev pub Hand : Type 0
Hand = Me (Option Left) Sight

-- The source's claim about a reader: none if there was none at first.
abbrev pub told : Left → Left → Left
told None reader = None
told (Some bytes) reader = reader

-- what is left for the source: what it knew as it lent its reader, or what its reader tells
abbrev pub left_at : Left → Option Left → Left
left_at left None = left
left_at left (Some reader) = told left reader

abbrev pub slot_left : Left → List (ℕ × Option Left) → Left
slot_left left [] = left
slot_left left (slot ∷ rest) = left_at left slot.1

-- the opening seat takes the slot
abbrev pub takes_slot : Step (Option Left) → Hand → ℕ → Hand → Type 0
takes_slot step before word after = after ≡ (sight Holding before.0.left, (0, None) ∷ [])

-- the source puts the slot back with its reader in it
abbrev pub lends : Step (Option Left) → Hand → ℕ → Hand → Type 0
lends step before word after = after ≡ (sight Lends (slot_left before.0.left before.1), [])

-- the thread read 1 and holds the slot with the reader, or nothing changed
abbrev pub takes_reader : Step (Option Left) → Hand → ℕ → Hand → Type 0
takes_reader step before word after =
    MatchBool (word == 1)
    ((left reader : Left) × Keeps left reader × (after ≡ (sight Takes left, (0, Some reader) ∷ []))) (after ≡ before)

-- the thread puts the slot back with the reader in it
abbrev pub returns_reader : Step (Option Left) → Hand → ℕ → Hand → Type 0
returns_reader step before word after = after ≡ (sight Rests None, [])

-- the source read 2 and holds the slot with its reader, or nothing changed
abbrev pub takes_back : Step (Option Left) → Hand → ℕ → Hand → Type 0
takes_back step before word after =
    MatchBool (word == 2)
    ((reader : Left) × Keeps before.0.left reader × (after ≡ (sight Reads before.0.left, (0, Some reader) ∷ [])))
    (after ≡ before)

-- the source closes, and knows what it knew
abbrev pub closes : Step (Option Left) → Hand → ℕ → Hand → Type 0
closes step before word after = after ≡ before

-- the seat belongs to this table of one word and one slot
abbrev pub IsSeated : TableId → TableId → Type 0
IsSeated table seated = (seated ≡ table) × (seated.words ≡ 1) × (seated.slots ≡ 1)

-- the source's seat, with its reader or while it is lent
abbrev pub StandsAt : Hand → Option Left → Type 0
StandsAt me None = me ≡ (sight Lends me.0.left, [])
StandsAt me (Some reader) = me ≡ (sight Reads me.0.left, (0, None) ∷ [])
