-- Rents in levels in the form of the check: an amount, and a class of places.
use Rattle.std.specs.Prelude.{◌≡◌, ℕ, zero, suc, ◌+◌, ◌-◌, ◌^◌, ◌<◌, ◌≤◌, ◌==◌, List, length, slice_index}
use Rattle.std.specs.Prelude.{if◌then◌else◌, slice_index_or, ◌≢◌}
use Rattle.firm_rules.specs.declared.rounds.Choice.{Choice}
use Rattle.firm_rules.specs.declared.rounds.Choice.TheVariants.{On, Wait}
use Rattle.firm_rules.specs.Placement.{Case}
use Rattle.firm_rents.specs.Levels.{IsAtMost, slot_by_level, paid_by_level}
use Rattle.firm_levels.specs.declared.Class.{Class}
use Rattle.firm_rents.specs.declared.classes.Offer.{Offer}
use Rattle.firm_rents.specs.declared.classes.Differences.{Differences}
use Rattle.firm_rents.specs.declared.classes.Known.{Known}
use Rattle.firm_levels.specs.declared.LevelRents.{LevelRents}
use Rattle.firm_rents.specs.declared.classes.Parting.{Parting}

-- the class of this number
abbrev pub class_at : List Class → ℕ → Class
class_at classes k = slice_index_or classes k (record { parent = 0; time = 0; number = 0 })

-- the number of a class at a time: its own at its own time, elsewhere its parent's; the first class has 1 at all times
abbrev pub number_by : List Class → ℕ → ℕ → ℕ → ℕ
number_by classes zero k t = 1
number_by classes (suc more) k t =
    if k == 0 then 1
    else (if (class_at classes k).time == t then (class_at classes k).number
    else number_by classes more (class_at classes k).parent t)

abbrev pub number : List Class → ℕ → ℕ → ℕ
number classes k t = number_by classes k k t

-- each class but the first comes after its parent, and its time after that of its parent, if this is not the first
pub record AreClasses (classes : List Class) : Type 0 where
  pub some : 0 < length classes
  pub parents : (k : ℕ) → 0 < k → k < length classes → (class_at classes k).parent < k
  pub times : (k : ℕ) → 0 < k → k < length classes → 0 < (class_at classes k).parent
      → (class_at classes (class_at classes k).parent).time < (class_at classes k).time

-- what is offered, level by level
abbrev pub offered : List Class → Offer → ℕ → ℕ
offered classes offer zero = offer.amount
offered classes offer (suc t) = (if t == offer.time then 0 else 1) + number classes offer.class t

-- a time at which they differ is no sooner than the first such time
pub record Covers (one other : ℕ → ℕ) (found : Differences) (t : ℕ) : Type 0 where
  pub less : one (suc t) < other (suc t) → (found.less ≤ t) × (found.less < 2 ^ 32)
  pub more : other (suc t) < one (suc t) → (found.more ≤ t) × (found.more < 2 ^ 32)

-- at the first times they differ; 2^32 stands for none
pub record Differ (one other : ℕ → ℕ) (found : Differences) : Type 0 where
  pub less : found.less < 2 ^ 32 → one (suc found.less) < other (suc found.less)
  pub more : found.more < 2 ^ 32 → other (suc found.more) < one (suc found.more)

-- the same before a time, and at it these numbers
pub record IsParting (f g : ℕ → ℕ) (parting : Parting) : Type 0 where
  pub before : (t : ℕ) → t < parting.time → f t ≡ g t
  pub one : f parting.time ≡ parting.one
  pub other : g parting.time ≡ parting.other

-- two classes part there, if they are not one
abbrev pub IsPartingOf : List Class → ℕ → ℕ → Parting → Type 0
IsPartingOf classes one other parting = one ≢ other → IsParting (number classes one) (number classes other) parting

abbrev pub IsKnown : List Class → Known → Type 0
IsKnown classes known = IsPartingOf classes known.one known.other known.parting

-- one is the cheaper at the first time at which they differ
pub record IsCheaperFrom (one other : ℕ → ℕ) (first : ℕ) : Type 0 where
  pub before : (t : ℕ) → t < first → one t ≡ other t
  pub cheaper : one first < other first

-- rents in levels for this number of machines, with a class for each and for waiting
pub record AreInLevels (machines : ℕ) (rents : LevelRents) : Type 0 where
  pub one_each : length rents.amounts.items ≡ machines
  pub small : (j : ℕ) → slice_index rents.amounts.items j ≤ 2 ^ 40
  pub places : length rents.places.items ≡ machines + 1
  pub within : (j : ℕ) → slice_index rents.places.items j < length rents.classes.items
  pub classes : AreClasses rents.classes.items

-- the rents of a place, level by level: of a machine, or of waiting after the last one
abbrev pub rents_at : LevelRents → ℕ → ℕ → ℕ
rents_at rents place zero = slice_index rents.amounts.items place
rents_at rents place (suc t) = number rents.classes.items (slice_index rents.places.items place) t

-- the place of a choice among this number of machines
abbrev pub place_of : ℕ → Choice → ℕ
place_of machines (On j) = j
place_of machines Wait = machines

abbrev pub level_rents : LevelRents → Choice → ℕ → ℕ
level_rents rents choice = rents_at rents (place_of (length rents.amounts.items) choice)

-- what a place costs, beside this much, for a choice of this time
abbrev pub place_offer : LevelRents → ℕ → ℕ → ℕ → Offer
place_offer rents more place time =
    record {
      amount = more + slice_index rents.amounts.items place;
      class = slice_index rents.places.items place;
      time = time;
    }

-- the same level by level
abbrev pub place_levels : LevelRents → ℕ → ℕ → ℕ → ℕ → ℕ
place_levels rents more place time = offered rents.classes.items (place_offer rents more place time)

-- no machine has a lesser rent
abbrev pub IsLeast : LevelRents → ℕ → ℕ → Type 0
IsLeast rents lowest j = IsAtMost (place_levels rents 0 lowest 0) (place_levels rents 0 j 0)

-- a machine is dearer than the lowest one already before this time
abbrev pub IsSpent : LevelRents → ℕ → ℕ → ℕ → Type 0
IsSpent rents lowest begun j =
    (a b : ℕ) → begun ≤ a → begun ≤ b → IsAtMost (place_levels rents 0 lowest a) (place_levels rents 0 j b)

-- a load of the machine is suited
pub record SuitsLoad (case : Case) (rents : Choice → ℕ → ℕ) (j load : ℕ) : Type 0 where
  pub worth : 0 < load → IsAtMost (slot_by_level case rents (load - 1)) (rents (On j))
  pub free : load < slice_index case.slots j → IsAtMost (rents (On j)) (slot_by_level case rents load)

-- an offer is no more than what a choice costs the task of this number with its rent
abbrev pub NoMore : Case → LevelRents → ℕ → Offer → Choice → Type 0
NoMore case rents i chosen other =
    IsAtMost (offered rents.classes.items chosen) (paid_by_level case (level_rents rents) i other)
