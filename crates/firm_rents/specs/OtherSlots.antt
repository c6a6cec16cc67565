-- Savings and costs of other slots, by rents.
use Rattle.std.specs.Prelude.{◌≡◌, ℕ, ◌+◌, ◌-◌, ◌≤◌, List, [], ◌∷◌, ◌++◌, length}
use Rattle.firm_rules.specs.declared.rounds.Choice.{Choice}
use Rattle.firm_rules.specs.declared.rounds.Choice.TheVariants.{On}
use Rattle.firm_rules.specs.Placement.{Demand, Case, IsLegal, task_cost, placement_cost}
use Rattle.firm_rents.specs.Rents.{least_paid, gain, gains, Show}

-- the case with these slots
abbrev pub with_slots : Case → List ℕ → Case
with_slots case slots = record case { slots = slots }

-- the same tasks with other slots on the same machines: a placement undercuts one that the rents show by no more than
-- the gains grow
abbrev pub OtherSlotsCost : Type 0
OtherSlotsCost = (case : Case) (rents : List ℕ) (placement : List Choice) → Show case rents placement
    → (slots : List ℕ) → length slots ≡ length case.slots
    → (other : List Choice) → IsLegal (with_slots case slots) other
    → placement_cost case placement + gains case rents
    ≤ placement_cost (with_slots case slots) other + gains (with_slots case slots) rents

-- how much less the tasks would pay, together, on a machine added last at this rent, counting those that would pay less
abbrev pub drawn : Case → List ℕ → ℕ → List Demand → ℕ
drawn case rents rent [] = 0
drawn case rents rent (task ∷ tasks) =
    (least_paid case rents task - (task_cost case task (On (length case.slots)) + rent)) + drawn case rents rent tasks

-- one more machine, with this number of slots: it saves no more than what tasks would save there at any one rent plus
-- its gain at that rent
abbrev pub OneMoreMachineSaves : Type 0
OneMoreMachineSaves = (case : Case) (rents : List ℕ) (placement : List Choice) → Show case rents placement
    → length rents ≡ length case.slots → (slots rent : ℕ)
    → (other : List Choice) → IsLegal (with_slots case (case.slots ++ slots ∷ [])) other
    → placement_cost case placement ≤ placement_cost (with_slots case (case.slots ++ slots ∷ [])) other
    + (drawn case rents rent case.tasks + gain case.spread rent slots)
