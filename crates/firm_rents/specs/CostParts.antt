-- The parts of a placement's cost.
use Rattle.std.specs.Prelude.{ℕ, ◌+◌, List, [], ◌∷◌}
use Rattle.firm_rules.specs.declared.rounds.Choice.{Choice}
use Rattle.firm_rules.specs.declared.rounds.Choice.TheVariants.{On, Wait}
use Rattle.firm_rules.specs.Placement.{Demand, Case}
use Rattle.firm_rules.specs.ChoiceCost.{churn_cost}

-- churn of a move, and of a preemption
abbrev pub move_cost : Case → Demand → Choice → ℕ
move_cost case task (On j) = churn_cost case task (On j)
move_cost case task Wait = 0

abbrev pub preemption_cost : Case → Demand → Choice → ℕ
preemption_cost case task (On j) = 0
preemption_cost case task Wait = churn_cost case task Wait

-- the sum of one of these over tasks and their choices
abbrev pub part : (Demand → Choice → ℕ) → List Demand → List Choice → ℕ
part cost [] placement = 0
part cost (task ∷ tasks) [] = 0
part cost (task ∷ tasks) (choice ∷ placement) = cost task choice + part cost tasks placement
