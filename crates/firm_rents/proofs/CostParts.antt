-- The cost of a placement in its parts.
use Rattle.std.proofs.Common.{◌≡◌, ℕ, zero, suc, ◌+◌, ◌<◌, List, [], ◌∷◌, length, take, arith, refl, ap, ◌∙◌}
use Rattle.firm_rules.specs.declared.rounds.Choice.{Choice}
use Rattle.firm_rules.specs.declared.rounds.Choice.TheVariants.{On, Wait}
use Rattle.firm_rules.specs.Placement.{Demand, Case, task_cost, tasks_cost}
use Rattle.firm_rules.specs.Placement.{choice_at}
use Rattle.firm_rents.specs.CostParts.{move_cost, preemption_cost, part}
use Rattle.firm_rules.specs.ChoiceCost.{churn_cost, remote_cost, wait_cost}
use Rattle.firm_rents.proofs.Rows.{demand_in}

pub cost_split : (case : Case) (task : Demand) (choice : Choice)
    → task_cost case task choice
    ≡ remote_cost case task choice + wait_cost task choice + churn_cost case task choice
cost_split case task (On j) = omega arith
cost_split case task Wait = omega arith

split : (case : Case) (task : Demand) (choice : Choice)
    → task_cost case task choice
    ≡ move_cost case task choice + preemption_cost case task choice + wait_cost task choice
    + remote_cost case task choice
split case task (On j) = omega arith
split case task Wait = omega arith

-- the parts together are what the choices cost
pub parts_sum : (case : Case) (tasks : List Demand) (placement : List Choice)
    → part (move_cost case) tasks placement + part (preemption_cost case) tasks placement
    + part wait_cost tasks placement + part (remote_cost case) tasks placement ≡ tasks_cost case tasks placement
parts_sum case [] placement = refl
parts_sum case (task ∷ tasks) [] = refl
parts_sum case (task ∷ tasks) (choice ∷ placement) =
    omega (arith, split case task choice, parts_sum case tasks placement)

part_next : (cost : Demand → Choice → ℕ) (tasks : List Demand) (placement : List Choice) (i : ℕ) → i < length tasks
    → length placement ≡ length tasks
    → part cost (take (suc i) tasks) (take (suc i) placement)
    ≡ part cost (take i tasks) (take i placement) + cost (demand_in tasks i) (choice_at placement i)
part_next cost [] placement i l e = absurd (omega arith)
part_next cost (task ∷ tasks) [] i l e = absurd (omega arith)
part_next cost (task ∷ tasks) (choice ∷ placement) zero l e = omega arith
part_next cost (task ∷ tasks) (choice ∷ placement) (suc i) l e =
    omega (arith, part_next cost tasks placement i (omega arith) (omega arith))

pub part_more : (cost : Demand → Choice → ℕ) (tasks : List Demand) (placement : List Choice) (i : ℕ) → i < length tasks
    → length placement ≡ length tasks
    → part cost (take (i + 1) tasks) (take (i + 1) placement)
    ≡ part cost (take i tasks) (take i placement) + cost (demand_in tasks i) (choice_at placement i)
part_more cost tasks placement i l e =
    let q : i + 1 ≡ suc i = omega arith in
    ap (λ n. part cost (take n tasks) (take n placement)) q ∙ part_next cost tasks placement i l e
