-- Sums over one more task.
use Rattle.std.proofs.Common.{◌≡◌, ℕ, zero, suc, ◌+◌, ◌<◌, List, [], ◌∷◌, length, take, None, ap, ◌∙◌, arith}
use Rattle.std.specs.Prelude.{slice_index_or}
use Rattle.firm_rules.specs.Placement.{Demand, Case}
use Rattle.firm_rents.specs.Rents.{least_paid, all_least}

abbrev pub demand_in : List Demand → ℕ → Demand
demand_in tasks i = slice_index_or tasks i (record { home = None; preferred = []; delay = 0; job = 0 })

all_least_next : (case : Case) (rents : List ℕ) (tasks : List Demand) (i : ℕ) → i < length tasks
    → all_least case rents (take (suc i) tasks)
    ≡ all_least case rents (take i tasks) + least_paid case rents (demand_in tasks i)
all_least_next case rents [] i l = absurd (omega arith)
all_least_next case rents (task ∷ tasks) zero l = omega arith
all_least_next case rents (task ∷ tasks) (suc i) l = omega (arith, all_least_next case rents tasks i (omega arith))

pub all_least_more : (case : Case) (rents : List ℕ) (tasks : List Demand) (i : ℕ) → i < length tasks
    → all_least case rents (take (i + 1) tasks)
    ≡ all_least case rents (take i tasks) + least_paid case rents (demand_in tasks i)
all_least_more case rents tasks i l =
    let e : i + 1 ≡ suc i = omega arith in
    ap (λ n. all_least case rents (take n tasks)) e ∙ all_least_next case rents tasks i l
