-- Rounds worked by hand: all legal placements with their costs, the round's, and what it changes, each computed.
use Rattle.std.proofs.Common.{◌≡◌, ℕ, true, false, List, [], ◌∷◌, Some, None, refl, codes}
use Rattle.std.specs.Prelude.{map}
use Rattle.firm_rules.specs.Limits.{TenantLimits}
use Rattle.firm_rules.specs.Book.{TenantRows, new_task, without_machine, without_task}
use Rattle.firm_rules.specs.ArenaUse.{arena_use}
use Rattle.firm_rules.specs.Placement.{placement_cost, is_legal, comes_before}
use Rattle.firm_rules.specs.Round.{case_of, legal_placements, round_placement, changes_made, rows_after}
use Rattle.firm_rules.specs.declared.book.Task.{Task}
use Rattle.firm_rules.specs.declared.rounds.Choice.{Choice}
use Rattle.firm_rules.specs.declared.rounds.Choice.TheVariants.{On, Wait}
use Rattle.firm_rules.specs.declared.rounds.Change.TheVariants.{Start, Move, Preempt}

abbrev limits : ℕ → ℕ → TenantLimits
limits spread churn =
    record { nodes = 8; arcs = 30; life = 100; spread = spread; churn = churn; remote = 0; patience = 1000000 }

-- the legal placements in their order, each with its cost
abbrev costed : TenantRows → List (List Choice × ℕ)
costed rows = map (λ placement. (placement, placement_cost (case_of rows) placement)) (legal_placements (case_of rows))

-- the round of the rows, and what follows from it
abbrev round_of : TenantRows → List Choice
round_of rows = round_placement (case_of rows)

-- one machine of two slots, and two tasks that wait for the first time: the second task on it costs more than a wait
abbrev crowded : TenantRows
crowded =
    record {
      limits = limits 10 20;
      machines = record { name = codes "m1"; slots = 2 } ∷ [];
      jobs = record { name = codes "j"; weight = 1 } ∷ [];
      tasks =
          record { name = codes "x"; job = codes "j"; preferred = []; machine = None; waited = 0 }
          ∷ record { name = codes "y"; job = codes "j"; preferred = []; machine = None; waited = 0 } ∷ [];
    }

crowded_costs : costed crowded
    ≡ (On 0 ∷ On 0 ∷ [], 10) ∷ (On 0 ∷ Wait ∷ [], 1) ∷ (Wait ∷ On 0 ∷ [], 1) ∷ (Wait ∷ Wait ∷ [], 2) ∷ []
crowded_costs = refl

crowded_round : round_of crowded ≡ On 0 ∷ Wait ∷ []
crowded_round = refl

crowded_changes : changes_made crowded (round_of crowded) ≡ Start (codes "x") (codes "m1") ∷ []
crowded_changes = refl

-- the tenth such round: the wait has grown to the cost of the load, and a machine ranks before waiting
abbrev tenth : TenantRows
tenth =
    record crowded {
      tasks =
          record { name = codes "x"; job = codes "j"; preferred = []; machine = Some (codes "m1"); waited = 0 }
          ∷ record { name = codes "y"; job = codes "j"; preferred = []; machine = None; waited = 9 } ∷ [];
    }

tenth_costs : costed tenth
    ≡ (On 0 ∷ On 0 ∷ [], 10) ∷ (On 0 ∷ Wait ∷ [], 10) ∷ (Wait ∷ On 0 ∷ [], 21) ∷ (Wait ∷ Wait ∷ [], 31) ∷ []
tenth_costs = refl

tenth_round : round_of tenth ≡ On 0 ∷ On 0 ∷ []
tenth_round = refl

tenth_changes : changes_made tenth (round_of tenth) ≡ Start (codes "y") (codes "m1") ∷ []
tenth_changes = refl

-- one slot, and a task that waits for more than the one that runs there: it is preempted
abbrev preempting : TenantRows
preempting =
    record {
      limits = limits 0 3;
      machines = record { name = codes "m1"; slots = 1 } ∷ [];
      jobs = record { name = codes "low"; weight = 2 } ∷ record { name = codes "high"; weight = 20 } ∷ [];
      tasks =
          record { name = codes "l"; job = codes "low"; preferred = []; machine = Some (codes "m1"); waited = 0 }
          ∷ record { name = codes "h"; job = codes "high"; preferred = []; machine = None; waited = 0 } ∷ [];
    }

preempting_costs : costed preempting ≡ (On 0 ∷ Wait ∷ [], 20) ∷ (Wait ∷ On 0 ∷ [], 5) ∷ (Wait ∷ Wait ∷ [], 25) ∷ []
preempting_costs = refl

preempting_round : round_of preempting ≡ Wait ∷ On 0 ∷ []
preempting_round = refl

preempting_changes : changes_made preempting (round_of preempting)
    ≡ Preempt (codes "l") (codes "m1") ∷ Start (codes "h") (codes "m1") ∷ []
preempting_changes = refl

-- two tasks run on the first of two machines, and one moves, since churn is less than the load costs
abbrev moving : TenantRows
moving =
    record {
      limits = limits 10 3;
      machines = record { name = codes "m1"; slots = 2 } ∷ record { name = codes "m2"; slots = 2 } ∷ [];
      jobs = record { name = codes "j"; weight = 50 } ∷ [];
      tasks =
          record { name = codes "p"; job = codes "j"; preferred = []; machine = Some (codes "m1"); waited = 0 }
          ∷ record { name = codes "q"; job = codes "j"; preferred = []; machine = Some (codes "m1"); waited = 0 } ∷ [];
    }

moving_costs : costed moving
    ≡ (On 0 ∷ On 0 ∷ [], 10) ∷ (On 0 ∷ On 1 ∷ [], 3) ∷ (On 0 ∷ Wait ∷ [], 53)
    ∷ (On 1 ∷ On 0 ∷ [], 3) ∷ (On 1 ∷ On 1 ∷ [], 16) ∷ (On 1 ∷ Wait ∷ [], 56)
    ∷ (Wait ∷ On 0 ∷ [], 53) ∷ (Wait ∷ On 1 ∷ [], 56) ∷ (Wait ∷ Wait ∷ [], 106) ∷ []
moving_costs = refl

moving_round : round_of moving ≡ On 0 ∷ On 1 ∷ []
moving_round = refl

moving_changes : changes_made moving (round_of moving) ≡ Move (codes "q") (codes "m1") (codes "m2") ∷ []
moving_changes = refl

-- without churn two placements cost nothing: the one in which the task that was submitted first stays comes first
abbrev free : TenantRows
free = record moving { limits = limits 10 0 }

free_costs : costed free
    ≡ (On 0 ∷ On 0 ∷ [], 10) ∷ (On 0 ∷ On 1 ∷ [], 0) ∷ (On 0 ∷ Wait ∷ [], 50)
    ∷ (On 1 ∷ On 0 ∷ [], 0) ∷ (On 1 ∷ On 1 ∷ [], 10) ∷ (On 1 ∷ Wait ∷ [], 50)
    ∷ (Wait ∷ On 0 ∷ [], 50) ∷ (Wait ∷ On 1 ∷ [], 50) ∷ (Wait ∷ Wait ∷ [], 100) ∷ []
free_costs = refl

free_round : round_of free ≡ On 0 ∷ On 1 ∷ []
free_round = refl

free_changes : changes_made free (round_of free) ≡ Move (codes "q") (codes "m1") (codes "m2") ∷ []
free_changes = refl

-- a running task's own machine ranks first, also where it was added last
own_machine_first :
    comes_before 2 (record { home = Some 1; preferred = []; delay = 50; job = 0 } ∷ []) (On 1 ∷ []) (On 0 ∷ []) ≡ true
own_machine_first = refl

-- one slot, and two tasks whose waits take turns: the third round is a tie
abbrev third : TenantRows
third =
    record {
      limits = limits 0 0;
      machines = record { name = codes "m1"; slots = 1 } ∷ [];
      jobs = record { name = codes "light"; weight = 1 } ∷ record { name = codes "heavy"; weight = 3 } ∷ [];
      tasks =
          record { name = codes "x"; job = codes "light"; preferred = []; machine = None; waited = 2 }
          ∷ record { name = codes "y"; job = codes "heavy"; preferred = []; machine = Some (codes "m1"); waited = 0 }
          ∷ [];
    }

third_costs : costed third ≡ (On 0 ∷ Wait ∷ [], 3) ∷ (Wait ∷ On 0 ∷ [], 3) ∷ (Wait ∷ Wait ∷ [], 6) ∷ []
third_costs = refl

third_round : round_of third ≡ On 0 ∷ Wait ∷ []
third_round = refl

third_changes : changes_made third (round_of third)
    ≡ Start (codes "x") (codes "m1") ∷ Preempt (codes "y") (codes "m1") ∷ []
third_changes = refl

-- both tasks in one slot are too many
both : is_legal (case_of third) (On 0 ∷ On 0 ∷ []) ≡ false
both = refl

-- the fourth round begins with what the third left
abbrev fourth : TenantRows
fourth =
    record third {
      tasks =
          record { name = codes "x"; job = codes "light"; preferred = []; machine = Some (codes "m1"); waited = 0 }
          ∷ record { name = codes "y"; job = codes "heavy"; preferred = []; machine = None; waited = 1 } ∷ [];
    }

fourth_rows : rows_after third (round_of third) ≡ fourth
fourth_rows = refl

fourth_costs : costed fourth ≡ (On 0 ∷ Wait ∷ [], 4) ∷ (Wait ∷ On 0 ∷ [], 1) ∷ (Wait ∷ Wait ∷ [], 5) ∷ []
fourth_costs = refl

fourth_round : round_of fourth ≡ Wait ∷ On 0 ∷ []
fourth_round = refl

-- a task that a round leaves waiting has waited a million rounds at most
abbrev patient : TenantRows
patient =
    record third {
      machines = [];
      tasks = record { name = codes "x"; job = codes "light"; preferred = []; machine = None; waited = 1000000 } ∷ [];
    }

patient_rows : rows_after patient (round_of patient) ≡ patient
patient_rows = refl

-- or as many as the tenant's patience
abbrev waiting : ℕ → TenantRows
waiting waited =
    record patient {
      limits = record (limits 0 0) { patience = 3 };
      tasks = record { name = codes "x"; job = codes "light"; preferred = []; machine = None; waited = waited } ∷ [];
    }

third_wait : rows_after (waiting 2) (round_of (waiting 2)) ≡ waiting 3
third_wait = refl

fourth_wait : rows_after (waiting 3) (round_of (waiting 3)) ≡ waiting 3
fourth_wait = refl

-- one slot and one weight, and a task that has waited as long as churn is high: it takes the machine of one that was
-- submitted later, and of no other
abbrev tied : List Task → TenantRows
tied tasks =
    record {
      limits = record (limits 0 3) { patience = 3 };
      machines = record { name = codes "m1"; slots = 1 } ∷ [];
      jobs = record { name = codes "j"; weight = 10 } ∷ [];
      tasks = tasks;
    }

abbrev waiter : Task
waiter = record { name = codes "x"; job = codes "j"; preferred = []; machine = None; waited = 3 }

abbrev runner : Task
runner = record { name = codes "y"; job = codes "j"; preferred = []; machine = Some (codes "m1"); waited = 0 }

tied_costs : costed (tied (waiter ∷ runner ∷ []))
    ≡ (On 0 ∷ Wait ∷ [], 13) ∷ (Wait ∷ On 0 ∷ [], 13) ∷ (Wait ∷ Wait ∷ [], 26) ∷ []
tied_costs = refl

waiter_first : round_of (tied (waiter ∷ runner ∷ [])) ≡ On 0 ∷ Wait ∷ []
waiter_first = refl

runner_first : round_of (tied (runner ∷ waiter ∷ [])) ≡ On 0 ∷ Wait ∷ []
runner_first = refl

-- two machines of one slot, and two tasks that prefer the second: one of them pays for the first
abbrev preferring : TenantRows
preferring =
    record {
      limits = record (limits 0 0) { remote = 7 };
      machines = record { name = codes "m1"; slots = 1 } ∷ record { name = codes "m2"; slots = 1 } ∷ [];
      jobs = record { name = codes "j"; weight = 20 } ∷ [];
      tasks = new_task (codes "j") (codes "x") (codes "m2" ∷ []) ∷ new_task (codes "j") (codes "y") (codes "m2" ∷ [])
          ∷ [];
    }

preferring_costs : costed preferring
    ≡ (On 0 ∷ On 1 ∷ [], 7) ∷ (On 0 ∷ Wait ∷ [], 27) ∷ (On 1 ∷ On 0 ∷ [], 7) ∷ (On 1 ∷ Wait ∷ [], 20)
    ∷ (Wait ∷ On 0 ∷ [], 27) ∷ (Wait ∷ On 1 ∷ [], 20) ∷ (Wait ∷ Wait ∷ [], 40) ∷ []
preferring_costs = refl

preferring_round : round_of preferring ≡ On 0 ∷ On 1 ∷ []
preferring_round = refl

-- where the first machine costs more than a wait, one of them waits
abbrev farther : TenantRows
farther = record preferring { limits = record (limits 0 0) { remote = 50 } }

farther_round : round_of farther ≡ On 1 ∷ Wait ∷ []
farther_round = refl

farther_cost : placement_cost (case_of farther) (On 1 ∷ Wait ∷ []) ≡ 20
farther_cost = refl

-- a task that stays pays nothing
abbrev staying : TenantRows
staying = without_task (rows_after preferring (round_of preferring)) (codes "y")

staying_costs : costed staying ≡ (On 0 ∷ [], 0) ∷ (On 1 ∷ [], 0) ∷ (Wait ∷ [], 20) ∷ []
staying_costs = refl

staying_round : round_of staying ≡ On 0 ∷ []
staying_round = refl

-- its preference is an arc as long as the machine is there
staying_use : arena_use staying ≡ record { nodes = 6; arcs = 9 }
staying_use = refl

drained_use : arena_use (without_machine staying (codes "m2")) ≡ record { nodes = 5; arcs = 6 }
drained_use = refl
