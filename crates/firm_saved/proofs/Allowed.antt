-- Rows that may stand in the place of a row without a fault.
use Rattle.std.proofs.Common.{◌≡◌, ◌≤◌, ◌+◌, ℕ, Bool, true, false, cond, not, ◌||◌, List, [], ◌∷◌, ◌++◌, length}
use Rattle.std.proofs.Common.{refl, ap, ◌∙◌, arith, Option, Some, None, true≢false}
use Rattle.std.specs.Prelude.{All, IfSome, nat_le, nat_lt}
use Rattle.std.specs.List.{list_all, AllByRecursion}
use Rattle.std.specs.Option.{is_none}
use Rattle.std.proofs.lemmas.Bool.{and_parts, leb-true, ltb-false, or_parts}
use Rattle.std.proofs.lemmas.List.{length_push, map-append}
use Rattle.std.proofs.lemmas.List.Elements.{All-from_recursion}
use Rattle.std.proofs.lemmas.List.Sums.{sum_by-append, sum_by-cons}
use Rattle.firm_rules.specs.ArenaUse.{FitsLimits, arena_arcs, arena_nodes}
use Rattle.firm_rules.specs.Book.{TenantRows, are_machines, job_names, machine_names, running_on}
use Rattle.firm_rules.specs.Book.{task_names}
use Rattle.firm_rules.specs.Book.{with_job, with_machine, with_restored}
use Rattle.firm_rules.specs.Names.{is_among}
use Rattle.firm_rules.specs.declared.book.Machine.{Machine}
use Rattle.firm_rules.specs.declared.book.Job.{Job}
use Rattle.firm_rules.specs.declared.book.Task.{Task}
use Rattle.firm_rules.specs.Sound.{HasRoom}
use Rattle.firm_saved.specs.declared.faults.FaultKind.{FaultKind}
use Rattle.firm_saved.specs.declared.faults.FaultKind.TheVariants as fault
use Rattle.firm_saved.specs.Drafts.{TenantDraft, arena_fault, commands_fault, has_room, job_fault, limit_fault}
use Rattle.firm_saved.specs.Drafts.{costs_read, machine_fault, naming_fault, rounds_fault, rounds_with}
use Rattle.firm_saved.specs.Drafts.{running_fault, task_fault}
use Rattle.firm_saved.specs.inner.Loads.{loads_of}
use Rattle.firm_saved.proofs.Steps.{either_none, none_cond, nothing}

-- where a fault is none, there is none
pub no_fault : (o : Option FaultKind) → ((kind : FaultKind) → o ≡ Some kind → ⊥) → o ≡ None
no_fault None none = refl
no_fault (Some kind) none = absurd (none kind refl)

-- room for a node and these arcs
record HasSpace (rows : TenantRows) (arcs : ℕ) : Type 0 where
  nodes : arena_nodes rows + 1 ≤ rows.limits.nodes
  arcs_fit : arena_arcs rows + arcs ≤ rows.limits.arcs

arena_allows : (rows : TenantRows) (arcs : ℕ) → arena_fault rows arcs ≡ None → HasSpace rows arcs
arena_allows rows arcs e =
    let first = none_cond (nat_lt rows.limits.nodes (arena_nodes rows + 1)) fault.ArenaNodes _ e in
    let second = none_cond (nat_lt rows.limits.arcs (arena_arcs rows + arcs)) fault.ArenaArcs None first.1 in
    record { nodes = ltb-false _ _ first.0; arcs_fit = ltb-false _ _ second.0 }

limit_allows : (t : TenantDraft) (arcs rounds : ℕ) → limit_fault t arcs rounds ≡ None → HasSpace t.rows arcs
limit_allows t arcs rounds e =
    arena_allows t.rows arcs (either_none (arena_fault t.rows arcs) (commands_fault t 1 rounds) e).0

pub record MachineMay (rows : TenantRows) (machine : Machine) : Type 0 where
  pub new : is_among (machine_names rows) machine.name ≡ false
  pub fits : FitsLimits (with_machine rows machine.name machine.slots)
  pub loads : loads_of (with_machine rows machine.name machine.slots) ≡ loads_of rows ++ 0 ∷ []

pub machine_may : (t : TenantDraft) (m : Machine) → machine_fault t m ≡ None → MachineMay t.rows m
machine_may t m e =
    let first = none_cond _ fault.Row _ e in
    let parts = or_parts (is_none t.costs || nat_lt 0 (length t.rows.jobs)) (nat_lt 0 (length t.rows.tasks)) first.0 in
    let second = none_cond (is_among (machine_names t.rows) m.name) fault.Repeated _ first.1 in
    let space = limit_allows t (1 + m.slots) t.rounds second.1 in
    let n = space.nodes in
    let a = space.arcs_fit in
    let f : Machine → ℕ = λ (x : Machine). 1 + x.slots in
    record {
      new = second.0;
      fits = record {
        nodes = omega (arith, length_push t.rows.machines m);
        arcs = omega (arith, sum_by-append f t.rows.machines (m ∷ []), sum_by-cons f m []);
      };
      loads = map-append (λ (x : Machine). running_on t.rows x.name) t.rows.machines (m ∷ [])
          ∙ ap (λ (tasks : List Task). loads_of t.rows
          ++ running_on (record t.rows { tasks = tasks }) m.name ∷ []) (nothing t.rows.tasks parts.1);
    }

pub record JobMay (rows : TenantRows) (job : Job) : Type 0 where
  pub new : is_among (job_names rows) job.name ≡ false
  pub fits : FitsLimits (with_job rows job.name job.weight)

pub job_may : (t : TenantDraft) (j : Job) → job_fault t j ≡ None → JobMay t.rows j
job_may t j e =
    let first = none_cond _ fault.Row _ e in
    let second = none_cond (is_among (job_names t.rows) j.name) fault.Repeated _ first.1 in
    let space = limit_allows t 1 t.rounds second.1 in
    let n = space.nodes in
    let a = space.arcs_fit in
    record {
      new = second.0;
      fits = record {
        nodes = omega (arith, length_push t.rows.jobs j);
        arcs = omega
            (arith, length_push t.rows.jobs j);
      };
    }

-- what each test passes
pub each_passed : {X : Type 0} (p : X → Bool) (xs : List X) → list_all p xs ≡ true → AllByRecursion (λ x. p x ≡ true) xs
each_passed p [] e = tt
each_passed p (x ∷ xs) e =
    let parts = and_parts (p x) (list_all p xs) e in (parts.0, each_passed p xs parts.1)

pub record TaskMay (rows : TenantRows) (task : Task) : Type 0 where
  pub job : is_among (job_names rows) task.job ≡ true
  pub new : is_among (task_names rows) task.name ≡ false
  pub machine : IfSome task.machine (λ name. is_among (machine_names rows) name ≡ true)
  pub preferred : All (λ name. is_among (machine_names rows) name ≡ true) task.preferred
  pub room : IfSome task.machine (λ _. HasRoom (with_restored rows task))
  pub waited : task.waited ≤ rows.limits.patience
  pub running : IfSome task.machine (λ _. task.waited ≡ 0)
  pub fits : FitsLimits (with_restored rows task)

not_false : (b : Bool) → not b ≡ false → b ≡ true
not_false true e = refl
not_false false e = absurd (true≢false e)

record RunMay (rows : TenantRows) (task : Task) (machine : Option (List ℕ)) : Type 0 where
  there : IfSome machine (λ name. is_among (machine_names rows) name ≡ true)
  room : IfSome machine (λ _. HasRoom (with_restored rows task))
  idle : IfSome machine (λ _. task.waited ≡ 0)

run_may : (rows : TenantRows) (task : Task) (machine : Option (List ℕ)) → running_fault rows task machine ≡ None
    → RunMay rows task machine
run_may rows task None e = record { there = tt; room = tt; idle = tt }
run_may rows task (Some machine) e =
    let first = none_cond (not (is_among (machine_names rows) machine)) fault.NoSuchMachine _ e in
    let second = none_cond (nat_lt 0 task.waited) fault.BadNumber _ first.1 in
    let few = ltb-false 0 task.waited second.0 in
    record {
      there = not_false (is_among (machine_names rows) machine) first.0;
      room = roomy (has_room (with_restored rows task)) refl second.1;
      idle = omega arith;
    }
  where
    roomy : (b : Bool) → has_room (with_restored rows task) ≡ b → cond b None (Some fault.NoRoom) ≡ None
        → HasRoom (with_restored rows task)
    roomy true is e =
        λ k d below. leb-true _ _ (All-from_recursion
        (λ (machine : Machine). nat_le (running_on (with_restored rows task) machine.name) machine.slots ≡ true)
        rows.machines
        (each_passed (λ (machine : Machine). nat_le (running_on (with_restored rows task) machine.name) machine.slots)
        rows.machines is) k d below)
    roomy false is e = absurd cc

pub task_may : (t : TenantDraft) (task : Task) → task_fault t task ≡ None → TaskMay t.rows task
task_may t task e =
    let first = none_cond (is_none t.costs) fault.Row _ e in
    let second = either_none (naming_fault t.rows task) _ first.1 in
    let third = either_none (running_fault t.rows task task.machine) _ second.1 in
    let new = none_cond (is_among (task_names t.rows) task.name) fault.Repeated _ second.0 in
    let job = none_cond (not (is_among (job_names t.rows) task.job)) fault.NoSuchJob _ new.1 in
    let preferred = none_cond (not (are_machines t.rows task.preferred)) fault.NoSuchMachine _ job.1 in
    let waited = none_cond (nat_lt t.rows.limits.patience task.waited) fault.BadNumber None preferred.1 in
    let run = run_may t.rows task task.machine third.0 in
    let fourth = either_none (rounds_fault (costs_read t.costs) task) _ third.1 in
    let fifth = either_none (limit_fault t (3 + length task.preferred) (rounds_with t.rounds task)) _ fourth.1 in
    let space = limit_allows t (3 + length task.preferred) (rounds_with t.rounds task) fifth.0 in
    let n = space.nodes in
    let a = space.arcs_fit in
    let f : Task → ℕ = λ (x : Task). length x.preferred in
    record {
      job = not_false (is_among (job_names t.rows) task.job) job.0;
      new = new.0;
      machine = run.there;
      preferred = All-from_recursion (λ name. is_among (machine_names t.rows) name ≡ true) task.preferred
          (each_passed (is_among (machine_names t.rows)) task.preferred
          (not_false (are_machines t.rows task.preferred) preferred.0));
      room = run.room;
      waited = ltb-false t.rows.limits.patience task.waited waited.0;
      running = run.idle;
      fits = record {
        nodes = omega (arith, length_push t.rows.tasks task);
        arcs = omega (
          arith,
          length_push t.rows.tasks task,
          sum_by-append f t.rows.tasks (task ∷ []),
          sum_by-cons f task [],
        );
      };
    }
