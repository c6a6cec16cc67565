-- Common properties of the steps of all commands.
use Rattle.std.proofs.Common.{◌≡◌, ◌+◌, ◌<◌, ℕ, List, [], ◌∷◌, refl, ap, sym, ◌∙◌, arith, true≢false}
use Rattle.std.specs.Prelude.{Bool, true, false, not, Option, Some, None, nat_le, nat_lt, if◌then◌else◌}
use Rattle.std.proofs.lemmas.Bool.{leb-true, le-leb}
use Rattle.firm_rules.specs.ArenaUse.{arena_nodes, arena_arcs}
use Rattle.firm_rules.specs.Book.{Book, TenantRows, machine_names, job_names, task_names, with_machine, with_job}
use Rattle.firm_rules.specs.Book.{with_task, has_tasks, task_named, are_machines}
use Rattle.firm_rules.specs.Names.{is_among}
use Rattle.firm_rules.specs.declared.book.Task.{Task}
use Rattle.firm_rules.specs.declared.commands.Command.{Command}
use Rattle.firm_rules.specs.declared.commands.Command.TheVariants.{AddMachine, AddJob, AddTask, Drain, CloseJob, Done}
use Rattle.firm_rules.specs.declared.commands.Command.TheVariants.{Find, Show, Costs, Round, Faulty}
use Rattle.firm_rules.specs.declared.commands.LineFault.TheVariants.{BadCommand, BadName, BadNumber}
use Rattle.firm_rules.specs.declared.replies.Outcome.{Outcome}
use Rattle.firm_rules.specs.declared.replies.Reply.{Reply}
use Rattle.firm_tenant.specs.Step.{step, effect, grown, found, whereabouts_of, counted, is_memory, is_memory_outcome}
use Rattle.firm_tenant.specs.Laws.{UnmarkedStepsAreGranted, RepliesTellTheirMarks, AddsOneStep}
use Rattle.firm_tenant.specs.Laws.{OneMoreCommandAddsOneStep, CountsOnce, StepsCountOnce}

-- a mark's effect on a command: without one no outcome names memory, and only a mark that counts is named
record ReadsMark (after : Bool → Outcome × Book) : Type 0 where
  granted : is_memory_outcome (after false).0 ≡ false
  told : (mark : Bool) → after (is_memory_outcome (after mark).0) ≡ after mark

-- a mark that is not read
unread : (outcome : Outcome × Book) → is_memory_outcome outcome.0 ≡ false → ReadsMark (λ _. outcome)
unread outcome other = record { granted = other; told = λ _. refl }

either : (b : Bool) (first : Outcome × Book) (second : Bool → Outcome × Book) → is_memory_outcome first.0 ≡ false
    → ReadsMark second
    → ReadsMark (λ mark. if b then first else second mark)
either true first second other reads = unread first other
either false first second other reads = reads

-- a mark that is read where all else is well
granted_or_not : (refused done : Outcome × Book) → is_memory_outcome refused.0 ≡ true → is_memory_outcome done.0 ≡ false
    → ReadsMark (λ mark. if mark then refused else done)
granted_or_not refused done memory other =
    record {
      granted = other;
      told = λ mark. elim mark as (λ m. (if is_memory_outcome (if m then refused else done).0 then refused else done)
          ≡ (if m then refused else done)) [
            | true ↦ ap (λ (b : Bool). if b then refused else done) memory
            | false ↦ ap (λ (b : Bool). if b then refused else done) other
          ];
    }

grown-reads : (book : Book) (rows : TenantRows) → ReadsMark (grown book rows)
grown-reads book rows =
    either (nat_lt rows.limits.nodes (arena_nodes rows)) _ _ refl
    (either (nat_lt rows.limits.arcs (arena_arcs rows)) _ _ refl (granted_or_not _ _ refl refl))

found-reads : (book : Book) (task : Option Task) → ReadsMark (λ _. found book task)
found-reads book None = unread (found book None) refl
found-reads book (Some task) = unread (found book (Some task)) (there task.machine)
  where
    there : (machine : Option (List ℕ)) → is_memory_outcome (whereabouts_of machine task.waited) ≡ false
    there None = refl
    there (Some name) = refl

effect-reads : (book : Book) (command : Command) → ReadsMark (effect book command)
effect-reads book (AddMachine name slots) =
    either (is_among (machine_names book.rows) name) _ _ refl (grown-reads book (with_machine book.rows name slots))
effect-reads book (AddJob name weight) =
    either (is_among (job_names book.rows) name) _ _ refl (grown-reads book (with_job book.rows name weight))
effect-reads book (AddTask job name preferred) =
    either (not (are_machines book.rows preferred)) _ _ refl
    (either (not (is_among (job_names book.rows) job)) _ _ refl
    (either (is_among (task_names book.rows) name) _ _ refl
    (grown-reads book (with_task book.rows job name preferred))))
effect-reads book (Drain name) = either (not (is_among (machine_names book.rows) name)) _ (λ _. _) refl (unread _ refl)
effect-reads book (CloseJob name) =
    either (not (is_among (job_names book.rows) name)) _ (λ _. _) refl
    (either (has_tasks book.rows name) _ (λ _. _) refl (unread _ refl))
effect-reads book (Done name) = either (not (is_among (task_names book.rows) name)) _ (λ _. _) refl (unread _ refl)
effect-reads book (Find name) = found-reads book (task_named book.rows name)
effect-reads book Show = unread _ refl
effect-reads book Costs = unread _ refl
effect-reads book Round = granted_or_not _ _ refl refl
effect-reads book (Faulty BadCommand) = unread _ refl
effect-reads book (Faulty BadName) = unread _ refl
effect-reads book (Faulty BadNumber) = unread _ refl

pub granted : UnmarkedStepsAreGranted
granted book command = by (nat_le book.rows.limits.life book.given) refl
  where
    by : (worn : Bool) → nat_le book.rows.limits.life book.given ≡ worn → is_memory (step book command false).0 ≡ false
    by true e = rw e refl
    by false e = rw e (effect-reads (counted book) command).granted

pub told : RepliesTellTheirMarks
told book command mark = by (nat_le book.rows.limits.life book.given) refl
  where
    by : (worn : Bool) → nat_le book.rows.limits.life book.given ≡ worn
        → step book command (is_memory (step book command mark).0) ≡ step book command mark
    by true e = rw e refl
    by false e =
        rw e (ap (λ (after : Outcome × Book). let reply : Reply =
        record { number = book.given + 1; outcome = after.0 } in (reply, after.1))
        ((effect-reads (counted book) command).told mark))

pub one_more : OneMoreCommandAddsOneStep
one_more book [] last = record { replies = refl; book_is = refl }
one_more book (given ∷ rest) last =
    let after = step book given.0 given.1 in
    let more : AddsOneStep after.1 rest last = one_more after.1 rest last in
    record { replies = ap (λ (l : List Reply). after.0 ∷ l) more.replies; book_is = more.book_is }

-- what a command leaves of the book in which it is counted
abbrev Keeps : Book → Outcome × Book → Type 0
Keeps book after = (after.1.rows.limits ≡ book.rows.limits) × (after.1.given ≡ book.given)

either-keeps : (book : Book) (b : Bool) (first second : Outcome × Book) → Keeps book first → Keeps book second
    → Keeps book (if b then first else second)
either-keeps book true first second one other = one
either-keeps book false first second one other = other

grown-keeps : (book : Book) (rows : TenantRows) (mark : Bool) → rows.limits ≡ book.rows.limits
    → Keeps book (grown book rows mark)
grown-keeps book rows mark same =
    either-keeps book (nat_lt rows.limits.nodes (arena_nodes rows)) _ _ (refl, refl)
    (either-keeps book (nat_lt rows.limits.arcs (arena_arcs rows)) _ _ (refl, refl)
    (either-keeps book mark _ _ (refl, refl) (same, refl)))

found-keeps : (book : Book) (task : Option Task) → Keeps book (found book task)
found-keeps book None = (refl, refl)
found-keeps book (Some task) = (refl, refl)

pub effect-keeps : (book : Book) (command : Command) (mark : Bool) → Keeps book (effect book command mark)
effect-keeps book (AddMachine name slots) mark =
    either-keeps book (is_among (machine_names book.rows) name) _ _ (refl, refl)
    (grown-keeps book (with_machine book.rows name slots) mark refl)
effect-keeps book (AddJob name weight) mark =
    either-keeps book (is_among (job_names book.rows) name) _ _ (refl, refl)
    (grown-keeps book (with_job book.rows name weight) mark refl)
effect-keeps book (AddTask job name preferred) mark =
    either-keeps book (not (are_machines book.rows preferred)) _ _ (refl, refl)
    (either-keeps book (not (is_among (job_names book.rows) job)) _ _ (refl, refl)
    (either-keeps book (is_among (task_names book.rows) name) _ _ (refl, refl)
    (grown-keeps book (with_task book.rows job name preferred) mark refl)))
effect-keeps book (Drain name) mark =
    either-keeps book (not (is_among (machine_names book.rows) name)) _ _ (refl, refl) (refl, refl)
effect-keeps book (CloseJob name) mark =
    either-keeps book (not (is_among (job_names book.rows) name)) _ _ (refl, refl)
    (either-keeps book (has_tasks book.rows name) _ _ (refl, refl) (refl, refl))
effect-keeps book (Done name) mark =
    either-keeps book (not (is_among (task_names book.rows) name)) _ _ (refl, refl) (refl, refl)
effect-keeps book (Find name) mark = found-keeps book (task_named book.rows name)
effect-keeps book Show mark = (refl, refl)
effect-keeps book Costs mark = (refl, refl)
effect-keeps book Round mark = either-keeps book mark _ _ (refl, refl) (refl, refl)
effect-keeps book (Faulty fault) mark = (refl, refl)

pub count_once : StepsCountOnce
count_once book command mark = by (nat_le book.rows.limits.life book.given) refl
  where
    by : (worn : Bool) → nat_le book.rows.limits.life book.given ≡ worn → CountsOnce book command mark
    by true e =
        record {
          limits = rw e refl;
          counted = λ left. absurd (omega (arith, left, leb-true book.rows.limits.life book.given e));
          worn = λ _. rw e refl;
        }
    by false e =
        let kept : Keeps (counted book) (effect (counted book) command mark) =
        effect-keeps (counted book) command mark in
        record {
          limits = rw e kept.0;
          counted = λ _. rw e kept.1;
          worn = λ past. absurd (true≢false (sym (le-leb book.rows.limits.life book.given past) ∙ e));
        }

-- where life is left, a step is what the command comes to in the book that counts it
pub step-alive : (book : Book) (command : Command) (mark : Bool) (after : Outcome × Book)
    → book.given < book.rows.limits.life
    → after ≡ effect (counted book) command mark
    → (let reply : Reply = record { number = book.given + 1; outcome = after.0 } in (reply, after.1))
    ≡ step book command mark
step-alive book command mark after alive is =
    rw (left (nat_le book.rows.limits.life book.given) refl)
    (ap (λ (a : Outcome × Book). let reply : Reply = record { number = book.given + 1; outcome = a.0 } in (reply, a.1))
    is)
  where
    left : (worn : Bool) → nat_le book.rows.limits.life book.given ≡ worn
        → nat_le book.rows.limits.life book.given ≡ false
    left true e = absurd (omega (arith, alive, leb-true book.rows.limits.life book.given e))
    left false e = e
