-- One command of a tenant: the reply to it, and the book after it.
use Rattle.std.specs.Prelude.{ℕ, ℤ, pos, ◌+◌, Bool, true, false, not, List, nat_lt, nat_le, length, Option, Some, None}
use Rattle.std.specs.Prelude.{if◌then◌else◌}
use Rattle.firm_rules.specs.Book.{Book, TenantRows, machine_names, job_names, task_names, with_machine, with_job}
use Rattle.firm_rules.specs.Book.{with_task, without_machine, without_job, without_task, running_on, running_count}
use Rattle.firm_rules.specs.Book.{has_tasks, task_named, are_machines}
use Rattle.firm_rules.specs.ArenaUse.{arena_nodes, arena_arcs}
use Rattle.firm_rules.specs.Names.{is_among}
use Rattle.firm_rules.specs.Placement.{placement_cost}
use Rattle.firm_rules.specs.Recent.{with_cost}
use Rattle.firm_rules.specs.Refusals.{fault_refusal}
use Rattle.firm_rules.specs.Round.{case_of, round_placement, changes_made, rows_after}
use Rattle.firm_rules.specs.declared.book.Task.{Task}
use Rattle.firm_rules.specs.declared.rounds.Choice.{Choice}
use Rattle.firm_rules.specs.declared.commands.Command.{Command}
use Rattle.firm_rules.specs.declared.commands.Command.TheVariants.{AddMachine, AddJob, AddTask, Drain, CloseJob, Done}
use Rattle.firm_rules.specs.declared.commands.Command.TheVariants.{Find, Show, Costs as CostsCommand}
use Rattle.firm_rules.specs.declared.commands.Command.TheVariants.{Round as RoundCommand, Faulty}
use Rattle.firm_rules.specs.declared.replies.Reply.{Reply}
use Rattle.firm_rules.specs.declared.replies.Outcome.{Outcome}
use Rattle.firm_rules.specs.declared.replies.Outcome.TheVariants.{Plain, Evicted, At, Waits, Shown, Costs, Round}
use Rattle.firm_rules.specs.declared.replies.Outcome.TheVariants.{Refused}
use Rattle.firm_rules.specs.declared.replies.Refusal.{Refusal}
use Rattle.firm_rules.specs.declared.replies.Refusal.TheVariants.{Worn, MachineExists, NoSuchMachine, JobExists}
use Rattle.firm_rules.specs.declared.replies.Refusal.TheVariants.{NoSuchJob, TaskExists, NoSuchTask, JobHasTasks}
use Rattle.firm_rules.specs.declared.replies.Refusal.TheVariants.{ArenaNodes, ArenaArcs, Memory}

-- a refused command leaves the book, which already counts it, as it is
abbrev pub refused : Book → Refusal → Outcome × Book
refused book refusal = (Refused refusal, book)

-- the book takes these rows if they fit its limits and memory was granted
abbrev pub grown : Book → TenantRows → Bool → Outcome × Book
grown book rows mark =
    if nat_lt rows.limits.nodes (arena_nodes rows) then refused book ArenaNodes
    else (if nat_lt rows.limits.arcs (arena_arcs rows) then refused book ArenaArcs
    else (if mark then refused book Memory
    else (Plain, record book { rows = rows })))

-- the machine that a task runs on, or else how many rounds left it waiting
abbrev pub whereabouts_of : Option (List ℕ) → ℕ → Outcome
whereabouts_of (Some machine) waited = At machine
whereabouts_of None waited = Waits waited

-- where a task runs, or how many rounds left it waiting
abbrev pub whereabouts : Task → Outcome
whereabouts task = whereabouts_of task.machine task.waited

-- the counts of the rows, and the limits of nodes and arcs
abbrev pub counts_of : TenantRows → Outcome
counts_of rows =
    Shown (length rows.machines) (length rows.jobs) (length rows.tasks) (running_count rows.tasks)
    (arena_nodes rows) rows.limits.nodes (arena_arcs rows) rows.limits.arcs

-- the whereabouts of a task, or a refusal if there is no such task
abbrev pub found : Book → Option Task → Outcome × Book
found book None = refused book NoSuchTask
found book (Some task) = (whereabouts task, book)

-- what a placement costs and changes, and the book after it, with the cost as the newest of 8
abbrev pub round_effect : Book → List Choice → Outcome × Book
round_effect book placement =
    let cost : ℤ = pos (placement_cost (case_of book.rows) placement) in (
      Round cost (changes_made book.rows placement),
      record book { rows = rows_after book.rows placement; costs = with_cost book.costs cost },
    )

-- the outcome of a command, and the book after it; the mark says that memory for it was refused
abbrev pub effect : Book → Command → Bool → Outcome × Book
effect book (AddMachine name slots) mark =
    if is_among (machine_names book.rows) name then refused book MachineExists
    else grown book (with_machine book.rows name slots) mark
effect book (AddJob name weight) mark =
    if is_among (job_names book.rows) name then refused book JobExists
    else grown book (with_job book.rows name weight) mark
effect book (AddTask job name preferred) mark =
    if not (are_machines book.rows preferred) then refused book NoSuchMachine
    else (if not (is_among (job_names book.rows) job) then refused book NoSuchJob
    else (if is_among (task_names book.rows) name then refused book TaskExists
    else grown book (with_task book.rows job name preferred) mark))
effect book (Drain name) mark =
    if not (is_among (machine_names book.rows) name) then refused book NoSuchMachine
    else (Evicted (running_on book.rows name), record book { rows = without_machine book.rows name })
effect book (CloseJob name) mark =
    if not (is_among (job_names book.rows) name) then refused book NoSuchJob
    else (if has_tasks book.rows name then refused book JobHasTasks
    else (Plain, record book { rows = without_job book.rows name }))
effect book (Done name) mark =
    if not (is_among (task_names book.rows) name) then refused book NoSuchTask
    else (Plain, record book { rows = without_task book.rows name })
effect book (Find name) mark = found book (task_named book.rows name)
effect book Show mark = (counts_of book.rows, book)
effect book CostsCommand mark = (Costs book.costs, book)
effect book RoundCommand mark =
    if mark then refused book Memory else round_effect book (round_placement (case_of book.rows))
effect book (Faulty fault) mark = refused book (fault_refusal fault)

-- the book with one more command given
abbrev pub counted : Book → Book
counted book = record book { given = book.given + 1 }

-- the reply to a command, and the book after it: a worn tenant no longer changes, and any other counts the command
abbrev pub step : Book → Command → Bool → Reply × Book
step book command mark =
    if nat_le book.rows.limits.life
    book.given then (record { number = book.rows.limits.life + 1; outcome = Refused Worn }, book)
    else (let after =
    effect (counted book) command mark in (record { number = book.given + 1; outcome = after.0 }, after.1))

-- whether an outcome is the refusal for lack of memory
abbrev pub is_memory_outcome : Outcome → Bool
is_memory_outcome (Refused Memory) = true
is_memory_outcome _ = false

-- whether a reply is that refusal
abbrev pub is_memory : Reply → Bool
is_memory reply = is_memory_outcome reply.outcome
