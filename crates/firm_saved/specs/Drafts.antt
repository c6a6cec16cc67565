-- The state so far by its rows, and the next row.
use Rattle.std.specs.Prelude.{ℕ, ℤ, Bool, true, not, ◌||◌, ◌==◌, ◌+◌, List, [], ◌∷◌, ◌++◌, Option, Some, None}
use Rattle.std.specs.Prelude.{Result, Ok, Err, length, max, min, nat_le, nat_lt, option_map, if◌then◌else◌}
use Rattle.std.specs.List.{list_all, list_any}
use Rattle.std.specs.Option.{is_none, is_some}
use Rattle.firm_rules.specs.ArenaUse.{arena_arcs, arena_nodes}
use Rattle.firm_rules.specs.Book.{TenantRows, Book, are_machines, job_names, machine_names, opening_rows}
use Rattle.firm_rules.specs.Book.{running_on, task_names, with_job, with_machine, with_restored}
use Rattle.firm_rules.specs.Limits.{TenantLimits}
use Rattle.firm_rules.specs.Names.{is_among}
use Rattle.firm_rules.specs.declared.book.Machine.{Machine}
use Rattle.firm_rules.specs.declared.book.Job.{Job}
use Rattle.firm_rules.specs.declared.book.Task.{Task}
use Rattle.firm_text.specs.Commands.{◌>>=◌}
use Rattle.firm_text.specs.Registers.{is_named, most_admissions}
use Rattle.firm_text.specs.Rosters.{most_places}
use Rattle.firm_saved.specs.Saved.{filled, tenant_name}
use Rattle.firm_rules.specs.SoundBook.{book_fault, may_run, most_rounds, rounds_shown}
use Rattle.firm_saved.specs.declared.faults.FaultKind.{FaultKind}
use Rattle.firm_saved.specs.declared.faults.FaultKind.TheVariants as fault
use Rattle.firm_saved.specs.declared.rows.Row.{Row}
use Rattle.firm_saved.specs.declared.rows.Row.TheVariants as row
use Rattle.firm_saved.specs.declared.saved.SavedPlace.{SavedPlace}
use Rattle.firm_rules.specs.declared.books.BookFault.{BookFault}
use Rattle.firm_rules.specs.declared.books.BookFault.TheVariants.{Cost, Life, Count, Rounds, Crowded}

-- a tenant of whose rows some were read; no costs mean that their row was not; there were this many
-- rounds at least, by the costs and tasks that were read
pub record TenantDraft : Type 0 where
  pub name : List ℕ
  pub rows : TenantRows
  pub costs : Option (List ℤ)
  pub given : ℕ
  pub rounds : ℕ

-- the places that were read, how often the last of them was given, and its tenant so far
pub record Draft : Type 0 where
  pub before : List SavedPlace
  pub present : Option ℕ
  pub tenant : Option TenantDraft

-- nothing was read
abbrev pub empty_draft : Draft
empty_draft = record { before = []; present = None; tenant = None }

-- the value, unless there is a fault
abbrev pub unless : {A : Type 0} → Option FaultKind → A → Result A FaultKind
unless None value = Ok value
unless (Some kind) value = Err kind

-- the first of two faults
abbrev pub either : Option FaultKind → Option FaultKind → Option FaultKind
either None second = second
either (Some kind) second = Some kind

-- the costs that were read: none before their row
abbrev pub costs_read : Option (List ℤ) → List ℤ
costs_read None = []
costs_read (Some costs) = costs

-- the limits leave no room for a node and this many arcs more
abbrev pub arena_fault : TenantRows → ℕ → Option FaultKind
arena_fault rows arcs =
    if nat_lt rows.limits.nodes (arena_nodes rows + 1) then Some fault.ArenaNodes
    else (if nat_lt rows.limits.arcs (arena_arcs rows + arcs) then Some fault.ArenaArcs else None)

-- how many rows of machines, jobs and tasks were read
abbrev pub row_count : TenantRows → ℕ
row_count rows = length rows.machines + length rows.jobs + length rows.tasks

-- the tenant was given too few commands for this many rows more and this many rounds, each of which took one
abbrev pub commands_fault : TenantDraft → ℕ → ℕ → Option FaultKind
commands_fault tenant more rounds =
    if nat_lt tenant.given (row_count tenant.rows + more + rounds) then Some fault.Commands else None

-- why the tenant may not have one more row, with this many arcs, where there were this many rounds
abbrev pub limit_fault : TenantDraft → ℕ → ℕ → Option FaultKind
limit_fault tenant arcs rounds = either (arena_fault tenant.rows arcs) (commands_fault tenant 1 rounds)

-- why these costs may not be the next row of a tenant
abbrev pub costs_fault : TenantDraft → List ℤ → Option FaultKind
costs_fault tenant costs =
    if is_some tenant.costs then Some fault.Row else commands_fault tenant 0 (length costs)

-- why a machine may not be the next row of a tenant
abbrev pub machine_fault : TenantDraft → Machine → Option FaultKind
machine_fault tenant machine =
    if is_none tenant.costs || nat_lt 0 (length tenant.rows.jobs) || nat_lt 0 (length tenant.rows.tasks)
    then Some fault.Row
    else (if is_among (machine_names tenant.rows) machine.name then Some fault.Repeated
    else limit_fault tenant (1 + machine.slots) tenant.rounds)

-- why a job may not be the next row of a tenant
abbrev pub job_fault : TenantDraft → Job → Option FaultKind
job_fault tenant job =
    if is_none tenant.costs || nat_lt 0 (length tenant.rows.tasks) then Some fault.Row
    else (if is_among (job_names tenant.rows) job.name then Some fault.Repeated
    else limit_fault tenant 1 tenant.rounds)

-- whether no machine runs more tasks than it has slots
abbrev pub has_room : TenantRows → Bool
has_room rows = list_all (λ machine. nat_le (running_on rows machine.name) machine.slots) rows.machines

-- why a task may not run on this machine
abbrev pub running_fault : TenantRows → Task → Option (List ℕ) → Option FaultKind
running_fault rows task None = None
running_fault rows task (Some machine) =
    if not (is_among (machine_names rows) machine) then Some fault.NoSuchMachine
    else (if nat_lt 0 task.waited then Some fault.BadNumber
    else (if has_room (with_restored rows task) then None else Some fault.NoRoom))

-- why a task does not fit the rows that it names, or has waited too long
abbrev pub naming_fault : TenantRows → Task → Option FaultKind
naming_fault rows task =
    if is_among (task_names rows) task.name then Some fault.Repeated
    else (if not (is_among (job_names rows) task.job) then Some fault.NoSuchJob
    else (if not (are_machines rows task.preferred) then Some fault.NoSuchMachine
    else (if nat_lt rows.limits.patience task.waited then Some fault.BadNumber else None)))

-- a task shows more rounds than left costs, of which the last 8 are recorded
abbrev pub rounds_fault : List ℤ → Task → Option FaultKind
rounds_fault costs task = if nat_lt (length costs) (min 8 (rounds_shown task)) then Some fault.Rounds else None

-- how many rounds there were at least, by a task too
abbrev pub rounds_with : ℕ → Task → ℕ
rounds_with rounds task = max rounds (rounds_shown task)

-- the book of a tenant that has no more rows than these and the task
abbrev pub book_with : TenantDraft → Task → Book
book_with tenant task =
    record { rows = with_restored tenant.rows task; costs = costs_read tenant.costs; given = tenant.given }

-- the task runs where its wait would cost less than its slot, in each round that there may have been
abbrev pub slot_fault : Book → Task → Option (List ℕ) → Option FaultKind
slot_fault book task None = None
slot_fault book task (Some machine) =
    if may_run book.rows (most_rounds book) task machine (running_on book.rows machine) then None
    else Some fault.Crowded

-- so it does beside the tasks that were read; what the tasks that wait bid is judged once all are
abbrev pub crowded_fault : TenantDraft → Task → Option FaultKind
crowded_fault tenant task = slot_fault (book_with tenant task) task task.machine

-- why a task may not be the next row of a tenant
abbrev pub task_fault : TenantDraft → Task → Option FaultKind
task_fault tenant task =
    if is_none tenant.costs then Some fault.Row
    else either (naming_fault tenant.rows task)
    (either (running_fault tenant.rows task task.machine)
    (either (rounds_fault (costs_read tenant.costs) task)
    (either (limit_fault tenant (3 + length task.preferred) (rounds_with tenant.rounds task))
    (crowded_fault tenant task))))

-- the tenant once its costs, a machine, a job or a task are read
abbrev pub after_costs : TenantDraft → List ℤ → Result TenantDraft FaultKind
after_costs tenant costs =
    unless (costs_fault tenant costs) (record tenant { costs = Some costs; rounds = length costs })

abbrev pub after_machine : TenantDraft → Machine → Result TenantDraft FaultKind
after_machine tenant machine =
    unless (machine_fault tenant machine)
    (record tenant { rows = with_machine tenant.rows machine.name machine.slots })

abbrev pub after_job : TenantDraft → Job → Result TenantDraft FaultKind
after_job tenant job =
    unless (job_fault tenant job) (record tenant { rows = with_job tenant.rows job.name job.weight })

abbrev pub after_task : TenantDraft → Task → Result TenantDraft FaultKind
after_task tenant task =
    unless (task_fault tenant task)
    (record tenant { rows = with_restored tenant.rows task; rounds = rounds_with tenant.rounds task })

-- the tenant once one more of its rows is read
abbrev pub grown : TenantDraft → Row → Result TenantDraft FaultKind
grown tenant (row.Costs costs) = after_costs tenant costs
grown tenant (row.Machine machine) = after_machine tenant machine
grown tenant (row.Job job) = after_job tenant job
grown tenant (row.Task task) = after_task tenant task
grown tenant (row.Place admissions) = Err fault.Row
grown tenant (row.Tenant name limits given) = Err fault.Row
grown tenant (row.Rows count) = Err fault.Row

-- what keeps a book from being sound, as a fault of the text
abbrev pub kind_of : BookFault → FaultKind
kind_of Cost = fault.BadNumber
kind_of Life = fault.Commands
kind_of Count = fault.Commands
kind_of Rounds = fault.Rounds
kind_of Crowded = fault.Crowded

-- the tenant's name and its book, once its rows are read
abbrev pub booked : TenantDraft → Option (List ℤ) → Result (List ℕ × Book) FaultKind
booked tenant None = Err fault.Row
booked tenant (Some costs) =
    let book : Book = record { rows = tenant.rows; costs = costs; given = tenant.given } in
    unless (option_map kind_of (book_fault book)) (tenant.name, book)

-- a place, with the tenant that was read, if any
abbrev pub place_of : ℕ → Option TenantDraft → Result SavedPlace FaultKind
place_of admissions None = Ok (record { admissions = admissions; tenant = None })
place_of admissions (Some tenant) = do
  named ← booked tenant tenant.costs
  Ok (record { admissions = admissions; tenant = Some named })

-- the places with the present one, if any
abbrev pub closed : List SavedPlace → Option ℕ → Option TenantDraft → Result (List SavedPlace) FaultKind
closed before None tenant = Ok before
closed before (Some admissions) tenant = do
  place ← place_of admissions tenant
  Ok (before ++ place ∷ [])

-- all places that were read
abbrev pub whole : Draft → Result (List SavedPlace) FaultKind
whole draft = closed draft.before draft.present draft.tenant

-- why a place may not follow these
abbrev pub place_fault : List SavedPlace → ℕ → Option FaultKind
place_fault places admissions =
    if nat_le most_places (length places) then Some fault.Places
    else (if admissions == 0 || nat_lt most_admissions admissions then Some fault.BadNumber else None)

-- the draft once a place follows, which ends the rows of the one before
abbrev pub after_place : Draft → ℕ → Result Draft FaultKind
after_place draft admissions = do
  places ← whole draft
  unless (place_fault places admissions) (record { before = places; present = Some admissions; tenant = None })

-- whether a tenant of this name stays at one of the places
abbrev pub has_tenant : List SavedPlace → List ℕ → Bool
has_tenant places name = list_any (λ place. is_named name (tenant_name place)) places

-- why a tenant may not be the next row
abbrev pub tenant_fault : Draft → List ℕ → TenantLimits → ℕ → Option FaultKind
tenant_fault draft name limits given =
    if is_none draft.present || is_some draft.tenant then Some fault.Row
    else (if has_tenant draft.before name then Some fault.Repeated
    else (if nat_lt limits.life given then Some fault.Commands else None))

-- a tenant of which nothing more was read
abbrev pub new_tenant : List ℕ → TenantLimits → ℕ → TenantDraft
new_tenant name limits given =
    record { name = name; rows = opening_rows limits; costs = None; given = given; rounds = 0 }

-- the draft once its tenant has grown by a row
abbrev pub grown_in : Draft → Option TenantDraft → Row → Result Draft FaultKind
grown_in draft None line = Err fault.Row
grown_in draft (Some tenant) line = do
  more ← grown tenant line
  Ok (record draft { tenant = Some more })

-- the draft once one more row is read
abbrev pub taken : Draft → Row → Result Draft FaultKind
taken draft (row.Place admissions) = after_place draft admissions
taken draft (row.Tenant name limits given) =
    unless (tenant_fault draft name limits given) (record draft { tenant = Some (new_tenant name limits given) })
taken draft (row.Costs costs) = grown_in draft draft.tenant (row.Costs costs)
taken draft (row.Machine machine) = grown_in draft draft.tenant (row.Machine machine)
taken draft (row.Job job) = grown_in draft draft.tenant (row.Job job)
taken draft (row.Task task) = grown_in draft draft.tenant (row.Task task)
taken draft (row.Rows count) = Err fault.Row

-- the places, if the rows end here; a service has given one place at least
abbrev pub finished : Draft → Result (List SavedPlace) FaultKind
finished draft = do
  places ← whole draft
  if nat_lt 0 (length places) then Ok (filled places) else Err fault.Places
