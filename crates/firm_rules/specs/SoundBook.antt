-- What holds of the book of a tenant at all times.
use Rattle.std.specs.Prelude.{◌≡◌, ℕ, ℤ, pos, negsuc, ◌+◌, ◌-◌, ◌*◌, ◌≤◌, Bool, true, false, not, ◌&&◌, ◌||◌}
use Rattle.std.specs.Prelude.{nat_lt, nat_le, min, max, List, [], ◌∷◌, length, All, IfSome, Option, Some, None, is_some}
use Rattle.std.specs.Prelude.{if◌then◌else◌}
use Rattle.std.specs.List.{list_all}
use Rattle.firm_rules.specs.Limits.{TenantLimits, are_limits}
use Rattle.firm_rules.specs.Names.{is_name, is_among}
use Rattle.firm_rules.specs.Book.{TenantRows, Book, opening_book, running_on}
use Rattle.firm_rules.specs.Placement.{slot_cost}
use Rattle.firm_rules.specs.Round.{job_place, weight_at}
use Rattle.firm_rules.specs.Sound.{AreSound}
use Rattle.firm_rules.specs.declared.book.Task.{Task}
use Rattle.firm_rules.specs.declared.books.BookFault.{BookFault}
use Rattle.firm_rules.specs.declared.books.BookFault.TheVariants.{Cost, Life, Count, Rounds, Crowded}

-- the limits are in their ranges, each name has its form, and no task that runs has waited
pub record AreInForm (rows : TenantRows) : Type 0 where
  pub limits : are_limits rows.limits ≡ true
  pub machines : All (λ machine. is_name machine.name ≡ true) rows.machines
  pub jobs : All (λ job. is_name job.name ≡ true) rows.jobs
  pub tasks : All (λ task. is_name task.name ≡ true) rows.tasks
  pub running : All (λ task. IfSome task.machine (λ _. task.waited ≡ 0)) rows.tasks

-- no legal placement of sound rows costs more: 3,000,000 for each of 4,096 machines and tasks
abbrev pub most_cost : ℕ
most_cost = 4096 * 3000000

-- whether a round may cost that: from 0 to the most
abbrev pub is_cost : ℤ → Bool
is_cost (pos cost) = nat_le cost most_cost
is_cost (negsuc cost) = false

-- how many rows and costs a book has
abbrev pub entry_count : Book → ℕ
entry_count book =
    length book.rows.machines + length book.rows.jobs + length book.rows.tasks + length book.costs

-- how many rounds a task shows: the one that placed it where it runs, and else those that left it waiting
abbrev pub rounds_shown : Task → ℕ
rounds_shown task = if is_some task.machine then 1 else task.waited

-- how many rounds there may have been: each left a cost, of which the last 8 are kept, and took a command that added
-- none of the rows
abbrev pub most_rounds : Book → ℕ
most_rounds book =
    if nat_lt (length book.costs) 8 then length book.costs
    else book.given - (length book.rows.machines + length book.rows.jobs + length book.rows.tasks)

-- what the last slot costs that so many tasks fill on a machine
abbrev pub last_slot_cost : TenantRows → ℕ → ℕ
last_slot_cost rows load = slot_cost rows.limits.spread (load - 1)

-- what it costs to place the task on the machine: `remote`, if it prefers machines and this is none of them
abbrev pub start_cost : TenantRows → Task → List ℕ → ℕ
start_cost rows task machine =
    if nat_lt 0 (length task.preferred) && not (is_among task.preferred machine) then rows.limits.remote else 0

-- what a wait costs the task once this many rounds left it waiting
abbrev pub cost_of_wait : TenantRows → Task → ℕ → ℕ
cost_of_wait rows task rounds = weight_at rows (job_place rows task) + min rows.limits.patience rounds

-- what a wait cost the task in the last round, at least, if that left it waiting
abbrev pub bid : TenantRows → Task → ℕ
bid rows task = if nat_lt 0 task.waited then cost_of_wait rows task (task.waited - 1) else 0

-- what a slot of the machine was worth to it then, at least: that, less `remote` unless it prefers the machine, as
-- others that it preferred may be gone
abbrev pub bid_on : TenantRows → List ℕ → Task → ℕ
bid_on rows machine task = bid rows task - (if is_among task.preferred machine then 0 else rows.limits.remote)

-- the highest of the bids of these tasks
abbrev pub highest : (Task → ℕ) → List Task → ℕ
highest bids [] = 0
highest bids (task ∷ tasks) = max (bids task) (highest bids tasks)

-- what a task must be worth to run on the machine as one of so many there: what its slot costs, and what that is worth
-- to each task that waits
abbrev pub slot_price : TenantRows → List ℕ → ℕ → ℕ
slot_price rows machine load = max (last_slot_cost rows load) (highest (bid_on rows machine) rows.tasks)

-- whether the last of so many rounds may have placed the task on the machine at this price: its wait costs as much
abbrev pub may_start : TenantRows → ℕ → Task → List ℕ → ℕ → Bool
may_start rows rounds task machine price =
    nat_le (price + start_cost rows task machine) (cost_of_wait rows task (rounds - 1))

-- whether it may have kept the task there: its weight and churn are as much, and one of the rounds before may have
-- placed it alone
abbrev pub may_stay : TenantRows → ℕ → Task → List ℕ → ℕ → Bool
may_stay rows rounds task machine price =
    nat_le 2 rounds
    && nat_le price (cost_of_wait rows task 0 + rows.limits.churn)
    && nat_le (start_cost rows task machine) (cost_of_wait rows task (rounds - 2))

-- whether the last of so many rounds may have left it there at this price
abbrev pub may_pay : TenantRows → ℕ → Task → List ℕ → ℕ → Bool
may_pay rows rounds task machine price =
    may_start rows rounds task machine price || may_stay rows rounds task machine price

-- whether it may have done so with so many tasks there, whatever tasks wait
abbrev pub may_run : TenantRows → ℕ → Task → List ℕ → ℕ → Bool
may_run rows rounds task machine load = may_pay rows rounds task machine (last_slot_cost rows load)

-- whether it may have left the task where it is
abbrev pub may_stand : TenantRows → ℕ → Task → Option (List ℕ) → Bool
may_stand rows rounds task None = true
may_stand rows rounds task (Some machine) =
    may_pay rows rounds task machine (slot_price rows machine (running_on rows machine))

-- it may have left each task so
abbrev pub MayStand : ℕ → TenantRows → Type 0
MayStand rounds rows = All (λ task. may_stand rows rounds task task.machine ≡ true) rows.tasks

-- the rows are sound and in form; there are at most 8 costs, each one that a round may have; no more commands were
-- given than the life, and at least one for each row and each cost; no task shows more rounds than there may have been,
-- or runs where its wait would cost less than its slot, or than that is worth to a task that waits
pub record IsSoundBook (book : Book) : Type 0 where
  pub rows : AreSound book.rows
  pub form : AreInForm book.rows
  pub few_costs : length book.costs ≤ 8
  pub costs : All (λ cost. is_cost cost ≡ true) book.costs
  pub life : book.given ≤ book.rows.limits.life
  pub count : entry_count book ≤ book.given
  pub rounds : All (λ task. rounds_shown task ≤ most_rounds book) book.rows.tasks
  pub standing : MayStand (most_rounds book) book.rows

-- what first keeps a book, whose rows are sound and in form and whose costs are few, from being sound
abbrev pub book_fault : Book → Option BookFault
book_fault book =
    if not (list_all is_cost book.costs) then Some Cost
    else (if nat_lt book.rows.limits.life book.given then Some Life
    else (if nat_lt book.given (entry_count book) then Some Count
    else (if not (list_all (λ task. nat_le (rounds_shown task) (most_rounds book)) book.rows.tasks) then Some Rounds
    else (if list_all (λ task. may_stand book.rows (most_rounds book) task task.machine) book.rows.tasks then None
    else Some Crowded))))

-- the book of a tenant that has nothing yet is sound
abbrev pub OpeningBooksAreSound : Type 0
OpeningBooksAreSound = (limits : TenantLimits) → are_limits limits ≡ true → IsSoundBook (opening_book limits)
