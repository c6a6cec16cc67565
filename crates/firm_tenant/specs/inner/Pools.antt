-- A tenant's book without its count of commands, the numbers of rows requested and added, and the workspace of its
-- rounds.
use Rattle.std.specs.Prelude.{◌≡◌, ℕ, ℤ, ◌+◌, ◌*◌, ◌^◌, ◌≤◌, true, List, [], All, length, min, pos}
use Rattle.firm_paths.specs.Workspace.{Workspace, HasCounted}
use Rattle.firm_rules.specs.ArenaUse.{arena_arcs}
use Rattle.firm_rules.specs.Limits.{TenantLimits}
use Rattle.firm_rules.specs.Book.{TenantRows, Book, opening_rows}
use Rattle.firm_rules.specs.Placement.{placement_cost}
use Rattle.firm_rules.specs.Round.{case_of, changes_made, rows_after}
use Rattle.firm_rules.specs.Recent.{with_cost}
use Rattle.firm_rules.specs.Sound.{AreSound}
use Rattle.firm_rules.specs.SoundBook.{AreInForm, is_cost}
use Rattle.firm_rules.specs.declared.commands.Command.{Command}
use Rattle.firm_rules.specs.declared.commands.Command.TheVariants.{Round as RoundCommand}
use Rattle.firm_rules.specs.declared.rounds.Choice.{Choice}
use Rattle.firm_rules.specs.declared.replies.Outcome.{Outcome}
use Rattle.firm_rules.specs.declared.replies.Outcome.TheVariants.{Round}

-- how often a round was to be proposed, how many looks the last proposal and its check took, and how many are allowed
pub record Proposed : Type 0 where
  pub tries : ℕ
  pub looks : ℕ
  pub allowed : ℕ

-- what rounds count: their searches in the net, and their proposals
pub record Counts : Type 0 where
  pub net : Workspace
  pub proposed : Proposed

-- the rows, the costs of the last rounds, how many rows were ever added, and what the rounds count
pub record Pool : Type 0 where
  pub rows : TenantRows
  pub costs : List ℤ
  pub asked : ℕ
  pub workspace : Counts

-- no search was counted, and no proposal; each is allowed the most looks
pub record HasCountedNothing (counts : Counts) : Type 0 where
  pub begins : counts.net.begins ≡ 0
  pub searches : counts.net.searches ≡ 0
  pub looks : counts.net.looks ≡ 0
  pub tries : counts.proposed.tries ≡ 0
  pub proposed : counts.proposed.looks ≡ 0
  pub allowed : counts.proposed.allowed ≡ 2 ^ 26

-- the same counts, where each proposal is allowed this many looks, at most 2^26
abbrev pub allowing : Counts → ℕ → Counts
allowing counts looks =
    record counts { proposed = record counts.proposed { allowed = min looks (2 ^ 26) } }

-- the empty pool of a new tenant with these limits, which has counted nothing
pub record IsOpeningPool (limits : TenantLimits) (pool : Pool) : Type 0 where
  pub rows : pool.rows ≡ opening_rows limits
  pub costs : pool.costs ≡ []
  pub asked : pool.asked ≡ 0
  pub counts : HasCountedNothing pool.workspace

-- the pool of a book, to which each of its rows was added once
pub record IsPoolOf (book : Book) (pool : Pool) : Type 0 where
  pub rows : pool.rows ≡ book.rows
  pub costs : pool.costs ≡ book.costs
  pub asked : pool.asked ≡ length book.rows.machines + length book.rows.jobs + length book.rows.tasks

-- what holds of every pool: its rows are sound and in form, and it has at most 8 costs, each one that a round may have
pub record IsSoundPool (pool : Pool) : Type 0 where
  pub rows : AreSound pool.rows
  pub form : AreInForm pool.rows
  pub few_costs : length pool.costs ≤ 8
  pub costs : All (λ cost. is_cost cost ≡ true) pool.costs

-- the book of a tenant with this pool, after `given` commands
abbrev pub book_of : Pool → ℕ → Book
book_of pool given = record { rows = pool.rows; costs = pool.costs; given = given }

-- what a placement costs and changes, and the pool after it, with the cost as the newest of 8
abbrev pub placed_in : Pool → List Choice → Outcome × Pool
placed_in pool placement =
    let cost : ℤ = pos (placement_cost (case_of pool.rows) placement) in (
      Round cost (changes_made pool.rows placement),
      record pool { rows = rows_after pool.rows placement; costs = with_cost pool.costs cost },
    )

-- the room, in nodes and arcs, is that of the net of a tenant with these limits
abbrev pub IsMadeFor : ℕ × ℕ → TenantLimits → Type 0
IsMadeFor room limits = room ≡ (limits.nodes, limits.arcs)

-- a choice was begun once, and the counts since then are its own: few searches, each with at most two looks per arc; at
-- most one proposal, which with its check takes no more looks than are allowed, and no fewer than there are tasks and
-- machines, if these are allowed
pub record HasBegunOnce (old new : Pool) : Type 0 where
  pub begins : HasCounted old.workspace.net.begins new.workspace.net.begins 1
  pub searches : new.workspace.net.searches ≤ length old.rows.tasks * (length old.rows.machines + 4)
  pub looks : new.workspace.net.looks
      ≤ length old.rows.tasks * (length old.rows.machines + 4) * (2 * arena_arcs old.rows)
  pub tries : new.workspace.proposed.tries ≤ old.workspace.proposed.tries + 1
  pub allowed : new.workspace.proposed.allowed ≡ old.workspace.proposed.allowed
  pub proposed : new.workspace.proposed.looks ≤ old.workspace.proposed.allowed
  pub entries : length old.rows.tasks + length old.rows.machines ≤ old.workspace.proposed.allowed
      → length old.rows.tasks + length old.rows.machines ≤ new.workspace.proposed.looks

-- what a command counts: a round begins once, and no other command changes the counts
abbrev pub HasCountedFor : Command → Pool → Pool → Type 0
HasCountedFor RoundCommand old new = HasBegunOnce old new
HasCountedFor _ old new = new.workspace ≡ old.workspace
