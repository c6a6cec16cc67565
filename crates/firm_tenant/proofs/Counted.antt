-- The counts of a round.
use Rattle.std.proofs.Common.{◌≡◌, ℕ, ◌+◌, ◌*◌, ◌≤◌, length, arith, subst, sym, ap}
use Rattle.std.proofs.Math.Nat.{mul-le-mul_right, mul-le-mul_left}
use Rattle.firm_canon.specs.Counts.{HasMadeUpTo}
use Rattle.firm_paths.specs.Workspace.{Workspace, HasCounted}
use Rattle.firm_rules.specs.ArenaUse.{arena_arcs}
use Rattle.std.proofs.lemmas.List.{length-map}
use Rattle.firm_rules.specs.Book.{Book, TenantRows}
use Rattle.firm_rules.specs.Placement.{Case}
use Rattle.firm_rules.specs.Round.{case_of, demand_of}
use Rattle.firm_rules.specs.declared.book.Machine.{Machine}
use Rattle.firm_rules.specs.Sound.{AreSound}
use Rattle.firm_rules.specs.declared.commands.Command.{Command}
use Rattle.firm_rules.specs.declared.commands.Command.TheVariants.{AddMachine, AddJob, AddTask, Drain, CloseJob, Done}
use Rattle.firm_rules.specs.declared.commands.Command.TheVariants.{Find, Show, Costs as CostsCommand, Faulty}
use Rattle.firm_rules.specs.declared.commands.Command.TheVariants.{Round as RoundCommand}
use Rattle.firm_tenant.specs.Counts.{IsOfOneRound, HasCountedWithin}
use Rattle.firm_tenant.specs.inner.Pools.{Pool, Counts, HasBegunOnce, HasCountedFor, HasCountedNothing}

-- a count that begins, a proposal that was tried, and then the searches of a choice
pub begun_once : (old new : Pool) (tried : Workspace)
    → HasMadeUpTo tried new.workspace.net (length old.rows.tasks * (length old.rows.machines + 4))
    (arena_arcs old.rows)
    → HasCounted old.workspace.net.begins tried.begins 1 → tried.searches ≡ 0 → tried.looks ≡ 0
    → new.workspace.proposed.tries ≤ old.workspace.proposed.tries + 1
    → new.workspace.proposed.allowed ≡ old.workspace.proposed.allowed
    → new.workspace.proposed.looks ≤ old.workspace.proposed.allowed
    → (length old.rows.tasks + length old.rows.machines ≤ old.workspace.proposed.allowed
    → length old.rows.tasks + length old.rows.machines ≤ new.workspace.proposed.looks)
    → HasBegunOnce old new
begun_once old new tried chosen once searches looks tries allowed proposed entries = record {
  begins = subst (λ (n : ℕ). HasCounted old.workspace.net.begins n 1) (sym chosen.searched.begins) once;
  searches = omega (arith, searches, chosen.few, chosen.searched.searches.no_more);
  looks = omega (arith, looks, chosen.searched.looks, mul-le-mul_right (2 * arena_arcs old.rows) chosen.few);
  tries = tries;
  allowed = allowed;
  proposed = proposed;
  entries = entries;
}

-- a round is about as many tasks and machines as the rows have
pub entries_of : (rows : TenantRows) (case : Case) → case ≡ case_of rows
    → length case.tasks + length case.slots ≡ length rows.tasks + length rows.machines
entries_of rows case is =
    omega (
      arith,
      ap (λ (c : Case). length c.tasks) is,
      ap (λ (c : Case). length c.slots) is,
      length-map rows.tasks (demand_of rows),
      length-map rows.machines (λ (m : Machine). m.slots),
    )

-- what a command leaves of a property of the counts: that of unchanged ones, or that of a round's
by_command : (P : Workspace → Type 0) (command : Command) (old new : Pool) → HasCountedFor command old new
    → P old.workspace.net → (HasBegunOnce old new → P new.workspace.net) → P new.workspace.net
by_command P (AddMachine name slots) old new is kept begun = subst (λ (c : Counts). P c.net) (sym is) kept
by_command P (AddJob name weight) old new is kept begun = subst (λ (c : Counts). P c.net) (sym is) kept
by_command P (AddTask job name preferred) old new is kept begun = subst (λ (c : Counts). P c.net) (sym is) kept
by_command P (Drain name) old new is kept begun = subst (λ (c : Counts). P c.net) (sym is) kept
by_command P (CloseJob name) old new is kept begun = subst (λ (c : Counts). P c.net) (sym is) kept
by_command P (Done name) old new is kept begun = subst (λ (c : Counts). P c.net) (sym is) kept
by_command P (Find name) old new is kept begun = subst (λ (c : Counts). P c.net) (sym is) kept
by_command P Show old new is kept begun = subst (λ (c : Counts). P c.net) (sym is) kept
by_command P CostsCommand old new is kept begun = subst (λ (c : Counts). P c.net) (sym is) kept
by_command P RoundCommand old new is kept begun = begun is
by_command P (Faulty fault) old new is kept begun = subst (λ (c : Counts). P c.net) (sym is) kept

-- a command begins at most one count
pub few_begins : (command : Command) (old new : Pool) → HasCountedFor command old new
    → new.workspace.net.begins ≤ old.workspace.net.begins + 1
few_begins command old new is =
    by_command (λ (w : Workspace). w.begins ≤ old.workspace.net.begins + 1) command old new is (omega arith)
    (λ begun. omega (arith, begun.begins.no_more))

-- what is counted since then is of one round
pub of_one_round : (command : Command) (old new : Pool) → AreSound old.rows → HasCountedFor command old new
    → IsOfOneRound old.rows.limits old.workspace.net → IsOfOneRound old.rows.limits new.workspace.net
of_one_round command old new sound is last =
    by_command (IsOfOneRound old.rows.limits) command old new is last
    (λ begun. record {
      tasks = length old.rows.tasks;
      machines = length old.rows.machines;
      nodes = omega (arith, sound.fits.nodes);
      searches = begun.searches;
      looks =
          let most : ℕ = length old.rows.tasks * (length old.rows.machines + 4) in
          let arcs : 2 * arena_arcs old.rows ≤ 2 * old.rows.limits.arcs = omega (arith, sound.fits.arcs) in
          omega (arith, begun.looks, mul-le-mul_left most arcs);
    })

-- what has counted nothing has counted as much as it may
pub none_counted : (book : Book) (counts : Counts) → HasCountedNothing counts → HasCountedWithin book counts.net
none_counted book counts none = record {
  begins = omega (arith, none.begins);
  last = record {
    tasks = 0;
    machines = 0;
    nodes = omega arith;
    searches = omega (arith, none.searches);
    looks = omega (arith, none.looks);
  };
}
