-- The text of a state, computed at a worked example.
use Rattle.std.proofs.Common.{◌≡◌, pos, [], ◌∷◌, ◌++◌, List, Some, None, refl, codes}
use Rattle.std.specs.Fmt.{digits}
use Rattle.firm_rules.specs.Book.{Book, TenantRows}
use Rattle.firm_rules.specs.Limits.{TenantLimits}
use Rattle.firm_text.specs.declared.headings.Heading.TheVariants.{Plain, Extended}
use Rattle.firm_saved.specs.Saved.{filled, saved_with}
use Rattle.firm_saved.specs.StateText.{given_places, state_text}
use Rattle.firm_saved.specs.declared.saved.SavedPlace.{SavedPlace}

-- a tenant with one machine, one job and two tasks, of which one runs: it was given a machine of one slot, a job, a
-- task and a round, which placed the task, and then one more task and a round, which left this waiting at a cost of 10
abbrev limits : TenantLimits
limits = record { nodes = 9; arcs = 24; life = 1000000; spread = 1; churn = 2; remote = 0; patience = 1000000 }

abbrev rows : TenantRows
rows =
    record {
      limits = limits;
      machines = record { name = codes "m1"; slots = 1 } ∷ [];
      jobs = record { name = codes "web"; weight = 10 } ∷ [];
      tasks = record {
        name = codes "a";
        job = codes "web";
        preferred = codes "m1" ∷ [];
        machine = Some (codes "m1");
        waited = 0;
      } ∷ record { name = codes "c"; job = codes "web"; preferred = []; machine = None; waited = 1 } ∷ [];
    }

abbrev alpha : Book
alpha = record { rows = rows; costs = pos 0 ∷ pos 10 ∷ []; given = 6 }

-- it stays at the first place; the second was given twice and is empty, and the others were never given
abbrev places : List SavedPlace
places =
    record { admissions = 1; tenant = Some (codes "alpha", alpha) } ∷ record { admissions = 2; tenant = None } ∷ []

two_given : given_places (filled places) ≡ places
two_given = refl

as_bytes : state_text (saved_with Plain (filled places))
    ≡ codes "firm state 1\nplace admissions 1\n"
    ++ codes "tenant alpha nodes 9 arcs 24 life 1000000 spread 1 churn 2 remote 0 commands 6\n"
    ++ codes "costs 0 10\nmachine m1 1\njob web 10\n"
    ++ codes "task web a at m1 prefers m1\ntask web c waits 1\nplace admissions 2\nrows 8\n"
unfolding digits
as_bytes = refl

-- the first line tells an extended service
extended : state_text (saved_with Extended (filled (record { admissions = 3; tenant = None } ∷ [])))
    ≡ codes "firm state 1 extended\nplace admissions 3\nrows 1\n"
unfolding digits
extended = refl
