-- The representation of a tenant while its rows are read.
use Rattle.std.specs.Prelude.{◌≡◌, ℕ, List, map}
use Rattle.firm_rules.specs.Book.{TenantRows, running_on}
use Rattle.firm_saved.specs.declared.tenant_drafts.TenantDraft.{TenantDraft as Kept}
use Rattle.firm_saved.specs.Drafts.{TenantDraft}

-- the tenant represented
abbrev pub view : Kept → TenantDraft
view kept =
    record {
      name = kept.name;
      rows = kept.rows;
      costs = kept.costs;
      given = kept.given;
      rounds = kept.rounds;
    }

-- how many tasks run on each machine
abbrev pub loads_of : TenantRows → List ℕ
loads_of rows = map (λ machine. running_on rows machine.name) rows.machines

-- the loads are those of the machines, in their order
abbrev pub AreLoads : Kept → Type 0
AreLoads kept = kept.loads.items ≡ loads_of kept.rows
