-- The path that the walk back through the visits gives.
use Rattle.std.specs.Prelude.{ℕ, List}
use Rattle.firm_net.specs.Net.{Net}
use Rattle.firm_net.specs.declared.row.ArcId.{ArcId}
use Rattle.firm_paths.specs.Paths.{IsTightPath, Avoids}
use Rattle.firm_paths.specs.Visits.{visit}
use Rattle.firm_paths.specs.inner.Search.{IsTree}
use Rattle.firm_paths.specs.declared.search.Step.{Step}
use Rattle.firm_paths.specs.declared.search.Visit.{Visit}

-- whatever the visits are a tree of, the steps are a path through it from its root
abbrev pub LeadsTo : List Visit → ℕ → List Step → Type 0
LeadsTo visits end steps =
    (net : Net) (price : ℕ → ℕ) (barred : List ArcId) (from : ℕ) → IsTree net price barred visits from
    → IsTightPath net price from (visit visits end).place steps × Avoids barred steps
