-- Laws about the list of a net's arcs and the net's rows, and about sums of counts of searches.
use Rattle.std.specs.Prelude.{◌≡◌, ℕ, ◌+◌, length, Some, All, Contains}
use Rattle.std.proofs.Common.{sym, subst, get_or}
use Rattle.std.proofs.lemmas.List.{get_or_default}
use Rattle.std.proofs.lemmas.List.Elements.{All-contains}
use Rattle.firm_net.specs.Row.{Row}
use Rattle.firm_net.specs.Net.{Net, row_at, with_row, arc_count}
use Rattle.firm_net.specs.Laws.{row_listed, listed_row}
use Rattle.firm_net.specs.declared.row.ArcId.{ArcId}
use Rattle.firm_paths.specs.Network.{Arc}
use Rattle.firm_paths.specs.NetArcs.{arc_of, arcs_of}
use Rattle.firm_paths.specs.Workspace.{Workspace, HasSearched}

-- each arc that is listed is the arc of the row under its key
abbrev pub EachArcHasItsRow : Type 0
EachArcHasItsRow =
    (net : Net) (arc : Arc ℕ ArcId) → Contains (arcs_of net) arc
    → (row : Row) × (row_at net arc.key ≡ Some row) × (arc ≡ arc_of arc.key row)

-- the arc of each row is listed
abbrev pub EachRowIsListed : Type 0
EachRowIsListed =
    (net : Net) (id : ArcId) (row : Row) → row_at net id ≡ Some row → Contains (arcs_of net) (arc_of id row)

-- a changed row belongs to its id
abbrev pub ChangedRowIsFound : Type 0
ChangedRowIsFound =
    (net : Net) (id : ArcId) (row : Row) (change : Row → Row) → row_at net id ≡ Some row
    → row_at (with_row net id change) id ≡ Some (change row)

-- as many arcs are listed as the net counts
abbrev pub AsManyAsCounted : Type 0
AsManyAsCounted = (net : Net) → length (arcs_of net) ≡ arc_count net

-- no search counts nothing, and the counts of searches in nets of as many arcs add up
abbrev pub NoneCountsNothing : Type 0
NoneCountsNothing = (scratch : Workspace) (arcs : ℕ) → HasSearched scratch scratch 0 arcs

abbrev pub SearchesAddUp : Type 0
SearchesAddUp =
    (old now new : Workspace) (made more arcs : ℕ) → HasSearched old now made arcs → HasSearched now new more arcs
    → HasSearched old new (made + more) arcs

-- what holds of the arc of each row holds of all arcs, and the other way round
pub all_arcs : (net : Net) (P : Arc ℕ ArcId → Type 0)
    → ((id : ArcId) (row : Row) → row_at net id ≡ Some row → P (arc_of id row))
    → All P (arcs_of net)
all_arcs net P each k d within =
    let own =
    listed_row arc_of net (get_or (arcs_of net) k d)
    (k, within, get_or_default (arcs_of net) k (get_or (arcs_of net) k d) d within) in
    subst P (sym own.3) (each own.0 own.1 own.2)

pub at_row : (net : Net) (P : Arc ℕ ArcId → Type 0) (id : ArcId) (row : Row) → row_at net id ≡ Some row
    → All P (arcs_of net)
    → P (arc_of id row)
at_row net P id row there all = All-contains P (arcs_of net) (arc_of id row) all (row_listed arc_of net id row there)
