-- The arcs that are listed of a net, its rows, and how many there are.
use Rattle.std.proofs.Common.{◌≡◌, ℕ, Some, refl, sym, subst}
use Rattle.firm_net.specs.Row.{Row}
use Rattle.firm_net.specs.Net.{row_at}
use Rattle.firm_net.specs.Laws.{row_listed, listed_row, changed_row, rows_counted}
use Rattle.firm_net.specs.declared.row.ArcId.{ArcId}
use Rattle.firm_paths.specs.Network.{Arc}
use Rattle.firm_paths.specs.NetArcs.{arc_of}
use Rattle.firm_paths.specs.Laws.{EachArcHasItsRow, EachRowIsListed, ChangedRowIsFound, AsManyAsCounted}

pub each_arc_has_its_row : EachArcHasItsRow
each_arc_has_its_row net arc there =
    let own = listed_row arc_of net arc there in
    subst (λ (a : Arc ℕ ArcId). (row : Row) × (row_at net a.key ≡ Some row) × (a ≡ arc_of a.key row)) (sym own.3)
    (own.1, own.2, refl)

pub each_row_is_listed : EachRowIsListed
each_row_is_listed = row_listed arc_of

pub changed_row_is_found : ChangedRowIsFound
changed_row_is_found = changed_row

pub as_many_as_counted : AsManyAsCounted
as_many_as_counted = rows_counted arc_of
