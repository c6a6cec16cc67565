-- The value of a walk in contracts: the remaining arcs, each with its row.
use Rattle.std.specs.Prelude.{List}
use Rattle.firm_net.specs.Row.{Row}
use Rattle.firm_net.specs.inner.Links.{walk_rows}
use Rattle.firm_net.specs.declared.row.ArcId.{ArcId}
use Rattle.firm_net.specs.declared.walk.Arcs.TheInside.{Inside}

abbrev pub arcs_left : Inside → List (ArcId × Row)
arcs_left w = walk_rows w.side w.links.now w.left w.next
