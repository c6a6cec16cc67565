-- A graph of which the flow and the lower bounds alone may differ.
use Rattle.std.specs.Prelude.{◌≡◌}
use Rattle.firm_paths.specs.NetArcs.{limits_of}
use Rattle.firm_graph.specs.View.{IsSameCase}
use Rattle.firm_graph.specs.Graph.{Graph}
use Rattle.firm_graph.specs.Ids.{view_of}

-- the same rows under the same ids, and a net of the same limits
pub record IsSameGraph (old new : Graph) : Type 0 where
  pub graph : new ≡ record old { net = new.net }
  pub case : IsSameCase (view_of old) (view_of new)
  pub limits : limits_of new.net ≡ limits_of old.net
