-- How a `Net` keeps what a contract sees of it.
use Rattle.std.specs.Prelude.{◌≡◌, ◌+◌, IsTrue}
use Rattle.firm_arena.specs.Arena.{changed_all}
use Rattle.firm_net.specs.Net.{Net, IsNet}
use Rattle.firm_net.specs.inner.Links.{nodes_shown, rows_shown, cleared_link, Shows}
use Rattle.firm_net.specs.declared.net.Net.TheInside.{Inside}

abbrev pub net_of : Inside → Net
net_of i = record { nodes = nodes_shown i.links i.nodes; arcs = rows_shown i.links }

-- the count of things added is that of the stamps given out, the lists are chains, the net is sound, and to clear one
-- that is clear changes no arc
pub record IsSound (i : Inside) : Type 0 where
  pub added : i.added ≡ i.nodes.counter + i.links.counter
  pub net : IsNet (net_of i)
  pub shows : Shows i.links i.nodes (nodes_shown i.links i.nodes)
  pub clear : IsTrue i.clear → changed_all i.links cleared_link ≡ i.links
