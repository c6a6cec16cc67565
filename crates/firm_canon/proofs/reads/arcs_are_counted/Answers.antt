use Rattle.firm_canon.proofs.Shown.{arcs_counted}
use Rattle.firm_canon.proofs.reads.arcs_are_counted.Goals as goal

pub returns : goal.returns
returns c =
    arcs_counted c.arcs_are_rows.ensures.count c.networks_are_counted.ensures c.args.graph.now c.net.ensures.shows
