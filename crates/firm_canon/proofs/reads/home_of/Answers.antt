use Rattle.std.proofs.Common.{◌≡◌, Some, ap, ◌∙◌}
use Rattle.firm_net.specs.Net.{row_at}
use Rattle.firm_graph.specs.Ids.{view_of}
use Rattle.firm_graph.specs.View.{View}
use Rattle.firm_graph.specs.declared.network.Key.TheVariants.{Stay}
use Rattle.firm_canon.proofs.Heads.{there_key, key_row, home_is}
use Rattle.firm_canon.proofs.reads.home_of.Goals as goal

pub machine_behind-requires : goal.machine_behind-requires
machine_behind-requires c =
    there_key (view_of c.args.graph.now) c.net.ensures.shows c.arcs_are_rows.ensures.arcs (Stay c.args.task)
    c.task_arc.result c.requires c.task_arc.ensures

pub returns : goal.returns
returns c =
    let v : View = view_of c.args.graph.now in
    let row = key_row v c.net.ensures.shows c.arcs_are_rows.ensures.arcs (Stay c.args.task) c.requires in
    let there : row_at v.net c.task_arc.result ≡ Some row.0 = ap (row_at v.net) c.task_arc.ensures ∙ row.1 in
    home_is v c.net.ensures.shows c.arcs_are_rows.ensures.arcs c.args.task c.requires row.0 c.machine_behind.result
    row.1 (c.machine_behind.ensures.node row.0 there) (c.machine_behind.ensures.some row.0 there)
    (c.machine_behind.ensures.none row.0 there)
