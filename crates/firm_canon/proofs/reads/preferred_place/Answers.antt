use Rattle.std.proofs.Common.{◌≡◌, ℕ, ◌<◌, Option, Some, length, ap, subst, ◌∙◌}
use Rattle.std.specs.Prelude.{◌≢◌, IfSome, IfNone}
use Rattle.firm_net.specs.Net.{row_at}
use Rattle.firm_graph.specs.Ids.{view_of}
use Rattle.firm_graph.specs.View.{View}
use Rattle.firm_graph.specs.declared.network.Node.TheVariants.{Machine}
use Rattle.firm_graph.specs.declared.network.Key.TheVariants.{Prefer}
use Rattle.firm_canon.proofs.Heads.{there_key, key_row, preferred_found, preferred_there}
use Rattle.firm_canon.proofs.reads.preferred_place.Goals as goal

pub machine_behind-requires : goal.machine_behind-requires
machine_behind-requires c =
    there_key (view_of c.args.graph.now) c.net.ensures.shows c.arcs_are_rows.ensures.arcs
    (Prefer c.args.task c.args.number) c.task_arc.result (c.requires.task, c.requires.number) c.task_arc.ensures

pub unreachable-requires : goal.unreachable-requires
unreachable-requires c =
    let v : View = view_of c.args.graph.now in
    let row = key_row v c.net.ensures.shows c.arcs_are_rows.ensures.arcs (Prefer c.args.task c.args.number)
    (c.requires.task, c.requires.number) in
    let there : row_at v.net c.task_arc.result ≡ Some row.0 = ap (row_at v.net) c.task_arc.ensures ∙ row.1 in
    preferred_there v c.net.ensures.shows c.arcs_are_rows.ensures.arcs c.args.task c.requires.task c.args.number
    c.requires.number row.0 row.1 (c.machine_behind.ensures.node row.0 there)
    (subst (λ (o : Option ℕ). IfNone o ((j : ℕ) → j < length v.case.slots → v.node (Machine j) ≢ row.0.head))
    c.in_default.is (c.machine_behind.ensures.none row.0 there))

pub returns : goal.returns
returns c =
    let v : View = view_of c.args.graph.now in
    let row = key_row v c.net.ensures.shows c.arcs_are_rows.ensures.arcs (Prefer c.args.task c.args.number)
    (c.requires.task, c.requires.number) in
    let there : row_at v.net c.task_arc.result ≡ Some row.0 = ap (row_at v.net) c.task_arc.ensures ∙ row.1 in
    let found = subst (λ (o : Option ℕ). IfSome o (λ j. (j < length v.case.slots)
    × (v.node (Machine j) ≡ row.0.head))) c.in-Some.is (c.machine_behind.ensures.some row.0 there) in
    preferred_found v c.net.ensures.shows c.arcs_are_rows.ensures.arcs c.args.task c.requires.task c.args.number
    c.requires.number row.0 c.in-Some.place row.1 (c.machine_behind.ensures.node row.0 there) found.0 found.1
