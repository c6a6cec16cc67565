use Rattle.std.proofs.Common.{ℕ, List, map, Option, ap, sym, ◌∙◌}
use Rattle.firm_rules.specs.Book.{machine_names}
use Rattle.firm_net.specs.declared.row.NodeId.{NodeId}
use Rattle.firm_graph.specs.Parts.{MachineParts}
use Rattle.firm_graph.specs.Graph.{home_node, node_under}
use Rattle.firm_graph.proofs.Turns.{stand-node}
use Rattle.firm_graph.proofs.moves.home_of.Goals as goal

pub returns : goal.returns
returns c =
    let rows = c.args.rows.now in
    let machines : List MachineParts = c.args.heads.now.machines.now in
    let hub : NodeId = c.args.heads.now.hub in
    let nodes : List NodeId = map (λ (p : MachineParts). p.node) machines in
    stand-node rows machines hub c.parts.inside.node c.in-Some-machine_place.place c.index-heads-place.result
    c.limits.ensures.sound.machine_names_differ c.requires.machines c.in-Some-machine_place.ensures.below
    c.index-heads-place.is (ap (λ (p : MachineParts). p.node) (c.parts.view_is ∙ sym c.index-heads-place.is))
    ∙ ap (λ (n : List ℕ). node_under (machine_names rows) nodes hub n) c.in-Some-machine_place.ensures.named
    ∙ ap (λ (m : Option (List ℕ)). home_node (machine_names rows) nodes hub m) (sym c.in-Some.is)
