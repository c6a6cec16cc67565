use Rattle.std.proofs.Common.{◌≡◌, ◌<◌, ℕ, List, length, map, get_or, arith, sym, ap, ◌∙◌}
use Rattle.std.specs.List.{Contains}
use Rattle.std.proofs.lemmas.List.{get_or-map, length-map}
use Rattle.firm_net.specs.declared.row.NodeId.{NodeId}
use Rattle.firm_graph.specs.Parts.{MachineParts}
use Rattle.firm_graph.proofs.edits.node_at.Goals as goal

pub returns-clause-node : goal.returns-clause-node
returns-clause-node c =
    λ hub.
    let node : MachineParts → NodeId = λ (p : MachineParts). p.node in
    ap node c.parts.view_is ∙ ap node c.index-machines-place.is
    ∙ sym (get_or-map node c.args.machines.now c.args.place c.index-machines-place.result hub c.requires.there)

-- what is read at a place, whatever stands past the end, is listed
listed : (nodes : List NodeId) (place : ℕ) (node : NodeId) → place < length nodes
    → ((other : NodeId) → node ≡ get_or nodes place other) → Contains nodes node
listed nodes place node below read = (place, below, sym (read node))

pub returns-clause-listed : goal.returns-clause-listed
returns-clause-listed c =
    let node : MachineParts → NodeId = λ (p : MachineParts). p.node in
    listed (map node c.args.machines.now) c.args.place _
    (omega (arith, c.requires.there, length-map c.args.machines.now node))
    (λ hub. ap node c.parts.view_is ∙ ap node c.index-machines-place.is
    ∙ sym (get_or-map node c.args.machines.now c.args.place c.index-machines-place.result hub c.requires.there))
