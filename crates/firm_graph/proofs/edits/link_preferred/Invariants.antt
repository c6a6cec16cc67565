use Rattle.std.proofs.Common.{◌≡◌, ◌≢◌, [], map, length, take}
use Rattle.std.specs.List.{All}
use Rattle.std.specs.Prelude.{slice_index_or}
use Rattle.firm_net.specs.Net.{IsNode}
use Rattle.firm_net.specs.declared.row.NodeId.{NodeId}
use Rattle.firm_net.specs.Edits.{IsEdit}
use Rattle.firm_graph.specs.Graph.{preferred_spans}
use Rattle.firm_graph.proofs.edits.link_preferred.Given as goal

abbrev pub invariant-loop-place : goal.invariant-loop-place
invariant-loop-place l = record {
  edit : (hub : NodeId) → IsEdit l.initial.net l.net [] [] [] (preferred_spans l.node 0
      (map (λ place. slice_index_or (map (λ parts. parts.node) l.machines) place hub) (take l.place-index l.places))
      l.arcs);
  so_far : length l.arcs ≡ l.place-index;
  node : IsNode l.net l.node;
  nodes : (n : NodeId) → IsNode l.initial.net n → IsNode l.net n;
  heads : All (λ head. IsNode l.net head × (l.node ≢ head)) (map (λ parts. parts.node) l.machines);
}
