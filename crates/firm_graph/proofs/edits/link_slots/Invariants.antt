use Rattle.std.proofs.Common.{◌≡◌, ◌≤◌, length, [], vec_len, vec_capacity}
use Rattle.firm_net.specs.Net.{IsNode}
use Rattle.firm_net.specs.Edits.{IsEdit}
use Rattle.firm_graph.specs.Graph.{slot_spans}
use Rattle.firm_graph.proofs.edits.link_slots.Given as goal

abbrev pub invariant-loop-k : goal.invariant-loop-k
invariant-loop-k l = record {
  edit : IsEdit l.initial.net l.net [] [] [] (slot_spans l.ladder.node l.ladder.sink l.ladder.spread 0 l.slots.items);
  so_far : length l.slots.items ≡ l.k;
  len : vec_len l.slots ≡ l.k;
  reserved : l.ladder.count ≤ vec_capacity l.slots;
  node : IsNode l.net l.ladder.node;
  sink : IsNode l.net l.ladder.sink;
}
