use Rattle.std.proofs.Common.{◌≡◌, ℕ, ap, ap₂, sym, ◌∙◌, List, map}
use Rattle.firm_net.specs.Net.{empty_net}
use Rattle.firm_graph.specs.Graph.{Mirrors}
use Rattle.firm_graph.specs.declared.ids.TaskParts.{TaskParts}
use Rattle.firm_graph.proofs.Said.{said}
use Rattle.firm_graph.proofs.Additions.{opened, opened_graph}
use Rattle.firm_graph.proofs.graph.Graph.open.Goals as goal

kept : (c : goal.After-new-6)
    → Mirrors (record {
      rows = c.new-2.result;
      net = c.put_node-sink.new.net;
      hub = c.put_node-hub.result;
      sink =
          c.put_node-sink.result;
      machines = c.new-3.result.items;
      jobs = c.new-4.result.items;
      tasks = c.new-5.result.items;
      asked = 0;
    })
kept c =
    let empty : c.in_ok-net.net ≡ empty_net c.args.limits.nodes c.args.limits.arcs =
    c.in_ok-net.ensures.empty ∙ ap₂ (λ (n a : ℕ). empty_net n a) c.nodes.ensures.value c.arcs.ensures.value in
    said (opened_graph c.put_node-sink.new.net c.put_node-hub.result c.put_node-sink.result c.args.limits)
    c.new-2.result
    c.new-3.result.items c.new-4.result.items c.new-5.result.items
    c.new-2.ensures.rows c.new-3.ensures.items c.new-4.ensures.items c.new-5.ensures.items
    (opened c.in_ok-net.net c.put_node-hub.new.net c.put_node-sink.new.net c.put_node-hub.result c.put_node-sink.result
    c.args.limits empty
    c.put_node-hub.ensures.edit c.put_node-sink.ensures.edit)

pub invariant_of-result : goal.invariant_of-result
invariant_of-result c =
    record {
      graph = record { sound = c.new-2.ensures.sound; mirrors = kept c };
      sources = c.new-6.ensures.items ∙ ap
          (λ (l : List TaskParts). map (λ (p : TaskParts). p.node) l) (sym c.new-5.ensures.items);
    }

pub returns-clause-graph : goal.returns-clause-graph
returns-clause-graph c = record { sound = c.new-2.ensures.sound; mirrors = kept c }
