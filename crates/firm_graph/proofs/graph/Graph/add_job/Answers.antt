use Rattle.std.proofs.lemmas.Grind.{common_steps}
use Rattle.std.proofs.Common.{◌≡◌, ◌+◌, ℕ, arith, ap, subst, ◌∙◌, List, ◌++◌, ◌∷◌, [], refl}
use Rattle.firm_graph.specs.Graph.{Graph, Mirrors}
use Rattle.firm_rules.specs.Limits.{TenantLimits}
use Rattle.firm_net.specs.Edits.{IsEdit}
use Rattle.firm_graph.specs.inner.Inside.{graph_of}
use Rattle.firm_graph.specs.declared.ids.JobParts.{JobParts}
use Rattle.firm_graph.proofs.Found.{sink-there, fresh-other}
use Rattle.firm_graph.proofs.Additions.{job-added, job_added, room-left}
use Rattle.firm_graph.proofs.Said.{said}
use Rattle.firm_graph.proofs.graph.Graph.add_job.Goals as goal

pub put_node-node-requires-clause-room : goal.put_node-node-requires-clause-room
put_node-node-requires-clause-room c =
    omega (
      arith,
      (room-left (graph_of c.self.inside) c.args.self.now 1 1 c.self.view_is c.self.invariant.graph.mirrors
          c.in_ok-find_room.ensures.fits).0,
    )

pub link-exit-requires-clause-head : goal.link-exit-requires-clause-head
link-exit-requires-clause-head c =
    c.put_node-node.ensures.nodes c.self.inside.sink
    (sink-there (graph_of c.self.inside) c.self.invariant.graph.mirrors)

pub link-exit-requires-clause-ends : goal.link-exit-requires-clause-ends
link-exit-requires-clause-ends c =
    fresh-other c.self.inside.net c.put_node-node.result c.self.inside.sink c.put_node-node.ensures.fresh
    (sink-there (graph_of c.self.inside) c.self.invariant.graph.mirrors)

pub link-exit-requires-clause-room : goal.link-exit-requires-clause-room
link-exit-requires-clause-room c =
    omega (
      arith,
      (room-left (graph_of c.self.inside) c.args.self.now 1 1 c.self.view_is c.self.invariant.graph.mirrors
          c.in_ok-find_room.ensures.fits).1,
    )

kept : (c : goal.After-self-1)
    → Mirrors (record (graph_of c.self.inside) {
      rows = c.grow_jobs.new.rows;
      net = c.link-exit.new.net;
      jobs = c.push_reserved.new.list.items;
      asked = c.self.inside.asked + 1;
    })
kept c =
    let g : Graph = graph_of c.self.inside in
    let parts : JobParts = record { node = c.put_node-node.result; exit = c.link-exit.result } in
    let limit : c.nodes.result ≡ g.rows.limits.nodes = c.nodes.ensures.value ∙ ap (λ (l : TenantLimits). l.nodes)
    c.limits-limits.ensures.limits in
    let P : ℕ → Type 0 = λ (cap : ℕ). IsEdit c.put_node-node.new.net c.link-exit.new.net [] [] []
    (record { arc = parts.exit; tail = parts.node; head = g.sink; cap = cap; cost = 0 } ∷ []) in
    said (job_added g c.link-exit.new.net parts c.args.name c.args.weight) c.grow_jobs.new.rows g.machines
    c.push_reserved.new.list.items g.tasks c.in-Ok.ensures.ok refl
    (c.push_reserved.ensures.items ∙ ap (λ (l : List JobParts). l ++ parts ∷ []) c.grow_jobs.ensures.parts) refl
    (job-added g c.put_node-node.new.net c.link-exit.new.net parts c.args.name c.args.weight
    c.self.invariant.graph.mirrors c.self.invariant.graph.sound
    c.put_node-node.ensures.edit (subst P limit c.link-exit.ensures.edit)
    (omega (arith, c.requires.asked, ap (λ (h : Graph). h.asked) c.self.view_is)))

pub invariant_of-self-2 : goal.invariant_of-self-2
invariant_of-self-2 c =
    record {
      graph = record { sound = c.in-Ok.ensures.sound; mirrors = kept c };
      sources = c.self.invariant.sources;
    }

pub returns-clause-graph : goal.returns-clause-graph
returns-clause-graph c = record { sound = c.in-Ok.ensures.sound; mirrors = kept c }

pub returns-in_err-find_room-clause-nodes : goal.returns-in_err-find_room-clause-nodes
returns-in_err-find_room-clause-nodes c = grind (arith, common_steps)

pub returns-in_err-find_room-clause-arcs : goal.returns-in_err-find_room-clause-arcs
returns-in_err-find_room-clause-arcs c = grind (arith, common_steps)

pub grow_jobs-requires-clause-fits : goal.grow_jobs-requires-clause-fits
grow_jobs-requires-clause-fits c = grind (arith, common_steps)

pub returns-in_default-clause-nodes : goal.returns-in_default-clause-nodes
returns-in_default-clause-nodes c = grind (arith, common_steps)

pub returns-in_default-clause-arcs : goal.returns-in_default-clause-arcs
returns-in_default-clause-arcs c = grind (arith, common_steps)
