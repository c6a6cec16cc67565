use Rattle.std.proofs.Common.{◌≡◌, ◌<◌, List, map, length, refl, rules, arith, ap, sym, ◌∙◌, subst, IfSome}
use Rattle.firm_rules.specs.Book.{TenantRows, machine_names, with_task_placed}
use Rattle.firm_rules.specs.Sound.{HasRoom}
use Rattle.firm_graph.specs.Parts.{MachineParts}
use Rattle.firm_graph.specs.Graph.{Graph, Mirrors, home_node}
use Rattle.firm_graph.specs.inner.Inside.{graph_of}
use Rattle.firm_graph.specs.inner.Steps.{moved}
use Rattle.firm_graph.proofs.Restores.{rows-updated}
use Rattle.firm_graph.proofs.graph.Graph.place_task.Goals as goal

kept : (c : goal.After-place_task-2)
    → Mirrors (moved (graph_of c.self.inside) c.place_task-2.new.self c.place_task.new.net)
kept c =
    let g : Graph = graph_of c.self.inside in
    let below : c.args.place < length g.tasks =
    omega (arith, ap (λ (h : Graph). length h.rows.tasks) c.self.view_is) in
    let items : c.deref.result.now ≡ c.self.inside.machines.items = search rules in
    subst (λ (r : TenantRows). Mirrors (moved g r c.place_task.new.net))
    (rows-updated g.rows c.args.place c.args.machine c.args.waited ∙ sym c.place_task-2.ensures.rows)
    (c.place_task.ensures.placed g c.args.machine (record {
      mirrors = c.self.invariant.graph.mirrors;
      over = refl;
      below = below;
      its_parts = c.at-parts.ensures;
      its_job = refl;
      jobs = refl;
      limits = refl;
      node = c.home_of.ensures
          ∙ ap (λ (l : List MachineParts). home_node (machine_names g.rows) (map (λ (p : MachineParts). p.node) l)
          g.hub c.args.machine) items;
      runs = c.is_some.ensures;
    }))

pub place_task-requires-2-clause-room : goal.place_task-requires-2-clause-room
place_task-requires-2-clause-room c =
    subst
    (λ (r : TenantRows). IfSome c.args.machine (λ _. HasRoom (with_task_placed r c.args.place c.args.machine
    c.args.waited)))
    (sym (ap (λ (h : Graph). h.rows) c.self.view_is)) c.requires.room

pub invariant_of-self : goal.invariant_of-self
invariant_of-self c =
    record {
      graph = record { sound = c.place_task-2.ensures.sound; mirrors = kept c };
      sources = c.self.invariant.sources;
    }

pub returns-clause-graph : goal.returns-clause-graph
returns-clause-graph c = record { sound = c.place_task-2.ensures.sound; mirrors = kept c }
