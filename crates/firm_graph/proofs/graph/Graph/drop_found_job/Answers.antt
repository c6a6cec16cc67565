use Rattle.std.proofs.Common.{◌≡◌, ◌<◌, ℕ, false, Some, List, length, bytes_eq, arith, refl, subst, sym, ◌∙◌}
use Rattle.std.proofs.lemmas.List.{length-map}
use Rattle.std.specs.List.{All, position}
use Rattle.firm_net.specs.Net.{Net}
use Rattle.firm_rules.specs.Book.{job_names, has_tasks, without_job}
use Rattle.firm_rules.specs.declared.book.Job.{Job}
use Rattle.firm_graph.specs.Graph.{Graph, Mirrors, graph_nodes, graph_spans}
use Rattle.firm_graph.specs.inner.Inside.{graph_of}
use Rattle.firm_graph.specs.inner.Steps.{Holds}
use Rattle.firm_graph.specs.declared.ids.JobParts.{JobParts}
use Rattle.firm_graph.proofs.Drops.{IsFree}
use Rattle.firm_graph.proofs.Jobs.{job-unlinked, job-free, job-dropped, job_dropped}
use Rattle.firm_graph.proofs.Names.{job-rows, none-of, seen-at, seen-below, seen-name}
use Rattle.firm_graph.proofs.Said.{said}
use Rattle.firm_graph.proofs.graph.Graph.drop_found_job.Goals as goal
use Rattle.firm_graph.proofs.graph.Graph.drop_found_job.Goals.{After-unlink}

-- what the net holds once the arc of a job without tasks was removed
record Emptied (g : Graph) (after : Net) (place : ℕ) (name : List ℕ) (parts : JobParts) : Type 0 where
  below : place < length g.jobs
  named : position (bytes_eq name) (job_names g.rows) ≡ Some place
  off : All (λ task. bytes_eq task.job name ≡ false) g.rows.tasks
  held : Holds g.net after (graph_nodes g) (graph_spans (job_dropped g g.net place))
  free : IsFree after parts.node

emptied : (c : After-unlink)
    → Emptied (graph_of c.self.inside) c.unlink.new.net c.args.place c.args.name c.remove-parts.result
emptied c =
    let g : Graph = graph_of c.self.inside in
    let seen : Graph = c.args.self.now in
    let name : List ℕ = c.args.name in
    let is : Mirrors g = c.self.invariant.graph.mirrors in
    let at = c.remove-parts.ensures.value in
    let named = seen-at job_names g seen name c.args.place c.self.view_is c.requires.found in
    let below : c.args.place < length g.jobs = omega (
      arith,
      seen-below job_names g seen name c.args.place c.self.view_is c.requires.found,
      length-map g.rows.jobs (λ (j : Job). j.name),
      is.jobs,
    ) in
    let off = none-of name g.rows.tasks
    (subst (λ (h : Graph). has_tasks h.rows name ≡ false) (sym c.self.view_is) c.requires.empty) in
    let held = job-unlinked g g.net c.args.place name c.remove-parts.result is below at named off c.unlink.new.net
    c.unlink.ensures.edit in
    record {
      below = below;
      named = named;
      off = off;
      held = held;
      free = job-free g g.net c.args.place name c.remove-parts.result is below at named off c.unlink.new.net held;
    }

pub drop_node-requires-clause-there : goal.drop_node-requires-clause-there
drop_node-requires-clause-there c = (emptied (goal.at.drop_node-requires-clause-there c).After-unlink).free.there

pub drop_node-requires-clause-out : goal.drop_node-requires-clause-out
drop_node-requires-clause-out c = (emptied (goal.at.drop_node-requires-clause-out c).After-unlink).free.out

pub drop_node-requires-clause-into : goal.drop_node-requires-clause-into
drop_node-requires-clause-into c = (emptied (goal.at.drop_node-requires-clause-into c).After-unlink).free.into

kept : (c : goal.After-drop_node)
    → Emptied (graph_of c.self.inside) c.unlink.new.net c.args.place c.args.name c.remove-parts.result
    → Mirrors (record (graph_of c.self.inside) {
      rows = c.close.new.self;
      net = c.drop_node.new.net;
      jobs = c.remove-parts.new.self.items;
    })
kept c e =
    let g : Graph = graph_of c.self.inside in
    let place : ℕ = c.args.place in
    said (job_dropped g c.drop_node.new.net place) c.close.new.self g.machines c.remove-parts.new.self.items g.tasks
    (job-rows c.close.new.self g.rows _ place c.close.ensures.rows c.close.ensures.jobs) refl
    c.remove-parts.ensures.items refl
    (job-dropped g c.drop_node.new.net place c.args.name c.remove-parts.result c.self.invariant.graph.mirrors e.below
    c.remove-parts.ensures.value e.named e.off c.unlink.new.net e.held c.drop_node.ensures.edit)

pub invariant_of-self : goal.invariant_of-self
invariant_of-self c =
    record {
      graph = record {
        sound = c.close.ensures.sound;
        mirrors = kept c (emptied (goal.at.invariant_of-self c).After-unlink);
      };
      sources = c.self.invariant.sources;
    }

pub returns-clause-graph : goal.returns-clause-graph
returns-clause-graph c = record {
  sound = c.close.ensures.sound;
  mirrors = kept c (emptied (goal.at.returns-clause-graph c).After-unlink);
}

pub close-requires-clause-there : goal.close-requires-clause-there
close-requires-clause-there c =
    omega (
      arith,
      seen-below job_names (graph_of c.self.inside) c.args.self.now c.args.name c.args.place c.self.view_is
          c.requires.found,
      length-map c.self.inside.rows.jobs (λ (j : Job). j.name),
    )

pub close-requires-clause-no_tasks : goal.close-requires-clause-no_tasks
close-requires-clause-no_tasks c =
    seen-name job_names (graph_of c.self.inside) c.args.self.now c.args.name c.args.place c.self.view_is
    c.requires.found has_tasks
    ∙ c.requires.empty

pub returns-clause-rows : goal.returns-clause-rows
returns-clause-rows c =
    c.close.ensures.rows
    ∙ seen-name job_names (graph_of c.self.inside) c.args.self.now c.args.name c.args.place c.self.view_is
    c.requires.found without_job
