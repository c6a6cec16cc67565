use Rattle.std.proofs.Common.{◌<◌, length, map, List, is_some, ap, sym, ◌∙◌, subst}
use Rattle.firm_net.specs.declared.row.NodeId.{NodeId}
use Rattle.firm_rules.specs.Book.{machine_names}
use Rattle.firm_rules.specs.Placement.{IsPlace}
use Rattle.firm_rules.specs.Round.{task_after}
use Rattle.firm_rules.specs.declared.book.Task.{Task}
use Rattle.firm_rules.specs.declared.rounds.Choice.{Choice}
use Rattle.firm_graph.specs.Parts.{MachineParts}
use Rattle.firm_graph.specs.Graph.{home_node}
use Rattle.firm_graph.specs.inner.Steps.{task_at}
use Rattle.firm_graph.proofs.Turns.{stand-node}
use Rattle.firm_graph.proofs.moves.stand_of.Goals as goal

pub returns-in-On-clause-stands : goal.returns-in-On-clause-stands
returns-in-On-clause-stands c =
    let rows = c.args.rows.now in
    let task : Task = task_at rows c.args.place in
    let nodes : List NodeId = map (λ (p : MachineParts). p.node) c.args.heads.now.machines.now in
    let below : c.in-On.machine < length rows.machines = subst (IsPlace (length rows.machines)) c.in-On.is
    c.requires.there in
    record {
      node = stand-node rows c.args.heads.now.machines.now c.args.heads.now.hub c.parts.inside.node c.in-On.machine
          c.index-heads-machine.result c.limits.ensures.sound.machine_names_differ
          c.requires.machines below c.index-heads-machine.is
          (ap (λ (p : MachineParts). p.node) (c.parts.view_is ∙ sym c.index-heads-machine.is))
          ∙ ap (λ (choice : Choice). home_node (machine_names rows) nodes c.args.heads.now.hub
          (task_after rows task choice).machine) (sym c.in-On.is);
      runs = ap (λ (choice : Choice). is_some (task_after rows task choice).machine) (sym c.in-On.is);
      waited = ap (λ (choice : Choice). (task_after rows task choice).waited) (sym c.in-On.is);
    }
