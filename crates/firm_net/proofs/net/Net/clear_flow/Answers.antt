-- The parts show the net without flow: one that is clear as it is, every other with its arcs cleared.
use Rattle.std.proofs.Common.{◌+◌, [], sym, ap, ◌∙◌, subst}
use Rattle.firm_arena.specs.Arena.{Arena}
use Rattle.firm_net.specs.Net.{Net}
use Rattle.firm_net.specs.Edits.{IsEdit}
use Rattle.firm_net.specs.declared.links.Link.{Link}
use Rattle.firm_net.proofs.Clears.{cleared-again}
use Rattle.firm_net.proofs.Results.{ClearsFlow, clears_flow}
use Rattle.firm_net.proofs.net.Net.clear_flow.Goals as goal

clears : (c : goal.After-self-1) → ClearsFlow c.clear_rows.new.links c.self.inside.nodes c.args.self.now
clears c =
    clears_flow c.self.inside.links c.clear_rows.new.links c.self.inside.nodes c.args.self.now
    c.self.invariant.net c.self.invariant.shows c.self.view_is c.clear_rows.ensures

stays : (c : goal.Then-self) → ClearsFlow c.self.inside.links c.self.inside.nodes c.args.self.now
stays c =
    clears_flow c.self.inside.links c.self.inside.links c.self.inside.nodes c.args.self.now
    c.self.invariant.net c.self.invariant.shows c.self.view_is (sym (c.self.invariant.clear c.if-self.true))

pub invariant_of-self : goal.invariant_of-self
invariant_of-self c =
    record {
      added = c.self.invariant.added
          ∙ ap (λ (l : Arena Link). c.self.inside.nodes.counter + l.counter) (sym c.clear_rows.ensures);
      net = (clears c).net;
      shows = (clears c).shows;
      clear = λ _. cleared-again c.self.inside.links c.clear_rows.new.links c.clear_rows.ensures;
    }

pub returns-clause-clears : goal.returns-clause-clears
returns-clause-clears c = (clears c).is

pub returns-clause-counts : goal.returns-clause-counts
returns-clause-counts c = (clears c).counts

pub returns-clause-net : goal.returns-clause-net
returns-clause-net c = (clears c).net

pub returns-clause-edit : goal.returns-clause-edit
returns-clause-edit c = (clears c).edit

pub returns-clause-nodes : goal.returns-clause-nodes
returns-clause-nodes c = (clears c).same_nodes

pub returns-then-self-clause-clears : goal.returns-then-self-clause-clears
returns-then-self-clause-clears c = sym c.self.view_is ∙ (stays c).is

pub returns-then-self-clause-edit : goal.returns-then-self-clause-edit
returns-then-self-clause-edit c =
    subst (λ (net : Net). IsEdit c.args.self.now net [] [] [] []) c.self.view_is (stays c).edit
