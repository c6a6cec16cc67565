-- A new net shows no node and no arc.
use Rattle.std.proofs.Common.{◌≡◌, ℕ, ◌≤◌, sym, ap, subst₂, arith}
use Rattle.firm_arena.specs.Arena.{Arena, vacant}
use Rattle.firm_net.specs.Net.{empty_net}
use Rattle.firm_net.specs.inner.Links.{cleared_link}
use Rattle.firm_net.specs.declared.links.Link.{Link}
use Rattle.firm_net.specs.declared.links.Node.{Node}
use Rattle.firm_net.proofs.Rewrites.{moved-new, changed_all-vacant}
use Rattle.firm_net.proofs.Shown.{IsShown}
use Rattle.firm_net.proofs.net.Net.new.Goals as goal

shown_new : (links : Arena Link) (nodes : Arena Node) (node_limit arc_limit : ℕ) → nodes ≡ vacant node_limit 0
    → links ≡ vacant arc_limit 0
    → node_limit ≤ 4096 → arc_limit ≤ 65536 → IsShown links nodes (empty_net node_limit arc_limit)
shown_new links nodes node_limit arc_limit no_nodes no_arcs few_nodes few_arcs =
    subst₂ (λ (l : Arena Link) (k : Arena Node). IsShown l k (empty_net node_limit arc_limit)) (sym no_arcs)
    (sym no_nodes)
    (moved-new node_limit arc_limit few_nodes few_arcs)

pub invariant_of-result : goal.invariant_of-result
invariant_of-result c =
    let nodes = c.in_ok-nodes.nodes in
    let links = c.in_ok-nodes.links in
    let shown =
    shown_new links nodes c.args.nodes c.args.arcs c.in_ok-nodes.ensures.nodes c.in_ok-nodes.ensures.links
    c.requires.nodes c.requires.arcs in
    let no_node : nodes.counter ≡ 0 = ap (λ (a : Arena Node). a.counter) c.in_ok-nodes.ensures.nodes in
    let no_link : links.counter ≡ 0 = ap (λ (a : Arena Link). a.counter) c.in_ok-nodes.ensures.links in
    record {
      added = omega arith;
      net = shown.net;
      shows = shown.shows;
      clear = λ _. rw c.in_ok-nodes.ensures.links (changed_all-vacant {X = Link} {Y = Link} c.args.arcs 0 cleared_link);
    }

pub returns-clause-empty : goal.returns-clause-empty
returns-clause-empty c =
    (shown_new c.in_ok-nodes.links c.in_ok-nodes.nodes c.args.nodes c.args.arcs c.in_ok-nodes.ensures.nodes
    c.in_ok-nodes.ensures.links c.requires.nodes
    c.requires.arcs).is

pub returns-clause-net : goal.returns-clause-net
returns-clause-net c =
    (shown_new c.in_ok-nodes.links c.in_ok-nodes.nodes c.args.nodes c.args.arcs c.in_ok-nodes.ensures.nodes
    c.in_ok-nodes.ensures.links c.requires.nodes
    c.requires.arcs).net
