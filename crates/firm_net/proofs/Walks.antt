-- The walk over a list, as the links name it.
use Rattle.std.proofs.Common.{◌≡◌, ℕ, ◌≤◌, List, [], ◌∷◌, length, sym, ap, ◌∙◌, arith, Option, Some, None}
use Rattle.firm_arena.specs.Arena.{Arena, find, capacity_of}
use Rattle.firm_net.specs.Row.{Row}
use Rattle.firm_net.specs.Net.{Lists, Net, IsNet, side_list, listed_in, arcs_on, row_at, rows_of, with_its_row}
use Rattle.firm_net.specs.inner.Links.{list_of, walk_rows, nodes_shown, Shows}
use Rattle.firm_net.specs.declared.row.NodeId.{NodeId}
use Rattle.firm_net.specs.declared.row.ArcId.{ArcId}
use Rattle.firm_net.specs.declared.links.Side.{Side}
use Rattle.firm_net.specs.declared.links.Link.{Link}
use Rattle.firm_net.specs.declared.links.Node.{Node}
use Rattle.firm_arena.specs.Changes.{find-changed_all}
use Rattle.firm_net.proofs.Relists.{shown-node}
use Rattle.firm_net.proofs.Frames.{walk_rows-chain}
use Rattle.firm_net.proofs.Shown.{shown_net, listing-short}
use Rattle.firm_net.proofs.Results.{node-missing}

pub walk-is : (side : Side) (links : Arena Link) (nodes : Arena Node) (old : Net) (n : NodeId) (node : Node)
    → Shows links nodes (nodes_shown links nodes) → shown_net links nodes ≡ old → find nodes n.id ≡ Some node
    → walk_rows side links (list_of side node).count (list_of side node).first ≡ rows_of old (arcs_on side old n)
walk-is side links nodes old n node shows was there =
    let net : Net = shown_net links nodes in
    let own = shown-node links nodes (nodes_shown links nodes) n node shows there in
    ap (λ (k : ℕ). walk_rows side links k (list_of side node).first) (own.2 side).count
    ∙ walk_rows-chain side links net n None (list_of side node).first (side_list side own.0)
    (λ a. find-changed_all links (λ l. l.row) a.id) (own.2 side).chain
    ∙ ap (λ (o : Option Lists). rows_of net (listed_in side o)) (sym own.1)
    ∙ ap (λ (k : Net). rows_of k (arcs_on side k n)) was

pub walk-none : (side : Side) (links : Arena Link) (nodes : Arena Node) (old : Net) (n : NodeId)
    → shown_net links nodes ≡ old → find nodes n.id ≡ None
    → walk_rows side links 0 None ≡ rows_of old (arcs_on side old n)
walk-none side links nodes old n was none =
    sym (ap (λ (o : Option Lists). rows_of old (listed_in side o)) (node-missing links nodes old n was none))

-- a list has at most as many rows as arcs
row-short : (net : Net) (a : ArcId) (o : Option Row) (rest : List ArcId) → length (rows_of net rest) ≤ length rest
    → length (with_its_row net a o (rows_of net rest)) ≤ length (a ∷ rest)
row-short net a None rest h = omega (arith, h)
row-short net a (Some row) rest h = omega (arith, h)

rows-short : (net : Net) (ids : List ArcId) → length (rows_of net ids) ≤ length ids
rows-short net [] = omega arith
rows-short net (a ∷ rest) = row-short net a (row_at net a) rest (rows-short net rest)

pub walk-short : (side : Side) (net : Net) (n : NodeId) → IsNet net
    → length (rows_of net (arcs_on side net n)) ≤ capacity_of net.arcs
walk-short side net n is = omega (arith, rows-short net (arcs_on side net n), listing-short side net n is)
