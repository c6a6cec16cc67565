-- The rows and lists that a net's links and nodes represent, before and after each change.
use Rattle.std.proofs.Common.{◌≡◌, ◌≢◌, ℕ, ◌+◌, ◌<◌, ◌≤◌, ◌^◌, List, [], ◌∷◌, Contains, length, refl, sym, ap, ap₂, ◌∙◌}
use Rattle.std.proofs.Common.{subst, arith, Option, Some, None, option_map, is_some, IsSome}
use Rattle.std.proofs.lemmas.List.Sums.{count_by-le-length}
use Rattle.firm_arena.specs.Arena.{Arena, find, capacity_of, len_of, without}
use Rattle.firm_arena.specs.declared.Id.{Id}
use Rattle.firm_net.specs.Row.{Row}
use Rattle.firm_net.specs.Net.{Lists, Net, IsNet, listed_in, EachOnce}
use Rattle.firm_net.specs.inner.Links.{list_of, with_neighbours, with_next, with_previous, at_option, links_from}
use Rattle.firm_net.specs.inner.Links.{links_past}
use Rattle.firm_net.specs.inner.Links.{lists_of, nodes_shown, rows_shown, Shows}
use Rattle.firm_net.specs.declared.row.NodeId.{NodeId}
use Rattle.firm_net.specs.declared.row.ArcId.{ArcId}
use Rattle.firm_net.specs.declared.links.Side.{Side}
use Rattle.firm_net.specs.declared.links.Side.TheVariants.{Out, In}
use Rattle.firm_net.specs.declared.links.Neighbours.{Neighbours}
use Rattle.firm_net.specs.declared.links.Link.{Link}
use Rattle.firm_net.specs.declared.links.Node.{Node}
use Rattle.firm_arena.specs.Changes.{some-is, is-some, find-changed_all, find-without_other, changed_all-same}
use Rattle.firm_arena.specs.Changes.{len_of-without}
use Rattle.firm_net.proofs.Lists.{contains-here, contains-there}
use Rattle.firm_net.proofs.Relists.{shown-node}
use Rattle.firm_net.proofs.Chains.{touches-next, touches-previous, touches-neighbours}
use Rattle.firm_net.proofs.Frames.{shows-walks}
use Rattle.firm_net.proofs.Listings.{listing}

-- the net that links and nodes show
abbrev pub shown_net : Arena Link → Arena Node → Net
shown_net links nodes = record { nodes = nodes_shown links nodes; arcs = rows_shown links }

-- links and nodes show this net, which keeps what every net keeps
pub record IsShown (links : Arena Link) (nodes : Arena Node) (shown : Net) : Type 0 where
  pub is : shown_net links nodes ≡ shown
  pub net : IsNet (shown_net links nodes)
  pub shows : Shows links nodes (nodes_shown links nodes)

pub is_shown : (links : Arena Link) (nodes : Arena Node) (net : Net) → Shows links nodes net.nodes
    → rows_shown links ≡ net.arcs
    → IsNet net → IsShown links nodes net
is_shown links nodes net shows rows is_net =
    let lists : nodes_shown links nodes ≡ net.nodes = shows-walks links nodes net.nodes shows in
    let e : shown_net links nodes ≡ net =
    ap₂ (λ (n : Arena Lists) (a : Arena Row). let made : Net = record { nodes = n; arcs = a } in made) lists rows in
    record {
      is = e;
      net = subst (λ (n : Net). IsNet n) (sym e) is_net;
      shows = subst (λ (n : Arena Lists). Shows links nodes n) (sym lists) shows;
    }

-- a node or an arc that is there is shown
pub node-shown : (links : Arena Link) (nodes : Arena Node) (id : Id) (node : Node) → find nodes id ≡ Some node
    → find (nodes_shown links nodes) id ≡ Some (lists_of links node)
node-shown links nodes id node there =
    find-changed_all nodes (lists_of links) id ∙ ap (λ (o : Option Node). option_map (lists_of links) o) there

pub row-shown : (links : Arena Link) (id : Id) (link : Link) → find links id ≡ Some link
    → find (rows_shown links) id ≡ Some link.row
row-shown links id link there =
    find-changed_all links (λ l. l.row) id ∙ ap (λ (o : Option Link). option_map (λ l. l.row) o) there

option-some : {X Y : Type 0} (o : Option X) (f : X → Y) → IsSome (option_map f o) → (x : X) × (o ≡ Some x)
option-some None f h = is-some None h
option-some (Some x) f h = (x, refl)

pub node-there : (links : Arena Link) (nodes : Arena Node) (id : Id) → IsSome (find (nodes_shown links nodes) id)
    → (node : Node) × (find nodes id ≡ Some node)
node-there links nodes id h =
    option-some (find nodes id) (lists_of links)
    (subst (λ (o : Option Lists). IsSome o) (find-changed_all nodes (lists_of links) id) h)

pub link-there : (links : Arena Link) (id : Id) → IsSome (find (rows_shown links) id)
    → (link : Link) × (find links id ≡ Some link)
link-there links id h =
    option-some (find links id) (λ l. l.row)
    (subst (λ (o : Option Row). IsSome o) (find-changed_all links (λ l. l.row) id) h)

-- the change of one side's links leaves the rows
pub rows-at_option : (links : Arena Link) (o : Option ℕ) (f : Link → Link) → ((link : Link) → (f link).row ≡ link.row)
    → rows_shown (at_option links o f) ≡ rows_shown links
rows-at_option links None f keeps = refl
rows-at_option links (Some p) f keeps = changed_all-same links p f (λ l. l.row) keeps

pub rows-links_from : (side : Side) (p : ℕ) (first : Option ℕ) (links : Arena Link)
    → rows_shown (links_from side p first links) ≡ rows_shown links
rows-links_from side p first links =
    let fresh : Neighbours = record { next = first; previous = None } in
    rows-at_option (at_option links (Some p) (with_neighbours side fresh)) first (with_previous side (Some p))
    (λ l. (touches-previous side (Some p) l).0)
    ∙ rows-at_option links (Some p) (with_neighbours side fresh) (λ l. (touches-neighbours side fresh l).0)

pub rows-links_past : (side : Side) (around : Neighbours) (links : Arena Link)
    → rows_shown (links_past side around links) ≡ rows_shown links
rows-links_past side around links =
    rows-at_option (at_option links around.previous (with_next side around.next)) around.next
    (with_previous side around.previous)
    (λ l. (touches-previous side around.previous l).0)
    ∙ rows-at_option links around.previous (with_next side around.next) (λ l. (touches-next side around.next l).0)

-- arcs that are there and differ are at most as many as are held
pub list-short : {X : Type 0} (arena : Arena X) (ids : List ArcId) → EachOnce ids
    → ((a : ArcId) → Contains ids a → IsSome (find arena a.id))
    → length ids ≤ len_of arena
list-short arena [] once there = omega arith
list-short {X} arena (a ∷ rest) once there =
    let own = is-some (find arena a.id) (there a (contains-here a rest)) in
    let fewer : length rest ≤ len_of (without arena a.id.place) =
    list-short (without arena a.id.place) rest once.1
    (λ b has.
    let other : b.id ≢ a.id =
    λ e. once.0 (subst (λ (c : ArcId). Contains rest c)
    (ap (λ (i : Id). let made : ArcId = record { id = i } in made) e) has) in
    subst (λ (o : Option X). IsSome o) (sym (find-without_other arena a.id b.id own.0 own.1 other))
    (there b (contains-there a rest b has))) in
    omega (arith, fewer, len_of-without arena a.id own.0 own.1)

pub len-le-capacity : {X : Type 0} (arena : Arena X) → len_of arena ≤ capacity_of arena
len-le-capacity arena = count_by-le-length is_some arena.held

-- a list of a net is no longer than its arcs are many
pub listing-short : (side : Side) (net : Net) (n : NodeId) → IsNet net
    → length (listing side net.nodes n) ≤ capacity_of net.arcs
listing-short side net n is =
    let short : length (listing side net.nodes n) ≤ len_of net.arcs =
    elim side as (λ s. length (listing s net.nodes n) ≤ len_of net.arcs) [
      | Out ↦ list-short net.arcs (listing Out net.nodes n) (is.outgoing.once n)
          (λ a has. let was = is.outgoing.arcs n a has in some-is (find net.arcs a.id) was.0 was.1)
      | In ↦ list-short net.arcs (listing In net.nodes n) (is.incoming.once n)
          (λ a has. let was = is.incoming.arcs n a has in some-is (find net.arcs a.id) was.0 was.1)
    ] in
    omega (arith, short, len-le-capacity net.arcs)

-- the count of a node's list is the length of the list that is shown
pub list-count : (links : Arena Link) (nodes : Arena Node) (n : NodeId) (node : Node) (side : Side)
    → Shows links nodes (nodes_shown links nodes) → find nodes n.id ≡ Some node
    → (list_of side node).count ≡ length (listing side (nodes_shown links nodes) n)
list-count links nodes n node side shows there =
    let own = shown-node links nodes (nodes_shown links nodes) n node shows there in
    (own.2 side).count ∙ ap (λ (o : Option Lists). length (listed_in side o)) (sym own.1)

pub count-fits : (links : Arena Link) (nodes : Arena Node) (n : NodeId) (node : Node) (side : Side)
    → IsNet (shown_net links nodes) → Shows links nodes (nodes_shown links nodes) → find nodes n.id ≡ Some node
    → (list_of side node).count + 1 < 2 ^ 32
count-fits links nodes n node side is shows there =
    let short : length (listing side (nodes_shown links nodes) n) ≤ capacity_of (rows_shown links) =
    listing-short side (shown_net links nodes) n is in
    omega (arith, short, list-count links nodes n node side shows there, is.arc_limit)
