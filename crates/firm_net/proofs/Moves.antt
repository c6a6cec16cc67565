-- Links and nodes after each change of a net.
use Rattle.std.proofs.Common.{◌≡◌, ◌+◌, ◌^◌, ℕ, ◌<◌, List, [], ◌∷◌, Contains, refl, sym, ap, ◌∙◌, subst, Option, Some}
use Rattle.std.proofs.Common.{None, IsSome}
use Rattle.std.proofs.lemmas.Option.{none-some, same_Some}
use Rattle.firm_arena.specs.Arena.{Arena, find, held_at, capacity_of, with_put, without, changed_at, slot_changed}
use Rattle.firm_net.specs.Row.{Row, IsRow}
use Rattle.firm_net.specs.Net.{Lists, Net, IsNet, IsNode, side_list, listed_in, with_list, EachOnce, without_arc}
use Rattle.firm_net.specs.Net.{linked_at_front, unlinked, with_node, without_node, with_arc, without_row, out_list}
use Rattle.firm_net.specs.Net.{in_list}
use Rattle.firm_net.specs.inner.Links.{list_of, with_next, with_previous, with_arc_list, empty_node, list_from}
use Rattle.firm_net.specs.inner.Links.{list_past}
use Rattle.firm_net.specs.inner.Links.{links_from, links_past, at_option, lists_of, nodes_shown, rows_shown, Shows}
use Rattle.firm_net.specs.declared.row.NodeId.{NodeId}
use Rattle.firm_net.specs.declared.row.ArcId.{ArcId}
use Rattle.firm_net.specs.declared.links.Side.{Side}
use Rattle.firm_net.specs.declared.links.Side.TheVariants.{Out, In}
use Rattle.firm_net.specs.declared.links.Neighbours.{Neighbours}
use Rattle.firm_net.specs.declared.links.Link.{Link}
use Rattle.firm_net.specs.declared.links.Node.{Node}
use Rattle.firm_arena.specs.Changes.{found-after, some-is, is-some, find-put_own, held_at-changed_all}
use Rattle.firm_arena.specs.Changes.{changed_all-with_put, changed_all-without, capacity_of-changed_all, find-nothing}
use Rattle.firm_net.proofs.Chains.{touched, touches-next, touches-previous}
use Rattle.firm_net.proofs.Joins.{shows-listed, shows-unlinked}
use Rattle.firm_net.proofs.Frames.{shows-put, shows-taken, shows-node, shows-unnode}
use Rattle.firm_net.proofs.Listings.{Listing, listing, only, nothing, listing-of, listing-opposite, listing-beside}
use Rattle.firm_net.proofs.Listings.{listing-unlinked}
use Rattle.firm_net.proofs.Nets.{net-with_arc, net-without_row, net-with_node, net-without_node}
use Rattle.firm_net.proofs.Shown.{shown_net, IsShown, is_shown, node-shown, row-shown, link-there, rows-links_from}
use Rattle.firm_net.proofs.Shown.{rows-links_past}

-- a node without arcs is added
pub moved-add_node : (links : Arena Link) (nodes : Arena Node) (n : NodeId) → IsNet (shown_net links nodes)
    → Shows links nodes (nodes_shown links nodes)
    → n.id.place < capacity_of nodes → held_at nodes n.id.place ≡ None → n.id.stamp ≡ nodes.counter
    → nodes.counter + 1 < 2 ^ 64
    → IsShown links (with_put nodes n.id.place empty_node) (with_node (shown_net links nodes) n.id.place)
moved-add_node links nodes n is shows below free stamp unworn =
    is_shown links (with_put nodes n.id.place empty_node) (with_node (shown_net links nodes) n.id.place)
    (shows-node links nodes (nodes_shown links nodes) n.id.place below shows) refl
    (net-with_node (shown_net links nodes) n is
    (subst (λ (k : ℕ). n.id.place < k) (sym (capacity_of-changed_all nodes (lists_of links))) below)
    (held_at-changed_all nodes n.id.place (lists_of links)
    ∙ ap (λ (slot : Option (ℕ × Node)). slot_changed (lists_of links) slot) free)
    stamp unworn)

-- a node without arcs is removed
pub moved-remove_node : (links : Arena Link) (nodes : Arena Node) (n : NodeId) → IsNet (shown_net links nodes)
    → Shows links nodes (nodes_shown links nodes)
    → IsNode (shown_net links nodes) n → out_list (shown_net links nodes) n ≡ []
    → in_list (shown_net links nodes) n ≡ []
    → IsShown links (without nodes n.id.place) (without_node (shown_net links nodes) n)
moved-remove_node links nodes n is shows node no_out no_in =
    is_shown links (without nodes n.id.place) (without_node (shown_net links nodes) n)
    (shows-unnode links nodes (nodes_shown links nodes) n.id.place shows) refl
    (net-without_node (shown_net links nodes) n is node no_out no_in)

-- the facts of a list, for the lists of a node
pub once-found : (side : Side) (nodes : Arena Lists) (n : NodeId) (lists : Lists) → find nodes n.id ≡ Some lists
    → EachOnce (listing side nodes n)
    → EachOnce (side_list side lists)
once-found side nodes n lists there once =
    subst (λ (l : List ArcId). EachOnce l) (ap (λ (o : Option Lists). listed_in side o) there) once

pub contains-found : (side : Side) (nodes : Arena Lists) (n : NodeId) (lists : Lists) (a : ArcId)
    → find nodes n.id ≡ Some lists
    → Contains (listing side nodes n) a → Contains (side_list side lists) a
contains-found side nodes n lists a there has =
    subst (λ (l : List ArcId). Contains l a) (ap (λ (o : Option Lists). listed_in side o) there) has

pub found-contains : (side : Side) (nodes : Arena Lists) (n : NodeId) (lists : Lists) (a : ArcId)
    → find nodes n.id ≡ Some lists
    → Contains (side_list side lists) a → Contains (listing side nodes n) a
found-contains side nodes n lists a there has =
    subst (λ (l : List ArcId). Contains l a) (sym (ap (λ (o : Option Lists). listed_in side o) there)) has

-- an arc is added
pub moved-add_arc : (links : Arena Link) (nodes : Arena Node) (a : ArcId) (link : Link) (tail head : Node)
    → IsNet (shown_net links nodes) → Shows links nodes (nodes_shown links nodes) → IsRow link.row
    → a.id.place < capacity_of links → held_at links a.id.place ≡ None → a.id.stamp ≡ links.counter
    → links.counter + 1 < 2 ^ 64 → find nodes link.row.tail.id ≡ Some tail
    → IsSome (find (nodes_shown links nodes) link.row.head.id)
    → find (changed_at nodes link.row.tail.id.place (with_arc_list Out (list_from a.id.place (list_of Out tail))))
    link.row.head.id ≡ Some head
    → IsShown
    (links_from In a.id.place (list_of In head).first
    (links_from Out a.id.place (list_of Out tail).first (with_put links a.id.place link)))
    (changed_at (changed_at nodes link.row.tail.id.place (with_arc_list Out (list_from a.id.place (list_of Out tail))))
    link.row.head.id.place (with_arc_list In (list_from a.id.place (list_of In head))))
    (with_arc (shown_net links nodes) a link.row)
moved-add_arc links nodes a link tail head is shows is_row below free stamp unworn there_tail is_head there_head =
    let net : Net = shown_net links nodes in
    let links1 : Arena Link = with_put links a.id.place link in
    let links2 : Arena Link = links_from Out a.id.place (list_of Out tail).first links1 in
    let links3 : Arena Link = links_from In a.id.place (list_of In head).first links2 in
    let nodes2 : Arena Node =
    changed_at nodes link.row.tail.id.place (with_arc_list Out (list_from a.id.place (list_of Out tail))) in
    let nodes3 : Arena Node =
    changed_at nodes2 link.row.head.id.place (with_arc_list In (list_from a.id.place (list_of In head))) in
    let shown2 : Arena Lists = linked_at_front Out a link.row.tail net.nodes in
    let f : List ArcId → List ArcId = λ ids. a ∷ ids in
    let not_there : find net.arcs a.id ≡ None =
    find-nothing net.arcs a.id
    (held_at-changed_all links a.id.place (λ l. l.row)
    ∙ ap (λ (slot : Option (ℕ × Link)). slot_changed (λ l. l.row) slot) free) in
    let found1 : find links1 a.id ≡ Some link = find-put_own links a.id link below stamp in
    let row1 : find (rows_shown links1) a.id ≡ Some link.row = row-shown links1 a.id link found1 in
    let rows2 : rows_shown links2 ≡ rows_shown links1 =
    rows-links_from Out a.id.place (list_of Out tail).first links1 in
    let row2 : find (rows_shown links2) a.id ≡ Some link.row = ap (λ (r : Arena Row). find r a.id) rows2 ∙ row1 in
    let la2 = link-there links2 a.id (some-is (find (rows_shown links2) a.id) link.row row2) in
    let is_row2 : la2.0.row ≡ link.row =
    same_Some la2.0.row link.row (sym (row-shown links2 a.id la2.0 la2.1) ∙ row2) in
    let same_in : listing In shown2 link.row.head ≡ listing In net.nodes link.row.head =
    listing-opposite Out net.nodes link.row.tail.id.place f link.row.head in
    let s1 : Shows links1 nodes net.nodes = shows-put links nodes net.nodes a.id.place link below free shows in
    let s2 : Shows links2 nodes2 shown2 =
    shows-listed Out link.row.tail links1 nodes net.nodes tail a link s1 there_tail found1 refl
    (λ lists there. once-found Out net.nodes link.row.tail lists there (is.outgoing.once link.row.tail))
    (λ lists there has.
    let was = is.outgoing.arcs link.row.tail a (found-contains Out net.nodes link.row.tail lists a there has) in
    none-some was.0 (sym not_there ∙ was.1)) in
    let s3 : Shows links3 nodes3 (linked_at_front In a link.row.head shown2) =
    shows-listed In link.row.head links2 nodes2 shown2 head a la2.0 s2 there_head la2.1
    (ap (λ (r : Row). r.head) is_row2)
    (λ lists there.
    once-found In shown2 link.row.head lists there
    (subst (λ (l : List ArcId). EachOnce l) (sym same_in) (is.incoming.once link.row.head)))
    (λ lists there has.
    let was = is.incoming.arcs link.row.head a
    (subst (λ (l : List ArcId). Contains l a) same_in (found-contains In shown2 link.row.head lists a there has)) in
    none-some was.0 (sym not_there ∙ was.1)) in
    is_shown links3 nodes3 (with_arc net a link.row) s3
    (rows-links_from In a.id.place (list_of In head).first links2 ∙ rows2
    ∙ changed_all-with_put links a.id.place link (λ l. l.row))
    (net-with_arc net a link.row is is_row
    (some-is (find net.nodes link.row.tail.id) (lists_of links tail)
    (node-shown links nodes link.row.tail.id tail there_tail))
    is_head
    (subst (λ (k : ℕ). a.id.place < k) (sym (capacity_of-changed_all links (λ l. l.row))) below)
    (held_at-changed_all links a.id.place (λ l. l.row)
    ∙ ap (λ (slot : Option (ℕ × Link)). slot_changed (λ l. l.row) slot) free)
    stamp unworn)

-- an arc is removed
pub moved-remove_arc : (links : Arena Link) (nodes : Arena Node) (a : ArcId) (link : Link) (tail head : Node)
    → IsNet (shown_net links nodes) → Shows links nodes (nodes_shown links nodes) → find links a.id ≡ Some link
    → find nodes link.row.tail.id ≡ Some tail
    → find (changed_at nodes link.row.tail.id.place (with_arc_list Out (list_past link.outgoing (list_of Out tail))))
    link.row.head.id ≡ Some head
    → IsShown
    (without (links_past In link.incoming (links_past Out link.outgoing links)) a.id.place)
    (changed_at
    (changed_at nodes link.row.tail.id.place (with_arc_list Out (list_past link.outgoing (list_of Out tail))))
    link.row.head.id.place (with_arc_list In (list_past link.incoming (list_of In head))))
    (without_row (shown_net links nodes) a link.row)
moved-remove_arc links nodes a link tail head is shows found there_tail there_head =
    let net : Net = shown_net links nodes in
    let links1 : Arena Link = links_past Out link.outgoing links in
    let links2 : Arena Link = links_past In link.incoming links1 in
    let nodes1 : Arena Node =
    changed_at nodes link.row.tail.id.place (with_arc_list Out (list_past link.outgoing (list_of Out tail))) in
    let nodes2 : Arena Node =
    changed_at nodes1 link.row.head.id.place (with_arc_list In (list_past link.incoming (list_of In head))) in
    let shown1 : Arena Lists = unlinked Out a link.row.tail net.nodes in
    let shown2 : Arena Lists = unlinked In a link.row.head shown1 in
    let row : find net.arcs a.id ≡ Some link.row = row-shown links a.id link found in
    let step =
    touched Out links link.outgoing.previous (with_next Out link.outgoing.next) a.id link
    (touches-next Out link.outgoing.next) found in
    let la1 =
    touched Out (at_option links link.outgoing.previous (with_next Out link.outgoing.next)) link.outgoing.next
    (with_previous Out link.outgoing.previous) a.id step.0 (touches-previous Out link.outgoing.previous) step.1 in
    let into1 : la1.0.incoming ≡ link.incoming = la1.3 ∙ step.3 in
    let same_in : listing In shown1 link.row.head ≡ listing In net.nodes link.row.head =
    listing-opposite Out net.nodes link.row.tail.id.place (without_arc a) link.row.head in
    let t : find net.nodes link.row.tail.id ≡ Some (lists_of links tail) =
    node-shown links nodes link.row.tail.id tail there_tail in
    let h = is-some (find shown1 link.row.head.id)
    (found-after net.nodes link.row.tail.id.place (with_list Out (without_arc a)) link.row.head.id
    (is.heads a link.row row)) in
    let s1 : Shows links1 nodes1 shown1 =
    shows-unlinked Out link.row.tail links nodes net.nodes tail a link shows there_tail found
    (λ lists there. (
      once-found Out net.nodes link.row.tail lists there (is.outgoing.once link.row.tail),
      contains-found Out net.nodes link.row.tail lists a there (is.outgoing.all a link.row row),
    )) in
    let s2 : Shows links2 nodes2 shown2 =
    subst (λ (around : Neighbours).
    Shows (links_past In around links1)
    (changed_at nodes1 link.row.head.id.place (with_arc_list In (list_past around (list_of In head)))) shown2)
    into1
    (shows-unlinked In link.row.head links1 nodes1 shown1 head a la1.0 s1 there_head la1.1
    (λ lists there. (
      once-found In shown1 link.row.head lists there
          (subst (λ (l : List ArcId). EachOnce l) (sym same_in) (is.incoming.once link.row.head)),
      contains-found In shown1 link.row.head lists a there
          (subst (λ (l : List ArcId). Contains l a) (sym same_in) (is.incoming.all a link.row row)),
    ))) in
    let out2 : Listing Out shown2 net.arcs (only a) =
    listing-beside In shown1 net.arcs link.row.head.id.place (without_arc a) (only a)
    (listing-unlinked Out net.nodes net.arcs a link.row (lists_of links tail) row t (listing-of Out net is.outgoing)) in
    let into2 : Listing In shown2 net.arcs (only a) =
    listing-unlinked In shown1 net.arcs a link.row h.0 row h.1
    (listing-beside Out net.nodes net.arcs link.row.tail.id.place (without_arc a) nothing
    (listing-of In net is.incoming)) in
    let rows2 : rows_shown links2 ≡ rows_shown links =
    rows-links_past In link.incoming links1 ∙ rows-links_past Out link.outgoing links in
    let la2 = link-there links2 a.id
    (some-is (find (rows_shown links2) a.id) link.row (ap (λ (r : Arena Row). find r a.id) rows2 ∙ row)) in
    let s3 : Shows (without links2 a.id.place) nodes2 shown2 =
    shows-taken links2 nodes2 shown2 a la2.0 la2.1
    (λ n lists there s.
    elim s as (λ k. Contains (side_list k lists) a → ⊥) [
      | Out ↦ λ has. (out2.arcs_of n a (found-contains Out shown2 n lists a there has)).0 refl
      | In ↦ λ has. (into2.arcs_of n a (found-contains In shown2 n lists a there has)).0 refl
    ])
    s2 in
    is_shown (without links2 a.id.place) nodes2 (without_row net a link.row) s3
    (changed_all-without links2 a.id.place (λ l. l.row) ∙ ap (λ (r : Arena Row). without r a.id.place) rows2)
    (net-without_row net a link.row is row)
