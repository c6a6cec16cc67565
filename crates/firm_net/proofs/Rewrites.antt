-- Links and nodes after an arc's row changed, its head moved, or all flow was cleared.
use Rattle.std.proofs.Common.{◌≡◌, ◌≢◌, ℕ, ◌≤◌, List, ◌∷◌, Contains, set, map, replicate, zero, suc, refl, sym, ap, ◌∙◌}
use Rattle.std.proofs.Common.{subst, subst₂, Option, Some, None}
use Rattle.std.proofs.lemmas.Option.{same_Some}
use Rattle.std.proofs.lemmas.List.{length-replicate}
use Rattle.firm_arena.specs.Arena.{Arena, find, held_at, vacant, changed_at, changed_all, slot_changed}
use Rattle.firm_arena.specs.declared.Id.{Id}
use Rattle.firm_net.specs.Row.{Row, IsRow}
use Rattle.firm_net.specs.Net.{Lists, Net, IsNet, IsNode, side_list, end_of, unlinked, with_row, with_head}
use Rattle.firm_net.specs.Net.{without_flow, empty_net}
use Rattle.firm_net.specs.inner.Links.{neighbours_of, list_of, with_arc_list, with_link_row, cleared_link, list_from}
use Rattle.firm_net.specs.inner.Links.{list_past, links_from, links_past, lists_of, nodes_shown, rows_shown, ShowsSlot}
use Rattle.firm_net.specs.inner.Links.{Shows}
use Rattle.firm_net.specs.declared.row.NodeId.{NodeId}
use Rattle.firm_net.specs.declared.row.ArcId.{ArcId}
use Rattle.firm_net.specs.declared.links.Side.{Side}
use Rattle.firm_net.specs.declared.links.Side.TheVariants.{Out, In}
use Rattle.firm_net.specs.declared.links.Link.{Link}
use Rattle.firm_net.specs.declared.links.Node.{Node}
use Rattle.firm_arena.specs.Changes.{replicate-none, some-is, find-held, find-changed_own, changed_all-changed_at}
use Rattle.firm_arena.specs.Changes.{changed_all-changed_all}
use Rattle.firm_net.proofs.Joins.{shows-listed, shows-unlinked}
use Rattle.firm_net.proofs.Frames.{shows-changed, shows-changed_all}
use Rattle.firm_net.proofs.Listings.{Listing, only, listing-of, listing-unlinked}
use Rattle.firm_net.proofs.Nets.{net-with_row, net-with_head, net-without_flow, net-empty}
use Rattle.firm_net.proofs.Shown.{shown_net, IsShown, is_shown, node-shown, row-shown, link-there, rows-links_from}
use Rattle.firm_net.proofs.Shown.{rows-links_past}
use Rattle.firm_net.proofs.Moves.{once-found, contains-found, found-contains}

-- two changes that agree on the value are one
changed-agree : {X : Type 0} (a : Arena X) (id : Id) (v : X) (f g : X → X) → find a id ≡ Some v → f v ≡ g v
    → changed_at a id.place f ≡ changed_at a id.place g
changed-agree {X} a id v f g found e =
    let held : held_at a id.place ≡ Some (id.stamp, v) = find-held a id v found in
    let slots : slot_changed f (held_at a id.place) ≡ slot_changed g (held_at a id.place) =
    ap (λ (s : Option (ℕ × X)). slot_changed f s) held
    ∙ ap (λ (w : X). let made : Option (ℕ × X) = Some (id.stamp, w) in made) e
    ∙ sym (ap (λ (s : Option (ℕ × X)). slot_changed g s) held) in
    ap (λ (slot : Option (ℕ × X)). let made : Arena X =
    record { held = set a.held id.place slot; counter = a.counter } in made)
    slots

-- the rows that are shown once one link has another row
rows-rewritten : (links : Arena Link) (p : ℕ) (row : Row)
    → rows_shown (changed_at links p (with_link_row row)) ≡ changed_at (rows_shown links) p (λ _. row)
rows-rewritten links p row = changed_all-changed_at links p (with_link_row row) (λ l. l.row) (λ _. row) (λ l. refl)

neighbours-row : (s : Side) (row : Row) (link : Link) → neighbours_of s (with_link_row row link) ≡ neighbours_of s link
neighbours-row Out row link = refl
neighbours-row In row link = refl

-- a row changes, its ends stay
pub moved-row : (links : Arena Link) (nodes : Arena Node) (a : ArcId) (link : Link) (row : Row) (f : Row → Row)
    → IsNet (shown_net links nodes) → Shows links nodes (nodes_shown links nodes) → find links a.id ≡ Some link
    → f link.row ≡ row → IsRow row → row.tail ≡ link.row.tail → row.head ≡ link.row.head
    → IsShown (changed_at links a.id.place (with_link_row row)) nodes (with_row (shown_net links nodes) a f)
moved-row links nodes a link row f is shows found e is_row tail head =
    let net : Net = shown_net links nodes in
    let found_row : find net.arcs a.id ≡ Some link.row = row-shown links a.id link found in
    is_shown (changed_at links a.id.place (with_link_row row)) nodes (with_row net a f)
    (shows-changed links nodes net.nodes a link (with_link_row row) found (λ s. neighbours-row s row link)
    (λ n lists there s has.
    elim s as (λ k. end_of k row ≡ end_of k link.row) [ Out ↦ tail | In ↦ head ])
    shows)
    (rows-rewritten links a.id.place row ∙ changed-agree net.arcs a.id link.row (λ _. row) f found_row (sym e))
    (net-with_row net a link.row f is found_row (subst (λ (r : Row). IsRow r) (sym e) is_row)
    (ap (λ (r : Row). r.tail) e ∙ tail) (ap (λ (r : Row). r.head) e ∙ head))

-- an arc's head moves
pub moved-retarget : (links : Arena Link) (nodes : Arena Node) (a : ArcId) (link : Link) (n : NodeId) (old new : Node)
    → IsNet (shown_net links nodes) → Shows links nodes (nodes_shown links nodes) → find links a.id ≡ Some link
    → find nodes link.row.head.id ≡ Some old → IsNode (shown_net links nodes) n → link.row.tail ≢ n
    → find (changed_at nodes link.row.head.id.place (with_arc_list In (list_past link.incoming (list_of In old)))) n.id
    ≡ Some new
    → IsShown
    (links_from In a.id.place (list_of In new).first
    (changed_at (links_past In link.incoming links) a.id.place (with_link_row (record link.row { head = n }))))
    (changed_at (changed_at nodes link.row.head.id.place (with_arc_list In (list_past link.incoming (list_of In old))))
    n.id.place (with_arc_list In (list_from a.id.place (list_of In new))))
    (with_head (shown_net links nodes) a link.row n)
moved-retarget links nodes a link n old new is shows found there_old node differs there_new =
    let net : Net = shown_net links nodes in
    let row : Row = record link.row { head = n } in
    let links1 : Arena Link = links_past In link.incoming links in
    let links2 : Arena Link = changed_at links1 a.id.place (with_link_row row) in
    let nodes1 : Arena Node =
    changed_at nodes link.row.head.id.place (with_arc_list In (list_past link.incoming (list_of In old))) in
    let shown1 : Arena Lists = unlinked In a link.row.head net.nodes in
    let found_row : find net.arcs a.id ≡ Some link.row = row-shown links a.id link found in
    let h : find net.nodes link.row.head.id ≡ Some (lists_of links old) =
    node-shown links nodes link.row.head.id old there_old in
    let rows1 : rows_shown links1 ≡ net.arcs = rows-links_past In link.incoming links in
    let row1 : find (rows_shown links1) a.id ≡ Some link.row = ap (λ (r : Arena Row). find r a.id) rows1 ∙ found_row in
    let la1 = link-there links1 a.id (some-is (find (rows_shown links1) a.id) link.row row1) in
    let is_row1 : la1.0.row ≡ link.row =
    same_Some la1.0.row link.row (sym (row-shown links1 a.id la1.0 la1.1) ∙ row1) in
    let into1 : Listing In shown1 net.arcs (only a) =
    listing-unlinked In net.nodes net.arcs a link.row (lists_of links old) found_row h
    (listing-of In net is.incoming) in
    let s1 : Shows links1 nodes1 shown1 =
    shows-unlinked In link.row.head links nodes net.nodes old a link shows there_old found
    (λ lists there. (
      once-found In net.nodes link.row.head lists there (is.incoming.once link.row.head),
      contains-found In net.nodes link.row.head lists a there (is.incoming.all a link.row found_row),
    )) in
    let s2 : Shows links2 nodes1 shown1 =
    shows-changed links1 nodes1 shown1 a la1.0 (with_link_row row) la1.1 (λ s. neighbours-row s row la1.0)
    (λ m lists there s.
    elim s as (λ k. Contains (side_list k lists) a → end_of k row ≡ end_of k la1.0.row) [
      | Out ↦ λ has. ap (λ (r : Row). r.tail) (sym is_row1)
      | In ↦ λ has. absurd ((into1.arcs_of m a (found-contains In shown1 m lists a there has)).0 refl)
    ])
    s1 in
    let found2 : find links2 a.id ≡ Some (with_link_row row la1.0) =
    find-changed_own links1 a.id la1.0 (with_link_row row) la1.1 in
    is_shown (links_from In a.id.place (list_of In new).first links2)
    (changed_at nodes1 n.id.place (with_arc_list In (list_from a.id.place (list_of In new))))
    (with_head net a link.row n)
    (shows-listed In n links2 nodes1 shown1 new a (with_link_row row la1.0) s2 there_new found2 refl
    (λ lists there. once-found In shown1 n lists there (into1.once n))
    (λ lists there has. (into1.arcs_of n a (found-contains In shown1 n lists a there has)).0 refl))
    (rows-links_from In a.id.place (list_of In new).first links2
    ∙ rows-rewritten links1 a.id.place row
    ∙ ap (λ (r : Arena Row). changed_at r a.id.place (λ _. row)) rows1
    ∙ changed-agree net.arcs a.id link.row (λ _. row) (λ r. record r { head = n }) found_row refl)
    (net-with_head net a link.row n is found_row node differs)

neighbours-cleared : (s : Side) (link : Link) → neighbours_of s (cleared_link link) ≡ neighbours_of s link
neighbours-cleared Out link = refl
neighbours-cleared In link = refl

end-cleared : (s : Side) (link : Link) → end_of s (cleared_link link).row ≡ end_of s link.row
end-cleared Out link = refl
end-cleared In link = refl

-- all flow is cleared
pub moved-clear : (links : Arena Link) (nodes : Arena Node) → IsNet (shown_net links nodes)
    → Shows links nodes (nodes_shown links nodes)
    → IsShown (changed_all links cleared_link) nodes (without_flow (shown_net links nodes))
moved-clear links nodes is shows =
    let f : Row → Row = λ old. record old { low = 0; flow = 0 } in
    is_shown (changed_all links cleared_link) nodes (without_flow (shown_net links nodes))
    (shows-changed_all links nodes (nodes_shown links nodes) cleared_link neighbours-cleared end-cleared shows)
    (changed_all-changed_all links cleared_link (λ l. l.row) ∙ sym (changed_all-changed_all links (λ l. l.row) f))
    (net-without_flow (shown_net links nodes) is)

map-replicate : {X Y : Type 0} (n : ℕ) (f : X → Y)
    → map (slot_changed f) (replicate {A = Option (ℕ × X)} n None) ≡ replicate {A = Option (ℕ × Y)} n None
map-replicate {X} {Y} zero f = refl
map-replicate {X} {Y} (suc n) f = ap (λ (l : List (Option (ℕ × Y))). None ∷ l) (map-replicate {X = X} {Y = Y} n f)

pub changed_all-vacant : {X Y : Type 0} (n first : ℕ) (f : X → Y)
    → changed_all (vacant {X = X} n first) f ≡ vacant {X = Y} n first
changed_all-vacant {X} {Y} n first f =
    ap (λ (h : List (Option (ℕ × Y))). let made : Arena Y = record { held = h; counter = first } in made)
    (map-replicate {X = X} {Y = Y} n f)

slot-none : (links : Arena Link) (p : ℕ) (one : Option (ℕ × Node)) (two : Option (ℕ × Lists)) → one ≡ None → two ≡ None
    → ShowsSlot links p one two
slot-none links p one two e g =
    subst₂ (λ (x : Option (ℕ × Node)) (y : Option (ℕ × Lists)). ShowsSlot links p x y) (sym e) (sym g) tt

-- a new net
pub moved-new : (nodes arcs : ℕ) → nodes ≤ 4096 → arcs ≤ 65536
    → IsShown (vacant arcs 0) (vacant nodes 0) (empty_net nodes arcs)
moved-new nodes arcs node_limit arc_limit =
    is_shown (vacant arcs 0) (vacant nodes 0) (empty_net nodes arcs)
    (record {
      places =
          length-replicate {A = Option (ℕ × Node)} nodes None
          ∙ sym (length-replicate {A = Option (ℕ × Lists)} nodes None);
      counter = refl;
      at = λ p.
          slot-none (vacant arcs 0) p (held_at (vacant {X = Node} nodes 0) p) (held_at (vacant {X = Lists} nodes 0) p)
          (replicate-none {X = Node} nodes p) (replicate-none {X = Lists} nodes p);
    })
    (changed_all-vacant {X = Link} {Y = Row} arcs 0 (λ l. l.row)) (net-empty nodes arcs node_limit arc_limit)
