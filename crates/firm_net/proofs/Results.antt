-- Each change of a net's parts as a relation between the nets before and after.
use Rattle.std.proofs.Common.{◌≡◌, ◌≢◌, ℕ, ◌+◌, ◌-◌, ◌<◌, ◌≤◌, ◌⊎◌, inl, inr, ◌^◌, List, [], ◌∷◌, Contains, length}
use Rattle.std.proofs.Common.{is_some, IfSome, Bool, true, false, cond, ◌==◌, refl, sym, ap, ap₂, ◌∙◌, subst, subst₂}
use Rattle.std.proofs.Common.{arith, Option, Some, None, option_map, IsSome, set}
use Rattle.std.specs.Option.{IsSomeAnd}
use Rattle.std.proofs.lemmas.Bool.{false≢true}
use Rattle.std.proofs.lemmas.List.{set-get_or}
use Rattle.std.proofs.lemmas.Option.{same_Some}
use Rattle.firm_arena.specs.Arena.{Arena, find, held_at, capacity_of, len_of, with_put, without, IsVacant, changed_at}
use Rattle.firm_arena.specs.Arena.{changed_all, slot_changed, with_value}
use Rattle.firm_arena.specs.declared.Id.{Id}
use Rattle.firm_net.specs.Row.{Row, IsRow}
use Rattle.firm_net.specs.Net.{Lists, Net, IsNet, IsNode, end_of, lists_at, row_at, with_node, without_node}
use Rattle.firm_net.specs.Net.{with_arc, without_row, with_row, with_head, without_flow, out_list, in_list}
use Rattle.firm_net.specs.Net.{SameOtherRows, SameOtherNodes, CountsAre, node_count, arc_count, added_of, IsArc}
use Rattle.firm_net.specs.Net.{arcs_on, IsResidual, CanPush, HasOtherTail, with_unit}
use Rattle.firm_net.specs.Edits.{IsEdit, SameNodes, span_of}
use Rattle.firm_net.specs.Laws.{changed_row}
use Rattle.firm_net.specs.inner.Links.{list_of, with_arc_list, with_link_row, cleared_link, loose_link, empty_node}
use Rattle.firm_net.specs.inner.Links.{list_from}
use Rattle.firm_net.specs.inner.Links.{list_past, links_from, links_past, lists_of, nodes_shown, rows_shown, Shows}
use Rattle.firm_net.specs.declared.row.NodeId.{NodeId}
use Rattle.firm_net.specs.declared.row.ArcId.{ArcId}
use Rattle.firm_net.specs.declared.row.Way.{Way}
use Rattle.firm_net.specs.declared.row.Way.TheVariants.{Forward, Backward}
use Rattle.firm_net.specs.declared.links.Side.{Side}
use Rattle.firm_net.specs.declared.links.Side.TheVariants.{Out, In}
use Rattle.firm_net.specs.declared.links.Link.{Link}
use Rattle.firm_net.specs.declared.links.Node.{Node}
use Rattle.firm_net.specs.declared.links.ArcList.{ArcList}
use Rattle.firm_net.specs.declared.links.Neighbours.{Neighbours}
use Rattle.firm_arena.specs.Changes.{held_at-changed_all, capacity_of-changed_all, len_of-changed_all, find-changed_all}
use Rattle.firm_arena.specs.Changes.{not-some, is-some, find-changed_at, find-held}
use Rattle.firm_net.proofs.Facts.{with_node-others, with_node-counts, without_node-others, without_node-gone}
use Rattle.firm_net.proofs.Facts.{without_node-counts, with_arc-row, with_arc-others, with_arc-counts}
use Rattle.firm_net.proofs.Facts.{without_row-others, without_row-gone, without_row-counts, with_row-others}
use Rattle.firm_net.proofs.Facts.{with_row-counts, with_head-others, with_head-counts, without_flow-counts}
use Rattle.firm_net.proofs.Facts.{with_arc-nodes, without_row-nodes, with_head-nodes}
use Rattle.firm_net.proofs.Edits.{with_node-edit, without_node-edit, with_arc-edit, without_row-edit, with_row-edit}
use Rattle.firm_net.proofs.Edits.{with_flow-edit, with_head-edit, without_flow-edit}
use Rattle.firm_net.proofs.Shown.{shown_net, IsShown, node-shown, row-shown, node-there, link-there, rows-links_past}
use Rattle.firm_net.proofs.Shown.{list-count, count-fits, listing-short}
use Rattle.firm_net.proofs.Listings.{listing, listed-on}
use Rattle.firm_net.proofs.Moves.{moved-add_node, moved-remove_node, moved-add_arc, moved-remove_arc}
use Rattle.firm_arena.specs.Changes.{found-after, found-before}
use Rattle.firm_net.proofs.Rewrites.{moved-row, moved-retarget, moved-clear}

nil-of : (ids : List ArcId) → length ids ≡ 0 → ids ≡ []
nil-of [] e = refl
nil-of (a ∷ rest) e = absurd (omega (arith, e))

contains-some : (ids : List ArcId) (a : ArcId) → Contains ids a → 0 < length ids
contains-some [] a (k, below, is) = absurd (omega (arith, below))
contains-some (b ∷ rest) a has = omega arith

-- a list without arcs, by its count
list-none : (side : Side) (links : Arena Link) (nodes : Arena Node) (n : NodeId) (node : Node)
    → Shows links nodes (nodes_shown links nodes) → find nodes n.id ≡ Some node → (list_of side node).count ≡ 0
    → listing side (nodes_shown links nodes) n ≡ []
list-none side links nodes n node shows there none =
    nil-of (listing side (nodes_shown links nodes) n) (sym (list-count links nodes n node side shows there) ∙ none)

-- a node was added
pub record AddsNode (links : Arena Link) (nodes : Arena Node) (old : Net) (n : NodeId) : Type 0 where
  pub is : shown_net links nodes ≡ with_node old n.id.place
  pub net : IsNet (shown_net links nodes)
  pub shows : Shows links nodes (nodes_shown links nodes)
  pub others : SameOtherNodes old (shown_net links nodes) n
  pub counts : CountsAre (shown_net links nodes) (node_count old + 1) (arc_count old)
  pub edit : IsEdit old (shown_net links nodes) [] (n ∷ []) [] []

pub adds_node : (links : Arena Link) (nodes new : Arena Node) (old : Net) (id : Id) (value : Node)
    → IsNet (shown_net links nodes) → Shows links nodes (nodes_shown links nodes) → shown_net links nodes ≡ old
    → IsVacant nodes id.place → id.stamp ≡ nodes.counter → nodes.counter + 1 < 2 ^ 64
    → new ≡ with_put nodes id.place value → value ≡ empty_node
    → AddsNode links new old (record { id = id })
adds_node links nodes new old id value is shows was free stamp unworn made empty =
    let n : NodeId = record { id = id } in
    let net : Net = shown_net links nodes in
    let put : with_put nodes id.place empty_node ≡ new =
    ap (λ (v : Node). with_put nodes id.place v) (sym empty) ∙ sym made in
    let m : IsShown links new (with_node net id.place) =
    subst (λ (a : Arena Node). IsShown links a (with_node net id.place)) put
    (moved-add_node links nodes n is shows free.within free.nothing stamp unworn) in
    let below : id.place < capacity_of net.nodes =
    subst (λ (k : ℕ). id.place < k) (sym (capacity_of-changed_all nodes (lists_of links))) free.within in
    let nothing : held_at net.nodes id.place ≡ None =
    held_at-changed_all nodes id.place (lists_of links)
    ∙ ap (λ (slot : Option (ℕ × Node)). slot_changed (lists_of links) slot) free.nothing in
    record {
      is = m.is ∙ ap (λ (o : Net). with_node o id.place) was;
      net = m.net;
      shows = m.shows;
      others = subst₂ (λ (o k : Net). SameOtherNodes o k n) was (sym m.is) (with_node-others net n below nothing stamp);
      counts =
          subst₂ (λ (o k : Net). CountsAre k (node_count o + 1) (arc_count o)) was (sym m.is)
          (with_node-counts net id.place below nothing);
      edit =
          subst₂ (λ (o k : Net). IsEdit o k [] (n ∷ []) [] []) was (sym m.is)
          (with_node-edit net n below nothing stamp (subst (λ (k : Net). IsNet k) m.is m.net));
    }

-- a node was removed
pub record RemovesNode (links : Arena Link) (nodes : Arena Node) (old : Net) (n : NodeId) : Type 0 where
  pub is : shown_net links nodes ≡ without_node old n
  pub net : IsNet (shown_net links nodes)
  pub shows : Shows links nodes (nodes_shown links nodes)
  pub gone : lists_at (shown_net links nodes) n ≡ None
  pub stamp : n.id.stamp < (shown_net links nodes).nodes.counter
  pub others : SameOtherNodes old (shown_net links nodes) n
  pub counts : CountsAre (shown_net links nodes) (node_count old - 1) (arc_count old)
  pub edit : IsEdit old (shown_net links nodes) (n ∷ []) [] [] []

pub removes_node : (links : Arena Link) (nodes new : Arena Node) (old : Net) (n : NodeId) (node : Node)
    → IsNet (shown_net links nodes) → Shows links nodes (nodes_shown links nodes) → shown_net links nodes ≡ old
    → find nodes n.id ≡ Some node → node.outgoing.count ≡ 0 → node.incoming.count ≡ 0 → new ≡ without nodes n.id.place
    → RemovesNode links new old n
removes_node links nodes new old n node is shows was there no_out no_in made =
    let net : Net = shown_net links nodes in
    let shown : lists_at net n ≡ Some (lists_of links node) = node-shown links nodes n.id node there in
    let node_there : IsNode net n = ap (λ (o : Option Lists). is_some o) shown in
    let outgoing : out_list net n ≡ [] = list-none Out links nodes n node shows there no_out in
    let incoming : in_list net n ≡ [] = list-none In links nodes n node shows there no_in in
    let m : IsShown links new (without_node net n) =
    subst (λ (a : Arena Node). IsShown links a (without_node net n)) (sym made)
    (moved-remove_node links nodes n is shows node_there outgoing incoming) in
    record {
      is = m.is ∙ ap (λ (o : Net). without_node o n) was;
      net = m.net;
      shows = m.shows;
      gone = subst (λ (k : Net). lists_at k n ≡ None) (sym m.is) (without_node-gone net n);
      stamp = subst (λ (k : Net). n.id.stamp < k.nodes.counter) (sym m.is) (is.node_map.stamps n.id node_there);
      others =
          subst₂ (λ (o k : Net). SameOtherNodes o k n) was (sym m.is)
          (without_node-others net n (lists_of links node) shown);
      counts =
          subst₂ (λ (o k : Net). CountsAre k (node_count o - 1) (arc_count o)) was (sym m.is)
          (without_node-counts net n (lists_of links node) shown);
      edit =
          subst₂ (λ (o k : Net). IsEdit o k (n ∷ []) [] [] []) was (sym m.is)
          (without_node-edit net n (lists_of links node) is shown (subst (λ (k : Net). IsNet k) m.is m.net));
    }

-- a value that is written back as it was changes nothing
pub written-back : {X : Type 0} (a : Arena X) (id : Id) (value : X) → find a id ≡ Some value
    → with_value a id value ≡ a
written-back {X} a id value found =
    ap (λ (held : List (Option (ℕ × X))). let made : Arena X = record { held = held; counter = a.counter } in made)
    (ap (λ slot. set a.held id.place slot) (sym (find-held a id value found)) ∙ set-get_or a.held id.place None)

-- an arc's row was changed
pub record ChangesRow (links : Arena Link) (nodes : Arena Node) (old : Net) (a : ArcId) (f : Row → Row) : Type 0 where
  pub is : shown_net links nodes ≡ with_row old a f
  pub net : IsNet (shown_net links nodes)
  pub shows : Shows links nodes (nodes_shown links nodes)
  pub others : SameOtherRows old (shown_net links nodes) a
  pub counts : CountsAre (shown_net links nodes) (node_count old) (arc_count old)
  pub same_nodes : SameNodes old (shown_net links nodes)
  pub own : (row : Row) → row_at old a ≡ Some row → row_at (shown_net links nodes) a ≡ Some (f row)
  pub edit : (row : Row) → row_at old a ≡ Some row
      → IsEdit old (shown_net links nodes) [] [] (span_of a row ∷ []) (span_of a (f row) ∷ [])
  pub blind : ((b : ArcId) (row : Row) → span_of b (f row) ≡ span_of b row)
      → IsEdit old (shown_net links nodes) [] [] [] []

pub changes_row : (links new : Arena Link) (nodes : Arena Node) (old : Net) (a : ArcId) (link : Link) (row : Row)
    (f : Row → Row)
    → IsNet (shown_net links nodes) → Shows links nodes (nodes_shown links nodes) → shown_net links nodes ≡ old
    → find links a.id ≡ Some link → f link.row ≡ row → IsRow row → row.tail ≡ link.row.tail → row.head ≡ link.row.head
    → new ≡ changed_at links a.id.place (with_link_row row)
    → ChangesRow new nodes old a f
changes_row links new nodes old a link row f is shows was found e is_row tail head made =
    let net : Net = shown_net links nodes in
    let m : IsShown new nodes (with_row net a f) =
    subst (λ (l : Arena Link). IsShown l nodes (with_row net a f)) (sym made)
    (moved-row links nodes a link row f is shows found e is_row tail head) in
    let kept : IsNet (with_row net a f) = subst (λ (k : Net). IsNet k) m.is m.net in
    record {
      is = m.is ∙ ap (λ (o : Net). with_row o a f) was;
      net = m.net;
      shows = m.shows;
      others =
          subst₂ (λ (o k : Net). SameOtherRows o k a) was (sym m.is)
          (with_row-others net a link.row f (row-shown links a.id link found));
      counts =
          subst₂ (λ (o k : Net). CountsAre k (node_count o) (arc_count o)) was (sym m.is) (with_row-counts net a f);
      same_nodes = subst₂ (λ (o k : Net). SameNodes o k) was (sym m.is) (λ n. (λ there. there, λ there. there));
      own =
          subst₂ (λ (o k : Net). (before : Row) → row_at o a ≡ Some before → row_at k a ≡ Some (f before)) was
          (sym m.is)
          (λ before there. changed_row net a before f there);
      edit = subst₂
          (λ (o k : Net). (before : Row) → row_at o a ≡ Some before
          → IsEdit o k [] [] (span_of a before ∷ []) (span_of a (f before) ∷ []))
          was (sym m.is)
          (λ before there. with_row-edit net a before f is there kept);
      blind = subst₂ (λ (o k : Net). ((b : ArcId) (before : Row) → span_of b (f before) ≡ span_of b before)
          → IsEdit o k [] [] [] [])
          was (sym m.is)
          (λ same. with_flow-edit net a f same kept);
    }

-- all flow was cleared
pub record ClearsFlow (links : Arena Link) (nodes : Arena Node) (old : Net) : Type 0 where
  pub is : shown_net links nodes ≡ without_flow old
  pub net : IsNet (shown_net links nodes)
  pub shows : Shows links nodes (nodes_shown links nodes)
  pub counts : CountsAre (shown_net links nodes) (node_count old) (arc_count old)
  pub same_nodes : SameNodes old (shown_net links nodes)
  pub edit : IsEdit old (shown_net links nodes) [] [] [] []

pub clears_flow : (links new : Arena Link) (nodes : Arena Node) (old : Net)
    → IsNet (shown_net links nodes) → Shows links nodes (nodes_shown links nodes) → shown_net links nodes ≡ old
    → new ≡ changed_all links cleared_link → ClearsFlow new nodes old
clears_flow links new nodes old is shows was made =
    let net : Net = shown_net links nodes in
    let m : IsShown new nodes (without_flow net) =
    subst (λ (l : Arena Link). IsShown l nodes (without_flow net)) (sym made) (moved-clear links nodes is shows) in
    record {
      is = m.is ∙ ap (λ (o : Net). without_flow o) was;
      net = m.net;
      shows = m.shows;
      counts =
          subst₂ (λ (o k : Net). CountsAre k (node_count o) (arc_count o)) was (sym m.is) (without_flow-counts net);
      same_nodes = subst₂ (λ (o k : Net). SameNodes o k) was (sym m.is) (λ n. (λ there. there, λ there. there));
      edit = subst₂ (λ (o k : Net). IsEdit o k [] [] [] []) was (sym m.is)
          (without_flow-edit net (subst (λ (k : Net). IsNet k) m.is m.net));
    }

-- how many nodes and arcs are there, and their stamps, as the parts have them
pub nodes-counted : (links : Arena Link) (nodes : Arena Node) (old : Net) → shown_net links nodes ≡ old
    → node_count old ≡ len_of nodes
nodes-counted links nodes old was = ap (λ (o : Net). node_count o) (sym was) ∙ len_of-changed_all nodes (lists_of links)

pub arcs-counted : (links : Arena Link) (nodes : Arena Node) (old : Net) → shown_net links nodes ≡ old
    → arc_count old ≡ len_of links
arcs-counted links nodes old was = ap (λ (o : Net). arc_count o) (sym was) ∙ len_of-changed_all links (λ l. l.row)

pub node-capacity : (links : Arena Link) (nodes : Arena Node) (old : Net) → shown_net links nodes ≡ old
    → capacity_of old.nodes ≡ capacity_of nodes
node-capacity links nodes old was =
    ap (λ (o : Net). capacity_of o.nodes) (sym was) ∙ capacity_of-changed_all nodes (lists_of links)

pub arc-capacity : (links : Arena Link) (nodes : Arena Node) (old : Net) → shown_net links nodes ≡ old
    → capacity_of old.arcs ≡ capacity_of links
arc-capacity links nodes old was =
    ap (λ (o : Net). capacity_of o.arcs) (sym was) ∙ capacity_of-changed_all links (λ l. l.row)

pub added-counted : (links : Arena Link) (nodes : Arena Node) (old : Net) → shown_net links nodes ≡ old
    → nodes.counter + links.counter ≡ added_of old
added-counted links nodes old was = ap (λ (o : Net). added_of o) was

-- what stays where the net does
pub same-counts : (new old : Net) → new ≡ old → CountsAre new (node_count old) (arc_count old)
same-counts new old e =
    record { counted_nodes = ap (λ (n : Net). node_count n) e; counted_arcs = ap (λ (n : Net). arc_count n) e }

pub same-nodes : (new old : Net) → new ≡ old → SameNodes old new
same-nodes new old e n = (subst (λ (m : Net). IsNode m n) e, subst (λ (m : Net). IsNode m n) (sym e))

-- what the net before a change finds, by what the parts find
pub row-found : (links : Arena Link) (nodes : Arena Node) (old : Net) (a : ArcId) (link : Link)
    → shown_net links nodes ≡ old
    → find links a.id ≡ Some link → row_at old a ≡ Some link.row
row-found links nodes old a link was found = ap (λ (o : Net). row_at o a) (sym was) ∙ row-shown links a.id link found

pub row-missing : (links : Arena Link) (nodes : Arena Node) (old : Net) (a : ArcId) → shown_net links nodes ≡ old
    → find links a.id ≡ None → row_at old a ≡ None
row-missing links nodes old a was none =
    ap (λ (o : Net). row_at o a) (sym was) ∙ find-changed_all links (λ l. l.row) a.id
    ∙ ap (λ (o : Option Link). option_map (λ l. l.row) o) none

pub node-found : (links : Arena Link) (nodes : Arena Node) (old : Net) (n : NodeId) (node : Node)
    → shown_net links nodes ≡ old
    → find nodes n.id ≡ Some node → IsNode old n
node-found links nodes old n node was found =
    ap (λ (o : Net). is_some (lists_at o n)) (sym was)
    ∙ ap (λ (o : Option Lists). is_some o) (node-shown links nodes n.id node found)

pub node-missing : (links : Arena Link) (nodes : Arena Node) (old : Net) (n : NodeId) → shown_net links nodes ≡ old
    → find nodes n.id ≡ None → lists_at old n ≡ None
node-missing links nodes old n was none =
    ap (λ (o : Net). lists_at o n) (sym was) ∙ find-changed_all nodes (lists_of links) n.id
    ∙ ap (λ (o : Option Node). option_map (lists_of links) o) none

pub not-node : (old : Net) (n : NodeId) → lists_at old n ≡ None → IsNode old n → ⊥
not-node old n none is = not-some (lists_at old n) none is

pub can-push : (way : Way) (o : Option Row) (row : Row) → o ≡ Some row → IsResidual way row → CanPush way o
can-push way o row e h = subst (λ (x : Option Row). CanPush way x) (sym e) h

pub push-residual : (way : Way) (o : Option Row) (row : Row) → o ≡ Some row → CanPush way o → IsResidual way row
push-residual way o row e h = subst (λ (x : Option Row). CanPush way x) e h

pub push-none : (way : Way) (o : Option Row) → o ≡ None → CanPush way o → ⊥
push-none way o e h = subst (λ (x : Option Row). CanPush way x) e h

pub unit-tail : (way : Way) (row : Row) → (with_unit way row).tail ≡ row.tail
unit-tail Forward row = refl
unit-tail Backward row = refl

pub unit-head : (way : Way) (row : Row) → (with_unit way row).head ≡ row.head
unit-head Forward row = refl
unit-head Backward row = refl

pub unit-span : (way : Way) (a : ArcId) (row : Row) → span_of a (with_unit way row) ≡ span_of a row
unit-span Forward a row = refl
unit-span Backward a row = refl

pub arc-is : (old : Net) (a : ArcId) (row : Row) → row_at old a ≡ Some row → IsArc old a
arc-is old a row e = ap (λ (o : Option Row). is_some o) e

pub not-arc : (old : Net) (a : ArcId) → row_at old a ≡ None → IsArc old a → ⊥
not-arc old a none is = not-some (row_at old a) none is

pub other-tail : (o : Option Row) (row : Row) (n : NodeId) → o ≡ Some row → row.tail ≢ n → HasOtherTail o n
other-tail o row n e h = subst (λ (x : Option Row). HasOtherTail x n) (sym e) h

pub tail-other : (o : Option Row) (row : Row) (n : NodeId) → o ≡ Some row → HasOtherTail o n → row.tail ≢ n
tail-other o row n e h = subst (λ (x : Option Row). HasOtherTail x n) e h

pub tail-none : (o : Option Row) (n : NodeId) → o ≡ None → HasOtherTail o n → ⊥
tail-none o n e h = subst (λ (x : Option Row). HasOtherTail x n) e h

pub arc-in_range : (links : Arena Link) (nodes : Arena Node) (old : Net) (a : ArcId) (link : Link)
    → IsNet (shown_net links nodes)
    → shown_net links nodes ≡ old → find links a.id ≡ Some link
    → IsRow link.row × IsNode old link.row.tail × IsNode old link.row.head
arc-in_range links nodes old a link is was found =
    let now : IsNet old = subst (λ (o : Net). IsNet o) was is in
    let row : row_at old a ≡ Some link.row = row-found links nodes old a link was found in
    (now.rows a link.row row, now.tails a link.row row, now.heads a link.row row)

-- a node's list has no arcs exactly where its count is 0
pub list-empty : (side : Side) (links : Arena Link) (nodes : Arena Node) (old : Net) (n : NodeId) (node : Node)
    → Shows links nodes (nodes_shown links nodes) → shown_net links nodes ≡ old → find nodes n.id ≡ Some node
    → (list_of side node).count ≡ 0 → arcs_on side old n ≡ []
list-empty side links nodes old n node shows was there none =
    subst (λ (o : Net). arcs_on side o n ≡ []) was (list-none side links nodes n node shows there none)

pub list-busy : (side : Side) (links : Arena Link) (nodes : Arena Node) (old : Net) (n : NodeId) (node : Node)
    → Shows links nodes (nodes_shown links nodes) → shown_net links nodes ≡ old → find nodes n.id ≡ Some node
    → arcs_on side old n ≡ [] → (list_of side node).count ≡ 0
list-busy side links nodes old n node shows was there none =
    list-count links nodes n node side shows there
    ∙ ap (λ (l : List ArcId). length l) (subst (λ (o : Net). arcs_on side o n ≡ []) (sym was) none)

pub if-some : {X : Type 0} (o : Option X) (Q : X → Type 0) (x : X) → o ≡ Some x → IfSome o Q → Q x
if-some {X} o Q x e h = subst (λ (k : Option X). IfSome k Q) e h

pub some-all : {X : Type 0} (o : Option X) (Q : X → Type 0) → ((x : X) → o ≡ Some x → Q x) → IfSome o Q
some-all None Q h = tt
some-all (Some x) Q h = h x refl

-- an arc was added
pub record AddsArc (links : Arena Link) (nodes : Arena Node) (old : Net) (a : ArcId) (row : Row) : Type 0 where
  pub is : shown_net links nodes ≡ with_arc old a row
  pub net : IsNet (shown_net links nodes)
  pub shows : Shows links nodes (nodes_shown links nodes)
  pub found : row_at (shown_net links nodes) a ≡ Some row
  pub others : SameOtherRows old (shown_net links nodes) a
  pub counts : CountsAre (shown_net links nodes) (node_count old) (arc_count old + 1)
  pub same_nodes : SameNodes old (shown_net links nodes)
  pub edit : IsEdit old (shown_net links nodes) [] [] [] (span_of a row ∷ [])

pub adds_arc : (links links1 links2 links3 : Arena Link) (nodes nodes2 nodes3 : Arena Node) (old : Net) (a : ArcId)
    (row : Row)
    (link : Link) (tail head : NodeId) (tail_node head_node : Node)
    → IsNet (shown_net links nodes) → Shows links nodes (nodes_shown links nodes) → shown_net links nodes ≡ old
    → IsRow row → link ≡ loose_link row → tail ≡ row.tail → head ≡ row.head
    → IsVacant links a.id.place → a.id.stamp ≡ links.counter → links.counter + 1 < 2 ^ 64
    → links1 ≡ with_put links a.id.place link
    → find nodes tail.id ≡ Some tail_node → find nodes head.id ≡ Some head_node
    → IfSome (find nodes tail.id)
    (λ owner. nodes2 ≡ changed_at nodes tail.id.place (with_arc_list Out (list_from a.id.place (list_of Out owner))))
    → IfSome (find nodes tail.id) (λ owner. links2 ≡ links_from Out a.id.place (list_of Out owner).first links1)
    → IfSome (find nodes2 head.id)
    (λ owner. nodes3 ≡ changed_at nodes2 head.id.place (with_arc_list In (list_from a.id.place (list_of In owner))))
    → IfSome (find nodes2 head.id) (λ owner. links3 ≡ links_from In a.id.place (list_of In owner).first links2)
    → AddsArc links3 nodes3 old a row
adds_arc links links1 links2 links3 nodes nodes2 nodes3 old a row link tail head tail_node head_node is shows was is_row
    loose et eh free stamp unworn made there_tail there_head en2 el2 en3 el3 =
    let net : Net = shown_net links nodes in
    let fresh : Link = loose_link row in
    let put : with_put links a.id.place fresh ≡ links1 =
    ap (λ (l : Link). with_put links a.id.place l) (sym loose) ∙ sym made in
    let t : find nodes row.tail.id ≡ Some tail_node =
    subst (λ (n : NodeId). find nodes n.id ≡ Some tail_node) et there_tail in
    let h : find nodes row.head.id ≡ Some head_node =
    subst (λ (n : NodeId). find nodes n.id ≡ Some head_node) eh there_head in
    let n2 : nodes2
    ≡ changed_at nodes row.tail.id.place (with_arc_list Out (list_from a.id.place (list_of Out tail_node))) =
    subst (λ (n : NodeId). nodes2
    ≡ changed_at nodes n.id.place (with_arc_list Out (list_from a.id.place (list_of Out tail_node))))
    et
    (if-some (find nodes tail.id)
    (λ owner. nodes2 ≡ changed_at nodes tail.id.place (with_arc_list Out (list_from a.id.place (list_of Out owner))))
    tail_node there_tail en2) in
    let l2 : links2 ≡ links_from Out a.id.place (list_of Out tail_node).first (with_put links a.id.place fresh) =
    if-some (find nodes tail.id) (λ owner. links2 ≡ links_from Out a.id.place (list_of Out owner).first links1)
    tail_node there_tail el2
    ∙ ap (λ (l : Arena Link). links_from Out a.id.place (list_of Out tail_node).first l) (sym put) in
    let head2 = is-some (find nodes2 head.id)
    (subst (λ (n : Arena Node). IsSome (find n head.id)) (sym n2)
    (found-after nodes row.tail.id.place (with_arc_list Out (list_from a.id.place (list_of Out tail_node))) head.id
    (ap (λ (o : Option Node). is_some o) there_head))) in
    let n3 : nodes3
    ≡ changed_at nodes2 row.head.id.place (with_arc_list In (list_from a.id.place (list_of In head2.0))) =
    subst (λ (n : NodeId). nodes3
    ≡ changed_at nodes2 n.id.place (with_arc_list In (list_from a.id.place (list_of In head2.0))))
    eh
    (if-some (find nodes2 head.id)
    (λ owner. nodes3 ≡ changed_at nodes2 head.id.place (with_arc_list In (list_from a.id.place (list_of In owner))))
    head2.0 head2.1 en3) in
    let l3 : links3 ≡ links_from In a.id.place (list_of In head2.0).first links2 =
    if-some (find nodes2 head.id) (λ owner. links3 ≡ links_from In a.id.place (list_of In owner).first links2) head2.0
    head2.1 el3 in
    let in_nodes2 : find
    (changed_at nodes row.tail.id.place (with_arc_list Out (list_from a.id.place (list_of Out tail_node))))
    row.head.id
    ≡ Some head2.0 =
    ap (λ (n : Arena Node). find n row.head.id) (sym n2) ∙ ap (λ (n : NodeId). find nodes2 n.id) (sym eh) ∙ head2.1 in
    let m = moved-add_arc links nodes a fresh tail_node head2.0 is shows is_row free.within free.nothing stamp unworn t
    (ap (λ (o : Option Lists). is_some o) (node-shown links nodes row.head.id head_node h)) in_nodes2 in
    let n3' : changed_at
    (changed_at nodes row.tail.id.place (with_arc_list Out (list_from a.id.place (list_of Out tail_node))))
    row.head.id.place (with_arc_list In (list_from a.id.place (list_of In head2.0)))
    ≡ nodes3 =
    ap (λ (n : Arena Node).
    changed_at n row.head.id.place (with_arc_list In (list_from a.id.place (list_of In head2.0))))
    (sym n2)
    ∙ sym n3 in
    let l3' : links_from In a.id.place (list_of In head2.0).first
    (links_from Out a.id.place (list_of Out tail_node).first (with_put links a.id.place fresh)) ≡ links3 =
    ap (λ (l : Arena Link). links_from In a.id.place (list_of In head2.0).first l) (sym l2) ∙ sym l3 in
    let end : IsShown links3 nodes3 (with_arc net a row) =
    subst₂ (λ (l : Arena Link) (n : Arena Node). IsShown l n (with_arc net a row)) l3' n3' m in
    let below : a.id.place < capacity_of net.arcs =
    subst (λ (k : ℕ). a.id.place < k) (sym (capacity_of-changed_all links (λ l. l.row))) free.within in
    let nothing : held_at net.arcs a.id.place ≡ None =
    held_at-changed_all links a.id.place (λ l. l.row)
    ∙ ap (λ (slot : Option (ℕ × Link)). slot_changed (λ l. l.row) slot) free.nothing in
    record {
      is = end.is ∙ ap (λ (o : Net). with_arc o a row) was;
      net = end.net;
      shows = end.shows;
      found = subst (λ (k : Net). row_at k a ≡ Some row) (sym end.is) (with_arc-row net a row below stamp);
      others =
          subst₂ (λ (o k : Net). SameOtherRows o k a) was (sym end.is) (with_arc-others net a row below nothing stamp);
      counts =
          subst₂ (λ (o k : Net). CountsAre k (node_count o) (arc_count o + 1)) was (sym end.is)
          (with_arc-counts net a row below nothing);
      same_nodes = subst₂ (λ (o k : Net). SameNodes o k) was (sym end.is) (with_arc-nodes net a row);
      edit =
          subst₂ (λ (o k : Net). IsEdit o k [] [] [] (span_of a row ∷ [])) was (sym end.is)
          (with_arc-edit net a row below nothing stamp (subst (λ (k : Net). IsNet k) end.is end.net));
    }

-- an arc was removed
pub record RemovesArc (links : Arena Link) (nodes : Arena Node) (old : Net) (a : ArcId) (row : Row) : Type 0 where
  pub is : shown_net links nodes ≡ without_row old a row
  pub net : IsNet (shown_net links nodes)
  pub shows : Shows links nodes (nodes_shown links nodes)
  pub gone : row_at (shown_net links nodes) a ≡ None
  pub stamp : a.id.stamp < (shown_net links nodes).arcs.counter
  pub others : SameOtherRows old (shown_net links nodes) a
  pub counts : CountsAre (shown_net links nodes) (node_count old) (arc_count old - 1)
  pub same_nodes : SameNodes old (shown_net links nodes)
  pub edit : (r : Row) → row_at old a ≡ Some r → IsEdit old (shown_net links nodes) [] [] (span_of a r ∷ []) []

pub removes_arc : (links links1 links2 links3 : Arena Link) (nodes nodes1 nodes2 : Arena Node) (old : Net) (a : ArcId)
    (link : Link) (tail head : NodeId)
    → IsNet (shown_net links nodes) → Shows links nodes (nodes_shown links nodes) → shown_net links nodes ≡ old
    → find links a.id ≡ Some link → tail ≡ link.row.tail → head ≡ link.row.head
    → IfSome (find nodes tail.id)
    (λ owner. nodes1 ≡ changed_at nodes tail.id.place (with_arc_list Out (list_past link.outgoing (list_of Out owner))))
    → links1 ≡ links_past Out link.outgoing links
    → IfSome (find nodes1 head.id)
    (λ owner. nodes2 ≡ changed_at nodes1 head.id.place (with_arc_list In (list_past link.incoming (list_of In owner))))
    → links2 ≡ links_past In link.incoming links1 → IfSome (find links2 a.id) (λ _. links3 ≡ without links2 a.id.place)
    → RemovesArc links3 nodes2 old a link.row
removes_arc links links1 links2 links3 nodes nodes1 nodes2 old a link tail head is shows was found et eh en1 el1 en2 el2
    taken =
    let net : Net = shown_net links nodes in
    let row : row_at net a ≡ Some link.row = row-shown links a.id link found in
    let rows2 : rows_shown links2 ≡ rows_shown links =
    ap (λ (l : Arena Link). rows_shown l) el2 ∙ rows-links_past In link.incoming links1
    ∙ ap (λ (l : Arena Link). rows_shown l) el1 ∙ rows-links_past Out link.outgoing links in
    let still =
    link-there links2 a.id (ap (λ (o : Option Row). is_some o) (ap (λ (r : Arena Row). find r a.id) rows2 ∙ row)) in
    let el3 : links3 ≡ without links2 a.id.place =
    if-some (find links2 a.id) (λ _. links3 ≡ without links2 a.id.place) still.0 still.1 taken in
    let t0 = node-there links nodes link.row.tail.id (is.tails a link.row row) in
    let h0 = node-there links nodes link.row.head.id (is.heads a link.row row) in
    let f : Node → Node = with_arc_list Out (list_past link.outgoing (list_of Out t0.0)) in
    let there_tail : find nodes tail.id ≡ Some t0.0 = ap (λ (n : NodeId). find nodes n.id) et ∙ t0.1 in
    let n1 : nodes1 ≡ changed_at nodes link.row.tail.id.place f =
    subst (λ (n : NodeId). nodes1 ≡ changed_at nodes n.id.place f) et
    (if-some (find nodes tail.id)
    (λ owner. nodes1 ≡ changed_at nodes tail.id.place (with_arc_list Out (list_past link.outgoing (list_of Out owner))))
    t0.0 there_tail en1) in
    let h1 = is-some (find (changed_at nodes link.row.tail.id.place f) link.row.head.id)
    (found-after nodes link.row.tail.id.place f link.row.head.id (ap (λ (o : Option Node). is_some o) h0.1)) in
    let g : Node → Node = with_arc_list In (list_past link.incoming (list_of In h1.0)) in
    let there_head : find nodes1 head.id ≡ Some h1.0 =
    ap (λ (n : NodeId). find nodes1 n.id) eh ∙ ap (λ (n : Arena Node). find n link.row.head.id) n1 ∙ h1.1 in
    let n2 : nodes2 ≡ changed_at nodes1 link.row.head.id.place g =
    subst (λ (n : NodeId). nodes2 ≡ changed_at nodes1 n.id.place g) eh
    (if-some (find nodes1 head.id)
    (λ owner. nodes2 ≡ changed_at nodes1 head.id.place (with_arc_list In (list_past link.incoming (list_of In owner))))
    h1.0 there_head en2) in
    let n2' : changed_at (changed_at nodes link.row.tail.id.place f) link.row.head.id.place g ≡ nodes2 =
    ap (λ (n : Arena Node). changed_at n link.row.head.id.place g) (sym n1) ∙ sym n2 in
    let l3' : without (links_past In link.incoming (links_past Out link.outgoing links)) a.id.place ≡ links3 =
    ap (λ (l : Arena Link). without (links_past In link.incoming l) a.id.place) (sym el1)
    ∙ ap (λ (l : Arena Link). without l a.id.place) (sym el2) ∙ sym el3 in
    let end : IsShown links3 nodes2 (without_row net a link.row) =
    subst₂ (λ (l : Arena Link) (n : Arena Node). IsShown l n (without_row net a link.row)) l3' n2'
    (moved-remove_arc links nodes a link t0.0 h1.0 is shows found t0.1 h1.1) in
    record {
      is = end.is ∙ ap (λ (o : Net). without_row o a link.row) was;
      net = end.net;
      shows = end.shows;
      gone = subst (λ (k : Net). row_at k a ≡ None) (sym end.is) (without_row-gone net a link.row);
      stamp = subst (λ (k : Net). a.id.stamp < k.arcs.counter) (sym end.is)
          (is.arc_map.stamps a.id (arc-is net a link.row row));
      others = subst₂ (λ (o k : Net). SameOtherRows o k a) was (sym end.is) (without_row-others net a link.row row);
      counts =
          subst₂ (λ (o k : Net). CountsAre k (node_count o) (arc_count o - 1)) was (sym end.is)
          (without_row-counts net a link.row row);
      same_nodes = subst₂ (λ (o k : Net). SameNodes o k) was (sym end.is) (without_row-nodes net a link.row);
      edit =
          subst₂ (λ (o k : Net). (r : Row) → row_at o a ≡ Some r → IsEdit o k [] [] (span_of a r ∷ []) []) was
          (sym end.is)
          (λ r there. subst (λ (x : Row). IsEdit net (without_row net a link.row) [] [] (span_of a x ∷ []) [])
          (same_Some link.row r (sym row ∙ there))
          (without_row-edit net a link.row is row (subst (λ (k : Net). IsNet k) end.is end.net)));
    }

-- an arc's head was moved
pub record MovesHead (links : Arena Link) (nodes : Arena Node) (old : Net) (a : ArcId) (row : Row) (n : NodeId) : Type
    0 where
  pub is : shown_net links nodes ≡ with_head old a row n
  pub net : IsNet (shown_net links nodes)
  pub shows : Shows links nodes (nodes_shown links nodes)
  pub others : SameOtherRows old (shown_net links nodes) a
  pub counts : CountsAre (shown_net links nodes) (node_count old) (arc_count old)
  pub own : (r : Row) → row_at old a ≡ Some r → row_at (shown_net links nodes) a ≡ Some (record r { head = n })
  pub same_nodes : SameNodes old (shown_net links nodes)
  pub edit : (r : Row) → row_at old a ≡ Some r
      → IsEdit old (shown_net links nodes) [] [] (span_of a r ∷ []) (span_of a (record r { head = n }) ∷ [])

pub moves_head : (links links1 links2 links3 : Arena Link) (nodes nodes1 nodes3 : Arena Node) (old : Net) (a : ArcId)
    (link : Link) (head n : NodeId) (row : Row) (node : Node)
    → IsNet (shown_net links nodes) → Shows links nodes (nodes_shown links nodes) → shown_net links nodes ≡ old
    → find links a.id ≡ Some link → head ≡ link.row.head → find nodes n.id ≡ Some node → link.row.tail ≢ n
    → row ≡ record link.row { head = n }
    → IfSome (find nodes head.id)
    (λ owner. nodes1 ≡ changed_at nodes head.id.place (with_arc_list In (list_past link.incoming (list_of In owner))))
    → links1 ≡ links_past In link.incoming links → links2 ≡ changed_at links1 a.id.place (with_link_row row)
    → IfSome (find nodes1 n.id)
    (λ owner. nodes3 ≡ changed_at nodes1 n.id.place (with_arc_list In (list_from a.id.place (list_of In owner))))
    → IfSome (find nodes1 n.id) (λ owner. links3 ≡ links_from In a.id.place (list_of In owner).first links2)
    → MovesHead links3 nodes3 old a link.row n
moves_head links links1 links2 links3 nodes nodes1 nodes3 old a link head n row node is shows was found eh there_n
    differs er en1 el1 el2 en3 el3 =
    let net : Net = shown_net links nodes in
    let found_row : row_at net a ≡ Some link.row = row-shown links a.id link found in
    let h0 = node-there links nodes link.row.head.id (is.heads a link.row found_row) in
    let f : Node → Node = with_arc_list In (list_past link.incoming (list_of In h0.0)) in
    let there_head : find nodes head.id ≡ Some h0.0 = ap (λ (k : NodeId). find nodes k.id) eh ∙ h0.1 in
    let n1 : nodes1 ≡ changed_at nodes link.row.head.id.place f =
    subst (λ (k : NodeId). nodes1 ≡ changed_at nodes k.id.place f) eh
    (if-some (find nodes head.id)
    (λ owner. nodes1 ≡ changed_at nodes head.id.place (with_arc_list In (list_past link.incoming (list_of In owner))))
    h0.0 there_head en1) in
    let k1 = is-some (find (changed_at nodes link.row.head.id.place f) n.id)
    (found-after nodes link.row.head.id.place f n.id (ap (λ (o : Option Node). is_some o) there_n)) in
    let g : Node → Node = with_arc_list In (list_from a.id.place (list_of In k1.0)) in
    let there_new : find nodes1 n.id ≡ Some k1.0 = ap (λ (k : Arena Node). find k n.id) n1 ∙ k1.1 in
    let n3 : nodes3 ≡ changed_at nodes1 n.id.place g =
    if-some (find nodes1 n.id)
    (λ owner. nodes3 ≡ changed_at nodes1 n.id.place (with_arc_list In (list_from a.id.place (list_of In owner)))) k1.0
    there_new en3 in
    let l3 : links3 ≡ links_from In a.id.place (list_of In k1.0).first links2 =
    if-some (find nodes1 n.id) (λ owner. links3 ≡ links_from In a.id.place (list_of In owner).first links2) k1.0
    there_new el3 in
    let n3' : changed_at (changed_at nodes link.row.head.id.place f) n.id.place g ≡ nodes3 =
    ap (λ (k : Arena Node). changed_at k n.id.place g) (sym n1) ∙ sym n3 in
    let l2' : changed_at (links_past In link.incoming links) a.id.place (with_link_row (record link.row { head = n }))
    ≡ links2 =
    ap₂ (λ (l : Arena Link) (r : Row). changed_at l a.id.place (with_link_row r)) (sym el1) (sym er) ∙ sym el2 in
    let l3' : links_from In a.id.place (list_of In k1.0).first
    (changed_at (links_past In link.incoming links) a.id.place (with_link_row (record link.row { head = n })))
    ≡ links3 =
    ap (λ (l : Arena Link). links_from In a.id.place (list_of In k1.0).first l) l2' ∙ sym l3 in
    let end : IsShown links3 nodes3 (with_head net a link.row n) =
    subst₂ (λ (l : Arena Link) (k : Arena Node). IsShown l k (with_head net a link.row n)) l3' n3'
    (moved-retarget links nodes a link n h0.0 k1.0 is shows found h0.1
    (ap (λ (o : Option Lists). is_some o) (node-shown links nodes n.id node there_n)) differs k1.1) in
    record {
      is = end.is ∙ ap (λ (o : Net). with_head o a link.row n) was;
      net = end.net;
      shows = end.shows;
      others =
          subst₂ (λ (o k : Net). SameOtherRows o k a) was (sym end.is) (with_head-others net a link.row n found_row);
      counts =
          subst₂ (λ (o k : Net). CountsAre k (node_count o) (arc_count o)) was (sym end.is)
          (with_head-counts net a link.row n);
      own =
          subst₂ (λ (o k : Net). (r : Row) → row_at o a ≡ Some r → row_at k a ≡ Some (record r { head = n })) was
          (sym end.is)
          (λ r there. changed_row net a r (λ (x : Row). record x { head = n }) there);
      same_nodes = subst₂ (λ (o k : Net). SameNodes o k) was (sym end.is) (with_head-nodes net a link.row n);
      edit =
          subst₂ (λ (o k : Net). (r : Row) → row_at o a ≡ Some r
          → IsEdit o k [] [] (span_of a r ∷ []) (span_of a (record r { head = n }) ∷ [])) was (sym end.is)
          (λ r there. subst (λ (x : Row).
          IsEdit net (with_head net a link.row n) [] [] (span_of a x ∷ []) (span_of a (record x { head = n }) ∷ []))
          (same_Some link.row r (sym found_row ∙ there))
          (with_head-edit net a link.row n is found_row (subst (λ (k : Net). IsNet k) end.is end.net)));
    }

-- a property of the value of an option that has one
pub some-and : {X : Type 0} (o : Option X) (Q : X → Type 0) → IsSome o → IfSome o Q → IsSomeAnd o Q
some-and None Q there holds = absurd (false≢true there)
some-and (Some x) Q there holds = holds

-- a node is still there once a node was changed
pub still-node : (nodes nodes1 : Arena Node) (p : ℕ) (f : Node → Node) (n : NodeId) → nodes1 ≡ changed_at nodes p f
    → IsSome (find nodes n.id) → IsSome (find nodes1 n.id)
still-node nodes nodes1 p f n made there =
    subst (λ (k : Arena Node). IsSome (find k n.id)) (sym made) (found-after nodes p f n.id there)

-- each end of an arc is there
pub end-there : (side : Side) (links : Arena Link) (nodes : Arena Node) (a : ArcId) (link : Link) (n : NodeId)
    → IsNet (shown_net links nodes) → find links a.id ≡ Some link → n ≡ end_of side link.row → IsSome (find nodes n.id)
end-there Out links nodes a link n is found en =
    let own = node-there links nodes link.row.tail.id (is.tails a link.row (row-shown links a.id link found)) in
    ap (λ (o : Option Node). is_some o) (ap (λ (k : NodeId). find nodes k.id) en ∙ own.1)
end-there In links nodes a link n is found en =
    let own = node-there links nodes link.row.head.id (is.heads a link.row (row-shown links a.id link found)) in
    ap (λ (o : Option Node). is_some o) (ap (λ (k : NodeId). find nodes k.id) en ∙ own.1)

-- the most that a list may count, as the calls that change them need them
pub first-fits : (side : Side) (links : Arena Link) (nodes : Arena Node) (n : NodeId) → IsNet (shown_net links nodes)
    → Shows links nodes (nodes_shown links nodes) → IsSome (find nodes n.id)
    → IsSomeAnd (find nodes n.id) (λ owner. (list_of side owner).count + 1 < 2 ^ 32)
first-fits side links nodes n is shows own =
    some-and (find nodes n.id) (λ owner. (list_of side owner).count + 1 < 2 ^ 32) own
    (some-all (find nodes n.id) (λ owner. (list_of side owner).count + 1 < 2 ^ 32)
    (λ owner there. count-fits links nodes n owner side is shows there))

owner-fits : (b : Bool) (s : Side) (list : ArcList) (node owner : Node)
    → cond b (Some (with_arc_list s list node)) (Some node) ≡ Some owner
    → (list_of In node).count + 1 < 2 ^ 32 → (s ≡ Out) ⊎ (list.count ≤ 65536) → (list_of In owner).count + 1 < 2 ^ 32
owner-fits false s list node owner e fits short =
    subst (λ (k : Node). (list_of In k).count + 1 < 2 ^ 32) (same_Some node owner e) fits
owner-fits true Out list node owner e fits short =
    subst (λ (k : Node). (list_of In k).count + 1 < 2 ^ 32) (same_Some (with_arc_list Out list node) owner e) fits
owner-fits true In list node owner e fits (inl wrong) = let no : ⊥ = cc in absurd no
owner-fits true In list node owner e fits (inr short) =
    subst (λ (k : Node). (list_of In k).count + 1 < 2 ^ 32) (same_Some (with_arc_list In list node) owner e)
    (omega (arith, short))

owner-has : (b : Bool) (list : ArcList) (node owner : Node)
    → cond b (Some (with_arc_list Out list node)) (Some node) ≡ Some owner
    → 0 < (list_of In node).count → 0 < (list_of In owner).count
owner-has false list node owner e many = subst (λ (k : Node). 0 < (list_of In k).count) (same_Some node owner e) many
owner-has true list node owner e many =
    subst (λ (k : Node). 0 < (list_of In k).count) (same_Some (with_arc_list Out list node) owner e) many

-- after a list of one node changed, the lists of arcs in still have room
pub next-fits : (links : Arena Link) (nodes nodes1 : Arena Node) (p : ℕ) (list : ArcList) (s : Side) (n : NodeId)
    → IsNet (shown_net links nodes) → Shows links nodes (nodes_shown links nodes)
    → nodes1 ≡ changed_at nodes p (with_arc_list s list) → (s ≡ Out) ⊎ (list.count ≤ 65536) → IsSome (find nodes n.id)
    → IsSomeAnd (find nodes1 n.id) (λ owner. (list_of In owner).count + 1 < 2 ^ 32)
next-fits links nodes nodes1 p list s n is shows made short own =
    some-and (find nodes1 n.id) (λ owner. (list_of In owner).count + 1 < 2 ^ 32)
    (still-node nodes nodes1 p (with_arc_list s list) n made own)
    (some-all (find nodes1 n.id) (λ owner. (list_of In owner).count + 1 < 2 ^ 32)
    (λ owner there.
    let f : Node → Node = with_arc_list s list in
    let e : find (changed_at nodes p f) n.id ≡ Some owner = ap (λ (k : Arena Node). find k n.id) (sym made) ∙ there in
    let before = is-some (find nodes n.id) (found-before nodes p f n.id (ap (λ (o : Option Node). is_some o) e)) in
    let now : cond (n.id.place == p) (Some (f before.0)) (Some before.0) ≡ Some owner =
    sym (ap (λ (o : Option Node). cond (n.id.place == p) (option_map f o) o) before.1)
    ∙ sym (find-changed_at nodes p f n.id) ∙ e in
    owner-fits (n.id.place == p) s list before.0 owner now (count-fits links nodes n before.0 In is shows before.1)
    short))

-- a list that has an arc is not empty
pub has-arc : (side : Side) (links : Arena Link) (nodes : Arena Node) (a : ArcId) (link : Link) (n : NodeId)
    → IsNet (shown_net links nodes) → Shows links nodes (nodes_shown links nodes) → find links a.id ≡ Some link
    → n ≡ end_of side link.row
    → IfSome (find nodes n.id) (λ owner. 0 < (list_of side owner).count)
has-arc side links nodes a link n is shows found en =
    some-all (find nodes n.id) (λ owner. 0 < (list_of side owner).count)
    (λ owner there.
    let has : Contains (listing side (nodes_shown links nodes) (end_of side link.row)) a =
    (listed-on side (shown_net links nodes) is).all a link.row (row-shown links a.id link found) in
    let own : Contains (listing side (nodes_shown links nodes) n) a =
    subst (λ (k : NodeId). Contains (listing side (nodes_shown links nodes) k) a) (sym en) has in
    let many : 0 < length (listing side (nodes_shown links nodes) n) =
    contains-some (listing side (nodes_shown links nodes) n) a own in
    omega (arith, many, list-count links nodes n owner side shows there))

-- and its node is there
pub end-has-arc : (side : Side) (links : Arena Link) (nodes : Arena Node) (a : ArcId) (link : Link) (n : NodeId)
    → IsNet (shown_net links nodes) → Shows links nodes (nodes_shown links nodes) → find links a.id ≡ Some link
    → n ≡ end_of side link.row
    → IsSomeAnd (find nodes n.id) (λ owner. 0 < (list_of side owner).count)
end-has-arc side links nodes a link n is shows found en =
    some-and (find nodes n.id) (λ owner. 0 < (list_of side owner).count)
    (end-there side links nodes a link n is found en) (has-arc side links nodes a link n is shows found en)

-- the list of arcs in, after the list of arcs out of the tail lost the arc, still has it
pub in-has-arc : (links : Arena Link) (nodes nodes1 : Arena Node) (a : ArcId) (link : Link) (tail head : NodeId)
    → IsNet (shown_net links nodes) → Shows links nodes (nodes_shown links nodes) → find links a.id ≡ Some link
    → tail ≡ link.row.tail → head ≡ link.row.head
    → IfSome (find nodes tail.id)
    (λ owner. nodes1 ≡ changed_at nodes tail.id.place (with_arc_list Out (list_past link.outgoing (list_of Out owner))))
    → IsSomeAnd (find nodes1 head.id) (λ owner. 0 < (list_of In owner).count)
in-has-arc links nodes nodes1 a link tail head is shows found et eh en1 =
    let net : Net = shown_net links nodes in
    let t0 = node-there links nodes link.row.tail.id (is.tails a link.row (row-shown links a.id link found)) in
    let f : Node → Node = with_arc_list Out (list_past link.outgoing (list_of Out t0.0)) in
    let made : nodes1 ≡ changed_at nodes tail.id.place f =
    if-some (find nodes tail.id)
    (λ owner. nodes1 ≡ changed_at nodes tail.id.place (with_arc_list Out (list_past link.outgoing (list_of Out owner))))
    t0.0
    (ap (λ (n : NodeId). find nodes n.id) et ∙ t0.1) en1 in
    some-and (find nodes1 head.id) (λ owner. 0 < (list_of In owner).count)
    (still-node nodes nodes1 tail.id.place f head made (end-there In links nodes a link head is found eh))
    (some-all (find nodes1 head.id) (λ owner. 0 < (list_of In owner).count)
    (λ owner there.
    let e : find (changed_at nodes tail.id.place f) head.id ≡ Some owner =
    ap (λ (k : Arena Node). find k head.id) (sym made) ∙ there in
    let before =
    is-some (find nodes head.id) (found-before nodes tail.id.place f head.id (ap (λ (o : Option Node). is_some o) e)) in
    let now : cond (head.id.place == tail.id.place) (Some (f before.0)) (Some before.0) ≡ Some owner =
    sym (ap (λ (o : Option Node). cond (head.id.place == tail.id.place) (option_map f o) o) before.1)
    ∙ sym (find-changed_at nodes tail.id.place f head.id) ∙ e in
    owner-has (head.id.place == tail.id.place) (list_past link.outgoing (list_of Out t0.0)) before.0 owner now
    (if-some (find nodes head.id) (λ owner. 0 < (list_of In owner).count) before.0 before.1
    (has-arc In links nodes a link head is shows found eh))))

-- a list that lost an arc has room for one more
pub past-fits : (links : Arena Link) (nodes nodes1 : Arena Node) (a : ArcId) (link : Link) (head n : NodeId)
    → IsNet (shown_net links nodes) → Shows links nodes (nodes_shown links nodes) → find links a.id ≡ Some link
    → head ≡ link.row.head
    → IfSome (find nodes head.id)
    (λ owner. nodes1 ≡ changed_at nodes head.id.place (with_arc_list In (list_past link.incoming (list_of In owner))))
    → IsSome (find nodes n.id)
    → IsSomeAnd (find nodes1 n.id) (λ owner. (list_of In owner).count + 1 < 2 ^ 32)
past-fits links nodes nodes1 a link head n is shows found eh en1 own =
    let h0 = node-there links nodes link.row.head.id (is.heads a link.row (row-shown links a.id link found)) in
    let there : find nodes head.id ≡ Some h0.0 = ap (λ (k : NodeId). find nodes k.id) eh ∙ h0.1 in
    let short : length (listing In (nodes_shown links nodes) head) ≤ capacity_of (rows_shown links) =
    listing-short In (shown_net links nodes) head is in
    next-fits links nodes nodes1 head.id.place (list_past link.incoming (list_of In h0.0)) In n is shows
    (if-some (find nodes head.id)
    (λ owner. nodes1 ≡ changed_at nodes head.id.place (with_arc_list In (list_past link.incoming (list_of In owner))))
    h0.0 there en1)
    (inr (omega (arith, short, list-count links nodes head h0.0 In shows there, is.arc_limit))) own

-- an arc is still there once it left a list
pub past-there : (side : Side) (links links1 : Arena Link) (a : ArcId) (link : Link) (around : Neighbours)
    → find links a.id ≡ Some link → links1 ≡ links_past side around links → IsSome (find links1 a.id)
past-there side links links1 a link around found made =
    let rows : rows_shown links1 ≡ rows_shown links =
    ap (λ (l : Arena Link). rows_shown l) made ∙ rows-links_past side around links in
    let still = link-there links1 a.id
    (ap (λ (o : Option Row). is_some o) (ap (λ (r : Arena Row). find r a.id) rows ∙ row-shown links a.id link found)) in
    ap (λ (o : Option Link). is_some o) still.1
