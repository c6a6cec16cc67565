-- The invariant of a net, through each change.
use Rattle.std.proofs.Common.{◌≡◌, ◌≢◌, ℕ, ◌+◌, ◌^◌, ◌<◌, ◌≤◌, ◌==◌, ◌⊎◌, inl, inr, Bool, true, false, cond, List, []}
use Rattle.std.proofs.Common.{◌∷◌, Contains, refl, sym, ap, ap₂, ◌∙◌, subst, arith, Option, Some, None, option_map}
use Rattle.std.proofs.Common.{IsSome, length-set}
use Rattle.std.proofs.lemmas.Bool.{cases_eq}
use Rattle.std.proofs.lemmas.Option.{none-some, same_Some}
use Rattle.std.proofs.lemmas.List.{length-replicate}
use Rattle.firm_arena.specs.Arena.{Arena, find, held_at, capacity_of, with_put, without, vacant, changed_at}
use Rattle.firm_arena.specs.Arena.{changed_all, IsBoundedMap}
use Rattle.firm_arena.specs.declared.Id.{Id}
use Rattle.firm_net.specs.Row.{Row, IsRow}
use Rattle.firm_net.specs.Net.{Lists, Net, IsNet, IsNode, out_list, in_list, end_of, with_list, listed_in, EachOnce}
use Rattle.firm_net.specs.Net.{without_arc, linked_at_front, unlinked, empty_net, with_node, without_node, with_arc}
use Rattle.firm_net.specs.Net.{without_row, with_row, with_head, without_flow}
use Rattle.firm_net.specs.declared.row.NodeId.{NodeId}
use Rattle.firm_net.specs.declared.row.ArcId.{ArcId}
use Rattle.firm_net.specs.declared.links.Side.{Side}
use Rattle.firm_net.specs.declared.links.Side.TheVariants.{Out, In}
use Rattle.firm_arena.specs.Changes.{found-before, found-after, bounded-changed_at, bounded-changed_all}
use Rattle.firm_arena.specs.Changes.{bounded-without, bounded-put, bounded-vacant, find-vacant, is-some, not-some}
use Rattle.firm_arena.specs.Changes.{find-changed_at, find-changed_all, find-without, find-nothing, find-changed_own}
use Rattle.firm_arena.specs.Changes.{find-changed_other, find-without_own, find-without_other, find-put_own}
use Rattle.firm_arena.specs.Changes.{find-put_other, capacity_of-changed_at, capacity_of-changed_all}
use Rattle.firm_net.proofs.Lists.{contains-nothing}
use Rattle.firm_net.proofs.Listings.{Listing, listing, nothing, only, listing-of, listed-of, listing-same}
use Rattle.firm_net.proofs.Listings.{listing-beside, listing-put, listing-listed, listing-unlinked, listing-taken}
use Rattle.firm_net.proofs.Listings.{listing-rewritten, listing-kept}

-- rows are within their ranges, and their ends are nodes
pub record IsEnded (nodes : Arena Lists) (arcs : Arena Row) : Type 0 where
  pub rows : (a : ArcId) (row : Row) → find arcs a.id ≡ Some row → IsRow row
  pub tails : (a : ArcId) (row : Row) → find arcs a.id ≡ Some row → IsSome (find nodes row.tail.id)
  pub heads : (a : ArcId) (row : Row) → find arcs a.id ≡ Some row → IsSome (find nodes row.head.id)

-- a net from its parts
pub net-from : (net : Net) → IsEnded net.nodes net.arcs → Listing Out net.nodes net.arcs nothing
    → Listing In net.nodes net.arcs nothing
    → IsBoundedMap net.nodes → IsBoundedMap net.arcs → capacity_of net.nodes ≤ 4096 → capacity_of net.arcs ≤ 65536
    → IsNet net
net-from net ended outgoing incoming nodes arcs node_limit arc_limit =
    record {
      rows = ended.rows;
      tails = ended.tails;
      heads = ended.heads;
      outgoing = listed-of Out net outgoing;
      incoming = listed-of In net incoming;
      node_limit = node_limit;
      arc_limit = arc_limit;
      node_map = nodes;
      arc_map = arcs;
    }

pub ended-of : (net : Net) → IsNet net → IsEnded net.nodes net.arcs
ended-of net is = record { rows = is.rows; tails = is.tails; heads = is.heads }

-- more nodes do no harm
ended-nodes : (nodes new : Arena Lists) (arcs : Arena Row) → ((id : Id) → IsSome (find nodes id) → IsSome (find new id))
    → IsEnded nodes arcs → IsEnded new arcs
ended-nodes nodes new arcs there ended =
    record {
      rows = ended.rows;
      tails = λ a row found. there row.tail.id (ended.tails a row found);
      heads = λ a row found. there row.head.id (ended.heads a row found);
    }

-- each new row is an old one changed in a way that keeps the range and ends at nodes
ended-rows : (nodes : Arena Lists) (arcs new : Arena Row)
    → ((a : ArcId) (r : Row) → find new a.id ≡ Some r
    → IsRow r × IsSome (find nodes r.tail.id) × IsSome (find nodes r.head.id))
    → IsEnded nodes new
ended-rows nodes arcs new each =
    record {
      rows = λ a r found. (each a r found).0;
      tails = λ a r found. (each a r found).1;
      heads = λ a r found. (each a r found).2;
    }

cases_id : (one other : Id) → (one ≡ other) ⊎ (one ≢ other)
cases_id one other =
    elim (cases_eq one.place other.place) [
      | inl places ↦
          elim (cases_eq one.stamp other.stamp) [
            | inl stamps ↦
                inl (ap₂ (λ (p s : ℕ). let made : Id = record { place = p; stamp = s } in made) places stamps)
            | inr differ ↦ inr (λ e. differ (ap (λ (i : Id). i.stamp) e))
          ]
      | inr differ ↦ inr (λ e. differ (ap (λ (i : Id). i.place) e))
    ]

abbrev Arcs : Type 0
Arcs = Arena Row

-- an arc is added
pub net-with_arc : (net : Net) (a : ArcId) (row : Row) → IsNet net → IsRow row → IsNode net row.tail
    → IsNode net row.head
    → a.id.place < capacity_of net.arcs → held_at net.arcs a.id.place ≡ None → a.id.stamp ≡ net.arcs.counter
    → net.arcs.counter + 1 < 2 ^ 64 → IsNet (with_arc net a row)
net-with_arc net a row is is_row tail head below free stamp unworn =
    let nodes1 : Arena Lists = linked_at_front Out a row.tail net.nodes in
    let nodes2 : Arena Lists = linked_at_front In a row.head nodes1 in
    let arcs : Arcs = with_put net.arcs a.id.place row in
    let f : List ArcId → List ArcId = λ ids. a ∷ ids in
    let found : find arcs a.id ≡ Some row = find-put_own net.arcs a.id row below stamp in
    let t = is-some (find net.nodes row.tail.id) tail in
    let h = is-some (find nodes1 row.head.id)
    (found-after net.nodes row.tail.id.place (with_list Out f) row.head.id head) in
    let there : (id : Id) → IsSome (find net.nodes id) → IsSome (find nodes2 id) =
    λ id k. found-after nodes1 row.head.id.place (with_list In f) id
    (found-after net.nodes row.tail.id.place (with_list Out f) id k) in
    let outgoing : Listing Out nodes2 arcs nothing =
    listing-beside In nodes1 arcs row.head.id.place f nothing
    (listing-listed Out net.nodes arcs a row t.0 found t.1
    (listing-put Out net.nodes net.arcs a row below free stamp (listing-of Out net is.outgoing))) in
    let incoming : Listing In nodes2 arcs nothing =
    listing-listed In nodes1 arcs a row h.0 found h.1
    (listing-beside Out net.nodes arcs row.tail.id.place f (only a)
    (listing-put In net.nodes net.arcs a row below free stamp (listing-of In net is.incoming))) in
    let ended : IsEnded nodes2 arcs =
    ended-rows nodes2 net.arcs arcs
    (λ b r found_b.
    elim (cases_id b.id a.id) [
      | inl same ↦
          let e : row ≡ r = same_Some row r (sym found ∙ ap (λ (i : Id). find arcs i) (sym same) ∙ found_b) in
          subst (λ (k : Row). IsRow k × IsSome (find nodes2 k.tail.id) × IsSome (find nodes2 k.head.id)) e
          (is_row, there row.tail.id tail, there row.head.id head)
      | inr other ↦
          let old : find net.arcs b.id ≡ Some r =
          sym (find-put_other net.arcs a.id b.id row below free stamp other) ∙ found_b in
          (is.rows b r old, there r.tail.id (is.tails b r old), there r.head.id (is.heads b r old))
    ]) in
    net-from (with_arc net a row) ended outgoing incoming
    (bounded-changed_at nodes1 row.head.id.place (with_list In f)
    (bounded-changed_at net.nodes row.tail.id.place (with_list Out f) is.node_map))
    (bounded-put net.arcs a.id row below free stamp unworn is.arc_map)
    (omega (
      arith,
      capacity_of-changed_at nodes1 row.head.id.place (with_list In f),
      capacity_of-changed_at net.nodes row.tail.id.place (with_list Out f),
      is.node_limit,
    ))
    (omega (arith, length-set net.arcs.held a.id.place (Some (net.arcs.counter, row)), is.arc_limit))

-- an arc is removed
pub net-without_row : (net : Net) (a : ArcId) (row : Row) → IsNet net → find net.arcs a.id ≡ Some row
    → IsNet (without_row net a row)
net-without_row net a row is found =
    let f : List ArcId → List ArcId = without_arc a in
    let nodes1 : Arena Lists = unlinked Out a row.tail net.nodes in
    let nodes2 : Arena Lists = unlinked In a row.head nodes1 in
    let arcs : Arcs = without net.arcs a.id.place in
    let t = is-some (find net.nodes row.tail.id) (is.tails a row found) in
    let h = is-some (find nodes1 row.head.id)
    (found-after net.nodes row.tail.id.place (with_list Out f) row.head.id (is.heads a row found)) in
    let there : (id : Id) → IsSome (find net.nodes id) → IsSome (find nodes2 id) =
    λ id k. found-after nodes1 row.head.id.place (with_list In f) id
    (found-after net.nodes row.tail.id.place (with_list Out f) id k) in
    let outgoing : Listing Out nodes2 arcs nothing =
    listing-taken Out nodes2 net.arcs a row found
    (listing-beside In nodes1 net.arcs row.head.id.place f (only a)
    (listing-unlinked Out net.nodes net.arcs a row t.0 found t.1 (listing-of Out net is.outgoing))) in
    let incoming : Listing In nodes2 arcs nothing =
    listing-taken In nodes2 net.arcs a row found
    (listing-unlinked In nodes1 net.arcs a row h.0 found h.1
    (listing-beside Out net.nodes net.arcs row.tail.id.place f nothing (listing-of In net is.incoming))) in
    let ended : IsEnded nodes2 arcs =
    ended-rows nodes2 net.arcs arcs
    (λ b r found_b.
    let other : b.id ≢ a.id =
    λ e. none-some r (sym (find-without_own net.arcs a.id) ∙ ap (λ (i : Id). find arcs i) (sym e) ∙ found_b) in
    let old : find net.arcs b.id ≡ Some r = sym (find-without_other net.arcs a.id b.id row found other) ∙ found_b in
    (is.rows b r old, there r.tail.id (is.tails b r old), there r.head.id (is.heads b r old))) in
    net-from (without_row net a row) ended outgoing incoming
    (bounded-changed_at nodes1 row.head.id.place (with_list In f)
    (bounded-changed_at net.nodes row.tail.id.place (with_list Out f) is.node_map))
    (bounded-without net.arcs a.id.place is.arc_map)
    (omega (
      arith,
      capacity_of-changed_at nodes1 row.head.id.place (with_list In f),
      capacity_of-changed_at net.nodes row.tail.id.place (with_list Out f),
      is.node_limit,
    ))
    (omega (arith, length-set net.arcs.held a.id.place None, is.arc_limit))

-- the rows of a changed arc and of the others
changed-back : (arcs : Arcs) (a : ArcId) (row : Row) (f : Row → Row) → find arcs a.id ≡ Some row
    → (b : ArcId) (r : Row) → find (changed_at arcs a.id.place f) b.id ≡ Some r
    → (old : Row) × (find arcs b.id ≡ Some old) × ((r ≡ old) ⊎ ((r ≡ f row) × (old ≡ row) × (b.id ≡ a.id)))
changed-back arcs a row f found b r found_b =
    elim (cases_id b.id a.id) [
      | inl same ↦
          let e : f row ≡ r =
          same_Some (f row) r (sym (find-changed_own arcs a.id row f found)
          ∙ ap (λ (i : Id). find (changed_at arcs a.id.place f) i) (sym same) ∙ found_b) in
          (row, ap (λ (i : Id). find arcs i) same ∙ found, inr (sym e, refl, same))
      | inr other ↦ (r, sym (find-changed_other arcs a.id b.id row f found other) ∙ found_b, inl refl)
    ]

changed-there : (arcs : Arcs) (a : ArcId) (row : Row) (f : Row → Row) → find arcs a.id ≡ Some row
    → (b : ArcId) (old : Row) → find arcs b.id ≡ Some old
    → (r : Row) × (find (changed_at arcs a.id.place f) b.id ≡ Some r) × ((r ≡ old) ⊎ ((r ≡ f row) × (old ≡ row)))
changed-there arcs a row f found b old found_b =
    elim (cases_id b.id a.id) [
      | inl same ↦
          let e : old ≡ row = same_Some old row (sym found_b ∙ ap (λ (i : Id). find arcs i) same ∙ found) in (
            f row,
            ap (λ (i : Id). find (changed_at arcs a.id.place f) i) same
                ∙ find-changed_own arcs a.id row f found,
            inr (refl, e),
          )
      | inr other ↦ (old, find-changed_other arcs a.id b.id row f found other ∙ found_b, inl refl)
    ]

-- the lists of a side stay where a row changes but not its end on that side
listing-changed : (side : Side) (nodes : Arena Lists) (arcs : Arcs) (a : ArcId) (row : Row) (f : Row → Row)
    (E : ArcId → Type 0)
    → find arcs a.id ≡ Some row → end_of side (f row) ≡ end_of side row
    → Listing side nodes arcs E → Listing side nodes (changed_at arcs a.id.place f) E
listing-changed side nodes arcs a row f E found end listed =
    listing-kept side nodes arcs (changed_at arcs a.id.place f) E
    (λ b old found_b.
    let is = changed-there arcs a row f found b old found_b in (
      is.0,
      is.1,
      elim is.2 [
        | inl same ↦ ap (λ (k : Row). end_of side k) same
        | inr new ↦ ap (λ (k : Row). end_of side k) new.0 ∙ end ∙ ap (λ (k : Row). end_of side k) (sym new.1)
      ],
    ))
    (λ b r found_b.
    let was = changed-back arcs a row f found b r found_b in (
      was.0,
      was.1,
      elim was.2 [
        | inl same ↦ ap (λ (k : Row). end_of side k) same
        | inr new ↦ ap (λ (k : Row). end_of side k) new.0 ∙ end ∙ ap (λ (k : Row). end_of side k) (sym new.1)
      ],
    ))
    listed

-- a row changes within its ranges, its ends stay
pub net-with_row : (net : Net) (a : ArcId) (row : Row) (f : Row → Row) → IsNet net → find net.arcs a.id ≡ Some row
    → IsRow (f row) → (f row).tail ≡ row.tail → (f row).head ≡ row.head → IsNet (with_row net a f)
net-with_row net a row f is found is_row tail head =
    let arcs : Arcs = changed_at net.arcs a.id.place f in
    let ended : IsEnded net.nodes arcs =
    ended-rows net.nodes net.arcs arcs
    (λ b r found_b.
    let was = changed-back net.arcs a row f found b r found_b in
    elim was.2 [
      | inl same ↦
          subst (λ (k : Row). IsRow k × IsSome (find net.nodes k.tail.id) × IsSome (find net.nodes k.head.id))
          (sym same)
          (is.rows b was.0 was.1, is.tails b was.0 was.1, is.heads b was.0 was.1)
      | inr new ↦
          subst (λ (k : Row). IsRow k × IsSome (find net.nodes k.tail.id) × IsSome (find net.nodes k.head.id))
          (sym new.0) (
            is_row,
            subst (λ (n : NodeId). IsSome (find net.nodes n.id)) (sym tail) (is.tails a row found),
            subst (λ (n : NodeId). IsSome (find net.nodes n.id)) (sym head) (is.heads a row found),
          )
    ]) in
    net-from (with_row net a f) ended
    (listing-changed Out net.nodes net.arcs a row f nothing found tail (listing-of Out net is.outgoing))
    (listing-changed In net.nodes net.arcs a row f nothing found head (listing-of In net is.incoming))
    is.node_map (bounded-changed_at net.arcs a.id.place f is.arc_map) is.node_limit
    (omega (arith, capacity_of-changed_at net.arcs a.id.place f, is.arc_limit))

-- an arc's head moves
pub net-with_head : (net : Net) (a : ArcId) (row : Row) (n : NodeId) → IsNet net → find net.arcs a.id ≡ Some row
    → IsNode net n
    → row.tail ≢ n → IsNet (with_head net a row n)
net-with_head net a row n is found node differs =
    let f : Row → Row = λ old. record old { head = n } in
    let nodes1 : Arena Lists = unlinked In a row.head net.nodes in
    let nodes2 : Arena Lists = linked_at_front In a n nodes1 in
    let arcs : Arcs = changed_at net.arcs a.id.place f in
    let found_new : find arcs a.id ≡ Some (f row) = find-changed_own net.arcs a.id row f found in
    let h = is-some (find net.nodes row.head.id) (is.heads a row found) in
    let m = is-some (find nodes1 n.id)
    (found-after net.nodes row.head.id.place (with_list In (without_arc a)) n.id node) in
    let there : (id : Id) → IsSome (find net.nodes id) → IsSome (find nodes2 id) =
    λ id k. found-after nodes1 n.id.place (with_list In (λ ids. a ∷ ids)) id
    (found-after net.nodes row.head.id.place (with_list In (without_arc a)) id k) in
    let old_row : IsRow row = is.rows a row found in
    let outgoing : Listing Out nodes2 arcs nothing =
    listing-beside In nodes1 arcs n.id.place (λ ids. a ∷ ids) nothing
    (listing-beside In net.nodes arcs row.head.id.place (without_arc a) nothing
    (listing-changed Out net.nodes net.arcs a row f nothing found refl (listing-of Out net is.outgoing))) in
    let incoming : Listing In nodes2 arcs nothing =
    listing-listed In nodes1 arcs a (f row) m.0 found_new m.1
    (listing-rewritten In nodes1 net.arcs a row f found
    (listing-unlinked In net.nodes net.arcs a row h.0 found h.1 (listing-of In net is.incoming))) in
    let ended : IsEnded nodes2 arcs =
    ended-rows nodes2 net.arcs arcs
    (λ b r found_b.
    let was = changed-back net.arcs a row f found b r found_b in
    elim was.2 [
      | inl same ↦
          subst (λ (k : Row). IsRow k × IsSome (find nodes2 k.tail.id) × IsSome (find nodes2 k.head.id)) (sym same) (
            is.rows b was.0 was.1,
            there was.0.tail.id (is.tails b was.0 was.1),
            there was.0.head.id (is.heads b was.0 was.1),
          )
      | inr new ↦
          subst (λ (k : Row). IsRow k × IsSome (find nodes2 k.tail.id) × IsSome (find nodes2 k.head.id)) (sym new.0) (
            record { ends = differs; low = old_row.low; flow = old_row.flow; cap = old_row.cap; cost = old_row.cost },
            there row.tail.id (is.tails a row found),
            there n.id node,
          )
    ]) in
    net-from (with_head net a row n) ended outgoing incoming
    (bounded-changed_at nodes1 n.id.place (with_list In (λ ids. a ∷ ids))
    (bounded-changed_at net.nodes row.head.id.place (with_list In (without_arc a)) is.node_map))
    (bounded-changed_at net.arcs a.id.place f is.arc_map)
    (omega (
      arith,
      capacity_of-changed_at nodes1 n.id.place (with_list In (λ ids. a ∷ ids)),
      capacity_of-changed_at net.nodes row.head.id.place (with_list In (without_arc a)),
      is.node_limit,
    ))
    (omega (arith, capacity_of-changed_at net.arcs a.id.place f, is.arc_limit))

option-back : (o : Option Row) (r : Row) (f : Row → Row) → option_map f o ≡ Some r
    → (row : Row) × (o ≡ Some row) × (r ≡ f row)
option-back None r f e = absurd (none-some r e)
option-back (Some row) r f e = (row, refl, sym (same_Some (f row) r e))

-- low and flow of every arc are 0
pub net-without_flow : (net : Net) → IsNet net → IsNet (without_flow net)
net-without_flow net is =
    let f : Row → Row = λ old. record old { low = 0; flow = 0 } in
    let arcs : Arcs = changed_all net.arcs f in
    let back : (b : ArcId) (r : Row) → find arcs b.id ≡ Some r
    → (row : Row) × (find net.arcs b.id ≡ Some row) × (r ≡ f row) =
    λ b r found. option-back (find net.arcs b.id) r f (sym (find-changed_all net.arcs f b.id) ∙ found) in
    let there : (b : ArcId) (row : Row) → find net.arcs b.id ≡ Some row → find arcs b.id ≡ Some (f row) =
    λ b row found. find-changed_all net.arcs f b.id ∙ ap (λ (o : Option Row). option_map f o) found in
    let kept : (side : Side) → ((row : Row) → end_of side (f row) ≡ end_of side row)
    → Listing side net.nodes net.arcs nothing → Listing side net.nodes arcs nothing =
    λ side end listed. listing-kept side net.nodes net.arcs arcs nothing
    (λ b row found. (f row, there b row found, end row))
    (λ b r found. let was = back b r found in (was.0, was.1, ap (λ (k : Row). end_of side k) was.2 ∙ end was.0))
    listed in
    let ended : IsEnded net.nodes arcs =
    ended-rows net.nodes net.arcs arcs
    (λ b r found.
    let was = back b r found in
    let old : IsRow was.0 = is.rows b was.0 was.1 in
    subst (λ (k : Row). IsRow k × IsSome (find net.nodes k.tail.id) × IsSome (find net.nodes k.head.id)) (sym was.2) (
      record { ends = old.ends; low = omega arith; flow = omega arith; cap = old.cap; cost = old.cost },
      is.tails b was.0 was.1,
      is.heads b was.0 was.1,
    )) in
    net-from (without_flow net) ended
    (kept Out (λ row. refl) (listing-of Out net is.outgoing)) (kept In (λ row. refl) (listing-of In net is.incoming))
    is.node_map (bounded-changed_all net.arcs f is.arc_map) is.node_limit
    (omega (arith, capacity_of-changed_all net.arcs f, is.arc_limit))

-- a node without arcs is added
pub net-with_node : (net : Net) (n : NodeId) → IsNet net → n.id.place < capacity_of net.nodes
    → held_at net.nodes n.id.place ≡ None
    → n.id.stamp ≡ net.nodes.counter → net.nodes.counter + 1 < 2 ^ 64 → IsNet (with_node net n.id.place)
net-with_node net n is below free stamp unworn =
    let empty : Lists = record { outgoing = []; incoming = [] } in
    let nodes : Arena Lists = with_put net.nodes n.id.place empty in
    let same : (side : Side) → listed_in side (Some empty) ≡ [] → (m : NodeId)
    → listing side nodes m ≡ listing side net.nodes m =
    λ side none m.
    elim (cases_id m.id n.id) [
      | inl is_n ↦
          let was : find net.nodes m.id ≡ None =
          find-nothing net.nodes m.id (ap (λ (i : Id). held_at net.nodes i.place) is_n ∙ free) in
          ap (λ (i : Id). listed_in side (find nodes i)) is_n
          ∙ ap (λ (o : Option Lists). listed_in side o) (find-put_own net.nodes n.id empty below stamp)
          ∙ none ∙ sym (ap (λ (o : Option Lists). listed_in side o) was)
      | inr other ↦
          ap (λ (o : Option Lists). listed_in side o) (find-put_other net.nodes n.id m.id empty below free stamp other)
    ] in
    let there : (id : Id) → IsSome (find net.nodes id) → IsSome (find nodes id) =
    λ id h.
    let other : id ≢ n.id =
    λ e. not-some (find net.nodes id) (find-nothing net.nodes id (ap (λ (i : Id). held_at net.nodes i.place) e ∙ free))
    h in
    subst (λ (o : Option Lists). IsSome o) (sym (find-put_other net.nodes n.id id empty below free stamp other)) h in
    net-from (with_node net n.id.place) (ended-nodes net.nodes nodes net.arcs there (ended-of net is))
    (listing-same Out net.nodes nodes net.arcs nothing (same Out refl) (listing-of Out net is.outgoing))
    (listing-same In net.nodes nodes net.arcs nothing (same In refl) (listing-of In net is.incoming))
    (bounded-put net.nodes n.id empty below free stamp unworn is.node_map) is.arc_map
    (omega (arith, length-set net.nodes.held n.id.place (Some (net.nodes.counter, empty)), is.node_limit)) is.arc_limit

-- a node without arcs is removed
pub net-without_node : (net : Net) (n : NodeId) → IsNet net → IsNode net n → out_list net n ≡ [] → in_list net n ≡ []
    → IsNet (without_node net n)
net-without_node net n is node no_out no_in =
    let nodes : Arena Lists = without net.nodes n.id.place in
    let lists = is-some (find net.nodes n.id) node in
    let same : (side : Side) → listing side net.nodes n ≡ [] → (m : NodeId)
    → listing side nodes m ≡ listing side net.nodes m =
    λ side none m.
    elim (cases_id m.id n.id) [
      | inl is_n ↦
          ap (λ (i : Id). listed_in side (find nodes i)) is_n
          ∙ ap (λ (o : Option Lists). listed_in side o) (find-without_own net.nodes n.id)
          ∙ sym none ∙ ap (λ (i : Id). listed_in side (find net.nodes i)) (sym is_n)
      | inr other ↦
          ap (λ (o : Option Lists). listed_in side o) (find-without_other net.nodes n.id m.id lists.0 lists.1 other)
    ] in
    let there : (m : NodeId) → n ≢ m → IsSome (find net.nodes m.id) → IsSome (find nodes m.id) =
    λ m other h.
    subst (λ (o : Option Lists). IsSome o)
    (sym (find-without_other net.nodes n.id m.id lists.0 lists.1
    (λ e. other (ap (λ (i : Id). let made : NodeId = record { id = i } in made) (sym e)))))
    h in
    let not_tail : (a : ArcId) (row : Row) → find net.arcs a.id ≡ Some row → n ≢ row.tail =
    λ a row found e.
    contains-nothing a (subst (λ (l : List ArcId). Contains l a) no_out
    (subst (λ (k : NodeId). Contains (listing Out net.nodes k) a) (sym e) (is.outgoing.all a row found))) in
    let not_head : (a : ArcId) (row : Row) → find net.arcs a.id ≡ Some row → n ≢ row.head =
    λ a row found e.
    contains-nothing a (subst (λ (l : List ArcId). Contains l a) no_in
    (subst (λ (k : NodeId). Contains (listing In net.nodes k) a) (sym e) (is.incoming.all a row found))) in
    let ended : IsEnded nodes net.arcs =
    ended-rows nodes net.arcs net.arcs
    (λ a row found. (
      is.rows a row found,
      there row.tail (not_tail a row found) (is.tails a row found),
      there row.head (not_head a row found) (is.heads a row found),
    )) in
    net-from (without_node net n) ended
    (listing-same Out net.nodes nodes net.arcs nothing (same Out no_out) (listing-of Out net is.outgoing))
    (listing-same In net.nodes nodes net.arcs nothing (same In no_in) (listing-of In net is.incoming))
    (bounded-without net.nodes n.id.place is.node_map) is.arc_map
    (omega (arith, length-set net.nodes.held n.id.place None, is.node_limit)) is.arc_limit

-- a net without nodes and arcs
pub net-empty : (nodes arcs : ℕ) → nodes ≤ 4096 → arcs ≤ 65536 → IsNet (empty_net nodes arcs)
net-empty nodes arcs node_limit arc_limit =
    let net : Net = empty_net nodes arcs in
    let no_arc : (a : ArcId) (row : Row) → find net.arcs a.id ≡ Some row → ⊥ =
    λ a row found. none-some row (sym (find-vacant arcs 0 a.id) ∙ found) in
    let none : (side : Side) → Listing side net.nodes net.arcs nothing =
    λ side.
    let no_list : (n : NodeId) → listing side net.nodes n ≡ [] =
    λ n. ap (λ (o : Option Lists). listed_in side o) (find-vacant nodes 0 n.id) in
    record {
      once = λ n. subst (λ (l : List ArcId). EachOnce l) (sym (no_list n)) tt;
      arcs_of = λ n b has. absurd (contains-nothing b (subst (λ (l : List ArcId). Contains l b) (no_list n) has));
      all = λ b row _ found. absurd (no_arc b row found);
    } in
    net-from net
    (record {
      rows = λ a row found. absurd (no_arc a row found);
      tails = λ a row found. absurd (no_arc a row found);
      heads = λ a row found. absurd (no_arc a row found);
    })
    (none Out) (none In) (bounded-vacant nodes 0 (omega (arith, node_limit)) (omega arith))
    (bounded-vacant arcs 0 (omega (arith, arc_limit)) (omega arith))
    (omega (arith, length-replicate {A = Option (ℕ × Lists)} nodes None, node_limit))
    (omega (arith, length-replicate {A = Option (ℕ × Row)} arcs None, arc_limit))
