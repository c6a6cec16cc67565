-- The lists of one side of a net's nodes, through the steps of a change: each arc stands in the list of its end.
use Rattle.std.proofs.Common.{◌≡◌, ◌≢◌, ℕ, ◌<◌, ◌==◌, inl, inr, true, false, cond, List, ◌∷◌, Contains, refl, sym}
use Rattle.std.proofs.Common.{ap, ◌∙◌, subst, Option, Some, None, option_map}
use Rattle.std.proofs.lemmas.Option.{none-some, same_Some}
use Rattle.firm_arena.specs.Arena.{Arena, find, held_at, capacity_of, with_put, without, changed_at}
use Rattle.firm_net.specs.Row.{Row}
use Rattle.firm_net.specs.Net.{Lists, Net, IsNet, IsListed, listed_in, end_of, with_list, EachOnce, without_arc}
use Rattle.firm_net.specs.Net.{linked_at_front, unlinked}
use Rattle.firm_net.specs.declared.row.NodeId.{NodeId}
use Rattle.firm_net.specs.declared.row.ArcId.{ArcId}
use Rattle.firm_net.specs.declared.links.Side.{Side}
use Rattle.firm_net.specs.declared.links.Side.TheVariants.{Out, In}
use Rattle.firm_arena.specs.Changes.{find-changed_at, find-nothing, find-changed_own, find-changed_other}
use Rattle.firm_arena.specs.Changes.{find-without_own, find-without_other, find-put_other}
use Rattle.firm_net.proofs.Lists.{contains-here, contains-there, contains-cases, contains-without, without-contains}
use Rattle.firm_net.proofs.Lists.{once-without}
use Rattle.firm_net.specs.Laws.{same_arc_or_not, same_node_or_not}
use Rattle.firm_net.proofs.Facts.{node-id, arc-id}
use Rattle.firm_net.proofs.Chains.{opposite, side_list-with_same, side_list-with_opposite}

-- the list of a node on one side
abbrev pub listing : Side → Arena Lists → NodeId → List ArcId
listing side nodes n = listed_in side (find nodes n.id)

-- each arc but the excepted ones stands, once, in the list of its end, and nothing else stands there
pub record Listing (side : Side) (nodes : Arena Lists) (arcs : Arena Row) (Excepted : ArcId → Type 0) : Type 0 where
  pub once : (n : NodeId) → EachOnce (listing side nodes n)
  pub arcs_of : (n : NodeId) (b : ArcId) → Contains (listing side nodes n) b
      → (Excepted b → ⊥) × ((row : Row) × (find arcs b.id ≡ Some row) × (end_of side row ≡ n))
  pub all : (b : ArcId) (row : Row) → (Excepted b → ⊥) → find arcs b.id ≡ Some row
      → Contains (listing side nodes (end_of side row)) b

abbrev pub nothing : ArcId → Type 0
nothing b = ⊥

abbrev pub only : ArcId → ArcId → Type 0
only a b = b ≡ a

pub listing-of : (side : Side) (net : Net) → IsListed side net → Listing side net.nodes net.arcs nothing
listing-of side net listed =
    record {
      once = listed.once;
      arcs_of = λ n b has. (λ h. h, listed.arcs n b has);
      all = λ b row _ found. listed.all b row found;
    }

pub listed-on : (side : Side) (net : Net) → IsNet net → IsListed side net
listed-on Out net is = is.outgoing
listed-on In net is = is.incoming

pub listed-of : (side : Side) (net : Net) → Listing side net.nodes net.arcs nothing → IsListed side net
listed-of side net listing =
    record {
      once = listing.once;
      arcs = λ n b has. (listing.arcs_of n b has).1;
      all = λ b row found. listing.all b row (λ h. h) found;
    }

-- the list that changed, and the lists of other nodes on its side
listing-own : (side : Side) (nodes : Arena Lists) (n : NodeId) (lists : Lists) (f : List ArcId → List ArcId)
    → find nodes n.id ≡ Some lists
    → listing side (changed_at nodes n.id.place (with_list side f)) n ≡ f (listing side nodes n)
listing-own side nodes n lists f there =
    ap (λ (o : Option Lists). listed_in side o) (find-changed_own nodes n.id lists (with_list side f) there)
    ∙ side_list-with_same side f lists
    ∙ ap (λ (o : Option Lists). f (listed_in side o)) (sym there)

listing-other : (side : Side) (nodes : Arena Lists) (n m : NodeId) (lists : Lists) (f : List ArcId → List ArcId)
    → find nodes n.id ≡ Some lists
    → m ≢ n → listing side (changed_at nodes n.id.place (with_list side f)) m ≡ listing side nodes m
listing-other side nodes n m lists f there other =
    ap (λ (o : Option Lists). listed_in side o)
    (find-changed_other nodes n.id m.id lists (with_list side f) there (node-id n m other))

option-opposite : (side : Side) (f : List ArcId → List ArcId) (o : Option Lists)
    → listed_in (opposite side) (option_map (with_list side f) o) ≡ listed_in (opposite side) o
option-opposite side f None = refl
option-opposite side f (Some lists) = side_list-with_opposite side f lists

-- all lists of the other side
pub listing-opposite : (side : Side) (nodes : Arena Lists) (p : ℕ) (f : List ArcId → List ArcId) (m : NodeId)
    → listing (opposite side) (changed_at nodes p (with_list side f)) m ≡ listing (opposite side) nodes m
listing-opposite side nodes p f m =
    ap (λ (o : Option Lists). listed_in (opposite side) o) (find-changed_at nodes p (with_list side f) m.id)
    ∙ elim (m.id.place == p) as (λ b.
    listed_in (opposite side) (cond b (option_map (with_list side f) (find nodes m.id)) (find nodes m.id))
    ≡ listed_in (opposite side) (find nodes m.id)) [
      | true ↦ option-opposite side f (find nodes m.id)
      | false ↦ refl
    ]

-- other nodes with the same lists
pub listing-same : (side : Side) (nodes new : Arena Lists) (arcs : Arena Row) (E : ArcId → Type 0)
    → ((n : NodeId) → listing side new n ≡ listing side nodes n) → Listing side nodes arcs E → Listing side new arcs E
listing-same side nodes new arcs E same listed =
    record {
      once = λ n. subst (λ (l : List ArcId). EachOnce l) (sym (same n)) (listed.once n);
      arcs_of = λ n b has. listed.arcs_of n b (subst (λ (l : List ArcId). Contains l b) (same n) has);
      all = λ b row free found.
          subst (λ (l : List ArcId). Contains l b) (sym (same (end_of side row))) (listed.all b row free found);
    }

-- a change of the other side's lists
pub listing-beside : (side : Side) (nodes : Arena Lists) (arcs : Arena Row) (p : ℕ) (f : List ArcId → List ArcId)
    (E : ArcId → Type 0)
    → Listing (opposite side) nodes arcs E → Listing (opposite side) (changed_at nodes p (with_list side f)) arcs E
listing-beside side nodes arcs p f E listed =
    listing-same (opposite side) nodes (changed_at nodes p (with_list side f)) arcs E (listing-opposite side nodes p f)
    listed

-- an arc is put: it is in no list yet
pub listing-put : (side : Side) (nodes : Arena Lists) (arcs : Arena Row) (a : ArcId) (row : Row)
    → a.id.place < capacity_of arcs → held_at arcs a.id.place ≡ None → a.id.stamp ≡ arcs.counter
    → Listing side nodes arcs nothing → Listing side nodes (with_put arcs a.id.place row) (only a)
listing-put side nodes arcs a row below vacant stamp listed =
    record {
      once = listed.once;
      arcs_of = λ n b has.
          let was = (listed.arcs_of n b has).1 in
          let other : b ≢ a =
          λ e. none-some was.0
          (sym (find-nothing arcs a.id vacant) ∙ ap (λ (c : ArcId). find arcs c.id) (sym e) ∙ was.1) in
          (other, (was.0, find-put_other arcs a.id b.id row below vacant stamp (arc-id a b other) ∙ was.1, was.2));
      all = λ b r other found.
          listed.all b r (λ h. h)
          (sym (find-put_other arcs a.id b.id row below vacant stamp (arc-id a b other)) ∙ found);
    }

-- the arc that was in no list is listed first at its end
pub listing-listed : (side : Side) (nodes : Arena Lists) (arcs : Arena Row) (a : ArcId) (row : Row) (lists : Lists)
    → find arcs a.id ≡ Some row → find nodes (end_of side row).id ≡ Some lists
    → Listing side nodes arcs (only a) → Listing side (linked_at_front side a (end_of side row) nodes) arcs nothing
listing-listed side nodes arcs a row lists found there listed =
    let n : NodeId = end_of side row in
    let f : List ArcId → List ArcId = λ ids. a ∷ ids in
    let absent : Contains (listing side nodes n) a → ⊥ = λ h. (listed.arcs_of n a h).0 refl in
    record {
      once = λ m.
          elim (same_node_or_not m n) [
            | inl same ↦
                subst (λ (k : NodeId). EachOnce (listing side (changed_at nodes n.id.place (with_list side f)) k))
                (sym same)
                (subst (λ (l : List ArcId). EachOnce l) (sym (listing-own side nodes n lists f there))
                (absent, listed.once n))
            | inr other ↦
                subst (λ (l : List ArcId). EachOnce l) (sym (listing-other side nodes n m lists f there other))
                (listed.once m)
          ];
      arcs_of = λ m b has. (
        λ h. h,
        elim (same_node_or_not m n) [
          | inl same ↦
              let here : Contains (a ∷ listing side nodes n) b =
              subst (λ (l : List ArcId). Contains l b) (listing-own side nodes n lists f there)
              (subst (λ (k : NodeId). Contains (listing side (changed_at nodes n.id.place (with_list side f)) k) b) same
              has) in
              elim (contains-cases a (listing side nodes n) b here) [
                | inl is ↦ (row, ap (λ (c : ArcId). find arcs c.id) (sym is) ∙ found, sym same)
                | inr later ↦
                    let was = (listed.arcs_of n b later).1 in
                    (was.0, was.1, was.2 ∙ sym same)
              ]
          | inr other ↦
              (listed.arcs_of m b
              (subst (λ (l : List ArcId). Contains l b) (listing-other side nodes n m lists f there other) has)).1
        ],
      );
      all = λ b r _ found_b.
          elim (same_arc_or_not b a) [
            | inl is ↦
                let same : r ≡ row = same_Some r row (sym found_b ∙ ap (λ (c : ArcId). find arcs c.id) is ∙ found) in
                subst (λ (k : Row).
                Contains (listing side (changed_at nodes n.id.place (with_list side f)) (end_of side k)) b)
                (sym same)
                (subst (λ (l : List ArcId). Contains l b) (sym (listing-own side nodes n lists f there))
                (subst (λ (c : ArcId). Contains (a ∷ listing side nodes n) c) (sym is)
                (contains-here a (listing side nodes n))))
            | inr other ↦
                let was : Contains (listing side nodes (end_of side r)) b = listed.all b r other found_b in
                elim (same_node_or_not (end_of side r) n) [
                  | inl same ↦
                      subst (λ (k : NodeId).
                      Contains (listing side (changed_at nodes n.id.place (with_list side f)) k) b)
                      (sym same)
                      (subst (λ (l : List ArcId). Contains l b) (sym (listing-own side nodes n lists f there))
                      (contains-there a (listing side nodes n) b
                      (subst (λ (k : NodeId). Contains (listing side nodes k) b) same was)))
                  | inr elsewhere ↦
                      subst (λ (l : List ArcId). Contains l b)
                      (sym (listing-other side nodes n (end_of side r) lists f there elsewhere)) was
                ]
          ];
    }

-- an arc is listed no more at its end
pub listing-unlinked : (side : Side) (nodes : Arena Lists) (arcs : Arena Row) (a : ArcId) (row : Row) (lists : Lists)
    → find arcs a.id ≡ Some row → find nodes (end_of side row).id ≡ Some lists
    → Listing side nodes arcs nothing → Listing side (unlinked side a (end_of side row) nodes) arcs (only a)
listing-unlinked side nodes arcs a row lists found there listed =
    let n : NodeId = end_of side row in
    record {
      once = λ m.
          elim (same_node_or_not m n) [
            | inl same ↦
                subst (λ (k : NodeId).
                EachOnce (listing side (changed_at nodes n.id.place (with_list side (without_arc a))) k))
                (sym same)
                (subst (λ (l : List ArcId). EachOnce l) (sym (listing-own side nodes n lists (without_arc a) there))
                (once-without a (listing side nodes n) (listed.once n)))
            | inr other ↦
                subst (λ (l : List ArcId). EachOnce l)
                (sym (listing-other side nodes n m lists (without_arc a) there other)) (listed.once m)
          ];
      arcs_of = λ m b has.
          elim (same_node_or_not m n) [
            | inl same ↦
                let here : (a ≢ b) × Contains (listing side nodes n) b =
                contains-without a (listing side nodes n) b
                (subst (λ (l : List ArcId). Contains l b) (listing-own side nodes n lists (without_arc a) there)
                (subst (λ (k : NodeId).
                Contains (listing side (changed_at nodes n.id.place (with_list side (without_arc a))) k) b)
                same has)) in
                let was = (listed.arcs_of n b here.1).1 in
                (λ e. here.0 (sym e), (was.0, was.1, was.2 ∙ sym same))
            | inr other ↦
                let was =
                (listed.arcs_of m b
                (subst (λ (l : List ArcId). Contains l b)
                (listing-other side nodes n m lists (without_arc a) there other) has)).1 in (
                  λ e.
                      let same : was.0 ≡ row =
                      same_Some was.0 row (sym was.1 ∙ ap (λ (c : ArcId). find arcs c.id) e ∙ found) in
                      other (sym was.2 ∙ ap (λ (k : Row). end_of side k) same),
                  was,
                )
          ];
      all = λ b r other found_b.
          let was : Contains (listing side nodes (end_of side r)) b = listed.all b r (λ h. h) found_b in
          elim (same_node_or_not (end_of side r) n) [
            | inl same ↦
                subst (λ (k : NodeId).
                Contains (listing side (changed_at nodes n.id.place (with_list side (without_arc a))) k) b)
                (sym same)
                (subst (λ (l : List ArcId). Contains l b) (sym (listing-own side nodes n lists (without_arc a) there))
                (without-contains a (listing side nodes n) b (λ e. other (sym e))
                (subst (λ (k : NodeId). Contains (listing side nodes k) b) same was)))
            | inr elsewhere ↦
                subst (λ (l : List ArcId). Contains l b)
                (sym (listing-other side nodes n (end_of side r) lists (without_arc a) there elsewhere)) was
          ];
    }

-- the arc that is in no list is taken
pub listing-taken : (side : Side) (nodes : Arena Lists) (arcs : Arena Row) (a : ArcId) (row : Row)
    → find arcs a.id ≡ Some row
    → Listing side nodes arcs (only a) → Listing side nodes (without arcs a.id.place) nothing
listing-taken side nodes arcs a row found listed =
    record {
      once = listed.once;
      arcs_of = λ n b has.
          let was = listed.arcs_of n b has in
          (λ h. h, (was.1.0, find-without_other arcs a.id b.id row found (arc-id a b was.0) ∙ was.1.1, was.1.2));
      all = λ b r _ found_b.
          let other : b ≢ a =
          λ e. none-some r (sym (find-without_own arcs a.id)
          ∙ ap (λ (c : ArcId). find (without arcs a.id.place) c.id) (sym e) ∙ found_b) in
          listed.all b r other (sym (find-without_other arcs a.id b.id row found (arc-id a b other)) ∙ found_b);
    }

-- the row of the arc that is in no list changes
pub listing-rewritten : (side : Side) (nodes : Arena Lists) (arcs : Arena Row) (a : ArcId) (row : Row) (f : Row → Row)
    → find arcs a.id ≡ Some row
    → Listing side nodes arcs (only a) → Listing side nodes (changed_at arcs a.id.place f) (only a)
listing-rewritten side nodes arcs a row f found listed =
    record {
      once = listed.once;
      arcs_of = λ n b has.
          let was = listed.arcs_of n b has in
          (was.0, (was.1.0, find-changed_other arcs a.id b.id row f found (arc-id a b was.0) ∙ was.1.1, was.1.2));
      all = λ b r other found_b.
          listed.all b r other (sym (find-changed_other arcs a.id b.id row f found (arc-id a b other)) ∙ found_b);
    }

-- rows change, their ends on this side stay
pub listing-kept : (side : Side) (nodes : Arena Lists) (arcs new : Arena Row) (E : ArcId → Type 0)
    → ((b : ArcId) (row : Row) → find arcs b.id ≡ Some row
    → (r : Row) × (find new b.id ≡ Some r) × (end_of side r ≡ end_of side row))
    → ((b : ArcId) (r : Row) → find new b.id ≡ Some r
    → (row : Row) × (find arcs b.id ≡ Some row) × (end_of side r ≡ end_of side row))
    → Listing side nodes arcs E → Listing side nodes new E
listing-kept side nodes arcs new E there back listed =
    record {
      once = listed.once;
      arcs_of = λ n b has.
          let was = listed.arcs_of n b has in
          let is = there b was.1.0 was.1.1 in
          (was.0, (is.0, is.1, is.2 ∙ was.1.2));
      all = λ b r free found.
          let was = back b r found in
          subst (λ (n : NodeId). Contains (listing side nodes n) b) (sym was.2) (listed.all b was.0 free was.1);
    }
