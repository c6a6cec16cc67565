-- The lists that links show once an arc is listed first in one of them, or listed no more.
use Rattle.std.proofs.Common.{◌≡◌, ◌≢◌, ℕ, ◌==◌, inl, inr, List, refl, sym, ap, ◌∙◌, subst, subst₂, eq-eqb, ne_eqb}
use Rattle.std.proofs.Common.{Option, Some, None}
use Rattle.std.proofs.lemmas.Bool.{cases_eq}
use Rattle.std.proofs.lemmas.Option.{same_Some}
use Rattle.firm_arena.specs.Arena.{Arena, find, held_at, changed_at, slot_changed}
use Rattle.firm_arena.specs.declared.Id.{Id}
use Rattle.firm_net.specs.Net.{Lists, side_list, with_list}
use Rattle.firm_net.specs.inner.Links.{list_of, with_arc_list, at_option, ShowsList, ShowsNode, ShowsSlot, Shows}
use Rattle.firm_net.specs.declared.row.NodeId.{NodeId}
use Rattle.firm_net.specs.declared.row.ArcId.{ArcId}
use Rattle.firm_net.specs.declared.links.Side.{Side}
use Rattle.firm_net.specs.declared.links.Link.{Link}
use Rattle.firm_net.specs.declared.links.ArcList.{ArcList}
use Rattle.firm_net.specs.declared.links.Node.{Node}
use Rattle.std.proofs.lemmas.Bool.{cond-true, cond-false}
use Rattle.firm_arena.specs.Changes.{find-held, held-find, same_place, held_at-changed_at, capacity_of-changed_at}
use Rattle.firm_net.proofs.Chains.{opposite, cases_side, list-with_same, list-with_opposite, side_list-with_same}
use Rattle.firm_net.proofs.Chains.{side_list-with_opposite, KeptSide, list-kept, IsOf, Touches, kept-opposite}
use Rattle.firm_net.proofs.Chains.{kept-elsewhere}

-- arcs that are there and differ lie at different places
pub places-apart : (links : Arena Link) (a b : ArcId) (la lb : Link) → find links a.id ≡ Some la
    → find links b.id ≡ Some lb
    → a ≢ b → a.id.place ≢ b.id.place
places-apart links a b la lb found_a found_b other places =
    let same = same_place links a.id b.id la lb found_a found_b places in
    other (ap (λ (i : Id). let made : ArcId = record { id = i } in made) same.0)

pub some-apart : (p q : ℕ) → p ≢ q → ◌≢◌ {A = Option ℕ} (Some p) (Some q)
some-apart p q other e = other (same_Some p q e)

slot-shown : (links : Arena Link) (n : NodeId) (node : Node) (two : Option (ℕ × Lists))
    → ShowsSlot links n.id.place (Some (n.id.stamp, node)) two
    → (lists : Lists) × (two ≡ Some (n.id.stamp, lists)) × ShowsNode links n node lists
slot-shown links n node None shows = absurd shows
slot-shown links n node (Some shown) (stamps, lists) =
    (shown.1, ap (λ (t : ℕ). let made : Option (ℕ × Lists) = Some (t, shown.1) in made) (sym stamps), lists)

-- a node that is there is shown, with its lists
pub shown-node : (links : Arena Link) (nodes : Arena Node) (shown : Arena Lists) (n : NodeId) (node : Node)
    → Shows links nodes shown → find nodes n.id ≡ Some node
    → (lists : Lists) × (find shown n.id ≡ Some lists) × ShowsNode links n node lists
shown-node links nodes shown n node shows found =
    let s = slot-shown links n node (held_at shown n.id.place)
    (subst (λ (x : Option (ℕ × Node)). ShowsSlot links n.id.place x (held_at shown n.id.place))
    (find-held nodes n.id node found) (shows.at n.id.place)) in
    (s.0, held-find shown n.id s.0 s.1, s.2)

-- a slot whose node's lists are all kept
slot-kept : (links new : Arena Link) (q : ℕ) (one : Option (ℕ × Node)) (two : Option (ℕ × Lists))
    → ((m : NodeId) → m.id.place ≡ q → (s : Side) (ids : List ArcId) → KeptSide s links new m ids)
    → ShowsSlot links q one two → ShowsSlot new q one two
slot-kept links new q None None kept shows = tt
slot-kept links new q None (Some shown) kept shows = shows
slot-kept links new q (Some node) None kept shows = shows
slot-kept links new q (Some node) (Some shown) kept (stamps, lists) =
    let m : NodeId = record { id = record { place = q; stamp = node.0 } } in (
      stamps,
      λ s. list-kept s links new m (list_of s node.1) (side_list s shown.1) (kept m refl s
          (side_list s shown.1)) (lists s),
    )

-- the slot of the node whose list on one side changes
slot-relisted : (side : Side) (n : NodeId) (links new : Arena Link) (node : Node) (two : Option (ℕ × Lists))
    (list : ArcList)
    (change : List ArcId → List ArcId)
    → ((lists : Lists) → two ≡ Some (n.id.stamp, lists)
    → ShowsList side links n (list_of side node) (side_list side lists)
    → ShowsList side new n list (change (side_list side lists)))
    → ((ids : List ArcId) → KeptSide (opposite side) links new n ids)
    → ShowsSlot links n.id.place (Some (n.id.stamp, node)) two
    → ShowsSlot new n.id.place (Some (n.id.stamp, with_arc_list side list node))
    (slot_changed (with_list side change) two)
slot-relisted side n links new node None list change changes kept shows = shows
slot-relisted side n links new node (Some shown) list change changes kept (stamps, lists) =
    let stands : Some shown ≡ Some (n.id.stamp, shown.1) =
    ap (λ (t : ℕ). let made : Option (ℕ × Lists) = Some (t, shown.1) in made) (sym stamps) in (
      stamps,
      λ s. elim (cases_side s side) [
        | inl same ↦
            subst (λ (t : Side). ShowsList t new n (list_of t (with_arc_list side list node)) (side_list t
            (with_list side change shown.1)))
            (sym same)
            (subst₂ (λ (l : ArcList) (ids : List ArcId). ShowsList side new n l ids)
            (sym (list-with_same side list node)) (sym (side_list-with_same side change shown.1))
            (changes shown.1 stands (lists side)))
        | inr other ↦
            subst (λ (t : Side). ShowsList t new n (list_of t (with_arc_list side list node)) (side_list t
            (with_list side change shown.1)))
            (sym other)
            (subst₂ (λ (l : ArcList) (ids : List ArcId). ShowsList (opposite side) new n l ids)
            (sym (list-with_opposite side list node)) (sym (side_list-with_opposite side change shown.1))
            (list-kept (opposite side) links new n (list_of (opposite side) node) (side_list (opposite side) shown.1)
            (kept (side_list (opposite side) shown.1)) (lists (opposite side))))
      ],
    )

-- one list of one node changes, all others stay
pub relisted : (side : Side) (n : NodeId) (links : Arena Link) (nodes : Arena Node) (shown : Arena Lists) (node : Node)
    (o p : Option ℕ) (f g : Link → Link) (list : ArcList) (change : List ArcId → List ArcId)
    → Shows links nodes shown → find nodes n.id ≡ Some node → Touches side f → Touches side g
    → IsOf side links n o → IsOf side links n p
    → ((lists : Lists) → find shown n.id ≡ Some lists
    → ShowsList side links n (list_of side node) (side_list side lists)
    → ShowsList side (at_option (at_option links o f) p g) n list (change (side_list side lists)))
    → Shows (at_option (at_option links o f) p g) (changed_at nodes n.id.place (with_arc_list side list))
    (changed_at shown n.id.place (with_list side change))
relisted side n links nodes shown node o p f g list change shows found touches_f touches_g of_o of_p changes =
    let new : Arena Link = at_option (at_option links o f) p g in
    record {
      places =
          capacity_of-changed_at nodes n.id.place (with_arc_list side list) ∙ shows.places
          ∙ sym (capacity_of-changed_at shown n.id.place (with_list side change));
      counter = shows.counter;
      at = λ q.
          subst₂ (λ (x : Option (ℕ × Node)) (y : Option (ℕ × Lists)). ShowsSlot new q x y)
          (sym (held_at-changed_at nodes n.id.place q (with_arc_list side list)))
          (sym (held_at-changed_at shown n.id.place q (with_list side change)))
          (elim (cases_eq q n.id.place) [
            | inr other ↦
                subst₂ (λ (x : Option (ℕ × Node)) (y : Option (ℕ × Lists)). ShowsSlot new q x y)
                (sym (cond-false (q == n.id.place) (slot_changed (with_arc_list side list) (held_at nodes q))
                (held_at nodes q) (ne_eqb q n.id.place other)))
                (sym (cond-false (q == n.id.place) (slot_changed (with_list side change) (held_at shown q))
                (held_at shown q) (ne_eqb q n.id.place other)))
                (slot-kept links new q (held_at nodes q) (held_at shown q)
                (λ m at s ids.
                elim (cases_side s side) [
                  | inl same ↦
                      subst (λ (t : Side). KeptSide t links new m ids) (sym same)
                      (kept-elsewhere side links o p f g n m ids of_o of_p
                      (λ e. other (sym at ∙ ap (λ (i : NodeId). i.id.place) e)))
                  | inr opp ↦
                      subst (λ (t : Side). KeptSide t links new m ids) (sym opp)
                      (kept-opposite side links o p f g touches_f touches_g m ids)
                ])
                (shows.at q))
            | inl same ↦
                subst₂ (λ (x : Option (ℕ × Node)) (y : Option (ℕ × Lists)). ShowsSlot new q x y)
                (sym (cond-true (q == n.id.place) (slot_changed (with_arc_list side list) (held_at nodes q))
                (held_at nodes q) (eq-eqb q n.id.place same)))
                (sym (cond-true (q == n.id.place) (slot_changed (with_list side change) (held_at shown q))
                (held_at shown q) (eq-eqb q n.id.place same)))
                (subst (λ (k : ℕ). ShowsSlot new k (slot_changed (with_arc_list side list)
                (held_at nodes k)) (slot_changed (with_list side change) (held_at shown k)))
                (sym same)
                (subst (λ (x : Option (ℕ × Node)).
                ShowsSlot new n.id.place (slot_changed (with_arc_list side list) x)
                (slot_changed (with_list side change) (held_at shown n.id.place)))
                (sym (find-held nodes n.id node found))
                (slot-relisted side n links new node (held_at shown n.id.place) list change
                (λ lists stands. changes lists (held-find shown n.id lists stands))
                (λ ids. kept-opposite side links o p f g touches_f touches_g n ids)
                (subst (λ (x : Option (ℕ × Node)). ShowsSlot links n.id.place x (held_at shown n.id.place))
                (find-held nodes n.id node found) (shows.at n.id.place)))))
          ]);
    }
