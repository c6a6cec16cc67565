-- The lists that links show stay where an arc comes or goes that is in none, or where rows change; and the lists that
-- are shown are the walks.
use Rattle.std.proofs.Common.{◌≡◌, ◌≢◌, ℕ, suc, ◌+◌, ◌<◌, ◌==◌, inl, inr, true, false, cond, List, [], ◌∷◌, length}
use Rattle.std.proofs.Common.{length-set, Contains, refl, sym, ap, ap₂, ◌∙◌, subst, subst₂, eq-eqb, ne_eqb, Option}
use Rattle.std.proofs.Common.{Some, None, option_map}
use Rattle.std.proofs.lemmas.Bool.{cases_eq}
use Rattle.std.proofs.lemmas.Option.{none-some}
use Rattle.firm_arena.specs.Arena.{Arena, find, held_at, capacity_of, with_put, without, changed_at, changed_all}
use Rattle.firm_arena.specs.Arena.{slot_changed}
use Rattle.firm_arena.specs.declared.Id.{Id}
use Rattle.firm_net.specs.Row.{Row}
use Rattle.firm_net.specs.Net.{Lists, Net, side_list, end_of, row_at, rows_of, with_its_row}
use Rattle.firm_net.specs.inner.Links.{neighbours_of, list_of, empty_node, walk, walk_rows, arcs_in, lists_of}
use Rattle.firm_net.specs.inner.Links.{nodes_shown}
use Rattle.firm_net.specs.inner.Links.{IsChain, ShowsList, ShowsSlot, Shows}
use Rattle.firm_net.specs.declared.row.NodeId.{NodeId}
use Rattle.firm_net.specs.declared.row.ArcId.{ArcId}
use Rattle.firm_net.specs.declared.links.Side.{Side}
use Rattle.firm_net.specs.declared.links.Side.TheVariants.{Out, In}
use Rattle.firm_net.specs.declared.links.Link.{Link}
use Rattle.firm_net.specs.declared.links.Node.{Node}
use Rattle.std.proofs.lemmas.Bool.{cond-true, cond-false}
use Rattle.firm_arena.specs.Changes.{find-held, held-find, same_arenas, find-changed_at, find-changed_all}
use Rattle.firm_arena.specs.Changes.{find-with_put, find-without, find-nothing, held_at-changed_all, held_at-with_put}
use Rattle.firm_arena.specs.Changes.{held_at-without, capacity_of-changed_all, same_place}
use Rattle.firm_net.proofs.Chains.{KeptSide, list-kept}
use Rattle.firm_net.proofs.Relists.{places-apart}

slot-framed : (links new : Arena Link) (q : ℕ) (one : Option (ℕ × Node)) (two : Option (ℕ × Lists))
    → ((n : NodeId) (lists : Lists) → n.id.place ≡ q → two ≡ Some (n.id.stamp, lists) → (s : Side)
    → KeptSide s links new n (side_list s lists))
    → ShowsSlot links q one two → ShowsSlot new q one two
slot-framed links new q None None kept shows = tt
slot-framed links new q None (Some shown) kept shows = shows
slot-framed links new q (Some node) None kept shows = shows
slot-framed links new q (Some node) (Some shown) kept (stamps, lists) =
    let m : NodeId = record { id = record { place = q; stamp = node.0 } } in (
      stamps,
      λ s. list-kept s links new m (list_of s node.1) (side_list s shown.1)
          (kept m shown.1 refl (ap (λ (t : ℕ). let made : Option (ℕ × Lists) = Some (t, shown.1) in made) (sym stamps))
          s)
          (lists s),
    )

-- links that keep the arcs of every list show the same lists
pub shows-framed : (links new : Arena Link) (nodes : Arena Node) (shown : Arena Lists)
    → ((n : NodeId) (lists : Lists) → find shown n.id ≡ Some lists → (s : Side)
    → KeptSide s links new n (side_list s lists))
    → Shows links nodes shown → Shows new nodes shown
shows-framed links new nodes shown kept shows =
    record {
      places = shows.places;
      counter = shows.counter;
      at = λ q. slot-framed links new q (held_at nodes q) (held_at shown q)
          (λ n lists at stands.
          kept n lists (held-find shown n.id lists
          (subst (λ (k : ℕ). held_at shown k ≡ Some (n.id.stamp, lists)) (sym at) stands)))
          (shows.at q);
    }

-- an arc is put at a vacant place
pub shows-put : (links : Arena Link) (nodes : Arena Node) (shown : Arena Lists) (p : ℕ) (link : Link)
    → p < capacity_of links → held_at links p ≡ None → Shows links nodes shown
    → Shows (with_put links p link) nodes shown
shows-put links nodes shown p link below nothing shows =
    shows-framed links (with_put links p link) nodes shown
    (λ n lists there s a l has found end.
    let other : a.id.place ≢ p =
    λ e. none-some l (sym (find-nothing links a.id (ap (λ (k : ℕ). held_at links k) e ∙ nothing)) ∙ found) in (
      l,
      find-with_put links p link a.id below
          ∙ cond-false (a.id.place == p) (cond (links.counter == a.id.stamp) (Some link) None) (find links a.id)
          (ne_eqb a.id.place p other)
          ∙ found,
      refl,
      end,
    ))
    shows

-- an arc that no list has is taken
pub shows-taken : (links : Arena Link) (nodes : Arena Node) (shown : Arena Lists) (a : ArcId) (la : Link)
    → find links a.id ≡ Some la
    → ((n : NodeId) (lists : Lists) → find shown n.id ≡ Some lists → (s : Side) → Contains (side_list s lists) a → ⊥)
    → Shows links nodes shown → Shows (without links a.id.place) nodes shown
shows-taken links nodes shown a la found_a absent shows =
    shows-framed links (without links a.id.place) nodes shown
    (λ n lists there s b l has found end.
    let other : b.id.place ≢ a.id.place =
    places-apart links b a l la found found_a
    (λ e. absent n lists there s (subst (λ (c : ArcId). Contains (side_list s lists) c) e has)) in (
      l,
      find-without links a.id.place b.id
          ∙ cond-false (b.id.place == a.id.place) None (find links b.id) (ne_eqb b.id.place a.id.place other)
          ∙ found,
      refl,
      end,
    ))
    shows

-- a row changes, and with it only ends in lists that have not the arc
pub shows-changed : (links : Arena Link) (nodes : Arena Node) (shown : Arena Lists) (a : ArcId) (la : Link)
    (f : Link → Link)
    → find links a.id ≡ Some la
    → ((s : Side) → neighbours_of s (f la) ≡ neighbours_of s la)
    → ((n : NodeId) (lists : Lists) → find shown n.id ≡ Some lists → (s : Side) → Contains (side_list s lists) a
    → end_of s (f la).row ≡ end_of s la.row)
    → Shows links nodes shown → Shows (changed_at links a.id.place f) nodes shown
shows-changed links nodes shown a la f found_a around ends shows =
    shows-framed links (changed_at links a.id.place f) nodes shown
    (λ n lists there s b l has found end.
    elim (cases_eq b.id.place a.id.place) [
      | inl same ↦
          let one = same_place links b.id a.id l la found found_a same in
          let is_a : b ≡ a = ap (λ (i : Id). let made : ArcId = record { id = i } in made) one.0 in (
            f l,
            find-changed_at links a.id.place f b.id
                ∙ cond-true (b.id.place == a.id.place) (option_map f (find links b.id)) (find links b.id)
                (eq-eqb b.id.place a.id.place same)
                ∙ ap (λ (x : Option Link). option_map f x) found,
            subst (λ (k : Link). neighbours_of s (f k) ≡ neighbours_of s k) (sym one.1) (around s),
            subst (λ (k : Link). end_of s (f k).row ≡ end_of s k.row) (sym one.1)
                (ends n lists there s (subst (λ (c : ArcId). Contains (side_list s lists) c) is_a has)) ∙ end,
          )
      | inr other ↦ (
        l,
        find-changed_at links a.id.place f b.id
            ∙ cond-false (b.id.place == a.id.place) (option_map f (find links b.id)) (find links b.id)
            (ne_eqb b.id.place a.id.place other)
            ∙ found,
        refl,
        end,
      )
    ])
    shows

-- every row changes but for its ends
pub shows-changed_all : (links : Arena Link) (nodes : Arena Node) (shown : Arena Lists) (f : Link → Link)
    → ((s : Side) (link : Link) → neighbours_of s (f link) ≡ neighbours_of s link)
    → ((s : Side) (link : Link) → end_of s (f link).row ≡ end_of s link.row)
    → Shows links nodes shown → Shows (changed_all links f) nodes shown
shows-changed_all links nodes shown f around ends shows =
    shows-framed links (changed_all links f) nodes shown
    (λ n lists there s b l has found end.
    (f l, find-changed_all links f b.id ∙ ap (λ (x : Option Link). option_map f x) found, around s l, ends s l ∙ end))
    shows

-- a node without arcs is put at a vacant place
pub shows-node : (links : Arena Link) (nodes : Arena Node) (shown : Arena Lists) (p : ℕ)
    → p < capacity_of nodes → Shows links nodes shown
    → Shows links (with_put nodes p empty_node) (with_put shown p (record { outgoing = []; incoming = [] }))
shows-node links nodes shown p below shows =
    let none : Lists = record { outgoing = []; incoming = [] } in
    record {
      places =
          length-set nodes.held p (Some (nodes.counter, empty_node)) ∙ shows.places
          ∙ sym (length-set shown.held p (Some (shown.counter, none)));
      counter = ap (λ (n : ℕ). n + 1) shows.counter;
      at = λ q.
          subst₂ (λ (x : Option (ℕ × Node)) (y : Option (ℕ × Lists)). ShowsSlot links q x y)
          (sym (held_at-with_put nodes p q empty_node below))
          (sym (held_at-with_put shown p q none (subst (λ (k : ℕ). p < k) shows.places below)))
          (elim (q == p) as (λ b. ShowsSlot links q (cond b (Some (nodes.counter, empty_node)) (held_at nodes q)) (cond
          b (Some (shown.counter, none)) (held_at shown q))) [
            | true ↦ (
              shows.counter,
              λ s. elim s as (λ t.
                  ShowsList t links (record { id = record { place = q; stamp = nodes.counter } }) (list_of t empty_node)
                  (side_list t none)) [
                    | Out ↦ record { chain = refl; count = refl }
                    | In ↦ record { chain = refl; count = refl }
                  ],
            )
            | false ↦ shows.at q
          ]);
    }

-- what lies at a place goes on both sides
pub shows-unnode : (links : Arena Link) (nodes : Arena Node) (shown : Arena Lists) (p : ℕ)
    → Shows links nodes shown → Shows links (without nodes p) (without shown p)
shows-unnode links nodes shown p shows =
    record {
      places =
          length-set nodes.held p None ∙ shows.places
          ∙ sym (length-set shown.held p None);
      counter = shows.counter;
      at = λ q.
          subst₂ (λ (x : Option (ℕ × Node)) (y : Option (ℕ × Lists)). ShowsSlot links q x y)
          (sym (held_at-without nodes p q)) (sym (held_at-without shown p q))
          (elim (q == p) as (λ b. ShowsSlot links q (cond b None (held_at nodes q)) (cond b None (held_at shown q))) [
            | true ↦ tt
            | false ↦ shows.at q
          ]);
    }

-- one step of a walk, at what lies at a place
abbrev walk-slot : Side → Arena Link → ℕ → ℕ → Option (ℕ × Link) → List ArcId
walk-slot side links n place slot =
    elim slot [
      | None ↦ []
      | Some own ↦
          record { id = record { place = place; stamp = own.0 } } ∷ walk side links n (neighbours_of side own.1).next
    ]

abbrev walk_rows-slot : Side → Arena Link → ℕ → ℕ → Option (ℕ × Link) → List (ArcId × Row)
walk_rows-slot side links n place slot =
    elim slot [
      | None ↦ []
      | Some own ↦
          (record { id = record { place = place; stamp = own.0 } }, own.1.row)
          ∷ walk_rows side links n (neighbours_of side own.1).next
    ]

-- the walk along a chain meets its arcs
pub walk-chain : (side : Side) (links : Arena Link) (n : NodeId) (before from : Option ℕ) (ids : List ArcId)
    → IsChain side links n before from ids → walk side links (length ids) from ≡ ids
walk-chain side links n before from [] chain = refl
walk-chain side links n before from (a ∷ rest) (link, stands, chain) =
    ap (λ (o : Option ℕ). walk side links (suc (length rest)) o) stands.starts
    ∙ ap (λ (slot : Option (ℕ × Link)). walk-slot side links (length rest) a.id.place slot)
    (find-held links a.id link stands.found)
    ∙ ap (λ (ids : List ArcId). a ∷ ids)
    (walk-chain side links n (Some a.id.place) (neighbours_of side link).next rest chain)

-- and the walk with rows meets them with their rows
pub walk_rows-chain : (side : Side) (links : Arena Link) (net : Net) (n : NodeId) (before from : Option ℕ)
    (ids : List ArcId)
    → ((a : ArcId) → row_at net a ≡ option_map (λ link. link.row) (find links a.id))
    → IsChain side links n before from ids → walk_rows side links (length ids) from ≡ rows_of net ids
walk_rows-chain side links net n before from [] rows chain = refl
walk_rows-chain side links net n before from (a ∷ rest) rows (link, stands, chain) =
    let is_row : row_at net a ≡ Some link.row =
    rows a ∙ ap (λ (x : Option Link). option_map (λ l. l.row) x) stands.found in
    ap (λ (o : Option ℕ). walk_rows side links (suc (length rest)) o) stands.starts
    ∙ ap (λ (slot : Option (ℕ × Link)). walk_rows-slot side links (length rest) a.id.place slot)
    (find-held links a.id link stands.found)
    ∙ ap (λ (l : List (ArcId × Row)). (a, link.row) ∷ l)
    (walk_rows-chain side links net n (Some a.id.place) (neighbours_of side link).next rest rows chain)
    ∙ sym (ap (λ (o : Option Row). with_its_row net a o (rows_of net rest)) is_row)

slot-walks : (links : Arena Link) (q : ℕ) (one : Option (ℕ × Node)) (two : Option (ℕ × Lists))
    → ShowsSlot links q one two
    → slot_changed (lists_of links) one ≡ two
slot-walks links q None None shows = refl
slot-walks links q None (Some shown) shows = absurd shows
slot-walks links q (Some node) None shows = absurd shows
slot-walks links q (Some node) (Some shown) (stamps, lists) =
    let m : NodeId = record { id = record { place = q; stamp = node.0 } } in
    let one : (s : Side) → arcs_in s links node.1 ≡ side_list s shown.1 =
    λ s. ap (λ (k : ℕ). walk s links k (list_of s node.1).first) (lists s).count
    ∙ walk-chain s links m None (list_of s node.1).first (side_list s shown.1) (lists s).chain in
    let both : lists_of links node.1 ≡ shown.1 =
    ap₂ (λ (o i : List ArcId). let made : Lists = record { outgoing = o; incoming = i } in made) (one Out) (one In) in
    ap₂ (λ (t : ℕ) (l : Lists). let made : Option (ℕ × Lists) = Some (t, l) in made) stamps both

-- the lists that are shown are those that the links name
pub shows-walks : (links : Arena Link) (nodes : Arena Node) (shown : Arena Lists) → Shows links nodes shown
    → nodes_shown links nodes ≡ shown
shows-walks links nodes shown shows =
    same_arenas (nodes_shown links nodes) shown (capacity_of-changed_all nodes (lists_of links) ∙ shows.places)
    shows.counter
    (λ q. held_at-changed_all nodes q (lists_of links)
    ∙ slot-walks links q (held_at nodes q) (held_at shown q) (shows.at q))
