-- The chain of a list that an arc joins at its front, and of one that an arc leaves.
use Rattle.std.proofs.Common.{◌≡◌, ◌≢◌, ℕ, ◌⊎◌, inl, inr, List, [], ◌∷◌, Contains, refl, sym, ap, ◌∙◌, subst, subst₂}
use Rattle.std.proofs.Common.{arith, Option, Some, None}
use Rattle.std.proofs.lemmas.Option.{none-some, same_Some}
use Rattle.firm_arena.specs.Arena.{Arena, find, changed_at}
use Rattle.firm_arena.specs.declared.Id.{Id}
use Rattle.firm_net.specs.Row.{Row}
use Rattle.firm_net.specs.Net.{Lists, side_list, end_of, EachOnce, without_arc, linked_at_front, unlinked}
use Rattle.firm_net.specs.inner.Links.{neighbours_of, with_neighbours, with_next, with_previous, list_of, with_arc_list}
use Rattle.firm_net.specs.inner.Links.{at_option, list_from, list_past, first_past, links_from, links_past, IsChain}
use Rattle.firm_net.specs.inner.Links.{ShowsList, Shows}
use Rattle.firm_net.specs.declared.row.NodeId.{NodeId}
use Rattle.firm_net.specs.declared.row.ArcId.{ArcId}
use Rattle.firm_net.specs.declared.links.Side.{Side}
use Rattle.firm_net.specs.declared.links.Neighbours.{Neighbours}
use Rattle.firm_net.specs.declared.links.Link.{Link}
use Rattle.firm_net.specs.declared.links.ArcList.{ArcList}
use Rattle.firm_net.specs.declared.links.Node.{Node}
use Rattle.firm_arena.specs.Changes.{same_place}
use Rattle.firm_net.proofs.Lists.{contains-here, contains-there, contains-nothing, contains-cases, without_arc-first}
use Rattle.firm_net.proofs.Lists.{without_arc-other, length-without}
use Rattle.firm_net.specs.Laws.{same_arc_or_not}
use Rattle.firm_net.proofs.Chains.{neighbours-with_same, row-with_neighbours, chain-kept, chain-found, first-of}
use Rattle.firm_net.proofs.Chains.{find-at_option_other, find-at_option_same, touches-next, touches-previous}
use Rattle.firm_net.proofs.Chains.{touches-neighbours}
use Rattle.firm_net.proofs.Relists.{places-apart, some-apart, shown-node, relisted}

-- an arc that a list has not is not its first
not-first : (side : Side) (links : Arena Link) (n : NodeId) (before from : Option ℕ) (ids : List ArcId) (a : ArcId)
    (la : Link)
    → IsChain side links n before from ids → find links a.id ≡ Some la → (Contains ids a → ⊥) → from ≢ Some a.id.place
not-first side links n before from [] a la chain found absent e = none-some a.id.place (sym chain ∙ e)
not-first side links n before from (b ∷ rest) a la (lb, stands, chain) found absent e =
    let other : a ≢ b =
    λ same. absent (subst (λ (c : ArcId). Contains (b ∷ rest) c) (sym same) (contains-here b rest)) in
    places-apart links a b la lb found stands.found other (same_Some a.id.place b.id.place (sym e ∙ stands.starts))

-- a list whose first arc gets another arc before it, where the links of the others stay the same
joined : (side : Side) (links : Arena Link) (n : NodeId) (first : Option ℕ) (ids : List ArcId) (a : ArcId) (la : Link)
    → EachOnce ids → (Contains ids a → ⊥) → find links a.id ≡ Some la → IsChain side links n None first ids
    → IsChain side (links_from side a.id.place first links) n (Some a.id.place) first ids
joined side links n first [] a la once absent found chain = chain
joined side links n first (h ∷ rest) a la once absent found (lh, stands, chain) =
    let fresh : Neighbours = record { next = first; previous = None } in
    let middle : Arena Link = at_option links (Some a.id.place) (with_neighbours side fresh) in
    let differs : (b : ArcId) (lb : Link) → Contains (h ∷ rest) b → find links b.id ≡ Some lb
    → ◌≢◌ {A = Option ℕ} (Some a.id.place) (Some b.id.place) =
    λ b lb k f. some-apart a.id.place b.id.place
    (places-apart links a b la lb found f (λ e. absent (subst (λ (c : ArcId). Contains (h ∷ rest) c) (sym e) k))) in
    let in_middle : find middle h.id ≡ Some lh =
    find-at_option_other links (Some a.id.place) (with_neighbours side fresh) h.id
    (differs h lh (contains-here h rest) stands.found)
    ∙ stands.found in
    let around : Neighbours = record { next = (neighbours_of side lh).next; previous = Some a.id.place } in
    let is_around : neighbours_of side (with_previous side (Some a.id.place) lh) ≡ around =
    neighbours-with_same side around lh in (
      with_previous side (Some a.id.place) lh,
      record {
        starts = stands.starts;
        found = find-at_option_same middle first (with_previous side (Some a.id.place)) h.id lh stands.starts in_middle;
        end = ap (λ (row : Row). end_of side row) (row-with_neighbours side around lh) ∙ stands.end;
        behind = ap (λ (k : Neighbours). k.previous) is_around;
      },
      subst (λ (k : Neighbours). IsChain side (links_from side a.id.place first links) n (Some h.id.place) k.next rest)
          (sym is_around)
          (chain-kept side links (links_from side a.id.place first links) n (Some h.id.place)
          (neighbours_of side lh).next rest
          (λ b lb k f e.
          let apart : first ≢ Some b.id.place =
          λ w. places-apart links h b lh lb stands.found f
          (λ same. once.0 (subst (λ (c : ArcId). Contains rest c) (sym same) k))
          (same_Some h.id.place b.id.place (sym stands.starts ∙ w)) in (
            lb,
            find-at_option_other middle first (with_previous side (Some a.id.place)) b.id apart
                ∙ find-at_option_other links (Some a.id.place) (with_neighbours side fresh) b.id
                (differs b lb (contains-there h rest b k) f)
                ∙ f,
            refl,
            e,
          ))
          chain),
    )

-- a list with an arc more, first
list-joined : (side : Side) (links : Arena Link) (n : NodeId) (list : ArcList) (ids : List ArcId) (a : ArcId)
    (la : Link)
    → EachOnce ids → (Contains ids a → ⊥) → find links a.id ≡ Some la → end_of side la.row ≡ n
    → ShowsList side links n list ids
    → ShowsList side (links_from side a.id.place list.first links) n (list_from a.id.place list) (a ∷ ids)
list-joined side links n list ids a la once absent found end shows =
    let fresh : Neighbours = record { next = list.first; previous = None } in
    let middle : Arena Link = at_option links (Some a.id.place) (with_neighbours side fresh) in
    let is_fresh : neighbours_of side (with_neighbours side fresh la) ≡ fresh = neighbours-with_same side fresh la in
    record {
      chain = (
        with_neighbours side fresh la,
        record {
          starts = refl;
          found =
              find-at_option_other middle list.first (with_previous side (Some a.id.place)) a.id
              (not-first side links n None list.first ids a la shows.chain found absent)
              ∙ find-at_option_same links (Some a.id.place) (with_neighbours side fresh) a.id la refl found;
          end = ap (λ (row : Row). end_of side row) (row-with_neighbours side fresh la) ∙ end;
          behind = ap (λ (k : Neighbours). k.previous) is_fresh;
        },
        subst (λ (k : Neighbours).
            IsChain side (links_from side a.id.place list.first links) n (Some a.id.place) k.next ids)
            (sym is_fresh)
            (joined side links n list.first ids a la once absent found shows.chain),
      );
      count = omega (arith, shows.count);
    }

-- an arc of this node's side is listed first
pub shows-listed : (side : Side) (n : NodeId) (links : Arena Link) (nodes : Arena Node) (shown : Arena Lists)
    (node : Node) (a : ArcId) (la : Link)
    → Shows links nodes shown → find nodes n.id ≡ Some node → find links a.id ≡ Some la → end_of side la.row ≡ n
    → ((lists : Lists) → find shown n.id ≡ Some lists → EachOnce (side_list side lists))
    → ((lists : Lists) → find shown n.id ≡ Some lists → Contains (side_list side lists) a → ⊥)
    → Shows (links_from side a.id.place (list_of side node).first links)
    (changed_at nodes n.id.place (with_arc_list side (list_from a.id.place (list_of side node))))
    (linked_at_front side a n shown)
shows-listed side n links nodes shown node a la shows there found end once absent =
    let own = shown-node links nodes shown n node shows there in
    let chain : IsChain side links n None (list_of side node).first (side_list side own.0) = (own.2 side).chain in
    let fresh : Neighbours = record { next = (list_of side node).first; previous = None } in
    relisted side n links nodes shown node (Some a.id.place) (list_of side node).first
    (with_neighbours side fresh) (with_previous side (Some a.id.place)) (list_from a.id.place (list_of side node))
    (λ ids. a ∷ ids)
    shows there (touches-neighbours side fresh) (touches-previous side (Some a.id.place))
    (λ p e. (a, la, same_Some a.id.place p e, found, end))
    (first-of side links n None (list_of side node).first (side_list side own.0) chain)
    (λ lists stands shows_list.
    list-joined side links n (list_of side node) (side_list side lists) a la (once lists stands) (absent lists stands)
    found end shows_list)

-- where the neighbours before an arc and the arc itself stand in a chain
before-of : (side : Side) (links : Arena Link) (n : NodeId) (before from : Option ℕ) (ids : List ArcId) (a : ArcId)
    (la : Link)
    → IsChain side links n before from ids → Contains ids a → find links a.id ≡ Some la
    → (((neighbours_of side la).previous ≡ before) × (from ≡ Some a.id.place))
    ⊎ ((z : ArcId) × Contains ids z × ((neighbours_of side la).previous ≡ Some z.id.place) × (from ≢ Some a.id.place))
before-of side links n before from [] a la chain has found = absurd (contains-nothing a has)
before-of side links n before from (x ∷ rest) a la (lx, stands, chain) has found =
    elim (same_arc_or_not x a) [
      | inl same ↦
          let e : lx ≡ la =
          same_Some lx la (sym stands.found ∙ ap (λ (c : ArcId). find links c.id) same ∙ found) in
          inl (
            ap (λ (l : Link). (neighbours_of side l).previous) (sym e) ∙ stands.behind,
            stands.starts ∙ ap (λ (c : ArcId). let made : Option ℕ = Some c.id.place in made) same,
          )
      | inr other ↦
          let not_here : from ≢ Some a.id.place =
          λ e. places-apart links x a lx la stands.found found other
          (same_Some x.id.place a.id.place (sym stands.starts ∙ e)) in
          elim (contains-cases x rest a has) [
            | inl is ↦ absurd (other is)
            | inr later ↦
                elim (before-of side links n (Some x.id.place) (neighbours_of side lx).next rest a la chain later
                found) [
                  | inl first ↦ inr (x, contains-here x rest, first.0, not_here)
                  | inr inside ↦ inr (inside.0, contains-there x rest inside.0 inside.1, inside.2, not_here)
                ]
          ]
    ]

-- the first arc of a chain
head-of : (side : Side) (links : Arena Link) (n : NodeId) (before from : Option ℕ) (ids : List ArcId)
    → IsChain side links n before from ids → (p : ℕ) → from ≡ Some p → (z : ArcId) × Contains ids z × (z.id.place ≡ p)
head-of side links n before from [] chain p e = absurd (none-some p (sym chain ∙ e))
head-of side links n before from (x ∷ rest) (lx, stands, chain) p e =
    (x, contains-here x rest, same_Some x.id.place p (sym stands.starts ∙ e))

-- what stands behind an arc in a chain stands in the chain
behind-of : (side : Side) (links : Arena Link) (n : NodeId) (before from : Option ℕ) (ids : List ArcId) (a : ArcId)
    (la : Link)
    → EachOnce ids → IsChain side links n before from ids → Contains ids a → find links a.id ≡ Some la
    → (p : ℕ) → (neighbours_of side la).next ≡ Some p → (z : ArcId) × Contains ids z × (z.id.place ≡ p)
behind-of side links n before from [] a la once chain has found p e = absurd (contains-nothing a has)
behind-of side links n before from (x ∷ rest) a la once (lx, stands, chain) has found p e =
    elim (same_arc_or_not x a) [
      | inl same ↦
          let is : lx ≡ la =
          same_Some lx la (sym stands.found ∙ ap (λ (c : ArcId). find links c.id) same ∙ found) in
          let z = head-of side links n (Some x.id.place) (neighbours_of side lx).next rest chain p
          (ap (λ (l : Link). (neighbours_of side l).next) is ∙ e) in
          (z.0, contains-there x rest z.0 z.1, z.2)
      | inr other ↦
          elim (contains-cases x rest a has) [
            | inl is ↦ absurd (other is)
            | inr later ↦
                let z = behind-of side links n (Some x.id.place) (neighbours_of side lx).next rest a la once.1 chain
                later found p e in
                (z.0, contains-there x rest z.0 z.1, z.2)
          ]
    ]

-- the chain after the arc that leaves, where the arc is its first
left-first : (side : Side) (links : Arena Link) (n : NodeId) (x : ArcId) (lx : Link) (rest : List ArcId)
    → EachOnce rest → ((b : ArcId) → Contains rest b → (neighbours_of side lx).previous ≢ Some b.id.place)
    → IsChain side links n (Some x.id.place) (neighbours_of side lx).next rest
    → IsChain side (links_past side (neighbours_of side lx) links) n (neighbours_of side lx).previous
    (neighbours_of side lx).next rest
left-first side links n x lx [] once apart chain = chain
left-first side links n x lx (h ∷ rest) once apart (lh, stands, chain) =
    let around : Neighbours = neighbours_of side lx in
    let middle : Arena Link = at_option links around.previous (with_next side around.next) in
    let skipped : Neighbours = record { next = (neighbours_of side lh).next; previous = around.previous } in
    let is_skipped : neighbours_of side (with_previous side around.previous lh) ≡ skipped =
    neighbours-with_same side skipped lh in (
      with_previous side around.previous lh,
      record {
        starts = stands.starts;
        found =
            find-at_option_same middle around.next (with_previous side around.previous) h.id lh stands.starts
            (find-at_option_other links around.previous (with_next side around.next) h.id
            (apart h (contains-here h rest)) ∙ stands.found);
        end = ap (λ (row : Row). end_of side row) (row-with_neighbours side skipped lh) ∙ stands.end;
        behind = ap (λ (k : Neighbours). k.previous) is_skipped;
      },
      subst (λ (k : Neighbours). IsChain side (links_past side around links) n (Some h.id.place) k.next rest)
          (sym is_skipped)
          (chain-kept side links (links_past side around links) n (Some h.id.place) (neighbours_of side lh).next rest
          (λ b lb k f e.
          let later : around.next ≢ Some b.id.place =
          λ w. places-apart links h b lh lb stands.found f
          (λ same. once.0 (subst (λ (c : ArcId). Contains rest c) (sym same) k))
          (same_Some h.id.place b.id.place (sym stands.starts ∙ w)) in (
            lb,
            find-at_option_other middle around.next (with_previous side around.previous) b.id later
                ∙ find-at_option_other links around.previous (with_next side around.next) b.id
                (apart b (contains-there h rest b k))
                ∙ f,
            refl,
            e,
          ))
          chain),
    )

place-same : (links : Arena Link) (a b : ArcId) (la lb : Link) → find links a.id ≡ Some la → find links b.id ≡ Some lb
    → a.id.place ≡ b.id.place → a ≡ b
place-same links a b la lb found_a found_b places =
    ap (λ (i : Id). let made : ArcId = record { id = i } in made)
    (same_place links a.id b.id la lb found_a found_b places).0

-- an arc of the chain, as the one that a place names
of-member : (side : Side) (links : Arena Link) (n : NodeId) (from : Option ℕ) (ids : List ArcId)
    → IsChain side links n None from ids
    → (z : ArcId) → Contains ids z → (p : ℕ) → z.id.place ≡ p
    → (b : ArcId) × (link : Link) × (b.id.place ≡ p) × (find links b.id ≡ Some link) × (end_of side link.row ≡ n)
of-member side links n from ids chain z has p e =
    let there = chain-found side links n None from ids chain z has in
    (z, there.0, e, there.1, there.2)

-- the chain without the arc that leaves: it begins after it where the arc is the first, and else as before
left : (side : Side) (links : Arena Link) (n : NodeId) (before from : Option ℕ) (ids : List ArcId) (a : ArcId)
    (la : Link)
    → EachOnce ids → ((b : ArcId) → Contains ids b → before ≢ Some b.id.place)
    → IsChain side links n before from ids → Contains ids a → find links a.id ≡ Some la
    → (from ≡ Some a.id.place
    → IsChain side (links_past side (neighbours_of side la) links) n before (neighbours_of side la).next
    (without_arc a ids))
    × (from ≢ Some a.id.place
    → IsChain side (links_past side (neighbours_of side la) links) n before from (without_arc a ids))
left side links n before from [] a la once apart chain has found = absurd (contains-nothing a has)
left side links n before from (x ∷ rest) a la once apart (lx, stands, chain) has found =
    elim (same_arc_or_not a x) [
      | inl same ↦
          let is : lx ≡ la =
          same_Some lx la (sym stands.found ∙ ap (λ (c : ArcId). find links c.id) (sym same) ∙ found) in
          let remains : without_arc a (x ∷ rest) ≡ rest =
          ap (λ (c : ArcId). without_arc c (x ∷ rest)) same ∙ without_arc-first x rest once.0 in
          let joined_up : IsChain side (links_past side (neighbours_of side lx) links) n before
          (neighbours_of side lx).next rest =
          subst (λ (o : Option ℕ).
          IsChain side (links_past side (neighbours_of side lx) links) n o (neighbours_of side lx).next rest)
          stands.behind
          (left-first side links n x lx rest once.1
          (λ b k e. apart b (contains-there x rest b k) (sym stands.behind ∙ e)) chain) in
          let starts : from ≡ Some a.id.place =
          stands.starts ∙ ap (λ (c : ArcId). let made : Option ℕ = Some c.id.place in made) (sym same) in (
            λ _. subst₂ (λ (l : Link) (ids : List ArcId).
                IsChain side (links_past side (neighbours_of side l) links) n before (neighbours_of side l).next ids)
                is (sym remains) joined_up,
            λ other. absurd (other starts),
          )
      | inr other ↦
          let later : Contains rest a =
          elim (contains-cases x rest a has) [ inl is ↦ absurd (other (sym is)) | inr k ↦ k ] in
          let around : Neighbours = neighbours_of side la in
          let new : Arena Link = links_past side around links in
          let middle : Arena Link = at_option links around.previous (with_next side around.next) in
          let differs : (b : ArcId) → Contains rest b → x.id.place ≢ b.id.place =
          λ b k. let there = chain-found side links n (Some x.id.place) (neighbours_of side lx).next rest chain b k in
          places-apart links x b lx there.0 stands.found there.1
          (λ e. once.0 (subst (λ (c : ArcId). Contains rest c) (sym e) k)) in
          let not_behind : around.next ≢ Some x.id.place =
          λ e. let z =
          behind-of side links n (Some x.id.place) (neighbours_of side lx).next rest a la once.1 chain later found
          x.id.place e in
          differs z.0 z.1 (sym z.2) in
          let further = left side links n (Some x.id.place) (neighbours_of side lx).next rest a la once.1
          (λ b k. some-apart x.id.place b.id.place (differs b k)) chain later found in
          let remains : without_arc a (x ∷ rest) ≡ x ∷ without_arc a rest = without_arc-other a x rest other in (
            λ e. absurd (other
                (place-same links a x la lx found stands.found
                (same_Some a.id.place x.id.place (sym e ∙ stands.starts)))),
            λ _. subst (λ (ids : List ArcId). IsChain side new n before from ids) (sym remains)
                (elim (before-of side links n (Some x.id.place) (neighbours_of side lx).next rest a la chain later
                found) [
                  | inl first ↦
                      let skipped : Neighbours =
                      record { next = around.next; previous = (neighbours_of side lx).previous } in
                      let is_skipped : neighbours_of side (with_next side around.next lx) ≡ skipped =
                      neighbours-with_same side skipped lx in (
                        with_next side around.next lx,
                        record {
                          starts = stands.starts;
                          found =
                              find-at_option_other middle around.next (with_previous side around.previous) x.id
                              not_behind
                              ∙ find-at_option_same links around.previous (with_next side around.next) x.id lx first.0
                              stands.found;
                          end = ap (λ (row : Row). end_of side row) (row-with_neighbours side skipped lx) ∙ stands.end;
                          behind = ap (λ (k : Neighbours). k.previous) is_skipped ∙ stands.behind;
                        },
                        subst (λ (k : Neighbours). IsChain side new n (Some x.id.place) k.next (without_arc a rest))
                            (sym is_skipped) (further.0 first.1),
                      )
                  | inr inside ↦ (
                    lx,
                    record {
                      starts = stands.starts;
                      found =
                          find-at_option_other middle around.next (with_previous side around.previous) x.id not_behind
                          ∙ find-at_option_other links around.previous (with_next side around.next) x.id
                          (λ e. differs inside.0 inside.1 (same_Some x.id.place inside.0.id.place (sym e ∙ inside.2)))
                          ∙ stands.found;
                      end = stands.end;
                      behind = stands.behind;
                    },
                    further.1 inside.3,
                  )
                ]),
          )
    ]

-- a list without the arc
list-left : (side : Side) (links : Arena Link) (n : NodeId) (list : ArcList) (ids : List ArcId) (a : ArcId) (la : Link)
    → EachOnce ids → Contains ids a → find links a.id ≡ Some la → ShowsList side links n list ids
    → ShowsList side (links_past side (neighbours_of side la) links) n (list_past (neighbours_of side la) list)
    (without_arc a ids)
list-left side links n list ids a la once has found shows =
    let around : Neighbours = neighbours_of side la in
    let new : Arena Link = links_past side around links in
    let both =
    left side links n None list.first ids a la once (λ b k e. none-some b.id.place e) shows.chain has found in
    record {
      chain =
          elim (before-of side links n None list.first ids a la shows.chain has found) [
            | inl first ↦
                subst (λ (o : Option ℕ). IsChain side new n None o (without_arc a ids))
                (sym (ap (λ (o : Option ℕ). first_past o around.next list.first) first.0)) (both.0 first.1)
            | inr inside ↦
                subst (λ (o : Option ℕ). IsChain side new n None o (without_arc a ids))
                (sym (ap (λ (o : Option ℕ). first_past o around.next list.first) inside.2)) (both.1 inside.3)
          ];
      count = omega (arith, shows.count, length-without a ids once has);
    }

-- an arc of this node's list is listed no more
pub shows-unlinked : (side : Side) (n : NodeId) (links : Arena Link) (nodes : Arena Node) (shown : Arena Lists)
    (node : Node) (a : ArcId) (la : Link)
    → Shows links nodes shown → find nodes n.id ≡ Some node → find links a.id ≡ Some la
    → ((lists : Lists) → find shown n.id ≡ Some lists
    → EachOnce (side_list side lists) × Contains (side_list side lists) a)
    → Shows (links_past side (neighbours_of side la) links)
    (changed_at nodes n.id.place (with_arc_list side (list_past (neighbours_of side la) (list_of side node))))
    (unlinked side a n shown)
shows-unlinked side n links nodes shown node a la shows there found listed =
    let own = shown-node links nodes shown n node shows there in
    let chain : IsChain side links n None (list_of side node).first (side_list side own.0) = (own.2 side).chain in
    let around : Neighbours = neighbours_of side la in
    let facts = listed own.0 own.1 in
    relisted side n links nodes shown node around.previous around.next
    (with_next side around.next) (with_previous side around.previous) (list_past around (list_of side node))
    (without_arc a)
    shows there (touches-next side around.next) (touches-previous side around.previous)
    (λ p e.
    elim (before-of side links n None (list_of side node).first (side_list side own.0) a la chain facts.1 found) [
      | inl first ↦ absurd (none-some p (sym first.0 ∙ e))
      | inr inside ↦
          of-member side links n (list_of side node).first (side_list side own.0) chain inside.0 inside.1 p
          (same_Some inside.0.id.place p (sym inside.2 ∙ e))
    ])
    (λ p e.
    let z = behind-of side links n None (list_of side node).first (side_list side own.0) a la facts.0 chain facts.1
    found p e in
    of-member side links n (list_of side node).first (side_list side own.0) chain z.0 z.1 p z.2)
    (λ lists stands shows_list.
    let f = listed lists stands in
    list-left side links n (list_of side node) (side_list side lists) a la f.0 f.1 found shows_list)
