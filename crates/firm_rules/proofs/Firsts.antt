-- The first of the cheapest legal placements is the placement of the round, and no other is.
use Rattle.std.proofs.Common.{◌≡◌, ℕ, zero, suc, ◌<◌, ◌≤◌, Bool, true, false, not, cond, eqb, ltb, ◌&&◌, List, [], ◌∷◌}
use Rattle.std.proofs.Common.{◌++◌, length, refl, sym, ap, subst, ◌∙◌, arith, inl, ⊎_elim, Option, Some, None}
use Rattle.std.specs.Prelude.{map, nat_le, slice_index}
use Rattle.std.specs.List.{filter, list_all}
use Rattle.std.proofs.lemmas.List.Sums.{sum_by-cons}
use Rattle.std.proofs.lemmas.Bool.{cases_Bool, cond-true, cond-false, and_from, and_parts, and_cases, and_left}
use Rattle.std.proofs.lemmas.Bool.{and_right, or_parts, or_from, eq-eqb, eqb-true, ne_eqb, ltb-true, le-ltb, le-leb}
use Rattle.std.proofs.lemmas.Bool.{ltb-false, not-true, not_from_false, both_ways}
use Rattle.firm_rules.specs.declared.rounds.Choice.{Choice}
use Rattle.firm_rules.specs.declared.rounds.Choice.TheVariants.{On, Wait}
use Rattle.firm_rules.specs.Placement.{Demand, Case, numbers, is_place, is_legal, load, goes_to, placement_cost}
use Rattle.firm_rules.specs.Placement.{runs_at, rank, comes_before}
use Rattle.firm_rules.specs.Round.{IsRound, choices, placements, legal_placements, least_cost, round_placement}
use Rattle.firm_rules.specs.Round.{TheRoundIsTheFirst}
use Rattle.firm_rules.proofs.Legals.{to_legal, from_legal}
use Rattle.firm_rules.proofs.Listing.{Among, Rises, each_at, each_from, among_left, among_right, among_either}
use Rattle.firm_rules.proofs.Listing.{rises_both, among_map, from_map, rises_map, among_filter, from_filter}
use Rattle.firm_rules.proofs.Listing.{rises_filter, among_flat, rises_flat, among_numbers, below_numbers, rises_numbers}
use Rattle.firm_rules.proofs.Listing.{smallest-le, smallest_among, first_among}

pub same_home : (home : Option ℕ) (j k : ℕ) → runs_at home j ≡ true → runs_at home k ≡ true → j ≡ k
same_home None j k f g = absurd cc
same_home (Some h) j k f g = sym (eqb-true h j f) ∙ eqb-true h k g

pub rank_own : (m : ℕ) (home : Option ℕ) (j : ℕ) → runs_at home j ≡ true → rank m home (On j) ≡ 0
rank_own m home j e = cond-true {A = ℕ} (runs_at home j) 0 (suc j) e

rank_other : (m : ℕ) (home : Option ℕ) (j : ℕ) → runs_at home j ≡ false → rank m home (On j) ≡ suc j
rank_other m home j e = cond-false {A = ℕ} (runs_at home j) 0 (suc j) e

rank-le : (m : ℕ) (home : Option ℕ) (j : ℕ) → j < m → rank m home (On j) ≤ m
rank-le m home j l =
    ⊎_elim (λ (e : runs_at home j ≡ true). omega (arith, rank_own m home j e))
    (λ (e : runs_at home j ≡ false). omega (arith, l, rank_other m home j e)) (cases_Bool (runs_at home j))

other_is : (home : Option ℕ) (j : ℕ) → not (runs_at home j) ≡ true → runs_at home j ≡ false
other_is home j e = not-true (runs_at home j) e

-- two choices of one rank are one
pub rank_is : (m : ℕ) (home : Option ℕ) (a b : Choice) → is_place m a ≡ true → is_place m b ≡ true
    → rank m home a ≡ rank m home b → a ≡ b
rank_is m home Wait Wait pa pb e = refl
rank_is m home Wait (On k) pa pb e = absurd (omega (arith, e, rank-le m home k (ltb-true k m pb)))
rank_is m home (On j) Wait pa pb e = absurd (omega (arith, e, rank-le m home j (ltb-true j m pa)))
rank_is m home (On j) (On k) pa pb e =
    ⊎_elim (λ (f : runs_at home j ≡ true).
    ⊎_elim (λ (g : runs_at home k ≡ true). ap On (same_home home j k f g))
    (λ (g : runs_at home k ≡ false). absurd (omega (arith, e, rank_own m home j f, rank_other m home k g)))
    (cases_Bool (runs_at home k)))
    (λ (f : runs_at home j ≡ false).
    ⊎_elim (λ (g : runs_at home k ≡ true). absurd (omega (arith, e, rank_other m home j f, rank_own m home k g)))
    (λ (g : runs_at home k ≡ false). ap On (omega (arith, e, rank_other m home j f, rank_other m home k g)))
    (cases_Bool (runs_at home k)))
    (cases_Bool (runs_at home j))

-- a task's choices stand in the order of their ranks, and all of them are there
rises_choices : (m : ℕ) (home : Option ℕ) → Rises (λ a b. rank m home a < rank m home b) (choices m home)
rises_choices m home =
    let R : Choice → Choice → Type 0 = λ (a b : Choice). rank m home a < rank m home b in
    let own : List ℕ = filter (runs_at home) (numbers m) in
    let others : List ℕ = filter (λ j. not (runs_at home j)) (numbers m) in
    let last : List Choice = Wait ∷ [] in
    let rest : Rises R (map On others ++ last) =
    rises_both R (map On others) last
    (rises_map On R others
    (rises_filter (λ (j : ℕ). not (runs_at home j)) (λ (i j : ℕ). i < j) (λ (i j : ℕ). R (On i) (On j)) (numbers m)
    (rises_numbers m)
    (λ i j l p q. omega (arith, l, rank_other m home i (other_is home i p), rank_other m home j (other_is home j q)))))
    (tt, tt)
    (λ a b in_others in_last. ⊎_elim
    (λ (e : Wait ≡ b).
    let r = from_map On others a in_others in
    let l : r.0 < m = below_numbers m r.0 (from_filter (λ (j : ℕ). not (runs_at home j)) (numbers m) r.0 r.1).1 in
    subst (λ z. rank m home a < rank m home z) e
    (subst (λ z. rank m home z < suc m) r.2 (omega (arith, rank-le m home r.0 l))))
    (λ (v : ⊥). absurd v) in_last) in
    rises_both R (map On own) (map On others ++ last)
    (rises_map On R own (rises_filter (runs_at home) (λ (i j : ℕ). i < j) (λ (i j : ℕ). R (On i) (On j)) (numbers m)
    (rises_numbers m)
    (λ i j l p q. absurd (omega (arith, l, same_home home i j p q)))))
    rest
    (λ a b in_own in_rest.
    let r = from_map On own a in_own in
    let f = from_filter (runs_at home) (numbers m) r.0 r.1 in
    subst (λ z. rank m home z < rank m home b) r.2
    (⊎_elim
    (λ (in_others : Among (map On others) b).
    let s = from_map On others b in_others in
    let g = from_filter (λ (j : ℕ). not (runs_at home j)) (numbers m) s.0 s.1 in
    subst (λ z. rank m home (On r.0) < rank m home z) s.2
    (omega (arith, rank_own m home r.0 f.0, rank_other m home s.0 (other_is home s.0 g.0))))
    (λ (in_last : Among last b). ⊎_elim
    (λ (e : Wait ≡ b). subst (λ z. rank m home (On r.0) < rank m home z) e (omega (arith, rank_own m home r.0 f.0)))
    (λ (v : ⊥). absurd v) in_last)
    (among_either (map On others) last b in_rest)))

all_choices : (m : ℕ) (home : Option ℕ) (choice : Choice) → is_place m choice ≡ true → Among (choices m home) choice
all_choices m home Wait p =
    among_right (map On (filter (runs_at home) (numbers m)))
    (map On (filter (λ j. not (runs_at home j)) (numbers m)) ++ Wait ∷ []) Wait
    (among_right (map On (filter (λ j. not (runs_at home j)) (numbers m))) (Wait ∷ []) Wait (inl refl))
all_choices m home (On j) p =
    let own : List ℕ = filter (runs_at home) (numbers m) in
    let others : List ℕ = filter (λ j. not (runs_at home j)) (numbers m) in
    let there : Among (numbers m) j = among_numbers m j (ltb-true j m p) in
    ⊎_elim
    (λ (e : runs_at home j ≡ true). among_left (map On own) (map On others ++ Wait ∷ []) (On j)
    (among_map On own j (among_filter (runs_at home) (numbers m) j there e)))
    (λ (e : runs_at home j ≡ false).
    among_right (map On own) (map On others ++ Wait ∷ []) (On j)
    (among_left (map On others) (Wait ∷ []) (On j)
    (among_map On others j
    (among_filter (λ (j : ℕ). not (runs_at home j)) (numbers m) j there (not_from_false (runs_at home j) e)))))
    (cases_Bool (runs_at home j))

-- so do the placements, and all of them are there
rises_placements : (m : ℕ) (ts : List Demand) → Rises (λ p q. comes_before m ts q p ≡ false) (placements m ts)
rises_placements m [] = (tt, tt)
rises_placements m (t ∷ ts) =
    rises_flat (λ (a b : Choice). rank m t.home a < rank m t.home b)
    (λ (p q : List Choice). comes_before m (t ∷ ts) q p ≡ false)
    (λ (choice : Choice). map (λ rest. choice ∷ rest) (placements m ts)) (choices m t.home) (rises_choices m t.home)
    (λ a. rises_map (λ (rest : List Choice). a ∷ rest) (λ (p q : List Choice). comes_before m (t ∷ ts) q p ≡ false)
    (placements m ts)
    (each_same a (placements m ts) (rises_placements m ts)))
    (λ a b p q l in_a in_b.
    let r = from_map (λ (rest : List Choice). a ∷ rest) (placements m ts) p in_a in
    let s = from_map (λ (rest : List Choice). b ∷ rest) (placements m ts) q in_b in
    subst (λ z. comes_before m (t ∷ ts) q z ≡ false) r.2
    (subst (λ z. comes_before m (t ∷ ts) z (a ∷ r.0) ≡ false) s.2
    (or_from (ltb (rank m t.home b) (rank m t.home a))
    (eqb (rank m t.home b) (rank m t.home a) && comes_before m ts s.0 r.0)
    (le-ltb (rank m t.home b) (rank m t.home a) (omega (arith, l)))
    (and_left (eqb (rank m t.home b) (rank m t.home a)) (comes_before m ts s.0 r.0)
    (ne_eqb (rank m t.home b) (rank m t.home a) (λ (e : rank m t.home b ≡ rank m t.home a). omega (arith, l, e)))))))
  where
    each_same : (a : Choice) (ps : List (List Choice)) → Rises (λ p q. comes_before m ts q p ≡ false) ps
        → Rises (λ p q. comes_before m (t ∷ ts) (a ∷ q) (a ∷ p) ≡ false) ps
    each_same a [] h = tt
    each_same a (p ∷ ps) h = (
      each_from (λ (q : List Choice). comes_before m (t ∷ ts) (a ∷ q) (a ∷ p) ≡ false) ps (λ q there.
          or_from (ltb (rank m t.home a) (rank m t.home a))
          (eqb (rank m t.home a) (rank m t.home a) && comes_before m ts q p)
          (le-ltb (rank m t.home a) (rank m t.home a) (omega arith))
          (and_right (eqb (rank m t.home a) (rank m t.home a)) (comes_before m ts q p)
          (each_at (λ (q : List Choice). comes_before m ts q p ≡ false) ps q h.0 there))),
      each_same a ps h.1,
    )

all_placements : (m : ℕ) (ts : List Demand) (p : List Choice) → length p ≡ length ts → list_all (is_place m) p ≡ true
    → Among (placements m ts) p
all_placements m [] [] e h = inl refl
all_placements m [] (a ∷ p) e h = absurd (omega (arith, e))
all_placements m (t ∷ ts) [] e h = absurd (omega (arith, e))
all_placements m (t ∷ ts) (a ∷ p) e h =
    let parts = and_parts (is_place m a) (list_all (is_place m) p) h in
    among_flat (λ (choice : Choice). map (λ rest. choice ∷ rest) (placements m ts)) (choices m t.home) a (a ∷ p)
    (all_choices m t.home a parts.0)
    (among_map (λ (rest : List Choice). a ∷ rest) (placements m ts) p
    (all_placements m ts p (omega (arith, e)) parts.1))

-- two placements of which neither comes before the other are one
same_placement : (m : ℕ) (ts : List Demand) (p q : List Choice) → length p ≡ length ts → length q ≡ length ts
    → list_all (is_place m) p ≡ true → list_all (is_place m) q ≡ true → comes_before m ts p q ≡ false
    → comes_before m ts q p ≡ false → p ≡ q
same_placement m [] [] [] ep eq lp lq h k = refl
same_placement m [] [] (b ∷ q) ep eq lp lq h k = absurd (omega (arith, eq))
same_placement m [] (a ∷ p) q ep eq lp lq h k = absurd (omega (arith, ep))
same_placement m (t ∷ ts) [] q ep eq lp lq h k = absurd (omega (arith, ep))
same_placement m (t ∷ ts) (a ∷ p) [] ep eq lp lq h k = absurd (omega (arith, eq))
same_placement m (t ∷ ts) (a ∷ p) (b ∷ q) ep eq lp lq h k =
    let x : ℕ = rank m t.home a in
    let y : ℕ = rank m t.home b in
    let hs = or_parts (ltb x y) (eqb x y && comes_before m ts p q) h in
    let ks = or_parts (ltb y x) (eqb y x && comes_before m ts q p) k in
    let e : x ≡ y = omega (arith, ltb-false x y hs.0, ltb-false y x ks.0) in
    let ps = and_parts (is_place m a) (list_all (is_place m) p) lp in
    let qs = and_parts (is_place m b) (list_all (is_place m) q) lq in
    let one : a ≡ b = rank_is m t.home a b ps.0 qs.0 e in
    let hh : comes_before m ts p q ≡ false =
    ⊎_elim (λ (f : eqb x y ≡ false). absurd (both_ways (eqb x y) f (eq-eqb x y e)))
    (λ (g : comes_before m ts p q ≡ false). g) (and_cases (eqb x y) (comes_before m ts p q) hs.1) in
    let kk : comes_before m ts q p ≡ false =
    ⊎_elim (λ (f : eqb y x ≡ false). absurd (both_ways (eqb y x) f (eq-eqb y x (sym e))))
    (λ (g : comes_before m ts q p ≡ false). g) (and_cases (eqb y x) (comes_before m ts q p) ks.1) in
    ap (λ z. z ∷ p) one ∙ ap (λ z. b ∷ z)
    (same_placement m ts p q (omega (arith, ep)) (omega (arith, eq)) ps.1 qs.1 hh kk)

-- no placement comes before itself
not_before_itself : (m : ℕ) (ts : List Demand) (p : List Choice) → comes_before m ts p p ≡ false
not_before_itself m [] p = refl
not_before_itself m (t ∷ ts) [] = refl
not_before_itself m (t ∷ ts) (a ∷ p) =
    or_from (ltb (rank m t.home a) (rank m t.home a)) (eqb (rank m t.home a) (rank m t.home a) && comes_before m ts p p)
    (le-ltb (rank m t.home a) (rank m t.home a) (omega arith))
    (and_right (eqb (rank m t.home a) (rank m t.home a)) (comes_before m ts p p) (not_before_itself m ts p))

-- the parts of a legal placement
pub record AreLegalParts (c : Case) (p : List Choice) : Type 0 where
  pub one_each : length p ≡ length c.tasks
  pub places : list_all (is_place (length c.slots)) p ≡ true
  pub room : list_all (λ j. nat_le (load p j) (slice_index c.slots j)) (numbers (length c.slots)) ≡ true

abbrev has_room : Case → List Choice → Bool
has_room c p = list_all (λ j. nat_le (load p j) (slice_index c.slots j)) (numbers (length c.slots))

pub legal_parts : (c : Case) (p : List Choice) → is_legal c p ≡ true → AreLegalParts c p
legal_parts c p h =
    let one = and_parts (eqb (length p) (length c.tasks) && list_all (is_place (length c.slots)) p) (has_room c p) h in
    let two = and_parts (eqb (length p) (length c.tasks)) (list_all (is_place (length c.slots)) p) one.0 in
    record { one_each = eqb-true (length p) (length c.tasks) two.0; places = two.1; room = one.1 }

pub legal_from : (c : Case) (p : List Choice) → AreLegalParts c p → is_legal c p ≡ true
legal_from c p h =
    and_from (eqb (length p) (length c.tasks) && list_all (is_place (length c.slots)) p) (has_room c p)
    (and_from (eqb (length p) (length c.tasks)) (list_all (is_place (length c.slots)) p)
    (eq-eqb (length p) (length c.tasks) h.one_each) h.places)
    h.room

-- all waiting is legal
abbrev waits : ℕ → List Choice
waits zero = []
waits (suc n) = Wait ∷ waits n

all_wait : (c : Case) → is_legal c (waits (length c.tasks)) ≡ true
all_wait c = legal_from c (waits (length c.tasks)) (record {
  one_each = counted (length c.tasks);
  places = placed (length c.tasks);
  room = roomy (numbers (length c.slots));
})
  where
    counted : (n : ℕ) → length (waits n) ≡ n
    counted zero = refl
    counted (suc n) = omega (arith, counted n)

    placed : (n : ℕ) → list_all (is_place (length c.slots)) (waits n) ≡ true
    placed zero = refl
    placed (suc n) = placed n

    unloaded : (j n : ℕ) → load (waits n) j ≡ 0
    unloaded j zero = refl
    unloaded j (suc n) = omega
        (arith, unloaded j n, sum_by-cons (λ (o : Choice). cond (goes_to j o) 1 0) Wait (waits n))

    roomy : (js : List ℕ) → list_all (λ j. nat_le (load (waits (length c.tasks)) j) (slice_index c.slots j)) js ≡ true
    roomy [] = refl
    roomy (j ∷ js) =
        and_from (nat_le (load (waits (length c.tasks)) j) (slice_index c.slots j))
        (list_all (λ j. nat_le (load (waits (length c.tasks)) j) (slice_index c.slots j)) js)
        (le-leb (load (waits (length c.tasks)) j) (slice_index c.slots j)
        (omega (arith, unloaded j (length c.tasks)))) (roomy js)

listed : (c : Case) (p : List Choice) → is_legal c p ≡ true → Among (legal_placements c) p
listed c p h =
    let parts = legal_parts c p h in
    among_filter (is_legal c) (placements (length c.slots) c.tasks) p
    (all_placements (length c.slots) c.tasks p parts.one_each parts.places) h

pub the_first : TheRoundIsTheFirst
the_first c =
    let m : ℕ = length c.slots in
    let all : List (List Choice) = legal_placements c in
    let R : List Choice → List Choice → Type 0 = λ (p q : List Choice). comes_before m c.tasks q p ≡ false in
    let some : Among all (waits (length c.tasks)) = listed c (waits (length c.tasks)) (all_wait c) in
    let least : Among (map (placement_cost c) all) (least_cost c) =
    smallest_among (map (placement_cost c) all) (placement_cost c (waits (length c.tasks)))
    (among_map (placement_cost c) all (waits (length c.tasks)) some) in
    let at_most : (q : List Choice) → is_legal c q ≡ true → least_cost c ≤ placement_cost c q =
    λ q h. smallest-le (map (placement_cost c) all) (placement_cost c q)
    (among_map (placement_cost c) all q (listed c q h)) in
    let cheap : List Choice → Bool = λ (p : List Choice). eqb (placement_cost c p) (least_cost c) in
    let from = from_map (placement_cost c) all (least_cost c) least in
    let rising : Rises R (filter cheap all) =
    rises_filter cheap R R all
    (rises_filter (is_legal c) R R (placements m c.tasks) (rises_placements m c.tasks) (λ p q h a b. h))
    (λ p q h a b. h) in
    let first = first_among R (filter cheap all) from.0
    (among_filter cheap all from.0 from.1 (eq-eqb (placement_cost c from.0) (least_cost c) from.2)) rising in
    let there = from_filter cheap all (round_placement c) first.0 in
    let costs : placement_cost c (round_placement c) ≡ least_cost c =
    eqb-true (placement_cost c (round_placement c)) (least_cost c) there.0 in
    let legal : is_legal c (round_placement c) ≡ true =
    (from_filter (is_legal c) (placements m c.tasks) (round_placement c) there.1).0 in
    let is : IsRound c (round_placement c) = record {
      legal = to_legal c (round_placement c) legal;
      least = λ q h. omega (arith, costs, at_most q (from_legal c q h));
      first = λ q h same. ⊎_elim
          (λ (e : q ≡ round_placement c). subst (λ z. comes_before m c.tasks z (round_placement c) ≡ false) (sym e)
          (not_before_itself m c.tasks (round_placement c)))
          (λ (b : R (round_placement c) q). b)
          (first.1 q (among_filter cheap all q (listed c q (from_legal c q h))
          (eq-eqb (placement_cost c q) (least_cost c) (same ∙ costs))));
    } in
    record {
      is = is;
      alone = λ q other.
          let mine = legal_parts c (round_placement c) legal in
          let its = legal_parts c q (from_legal c q other.legal) in
          let same : placement_cost c q ≡ placement_cost c (round_placement c) =
          omega (arith, other.least (round_placement c) is.legal, is.least q other.legal) in
          same_placement m c.tasks q (round_placement c) its.one_each mine.one_each its.places mine.places
          (is.first q other.legal same) (other.first (round_placement c) is.legal (sym same));
    }
