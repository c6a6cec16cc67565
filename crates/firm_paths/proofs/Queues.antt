-- The queue and the visits beside the states: at the start, when a node is settled, and at the end.
use Rattle.std.proofs.Common.{◌≡◌, ℕ, ◌-◌, ◌<◌, true, false, Some, None, List, [], ◌∷◌, ◌++◌, length, set, arith}
use Rattle.std.proofs.Common.{sym, ap, refl, ◌∙◌, inl, inr, ⊎_elim}
use Rattle.std.specs.Prelude.{slice_index, is_some}
use Rattle.std.proofs.lemmas.List.{get_or-set_other, get_or-set_same, length-set}
use Rattle.std.proofs.lemmas.Bool.{cases_eq, cases_Bool, both_ways}
use Rattle.firm_net.specs.declared.row.NodeId.{NodeId}
use Rattle.firm_paths.specs.Visits.{visit}
use Rattle.firm_paths.specs.inner.Search.{state, known, settled, with_settled, IsLowered, IsNearest}
use Rattle.firm_paths.specs.inner.Queue.{IsQueued, IsIdle, IsLeastKey, IsVisited, AreVisited, AreLeft}
use Rattle.firm_paths.specs.declared.search.NodeState.{NodeState}
use Rattle.firm_paths.specs.declared.search.Visit.{Visit}
use Rattle.firm_paths.proofs.Labels.{set_cases}
use Rattle.firm_paths.proofs.Settles.{known_listed, visit_before, visit_last, length_push}

-- the least key is that of the nearest open node
pub queue_nearest : {price : ℕ → ℕ} {ms : List NodeState} {keys : List ℕ} {u : ℕ} → IsQueued price ms keys
    → IsLeastKey keys u → IsNearest price ms u
queue_nearest {ms = ms} {u = u} q least =
    let at = q.shut u least.listed least.present in
    record {
      is_known = at.0;
      is_open = at.1;
      nearest = λ v k s.
          omega (
            arith,
            least.least v (omega (arith, known_listed ms v k, q.size)),
            q.open_ u at.0 at.1,
            q.open_ v k s,
          );
    }

pub queue_none : (price : ℕ → ℕ) (ms : List NodeState) (keys : List ℕ) → IsQueued price ms keys
    → ((v : ℕ) → v < length keys → slice_index keys v ≡ 18446744073709551615)
    → (v : ℕ) → known ms v ≡ true → settled ms v ≡ true
queue_none price ms keys q none v k =
    ⊎_elim (λ (s : settled ms v ≡ true). s)
    (λ (s : settled ms v ≡ false).
    absurd (omega (
      arith,
      none v (omega (arith, known_listed ms v k, q.size)),
      q.open_ v k s,
      q.below v k s,
    )))
    (cases_Bool (settled ms v))

pub queue_start : (price : ℕ → ℕ) (ms : List NodeState) (keys : List ℕ) (from : ℕ) (node : NodeId) → from < length ms
    → price from < 18446744073709551615
    → IsIdle ms keys
    → IsQueued price
    (set ms from (record { node = Some node; label = price from; settled = false; predecessor = None }))
    (set keys from 0)
queue_start price ms keys from node listed low idle =
    let first : NodeState = record { node = Some node; label = price from; settled = false; predecessor = None } in
    let keys1 : List ℕ = set keys from 0 in
    let unknown : (v : ℕ) → known ms v ≡ true → ⊥ = λ v. both_ways (known ms v) (idle.unknown v).0 in
    record {
      size = omega (arith, length-set keys from 0, length-set ms from first, idle.size);
      open_ = set_cases ms from first
          (λ v m. is_some m.node ≡ true → m.settled ≡ false → slice_index keys1 v ≡ m.label - price v) listed
          (λ k s. omega (arith, get_or-set_same keys from 0 0 (omega (arith, listed, idle.size))))
          (λ v ne k s. absurd (unknown v k));
      below = set_cases ms from first
          (λ v m. is_some m.node ≡ true → m.settled ≡ false → m.label < 18446744073709551615) listed (λ k s. low)
          (λ v ne k s. absurd (unknown v k));
      shut = set_cases ms from first
          (λ v m. v < length keys1 → slice_index keys1 v < 18446744073709551615
          → (is_some m.node ≡ true) × (m.settled ≡ false)) listed (λ l p. (refl, refl))
          (λ v ne l p. absurd (omega (
            arith,
            p,
            get_or-set_other keys from v 0 0 ne,
            idle.empty v (omega (arith, l, length-set keys from 0)),
          )));
    }

-- an open node is settled, and leaves the queue
pub queue_settle : (price : ℕ → ℕ) (ms : List NodeState) (keys : List ℕ) (u : ℕ) → u < length ms
    → IsQueued price ms keys → IsQueued price (with_settled ms u) (set keys u 18446744073709551615)
queue_settle price ms keys u listed q =
    let none : ℕ = 18446744073709551615 in
    let done : NodeState = record (state ms u) { settled = true } in
    let keys1 : List ℕ = set keys u none in
    record {
      size = omega (arith, length-set keys u none, length-set ms u done, q.size);
      open_ = set_cases ms u done
          (λ v m. is_some m.node ≡ true → m.settled ≡ false → slice_index keys1 v ≡ m.label - price v) listed
          (λ k s. absurd (both_ways true s refl))
          (λ v ne k s. get_or-set_other keys u v none 0 ne ∙ q.open_ v k s);
      below = set_cases ms u done
          (λ v m. is_some m.node ≡ true → m.settled ≡ false → m.label < 18446744073709551615) listed
          (λ k s. absurd (both_ways true s refl)) (λ v ne. q.below v);
      shut = set_cases ms u done
          (λ v m. v < length keys1 → slice_index keys1 v < 18446744073709551615
          → (is_some m.node ≡ true) × (m.settled ≡ false)) listed
          (λ l p. absurd (omega (arith, p, get_or-set_same keys u none 0 (omega (arith, listed, q.size)))))
          (λ v ne l p. q.shut v (omega (arith, l, length-set keys u none))
          (omega (arith, p, get_or-set_other keys u v none 0 ne)));
    }

pub visited_start : (ms : List NodeState) (from : ℕ) (first : NodeState)
    → ((v : ℕ) → (known ms v ≡ false) × (settled ms v ≡ false)) → first.settled ≡ false → from < length ms
    → AreVisited (set ms from first) []
visited_start ms from first none free listed = record {
  places = λ i l. absurd (omega (arith, l));
  settled = λ v s. absurd (both_ways (settled (set ms from first) v)
      (set_cases ms from first (λ v m. m.settled ≡ false) listed free (λ v ne. (none v).1) v) s);
}

visited_more : (vs : List Visit) (x : Visit) (v : ℕ) → IsVisited vs 0 v → IsVisited (vs ++ x ∷ []) 0 v
visited_more vs x v w = record {
  number = w.number;
  from = omega arith;
  listed = omega (arith, w.listed, length_push vs x);
  place = ap (λ (y : Visit). y.place) (visit_before vs x w.number w.listed) ∙ w.place;
}

pub visited_push : (ms : List NodeState) (vs : List Visit) (x : Visit) → x.place < length ms → AreVisited ms vs
    → AreVisited ms (vs ++ x ∷ [])
visited_push ms vs x l a = record {
  places = λ i p. ⊎_elim
      (λ (e : i ≡ length vs). omega (
        arith,
        l,
        ap (λ (z : ℕ). (visit (vs ++ x ∷ []) z).place) e,
        ap (λ (y : Visit). y.place) (visit_last vs x),
      ))
      (λ (ne : i ≡ length vs → ⊥).
      let before : i < length vs = omega (arith, p, length_push vs x, ne) in
      omega (arith, a.places i before, ap (λ (y : Visit). y.place) (visit_before vs x i before)))
      (cases_eq i (length vs));
  settled = λ v s. visited_more vs x v (a.settled v s);
}

pub visited_settle : (ms : List NodeState) (vs : List Visit) (x : Visit) (u : ℕ) → x.place ≡ u → u < length ms
    → AreVisited ms vs → AreVisited (with_settled ms u) (vs ++ x ∷ [])
visited_settle ms vs x u at l a =
    let done : NodeState = record (state ms u) { settled = true } in
    let pushed = visited_push ms vs x (omega (arith, at, l)) a in
    record {
      places = λ i p. omega (arith, pushed.places i p, length-set ms u done);
      settled = set_cases ms u done (λ v m. m.settled ≡ true → IsVisited (vs ++ x ∷ []) 0 v) l
          (λ s. record {
            number = length vs;
            from = omega arith;
            listed = omega (arith, length_push vs x);
            place = ap (λ (y : Visit). y.place) (visit_last vs x) ∙ at;
          })
          (λ v ne. pushed.settled v);
    }

pub visited_kept : (old new : List NodeState) (vs : List Visit) → IsLowered old new → AreVisited old vs
    → AreVisited new vs
visited_kept old new vs lowers a = record {
  places = λ i l. omega (arith, a.places i l, lowers.length);
  settled = λ v s. a.settled v (sym (lowers.settled v) ∙ s);
}

pub all_left : {price : ℕ → ℕ} {ms : List NodeState} {keys : List ℕ} {vs : List Visit} → IsQueued price ms keys
    → AreVisited ms vs → AreLeft ms keys vs 0
all_left {ms = ms} q a v =
    ⊎_elim
    (λ (s : settled ms v ≡ true). inr (inl (a.settled v s)))
    (λ (s : settled ms v ≡ false).
    ⊎_elim
    (λ (k : known ms v ≡ true). inr (inr (omega (arith, q.open_ v k s, q.below v k s))))
    (λ (k : known ms v ≡ false). inl (k, s))
    (cases_Bool (known ms v)))
    (cases_Bool (settled ms v))
