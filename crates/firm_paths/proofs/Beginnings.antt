-- The tables of the searches before the first search.
use Rattle.std.proofs.Common.{◌≡◌, ℕ, zero, suc, false, None, [], arith, ap, refl, inl}
use Rattle.std.specs.Prelude.{get_or, is_some, replicate}
use Rattle.std.proofs.lemmas.List.{get_or-replicate, length-replicate}
use Rattle.firm_paths.specs.inner.Queue.{IsIdle}
use Rattle.firm_paths.specs.inner.Spread.{Agree}
use Rattle.firm_paths.specs.declared.search.NodeState.{NodeState}

-- within the list or past its end
same_replicate : {X : Type 0} (n v : ℕ) (a : X) → get_or (replicate n a) v a ≡ a
same_replicate zero v a = refl
same_replicate (suc n) zero a = refl
same_replicate (suc n) (suc v) a = same_replicate n v a

-- no node is known, and none stands in the queue
pub idle_start : (n : ℕ)
    → IsIdle (replicate n (record { node = None; label = 0; settled = false; predecessor = None }))
    (replicate n 18446744073709551615)
idle_start n =
    let unknown : NodeState = record { node = None; label = 0; settled = false; predecessor = None } in
    let absent : ℕ = 18446744073709551615 in
    record {
      size = omega (arith, length-replicate n unknown, length-replicate n absent);
      unknown = λ v.
          let same = same_replicate n v unknown in
          (ap (λ (m : NodeState). is_some m.node) same, ap (λ (m : NodeState). m.settled) same);
      empty = λ v l. get_or-replicate n v absent 0 (omega (arith, l, length-replicate n absent));
    }

-- no node was seen, and none was visited
pub agree_start : (n : ℕ) → Agree (replicate n false) []
agree_start n = record {
  marked = record { places = λ k l. absurd (omega (arith, l)); unseen = λ v. inl (same_replicate n v false) };
  met = λ k l. absurd (omega (arith, l));
  order = λ k l. absurd (omega (arith, l));
  few = omega arith;
}
