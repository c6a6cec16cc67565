-- The tournament of keys: setting one key, and finding the least.
use Rattle.std.proofs.Common.{◌≡◌, ℕ, zero, suc, ◌+◌, ◌*◌, ◌/◌, ◌<◌, ◌≤◌, List, length, set, arith, refl, sym, ap}
use Rattle.std.proofs.Common.{inl, inr, ◌⊎◌, ⊎_elim, subst}
use Rattle.std.specs.Prelude.{slice_index}
use Rattle.std.proofs.lemmas.Bool.{cases_eq}
use Rattle.std.proofs.lemmas.List.{get_or-set_other, get_or-set_same, length-set}
use Rattle.firm_paths.specs.inner.Queue.{IsTournament, IsLesser}

-- all but the node above `at` are right
pub record IsMending (places at : ℕ) (keys : List ℕ) : Type 0 where
  pub length : length keys ≡ 2 * places
  pub lesser : (i : ℕ) → 1 ≤ i → i < places → (at ≡ 2 * i → ⊥) → (at ≡ 2 * i + 1 → ⊥)
      → IsLesser (slice_index keys i) (slice_index keys (2 * i)) (slice_index keys (2 * i + 1))
  pub bounded : (i : ℕ) → slice_index keys i ≤ 18446744073709551615

-- a leaf is set to another key
pub mending-leaf : (places place key : ℕ) (keys : List ℕ) → IsTournament places keys → place < places
    → key ≤ 18446744073709551615 → IsMending places (places + place) (set keys (places + place) key)
mending-leaf places place key keys t listed small =
    let at : ℕ = places + place in
    let other : (j : ℕ) → (j ≡ at → ⊥) → slice_index (set keys at key) j ≡ slice_index keys j =
    λ j ne. get_or-set_other keys at j key 0 ne in
    record {
      length = omega (arith, length-set keys at key, t.length);
      lesser = λ i low high even odd.
          rw (
            other i (λ q. omega (arith, q, high)),
            other (2 * i) (λ q. even (sym q)),
            other (2 * i + 1) (λ q. odd (sym q)),
          ) (t.lesser i low high);
      bounded = λ i. ⊎_elim
          (λ (e : i ≡ at). omega (
            arith,
            ap (slice_index (set keys at key)) e,
            get_or-set_same keys at key 0 (omega (arith, listed, t.length)),
            small,
          ))
          (λ (ne : i ≡ at → ⊥). omega (arith, other i ne, t.bounded i))
          (cases_eq i at);
    }

-- the node above a place stands at half of it
pub half : (n : ℕ) → (n ≡ 2 * (n / 2)) ⊎ (n ≡ 2 * (n / 2) + 1)
half n = ⊎_elim (λ (e : n ≡ 2 * (n / 2)). inl e) (λ (ne : n ≡ 2 * (n / 2) → ⊥). inr (omega (arith, ne)))
    (cases_eq n (2 * (n / 2)))

module _ (places at : ℕ) (keys : List ℕ) (mending : IsMending places at keys) where
  -- nothing stands above the top
  pub mended-top : at ≤ 1 → IsTournament places keys
  mended-top top = record {
    length = mending.length;
    lesser = λ i low high. mending.lesser i low high (λ e. omega (arith, e, low, top))
        (λ e. omega (arith, e, low, top));
    bounded = mending.bounded;
  }

  -- the node above, `up`, is right already
  pub mended-above : (up : ℕ) → (at ≡ 2 * up) ⊎ (at ≡ 2 * up + 1)
      → IsLesser (slice_index keys up) (slice_index keys (2 * up)) (slice_index keys (2 * up + 1))
      → IsTournament places keys
  mended-above up half_is right = record {
    length = mending.length;
    lesser = λ i low high. ⊎_elim
        (λ (e : i ≡ up). subst (λ (z : ℕ).
        IsLesser (slice_index keys z) (slice_index keys (2 * z)) (slice_index keys (2 * z + 1))) (sym e) right)
        (λ (ne : i ≡ up → ⊥). mending.lesser i low high (λ e. omega (arith, e, half_is, ne))
        (λ e. omega (arith, e, half_is, ne)))
        (cases_eq i up);
    bounded = mending.bounded;
  }

  -- it is set to the lesser of its two
  pub mending-above : (up least : ℕ) → (at ≡ 2 * up) ⊎ (at ≡ 2 * up + 1) → 1 ≤ up → up < places
      → IsLesser least (slice_index keys (2 * up)) (slice_index keys (2 * up + 1))
      → IsMending places up (set keys up least)
  mending-above up least half_is low_up high_up right =
      let other : (j : ℕ) → (j ≡ up → ⊥) → slice_index (set keys up least) j ≡ slice_index keys j =
      λ j ne. get_or-set_other keys up j least 0 ne in
      let same : slice_index (set keys up least) up ≡ least =
      get_or-set_same keys up least 0 (omega (arith, high_up, mending.length)) in
      record {
        length = omega (arith, length-set keys up least, mending.length);
        lesser = λ i low high even odd. ⊎_elim
            (λ (e : i ≡ up). subst (λ (z : ℕ).
            IsLesser (slice_index (set keys up least) z) (slice_index (set keys up least) (2 * z))
            (slice_index (set keys up least) (2 * z + 1))) (sym e)
            (rw (same, other (2 * up) (λ q. omega (arith, q, low_up)), other (2 * up + 1) (λ q. omega (arith, q)))
            right))
            (λ (ne : i ≡ up → ⊥).
            rw (other i ne, other (2 * i) (λ q. even (sym q)), other (2 * i + 1) (λ q. odd (sym q)))
            (mending.lesser i low high (λ e. omega (arith, e, half_is, ne)) (λ e. omega (arith, e, half_is, ne))))
            (cases_eq i up);
        bounded = λ i. ⊎_elim
            (λ (e : i ≡ up). omega (
              arith,
              ap (slice_index (set keys up least)) e,
              same,
              right.left,
              mending.bounded (2 * up),
            ))
            (λ (ne : i ≡ up → ⊥). omega (arith, other i ne, mending.bounded i))
            (cases_eq i up);
      }

-- the top is the least of all: by how far a node can stand below it
top_least : (places : ℕ) (keys : List ℕ) → IsTournament places keys → (fuel i : ℕ) → i ≤ fuel → 1 ≤ i → i < 2 * places
    → slice_index keys 1 ≤ slice_index keys i
top_least places keys t zero i f p q = absurd (omega arith)
top_least places keys t (suc fuel) i f p q =
    ⊎_elim
    (λ (e : i ≡ 1). omega (arith, ap (slice_index keys) e))
    (λ (ne : i ≡ 1 → ⊥).
    let half : (h : ℕ) × ((i ≡ 2 * h) ⊎ (i ≡ 2 * h + 1)) = halves i in
    let h : ℕ = half.0 in
    ⊎_elim
    (λ (e : i ≡ 2 * h).
    let up = top_least places keys t fuel h (omega (arith, e, f, p)) (omega (arith, e, p, ne)) (omega (arith, e, q)) in
    omega (arith, up, (t.lesser h (omega (arith, e, p, ne)) (omega (arith, e, q))).left, ap (slice_index keys) e))
    (λ (e : i ≡ 2 * h + 1).
    let up = top_least places keys t fuel h (omega (arith, e, f, p)) (omega (arith, e, p, ne)) (omega (arith, e, q)) in
    omega (arith, up, (t.lesser h (omega (arith, e, p, ne)) (omega (arith, e, q))).right, ap (slice_index keys) e))
    half.1)
    (cases_eq i 1)
  where
    halves : (i : ℕ) → (h : ℕ) × ((i ≡ 2 * h) ⊎ (i ≡ 2 * h + 1))
    halves zero = (0, inl refl)
    halves (suc i) = let r : (h : ℕ) × ((i ≡ 2 * h) ⊎ (i ≡ 2 * h + 1)) = halves i in
        ⊎_elim
        (λ (e : i ≡ 2 * r.0). let x : (h : ℕ) × ((suc i ≡ 2 * h) ⊎ (suc i ≡ 2 * h + 1)) =
        (r.0, inr (omega (arith, e))) in x)
        (λ (e : i ≡ 2 * r.0 + 1). let x : (h : ℕ) × ((suc i ≡ 2 * h) ⊎ (suc i ≡ 2 * h + 1)) =
        (r.0 + 1, inl (omega (arith, e))) in x)
        r.1

pub top_below : (places : ℕ) (keys : List ℕ) → IsTournament places keys → (i : ℕ) → 1 ≤ i → i < 2 * places
    → slice_index keys 1 ≤ slice_index keys i
top_below places keys t i p q = top_least places keys t i i (omega arith) p q
