-- The loads of a placement, counted along its choices until one has no room.
use Rattle.std.proofs.Common.{◌≡◌, ℕ, ◌+◌, ◌<◌, ◌≤◌, Bool, true, false, List, ◌++◌, ◌∷◌, [], length, set, take}
use Rattle.std.proofs.Common.{refl, sym, ap, subst, ◌∙◌, arith, ⊎_elim, get_or-set_other, get_or-set_same}
use Rattle.std.specs.Prelude.{slice_index, slice_index_or}
use Rattle.std.specs.List.{All}
use Rattle.std.proofs.lemmas.Bool.{cases_eq, eq-eqb, ne_eqb}
use Rattle.std.proofs.lemmas.List.{take_all, take_more}
use Rattle.std.proofs.lemmas.List.Elements.{All-nil, All-push}
use Rattle.std.proofs.lemmas.List.Sums.{sum_by_more, sum_by-take-le}
use Rattle.firm_rules.specs.declared.rounds.Choice.{Choice}
use Rattle.firm_rules.specs.declared.rounds.Choice.TheVariants.{On, Wait}
use Rattle.firm_rules.specs.Placement.{Case, IsLegal, IsPlace, goes_to, is_legal, load}
use Rattle.firm_rules.proofs.Legals.{from_legal, to_legal}
use Rattle.firm_rules.proofs.SoundRows.{one_if}

-- the choices before this one are legal, and have these loads
pub record Counted (slots : List ℕ) (placement : List Choice) (i : ℕ) (loads : List ℕ) : Type 0 where
  pub counts : (j : ℕ) → j < length slots → slice_index loads j ≡ load (take i placement) j
  pub places : All (IsPlace (length slots)) (take i placement)
  pub room : (j : ℕ) → j < length slots → load (take i placement) j ≤ slice_index slots j

-- one more choice counts on its machine
pub load-next : (placement : List Choice) (i : ℕ) (d choice : Choice) → i < length placement
    → slice_index_or placement i d ≡ choice → (j : ℕ)
    → load (take (i + 1) placement) j ≡ load (take i placement) j + one_if (goes_to j choice)
load-next placement i d choice below is j =
    sum_by_more (λ (c : Choice). one_if (goes_to j c)) placement i d below
    ∙ ap (λ (c : Choice). load (take i placement) j + one_if (goes_to j c)) is

-- and is written there
pub one-written : (loads : List ℕ) (k : ℕ) → k < length loads → (j : ℕ)
    → slice_index (set loads k (slice_index loads k + 1)) j ≡ slice_index loads j + one_if (goes_to j (On k))
one-written loads k there j =
    ⊎_elim (λ (e : k ≡ j). omega (
      arith,
      ap (slice_index (set loads k (slice_index loads k + 1))) e,
      get_or-set_same loads k (slice_index loads k + 1) 0 there,
      ap (slice_index loads) e,
      ap one_if (eq-eqb k j e),
    ))
    (λ (ne : k ≡ j → ⊥). omega (
      arith,
      get_or-set_other loads k j (slice_index loads k + 1) 0 (λ (e : j ≡ k). ne (sym e)),
      ap one_if (ne_eqb k j ne),
    ))
    (cases_eq k j)

places-next : (n : ℕ) (placement : List Choice) (i : ℕ) (d choice : Choice) → i < length placement
    → slice_index_or placement i d ≡ choice → All (IsPlace n) (take i placement) → IsPlace n choice
    → All (IsPlace n) (take (i + 1) placement)
places-next n placement i d choice below is places place =
    subst (λ (l : List Choice). All (IsPlace n) l)
    (sym (take_more placement i d below ∙ ap (λ (c : Choice). take i placement ++ c ∷ []) is))
    (All-push (IsPlace n) (take i placement) choice places place)

module _ (slots : List ℕ) (placement : List Choice) where
  pub counted-none : (loads : List ℕ) → ((j : ℕ) → slice_index loads j ≡ 0) → Counted slots placement 0 loads
  counted-none loads none = record {
    counts = λ j below. none j;
    places = All-nil (IsPlace (length slots));
    room = λ j below. omega arith;
  }

  module _ (i : ℕ) (d : Choice) (now : List ℕ) (so_far : Counted slots placement i now)
      (below : i < length placement) where
    pub counted-wait : slice_index_or placement i d ≡ Wait → Counted slots placement (i + 1) now
    counted-wait is = record {
      counts = λ j inside. omega (arith, so_far.counts j inside, load-next placement i d Wait below is j);
      places = places-next (length slots) placement i d Wait below is so_far.places tt;
      room = λ j inside. omega (arith, so_far.room j inside, load-next placement i d Wait below is j);
    }

    module _ (k : ℕ) (is : slice_index_or placement i d ≡ On k) (inside : k < length slots) where
      pub counted-on : k < length now → slice_index now k < slice_index slots k → (next : List ℕ)
          → next ≡ set now k (slice_index now k + 1) → Counted slots placement (i + 1) next
      counted-on there room next next-is = record {
        counts = λ j l. omega (
          arith,
          ap (λ (n : List ℕ). slice_index n j) next-is,
          one-written now k there j,
          load-next placement i d (On k) below is j,
          so_far.counts j l,
        );
        places = places-next (length slots) placement i d (On k) below is so_far.places inside;
        room = λ j l. omega (arith, load-next placement i d (On k) below is j, fits j l);
      }
        where
          fits : (j : ℕ) → j < length slots
              → load (take i placement) j + one_if (goes_to j (On k)) ≤ slice_index slots j
          fits j l =
              ⊎_elim (λ (e : k ≡ j). omega (
                arith,
                room,
                ap (slice_index now) e,
                ap (slice_index slots) e,
                so_far.counts j l,
                ap one_if (eq-eqb k j e),
              ))
              (λ (ne : k ≡ j → ⊥). omega (arith, so_far.room j l, ap one_if (ne_eqb k j ne)))
              (cases_eq k j)

      -- one more than there are slots
      pub too_many : slice_index slots k ≤ slice_index now k → slice_index slots k < load placement k
      too_many full = omega (
        arith,
        so_far.counts k inside,
        load-next placement i d (On k) below is k,
        ap one_if (eq-eqb k k refl),
        sum_by-take-le (λ (c : Choice). one_if (goes_to k c)) placement (i + 1),
      )

refuted : (b : Bool) → (b ≡ true → ⊥) → b ≡ false
refuted true not = absurd (not refl)
refuted false not = refl

-- a choice of no machine, or of one with no slot left, makes the placement illegal
pub not_legal-beyond : (case : Case) (placement : List Choice) (i k : ℕ) (d : Choice) → i < length placement
    → slice_index_or placement i d ≡ On k → length case.slots ≤ k → is_legal case placement ≡ false
not_legal-beyond case placement i k d below is beyond =
    refuted (is_legal case placement) (λ (h : is_legal case placement ≡ true).
    let legal : IsLegal case placement = to_legal case placement h in
    let place : k < length case.slots = subst (IsPlace (length case.slots)) is (legal.places i d below) in
    omega (arith, place, beyond))

pub not_legal-full : (case : Case) (placement : List Choice) (i k : ℕ) (d : Choice) (now : List ℕ)
    → Counted case.slots placement i now → i < length placement → slice_index_or placement i d ≡ On k
    → k < length case.slots → slice_index case.slots k ≤ slice_index now k → is_legal case placement ≡ false
not_legal-full case placement i k d now so_far below is inside full =
    refuted (is_legal case placement) (λ (h : is_legal case placement ≡ true).
    let legal : IsLegal case placement = to_legal case placement h in
    omega (arith, legal.room k inside, too_many case.slots placement i d now so_far below k is inside full))

pub not_legal-length : (case : Case) (placement : List Choice) → (length placement ≡ length case.tasks → ⊥)
    → is_legal case placement ≡ false
not_legal-length case placement differ =
    refuted (is_legal case placement) (λ (h : is_legal case placement ≡ true).
    let legal : IsLegal case placement = to_legal case placement h in
    differ legal.one_each)

-- where all have room, the placement is legal, and the counts are its loads
pub legal-counted : (case : Case) (placement : List Choice) (i : ℕ) (now : List ℕ)
    → Counted case.slots placement i now → length placement ≤ i → length placement ≡ length case.tasks
    → (is_legal case placement ≡ true)
    × ((j : ℕ) → j < length case.slots → slice_index now j ≡ load placement j)
legal-counted case placement i now so_far all one_each =
    let whole : take i placement ≡ placement = take_all i placement all in (
      from_legal case placement (record {
        one_each = one_each;
        places = subst (λ (l : List Choice). All (IsPlace (length case.slots)) l) whole so_far.places;
        room = λ j l. omega (arith, so_far.room j l, ap (λ (p : List Choice). load p j) whole);
      }),
      λ j l. so_far.counts j l ∙ ap (λ (p : List Choice). load p j) whole,
    )
