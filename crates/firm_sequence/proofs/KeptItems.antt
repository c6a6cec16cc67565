use Rattle.std.proofs.Common.{◌≡◌, ◌<◌, ◌≤◌, ◌+◌, ◌-◌, ◌++◌, ℕ, suc, zero, List, [], ◌∷◌, length, take}
use Rattle.std.proofs.Common.{inl, inr, refl, ap, sym, subst, ◌∙◌, arith}
use Rattle.std.specs.Prelude.{remove, insert, slice_set as set, slice_index_or as get_or}
use Rattle.core.specs.List.{CopiedTo, SameBelow, SameFrom}
use Rattle.std.proofs.lemmas.Bool.{cases_lt}
use Rattle.std.proofs.lemmas.List.{get_or_default, get_or_past, get_or_read, get_or-take, length-take-le, same_lists}
use Rattle.std.proofs.lemmas.List.Edits.{length-remove, get_or-remove_below, get_or-remove_above, remove-append_left}
use Rattle.firm_sequence.specs.Kept.{AreGaps, Splits, kept}

-- the first number, and as many more as gaps come before, is at most that of a gap, or the end
pub gap-above : (gaps : List ℕ) (first end i : ℕ) → AreGaps first end gaps → i ≤ length gaps
    → first + i ≤ get_or gaps i end
gap-above [] first end zero are within = omega (arith, are)
gap-above [] first end (suc i) are within = absurd (omega (arith, within))
gap-above (gap ∷ gaps) first end zero are within = omega (arith, are.0)
gap-above (gap ∷ gaps) first end (suc i) are within =
    omega (arith, are.0, gap-above gaps (gap + 1) end i are.1 (omega (arith, within)))

-- gaps rise
pub rising : (gaps : List ℕ) (first end i j : ℕ) → AreGaps first end gaps → i ≤ j → j ≤ length gaps
    → get_or gaps i end + j ≤ get_or gaps j end + i
rising [] first end zero zero are order within = omega arith
rising [] first end (suc i) zero are order within = absurd (omega (arith, order))
rising [] first end i (suc j) are order within = absurd (omega (arith, within))
rising (gap ∷ gaps) first end zero zero are order within = omega arith
rising (gap ∷ gaps) first end zero (suc j) are order within =
    omega (arith, gap-above gaps (gap + 1) end j are.1 (omega (arith, within)))
rising (gap ∷ gaps) first end (suc i) zero are order within = absurd (omega (arith, order))
rising (gap ∷ gaps) first end (suc i) (suc j) are order within =
    omega (arith, rising gaps (gap + 1) end i j are.1 (omega (arith, order)) (omega (arith, within)))

-- the same with any default, within the list
pub rising-within : (gaps : List ℕ) (first end i j d : ℕ) → AreGaps first end gaps → i ≤ j → j < length gaps
    → get_or gaps i d + j ≤ get_or gaps j d + i
rising-within gaps first end i j d are order within =
    omega (
      arith,
      rising gaps first end i j are order (omega (arith, within)),
      get_or_default gaps i d end (omega (arith, order, within)),
      get_or_default gaps j d end within,
    )

-- the gaps divide where each before the number is at most its slot, and each after it is more
pub splits-from : (gaps : List ℕ) (end place count : ℕ) → count ≤ length gaps
    → ((i : ℕ) → i < count → get_or gaps i end ≤ place + i)
    → ((i : ℕ) → count ≤ i → i < length gaps → place + i < get_or gaps i end)
    → Splits gaps place count
splits-from [] end place zero within before after = refl
splits-from [] end place (suc count) within before after = absurd (omega (arith, within))
splits-from (gap ∷ gaps) end place zero within before after = (
  omega (arith, after 0 (omega arith) (omega arith)),
  splits-from gaps end place zero (omega arith) (λ i l. absurd (omega (arith, l)))
      (λ i l m. omega (arith, after (suc i) (omega arith) (omega (arith, m)))),
)
splits-from (gap ∷ gaps) end place (suc count) within before after = (
  omega (arith, before 0 (omega arith)),
  splits-from gaps end (suc place) count (omega (arith, within))
      (λ i l. omega (arith, before (suc i) (omega (arith, l))))
      (λ i l m. omega (arith, after (suc i) (omega (arith, l)) (omega (arith, m)))),
)

-- as many gaps are passed as there are at most
pub splits-few : (gaps : List ℕ) (place count : ℕ) → Splits gaps place count → count ≤ length gaps
splits-few [] place count divides = omega (arith, divides)
splits-few (gap ∷ gaps) place zero divides = omega arith
splits-few (gap ∷ gaps) place (suc count) divides = omega (arith, splits-few gaps (suc place) count divides.1)

-- how many items are kept
pub counts : {T : Type 0} (slots : List T) (gaps : List ℕ) (first : ℕ) → AreGaps first (length slots) gaps
    → (first ≤ length (kept slots gaps)) × (length (kept slots gaps) + length gaps ≡ length slots)
counts slots [] first are = (are, omega arith)
counts slots (gap ∷ gaps) first are =
    let rest = counts slots gaps (gap + 1) are.1 in
    let shorter = length-remove (kept slots gaps) gap (omega (arith, rest.0)) in
    (omega (arith, are.0, rest.0, shorter), omega (arith, rest.1, shorter))

next : (n : ℕ) → n + 1 ≡ suc n
next n = omega arith

moved : (place count : ℕ) → suc place + count ≡ place + suc count
moved place count = omega arith

none : (place count : ℕ) → count ≡ 0 → place ≡ place + count
none place count is = omega (arith, is)

-- the item at a place stands in the slot behind the gaps that are passed
pub kept-at : {T : Type 0} (slots : List T) (gaps : List ℕ) (first place count : ℕ) (d : T)
    → AreGaps first (length slots) gaps → Splits gaps place count
    → get_or (kept slots gaps) place d ≡ get_or slots (place + count) d
kept-at slots [] first place count d are divides = ap (λ n. get_or slots n d) (none place count divides)
kept-at slots (gap ∷ gaps) first place zero d are divides =
    let there : gap < length (kept slots gaps) = omega (arith, (counts slots gaps (gap + 1) are.1).0) in
    get_or-remove_below (kept slots gaps) gap d place divides.0 there
    ∙ kept-at slots gaps (gap + 1) place zero d are.1 divides.1
kept-at slots (gap ∷ gaps) first place (suc count) d are divides =
    let there : gap < length (kept slots gaps) = omega (arith, (counts slots gaps (gap + 1) are.1).0) in
    get_or-remove_above (kept slots gaps) gap d place divides.0 there
    ∙ ap (λ n. get_or (kept slots gaps) n d) (next place)
    ∙ kept-at slots gaps (gap + 1) (suc place) count d are.1 divides.1
    ∙ ap (λ n. get_or slots n d) (moved place count)

set-remove_below : {T : Type 0} (xs : List T) (gap place : ℕ) (x : T) → place < gap
    → set (remove xs gap) place x ≡ remove (set xs place x) gap
set-remove_below xs zero place x before = absurd (omega (arith, before))
set-remove_below [] (suc gap) place x before = refl
set-remove_below (y ∷ xs) (suc gap) zero x before = refl
set-remove_below (y ∷ xs) (suc gap) (suc place) x before =
    ap (λ l. y ∷ l) (set-remove_below xs gap place x (omega (arith, before)))

set-remove_above : {T : Type 0} (xs : List T) (gap place : ℕ) (x : T) → gap ≤ place
    → set (remove xs gap) place x ≡ remove (set xs (suc place) x) gap
set-remove_above [] zero place x after = refl
set-remove_above [] (suc gap) place x after = refl
set-remove_above (y ∷ xs) zero place x after = refl
set-remove_above (y ∷ xs) (suc gap) zero x after = absurd (omega (arith, after))
set-remove_above (y ∷ xs) (suc gap) (suc place) x after =
    ap (λ l. y ∷ l) (set-remove_above xs gap place x (omega (arith, after)))

-- a write to that slot is one to the place
pub kept-set : {T : Type 0} (slots : List T) (gaps : List ℕ) (place count : ℕ) (x : T) → Splits gaps place count
    → kept (set slots (place + count) x) gaps ≡ set (kept slots gaps) place x
kept-set slots [] place count x divides = ap (λ n. set slots n x) (sym (none place count divides))
kept-set slots (gap ∷ gaps) place zero x divides =
    ap (λ l. remove l gap) (kept-set slots gaps place zero x divides.1)
    ∙ sym (set-remove_below (kept slots gaps) gap place x divides.0)
kept-set slots (gap ∷ gaps) place (suc count) x divides =
    ap (λ n. remove (kept (set slots n x) gaps) gap) (sym (moved place count))
    ∙ ap (λ l. remove l gap) (kept-set slots gaps (suc place) count x divides.1)
    ∙ sym (set-remove_above (kept slots gaps) gap place x divides.0)

remove-remove : {T : Type 0} (xs : List T) (gap place : ℕ) → gap ≤ place
    → remove (remove xs (suc place)) gap ≡ remove (remove xs gap) place
remove-remove [] zero zero after = refl
remove-remove [] zero (suc place) after = refl
remove-remove [] (suc gap) zero after = absurd (omega (arith, after))
remove-remove [] (suc gap) (suc place) after = refl
remove-remove (x ∷ xs) zero place after = refl
remove-remove (x ∷ xs) (suc gap) zero after = absurd (omega (arith, after))
remove-remove (x ∷ xs) (suc gap) (suc place) after =
    ap (λ l. x ∷ l) (remove-remove xs gap place (omega (arith, after)))

-- one more gap, at that slot, removes the item at the place
pub kept-insert : {T : Type 0} (slots : List T) (gaps : List ℕ) (place count : ℕ) → Splits gaps place count
    → kept slots (insert gaps count (place + count)) ≡ remove (kept slots gaps) place
kept-insert slots [] place zero divides = ap (λ n. remove slots n) (sym (none place 0 refl))
kept-insert slots [] place (suc count) divides = absurd (omega (arith, divides))
kept-insert slots (gap ∷ gaps) place zero divides =
    ap (λ n. remove (remove (kept slots gaps) gap) n) (sym (none place 0 refl))
kept-insert slots (gap ∷ gaps) place (suc count) divides =
    ap (λ n. remove (kept slots (insert gaps count n)) gap) (sym (moved place count))
    ∙ ap (λ l. remove l gap) (kept-insert slots gaps (suc place) count divides.1)
    ∙ remove-remove (kept slots gaps) gap place divides.0

pub gaps-insert : (gaps : List ℕ) (first end place count : ℕ) → AreGaps first end gaps → Splits gaps place count
    → first ≤ place → place + count < end
    → AreGaps first end (insert gaps count (place + count))
gaps-insert [] first end place zero are divides from below = (omega (arith, from), omega (arith, below))
gaps-insert [] first end place (suc count) are divides from below = absurd (omega (arith, divides))
gaps-insert (gap ∷ gaps) first end place zero are divides from below =
    (omega (arith, from), (omega (arith, divides.0), are.1))
gaps-insert (gap ∷ gaps) first end place (suc count) are divides from below = (
  are.0,
  subst (λ n. AreGaps (gap + 1) end (insert gaps count n)) (moved place count)
      (gaps-insert gaps (gap + 1) end (suc place) count are.1 divides.1 (omega (arith, divides.0))
      (omega (arith, below))),
)

pub gaps-more : (gaps : List ℕ) (first end more : ℕ) → AreGaps first end gaps → end ≤ more
    → AreGaps first more gaps
gaps-more [] first end more are le = omega (arith, are, le)
gaps-more (gap ∷ gaps) first end more are le = (are.0, gaps-more gaps (gap + 1) end more are.1 le)

pub kept-push : {T : Type 0} (slots : List T) (gaps : List ℕ) (first : ℕ) (x : T)
    → AreGaps first (length slots) gaps
    → kept (slots ++ x ∷ []) gaps ≡ kept slots gaps ++ x ∷ []
kept-push slots [] first x are = refl
kept-push slots (gap ∷ gaps) first x are =
    let there : gap < length (kept slots gaps) = omega (arith, (counts slots gaps (gap + 1) are.1).0) in
    ap (λ l. remove l gap) (kept-push slots gaps (gap + 1) x are.1)
    ∙ remove-append_left (kept slots gaps) (x ∷ []) gap there

-- where the slot of a place lies
pub inside : {T : Type 0} (slots : List T) (gaps : List ℕ) (items : List T) (place : ℕ)
    → AreGaps 0 (length slots) gaps → kept slots gaps ≡ items → place < length items
    → place + length gaps < length slots
inside slots gaps items place are same below =
    omega (arith, (counts slots gaps 0 are).1, ap (λ l. length l) same, below)

pub gaps-few : (gaps : List ℕ) (end : ℕ) → AreGaps 0 end gaps → length gaps ≤ end
gaps-few gaps end are =
    omega (
      arith,
      gap-above gaps 0 end (length gaps) are (omega arith),
      get_or_past gaps (length gaps) end (omega arith),
    )

-- a slot that was found is one
pub found : {T : Type 0} (slots : List T) (gaps seen : List ℕ) (items : List T) (place before : ℕ)
    → AreGaps 0 (length slots) gaps → kept slots gaps ≡ items → place < length items → seen ≡ gaps
    → Splits seen place before
    → Splits gaps place before × (place + before < length slots)
found slots gaps seen items place before are same below read divides =
    let splits : Splits gaps place before = subst (λ (l : List ℕ). Splits l place before) read divides in
    (splits, omega (arith, inside slots gaps items place are same below, splits-few gaps place before splits))

-- the slots once this number of gaps is closed
abbrev pub AreMoved : {T : Type 0} → List T → List ℕ → ℕ → List T → Type 0
AreMoved {T} old gaps count now =
    (length now ≡ length old)
    × ((k : ℕ) (d : T) → k + count < get_or gaps count (length old) → get_or now k d ≡ get_or (kept old gaps) k d)
    × ((k : ℕ) (d : T) → get_or gaps count (length old) ≤ k → get_or now k d ≡ get_or old k d)

-- what is read of two gaps that follow each other
pub gaps-read : (gaps seen : List ℕ) (end last count gap to : ℕ) → AreGaps 0 end gaps → count < length gaps
    → gap ≡ get_or gaps count gap → seen ≡ gaps → last ≡ end → to ≡ get_or seen (count + 1) last
    → (gap ≡ get_or gaps count end) × (to ≡ get_or gaps (count + 1) end) × (count ≤ gap) × (gap + 1 ≤ to)
    × (to ≤ end)
gaps-read gaps seen end last count gap to are below gap-read same same-end to-read =
    let gap-is : gap ≡ get_or gaps count end = get_or_read gaps count gap below gap-read end in
    let to-is : to ≡ get_or gaps (count + 1) end =
    to-read ∙ ap (λ (l : List ℕ). get_or l (count + 1) last) same ∙ ap (λ n. get_or gaps (count + 1) n) same-end in (
      gap-is,
      to-is,
      omega (arith, gap-is, gap-above gaps 0 end count are (omega (arith, below))),
      omega (arith, gap-is, to-is, rising gaps 0 end count (count + 1) are (omega arith) (omega (arith, below))),
      omega (
        arith,
        to-is,
        below,
        rising gaps 0 end (count + 1) (length gaps) are (omega (arith, below)) (omega arith),
        get_or_past gaps (length gaps) end (omega arith),
      ),
    )

module _ {T : Type 0} (old : List T) (gaps : List ℕ) (are : AreGaps 0 (length old) gaps) where
  -- a place before the next gap is behind as many as there are before it
  splits-at : (k count : ℕ) → count ≤ length gaps → ((i : ℕ) → i < count → get_or gaps i (length old) ≤ k + i)
      → k + count < get_or gaps count (length old)
      → Splits gaps k count
  splits-at k count within before after =
      splits-from gaps (length old) k count within before
      (λ i l m. omega (arith, after, rising gaps 0 (length old) count i are l (omega (arith, m))))

  pub moved-none : AreMoved old gaps 0 old
  moved-none = (
    refl,
    λ k d l. ap (λ n. get_or old n d) (none k 0 refl)
        ∙ sym (kept-at old gaps 0 k 0 d are (splits-at k 0 (omega arith) (λ i m. absurd (omega (arith, m))) l)),
    λ k d l. refl,
  )

  pub moved-more : (now next : List T) (count gap to : ℕ) → AreMoved old gaps count now → count < length gaps
      → gap ≡ get_or gaps count (length old) → to ≡ get_or gaps (count + 1) (length old) → count ≤ gap
      → gap + 1 ≤ to
      → length next ≡ length now
      → CopiedTo now next (gap + 1) (gap - count) (to - (gap + 1)) → SameBelow now next (gap - count)
      → SameFrom now next (gap - count + (to - (gap + 1)))
      → AreMoved old gaps (count + 1) next
  moved-more now next count gap to moved below gap-is to-is least up long copied same-below same-from = (
    long ∙ moved.0,
    λ k d l. elim (cases_lt k (gap - count)) [
      | inl less ↦ same-below k d less ∙ moved.1 k d (omega (arith, less, gap-is))
      | inr more ↦ copied k d more (omega (arith, l, to-is, least, up))
          ∙ moved.2 (gap + 1 + (k - (gap - count))) d (omega (arith, gap-is))
          ∙ ap (λ n. get_or old n d) (shifted k count gap more least)
          ∙ sym (kept-at old gaps 0 k (count + 1) d are
          (splits-at k (count + 1) (omega (arith, below)) (passed k more) l))
    ],
    λ k d l. same-from k d (omega (arith, l, to-is, least, up)) ∙ moved.2 k d (omega (arith, l, to-is, up, gap-is)),
  )
    where
      shifted : (k count gap : ℕ) → gap - count ≤ k → count ≤ gap → gap + 1 + (k - (gap - count)) ≡ k + (count + 1)
      shifted k count gap more least = omega (arith, more, least)

      passed : (k : ℕ) → gap - count ≤ k → (i : ℕ) → i < count + 1 → get_or gaps i (length old) ≤ k + i
      passed k more i l =
          omega (
            arith,
            more,
            gap-is,
            rising gaps 0 (length old) i count are (omega (arith, l)) (omega (arith, below)),
          )

  pub moved-all : (now : List T) (count left : ℕ) → AreMoved old gaps count now → count ≤ length gaps
      → length gaps ≤ count → left ≡ length old - length gaps
      → take left now ≡ kept old gaps
  moved-all now count left moved most least is =
      let total = (counts old gaps 0 are).1 in
      let long : length (take left now) ≡ left = length-take-le left now (omega (arith, moved.0, is)) in
      same_lists (take left now) (kept old gaps) (omega (arith, long, is, total))
      (λ k d l. get_or-take left now k d (omega (arith, l, long))
      ∙ moved.1 k d (omega (
        arith,
        l,
        long,
        is,
        most,
        least,
        gaps-few gaps (length old) are,
        get_or_past gaps count (length old) least,
      )))
