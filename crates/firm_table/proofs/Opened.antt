-- The stays that the rows of a roster begin, one each, followed by places without a tenant, up to the count of places.
use Rattle.std.proofs.Common.{◌≡◌, ℕ, zero, suc, ◌+◌, ◌-◌, ◌<◌, ◌≤◌, List, [], ◌∷◌, ◌++◌, length, length-append, refl}
use Rattle.std.proofs.Common.{ap, ◌∙◌, take, get_or, arith}
use Rattle.std.specs.Prelude.{Option, Some, None, slice_get, map, replicate}
use Rattle.std.proofs.lemmas.List.{length-map, length-replicate, take_all}
use Rattle.std.proofs.lemmas.Option.{get_or_from_slice_get}
use Rattle.firm_text.specs.Rosters.{RosterRow, most_places}

-- what is opened at a place, which may have a row
abbrev pub opened_at : {X : Type 0} → (RosterRow → X) → X → Option RosterRow → X
opened_at begin unused None = unused
opened_at begin unused (Some row) = begin row

opened_more : {X : Type 0} (begin : RosterRow → X) (unused : X) (rows : List RosterRow) (n place : ℕ)
    → place < length rows + n
    → take (suc place) (map begin rows ++ replicate n unused)
    ≡ take place (map begin rows ++ replicate n unused) ++ opened_at begin unused (slice_get rows place) ∷ []
opened_more begin unused [] zero place within = absurd (let none : place < 0 = within in omega (arith, none))
opened_more begin unused [] (suc n) zero within = refl
opened_more {X} begin unused [] (suc n) (suc place) within =
    ap (λ (opened : List X). unused ∷ opened) (opened_more begin unused [] n place (let less : suc place < 0 + suc n =
    within in omega (arith, less)))
opened_more begin unused (row ∷ rest) n zero within = refl
opened_more {X} begin unused (row ∷ rest) n (suc place) within =
    ap (λ (opened : List X). begin row ∷ opened)
    (opened_more begin unused rest n place (let less : suc place < suc (length rest) + n =
    within in omega (arith, less)))

opened_here : {X : Type 0} (begin : RosterRow → X) (unused : X) (rows : List RosterRow) (n place : ℕ)
    → place < length rows + n
    → slice_get (map begin rows ++ replicate n unused) place ≡ Some (opened_at begin unused (slice_get rows place))
opened_here begin unused [] zero place within = absurd (let none : place < 0 = within in omega (arith, none))
opened_here begin unused [] (suc n) zero within = refl
opened_here begin unused [] (suc n) (suc place) within =
    opened_here begin unused [] n place (let less : suc place < 0 + suc n = within in omega (arith, less))
opened_here begin unused (row ∷ rest) n zero within = refl
opened_here begin unused (row ∷ rest) n (suc place) within =
    opened_here begin unused rest n place (let less : suc place < suc (length rest) + n =
    within in omega (arith, less))

module _ {X : Type 0} (begin : RosterRow → X) (unused : X) (roster : List RosterRow)
    (few : length roster ≤ most_places) where
  abbrev opened : List X
  opened = map begin roster ++ replicate (most_places - length roster) unused

  -- as many as there are places
  pub opened_length : length opened ≡ most_places
  opened_length =
      let whole = length-append (map begin roster) (replicate (most_places - length roster) unused) in
      let rows = length-map roster begin in
      let others = length-replicate (most_places - length roster) unused in
      omega (arith, whole, rows, others, few)

  -- what is opened at a place
  pub opened_is : (place : ℕ) → place < most_places
      → get_or opened place unused ≡ opened_at begin unused (slice_get roster place)
  opened_is place within =
      get_or_from_slice_get opened place (opened_at begin unused (slice_get roster place)) unused
      (opened_here begin unused roster (most_places - length roster) place (omega (arith, few, within)))

  -- one place more is opened
  pub opened_next : (place : ℕ) → place < most_places
      → take (place + 1) opened ≡ take place opened ++ opened_at begin unused (slice_get roster place) ∷ []
  opened_next place within =
      let same : place + 1 ≡ suc place = omega arith in
      ap (λ (n : ℕ). take n opened) same
      ∙ opened_more begin unused roster (most_places - length roster) place (omega (arith, few, within))

  -- all are
  pub opened_all : take most_places opened ≡ opened
  opened_all = take_all most_places opened (let all = opened_length in omega (arith, all))
