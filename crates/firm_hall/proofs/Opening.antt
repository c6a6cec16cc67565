-- The desks that a hall is opened with, one by one.
use Rattle.std.proofs.Common.{◌≡◌, ℕ, zero, suc, ◌+◌, ◌-◌, ◌<◌, ◌≤◌, List, [], ◌∷◌, ◌++◌, Some, All, length, get_or}
use Rattle.std.proofs.Common.{drop, take, map}
use Rattle.std.proofs.Common.{add-one, ⊎_elim, refl, sym, ap, ◌∙◌, arith, length-append}
use Rattle.std.specs.Prelude.{slice_get}
use Rattle.std.proofs.lemmas.List.{get_or_append_left, get_or_push, get_or-drop, append_assoc, drop_more}
use Rattle.std.proofs.lemmas.List.{drop_all, take_all, take-append-le, drop-append-le, map-append}
use Rattle.std.proofs.lemmas.Option.{slice_get_within, get_or_from_slice_get}
use Rattle.std.proofs.lemmas.Bool.{cases_lt}
use Rattle.firm_rules.specs.Book.{Book, opening_book}
use Rattle.firm_text.specs.Rosters.{RosterRow}
use Rattle.firm_rounds.specs.Passes.{QueueId, PutIs, put_is, new_puts}
use Rattle.firm_hall.specs.Desks.{DeskIs, desk_is, PlaceIs, place_is}
use Rattle.firm_hall.specs.Opening.{opening_desks, unused_places}

pub puts_wide : (id : QueueId) (n : ℕ) → length (new_puts id n) ≡ n
puts_wide id zero = refl
puts_wide id (suc n) = omega (arith, puts_wide id n, length-append (new_puts id n) (put_is id n 0 ∷ []))

puts_at : (id : QueueId) (n k : ℕ) (d : PutIs) → k < n → get_or (new_puts id n) k d ≡ put_is id k 0
puts_at id zero k d low = absurd (omega arith)
puts_at id (suc n) k d low =
    ⊎_elim (λ (less : k < n).
    get_or_append_left (new_puts id n) (put_is id n 0 ∷ []) d k (omega (arith, puts_wide id n)) ∙ puts_at id n k d less)
    (λ (more : n ≤ k). let same : n
    ≡ k = omega arith in get_or_push (new_puts id n) (put_is id n 0) d k (puts_wide id n ∙ same)
    ∙ ap (λ (j : ℕ). put_is id j 0) same)
    (cases_lt k n)

-- the pass of a place, where passes are taken off the front
pub pass_at : (id : QueueId) (passes : List PutIs) (count at : ℕ) (rest : List PutIs) (pass : PutIs)
    → passes ≡ new_puts id count → at < count → drop at passes ≡ pass ∷ rest → pass ≡ put_is id at 0
pass_at id passes count at rest pass e low here =
    let first : get_or (drop at passes) 0 pass ≡ pass = ap (λ (xs : List PutIs). get_or xs 0 pass) here in
    let there : get_or (drop at passes) 0 pass ≡ get_or passes (at + 0) pass = get_or-drop at passes 0 pass in
    let zero_more : at + 0 ≡ at = omega arith in
    sym first ∙ (there
    ∙ (ap (λ (j : ℕ). get_or passes j pass) zero_more
    ∙ (ap (λ (xs : List PutIs). get_or xs at pass) e ∙ puts_at id count at pass low)))

drop_tail : {A : Type 0} (n : ℕ) (xs : List A) → drop (suc n) xs ≡ drop 1 (drop n xs)
drop_tail {A = A} zero [] = refl
drop_tail {A = A} zero (x ∷ xs) = refl
drop_tail {A = A} (suc n) [] = refl
drop_tail {A = A} (suc n) (x ∷ xs) = drop_tail n xs

pub rest_behind : {A : Type 0} (n : ℕ) (all rest : List A) (x : A) → drop n all ≡ x ∷ rest → drop (n + 1) all ≡ rest
rest_behind {A = A} n all rest x e = ap (λ (j : ℕ). drop j all) (add-one n) ∙ (drop_tail n all ∙ ap (drop 1) e)

-- the desks from a place on begin with that of its row
desks_from : (id : QueueId) (at : ℕ) (roster : List RosterRow) (tenant : RosterRow) → slice_get roster at ≡ Some tenant
    → opening_desks id at (drop at roster)
    ≡ desk_is id at 0 1 (opening_book tenant.1) ∷ opening_desks id (at + 1) (drop (at + 1) roster)
desks_from id at roster tenant e =
    let behind = drop (at + 1) roster in
    let rows : drop at roster ≡ tenant ∷ behind =
    drop_more roster at tenant (slice_get_within roster at tenant e)
    ∙ ap (λ (t : RosterRow). t ∷ behind) (get_or_from_slice_get roster at tenant tenant e) in
    ap (opening_desks id at) rows
    ∙ ap (λ (j : ℕ). desk_is id at 0 1 (opening_book tenant.1) ∷ opening_desks id j behind) (sym (add-one at))

-- one desk more is opened
pub opens_next : (id : QueueId) (at : ℕ) (roster : List RosterRow) (tenant : RosterRow) (desks grown all : List DeskIs)
    (desk : DeskIs)
    → slice_get roster at ≡ Some tenant → grown ≡ desks ++ desk ∷ [] → desk ≡ desk_is id at 0 1 (opening_book tenant.1)
    → desks ++ opening_desks id at (drop at roster) ≡ all
    → grown ++ opening_desks id (at + 1) (drop (at + 1) roster) ≡ all
opens_next id at roster tenant desks grown all desk row pushed is before =
    let rest = opening_desks id (at + 1) (drop (at + 1) roster) in
    ap (λ (xs : List DeskIs). xs ++ rest) pushed ∙ (append_assoc desks (desk ∷ []) rest
    ∙ (ap (λ (ys : List DeskIs). desks ++ ys)
    (ap (λ (d : DeskIs). d ∷ rest) is ∙ sym (desks_from id at roster tenant row)) ∙ before))

-- what holds of the next pass
pub next_desk : (id : QueueId) (passes : List PutIs) (count at : ℕ) (rest : List PutIs) (pass : PutIs) (desk : DeskIs)
    (book : Book)
    → passes ≡ new_puts id count → at < count → drop at passes ≡ pass ∷ rest
    → desk ≡ desk_is pass.queue pass.place 0 1 book → desk ≡ desk_is id at 0 1 book
next_desk id passes count at rest pass desk book e low here is =
    is ∙ ap (λ (p : PutIs). desk_is p.queue p.place 0 1 book) (pass_at id passes count at rest pass e low here)

-- the desks that a hall opens with are of it
pub desks_of : (id : QueueId) (place : ℕ) (roster : List RosterRow)
    → All (λ (d : DeskIs). d.queue ≡ id) (opening_desks id place roster)
desks_of id place [] k d low = absurd (omega arith)
desks_of id place (tenant ∷ rest) zero d low = refl
desks_of id place (tenant ∷ rest) (suc k) d low = desks_of id (suc place) rest k d (omega arith)

-- the passes of the first places
pub puts_front : (id : QueueId) (n m : ℕ) → n ≤ m → take n (new_puts id m) ≡ new_puts id n
puts_front id n zero low = let none : n ≡ 0 = omega arith in rw none refl
puts_front id n (suc m) low = ⊎_elim
    (λ (less : n < suc m).
    take-append-le n (new_puts id m) (put_is id m 0 ∷ []) (omega (arith, puts_wide id m))
    ∙ puts_front id n m (omega arith))
    (λ (more : suc m ≤ n).
    let same : suc m ≡ n = omega arith in
    take_all n (new_puts id (suc m)) (omega (arith, puts_wide id (suc m))) ∙ ap (new_puts id) same)
    (cases_lt n (suc m))

-- a place that nobody had, of a pass
abbrev pub unused_of : PutIs → PlaceIs
unused_of pass = place_is pass.queue pass.place 0 0

-- one place more
unused_more : (id : QueueId) (n k m : ℕ) → m ≡ n + k
    → unused_places id n k ++ place_is id m 0 0 ∷ [] ≡ unused_places id n (suc k)
unused_more id n zero m e = let same : m ≡ n = omega arith in ap (λ (j : ℕ). place_is id j 0 0 ∷ []) same
unused_more id n (suc k) m e =
    ap (λ (ps : List PlaceIs). place_is id n 0 0 ∷ ps) (unused_more id (suc n) k m (omega arith))

-- and those of the others
pub puts_rest : (id : QueueId) (n k m : ℕ) → m ≡ n + k → map unused_of (drop n (new_puts id m)) ≡ unused_places id n k
puts_rest id n zero m e = ap (map unused_of) (drop_all n (new_puts id m) (omega (arith, puts_wide id m)))
puts_rest id n (suc k) zero e = absurd (omega arith)
puts_rest id n (suc k) (suc m) e =
    ap (map unused_of) (drop-append-le n (new_puts id m) (put_is id m 0 ∷ []) (omega (arith, puts_wide id m)))
    ∙ map-append unused_of (drop n (new_puts id m)) (put_is id m 0 ∷ [])
    ∙ ap (λ (ps : List PlaceIs). ps ++ place_is id m 0 0 ∷ []) (puts_rest id n k m (omega arith))
    ∙ unused_more id n k m (omega arith)

-- they are of the hall
pub unused_are_of : (id : QueueId) (n k : ℕ) → All (λ (p : PlaceIs). p.queue ≡ id) (unused_places id n k)
unused_are_of id n zero i d low = absurd (omega arith)
unused_are_of id n (suc k) zero d low = refl
unused_are_of id n (suc k) (suc i) d low = unused_are_of id (suc n) k i d (omega arith)

-- what a hall is opened with: the passes of the roster's places, and those of the others
pub front_of : (id : QueueId) (rows places n : ℕ) (puts front : List PutIs) → n ≡ rows → rows ≤ places
    → puts ≡ new_puts id places
    → front ≡ take n puts → front ≡ new_puts id rows
front_of id rows places n puts front count low all cut =
    cut ∙ ap (take n) all ∙ ap (λ (k : ℕ). take k (new_puts id places)) count ∙ puts_front id rows places low

pub rest_of : (id : QueueId) (rows places n : ℕ) (puts rest : List PutIs) → n ≡ rows → rows ≤ places
    → puts ≡ new_puts id places
    → rest ≡ drop n puts → map unused_of rest ≡ unused_places id rows (places - rows)
rest_of id rows places n puts rest count low all cut =
    ap (map unused_of) (cut ∙ ap (drop n) all ∙ ap (λ (k : ℕ). drop k (new_puts id places)) count)
    ∙ puts_rest id rows (places - rows) places (omega arith)
