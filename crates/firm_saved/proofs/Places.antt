-- The places of a state, up to the last that was ever given, and how the rest is filled.
use Rattle.std.proofs.Common.{◌≡◌, ◌<◌, ◌≤◌, ◌+◌, ◌-◌, ℕ, zero, suc, Bool, true, false, cond, ◌||◌, List, [], ◌∷◌}
use Rattle.std.proofs.Common.{◌++◌, length}
use Rattle.std.proofs.Common.{get_or, refl, sym, ap, subst, ◌∙◌, arith, append_assoc, Option, Some, None, true≢false}
use Rattle.std.proofs.Common.{eqb, inl, inr}
use Rattle.std.proofs.Common.{bytes_eq, take}
use Rattle.std.specs.Prelude.{◌⊎◌, All, AllPairs, IsSome, replicate, option_map}
use Rattle.std.specs.List.{AllByRecursion}
use Rattle.std.proofs.lemmas.Bool.{cases_lt, eq-eqb, eqb-true, ne_eqb}
use Rattle.std.proofs.lemmas.List.{append-nil, length-append, length-map, length-replicate, map-append, length_push}
use Rattle.std.proofs.lemmas.List.Elements.{All-append, All-from_recursion, All-replicate, recursion_from_All}
use Rattle.std.proofs.lemmas.List.Quantifiers.{all_pairs_push}
use Rattle.std.proofs.lemmas.Slice.Eq.{bytes_eq-Decides}
use Rattle.firm_rules.specs.Book.{Book}
use Rattle.firm_text.specs.Registers.{AreApart, IsCounted, IsRegister, admissions_at, is_named, vacant}
use Rattle.firm_text.specs.Rosters.{most_places}
use Rattle.firm_text.specs.declared.registers.Entry.{Entry}
use Rattle.firm_saved.specs.Saved.{AreGivenInOrder, IsSoundPlace, AreSoundSaved, entry_of, filled, register_of}
use Rattle.firm_saved.specs.Saved.{tenant_name, untouched}
use Rattle.firm_saved.specs.StateText.{behind_place, given_places}
use Rattle.firm_saved.specs.declared.saved.SavedPlace.{SavedPlace}
use Rattle.firm_saved.specs.Drafts.{has_tenant}
use Rattle.firm_saved.specs.inner.Kept.{AreSoundPlaces, WasGiven}
use Rattle.firm_saved.proofs.Orders.{AreGiven, given_in_order}

-- a place that was never given has no tenant
vacant_is : (place : SavedPlace) → IsCounted (entry_of place) → place.admissions ≡ 0 → place ≡ untouched
vacant_is place counted none = by place.tenant refl
  where
    by : (tenant : Option (List ℕ × Book)) → place.tenant ≡ tenant → place ≡ untouched
    by None is =
        ap
        (λ (t : Option (List ℕ × Book)).
        let p : SavedPlace = record { admissions = place.admissions; tenant = t } in p)
        is
        ∙ ap (λ n. let p : SavedPlace = record { admissions = n; tenant = None } in p) none
    by (Some tenant) is =
        absurd (let some = counted.1 (subst (λ (t : Option (List ℕ × Book)).
        IsSome (option_map (λ (x : List ℕ × Book). x.0) t)) (sym is) refl) in omega arith)

no_more : (rest : List SavedPlace) → length (given_places rest) ≤ length rest
no_more [] = omega arith
no_more (place ∷ rest) = by (given_places rest) refl (no_more rest)
  where
    by : (given : List SavedPlace) → given_places rest ≡ given → length (given_places rest) ≤ length rest
        → length (behind_place place (given_places rest)) ≤ length (place ∷ rest)
    by [] is few = rw is (one (eqb place.admissions 0))
      where
        one : (b : Bool) → length (cond b [] (place ∷ [])) ≤ length (place ∷ rest)
        one true = omega arith
        one false = omega arith
    by (next ∷ others) is few = rw is (let same = ap (λ (l : List SavedPlace). length l) is in omega arith)

-- the places after the last that was ever given were never given
pub given_split : (places : List SavedPlace) → AllByRecursion (λ place. IsCounted (entry_of place)) places
    → places ≡ given_places places ++ replicate (length places - length (given_places places)) untouched
given_split [] counted = refl
given_split (place ∷ rest) counted = by (given_places rest) refl (given_split rest counted.1) (no_more rest)
  where
    by : (given : List SavedPlace) → given_places rest ≡ given
        → rest ≡ given_places rest ++ replicate (length rest - length (given_places rest)) untouched
        → length (given_places rest) ≤ length rest
        → place ∷ rest ≡ behind_place place (given_places rest)
        ++ replicate (length (place ∷ rest) - length (behind_place place (given_places rest))) untouched
    by [] is split few = rw is (one (eqb place.admissions 0) refl)
      where
        all : rest ≡ replicate (length rest) untouched
        all = let none : length rest - length (given_places rest) ≡ length rest =
            (let same = ap (λ (l : List SavedPlace). length l) is in omega arith) in
            split ∙ ap (λ (l : List SavedPlace). l ++ replicate (length rest - length (given_places rest)) untouched) is
            ∙ ap (λ n. replicate n untouched) none

        one : (b : Bool) → eqb place.admissions 0 ≡ b
            → place ∷ rest ≡ cond b [] (place ∷ [])
            ++ replicate (length (place ∷ rest) - length (cond b [] (place ∷ []))) untouched
        one true e =
            let more : length (place ∷ rest) - length {A = SavedPlace} [] ≡ suc (length rest) = omega arith in
            rw more (ap (λ (p : SavedPlace). p ∷ rest) (vacant_is place counted.0 (eqb-true place.admissions 0 e))
            ∙ ap (λ (l : List SavedPlace). untouched ∷ l) all)
        one false e =
            let more : length (place ∷ rest) - length (place ∷ []) ≡ length rest = omega arith in
            rw more (ap (λ (l : List SavedPlace). place ∷ l) all)
    by (next ∷ others) is split few =
        let more : length (place ∷ rest) - length (place ∷ next ∷ others) ≡ length rest - length (next ∷ others) =
        omega arith in
        rw (is, more) (ap (λ (l : List SavedPlace). place ∷ l)
        (split ∙ ap (λ (l : List SavedPlace). l ++ replicate (length rest - length l) untouched) is))

-- a place that was given stays before others
behind_whole : (place : SavedPlace) (rest : List SavedPlace) → WasGiven place → behind_place place rest ≡ place ∷ rest
behind_whole place [] some =
    ap (λ (b : Bool). cond b [] (place ∷ [])) (ne_eqb place.admissions 0 (λ none. omega arith))
behind_whole place (next ∷ rest) some = refl

-- given places, filled up, are given up to there
untouched_given : (n : ℕ) → given_places (replicate n untouched) ≡ []
untouched_given zero = refl
untouched_given (suc n) = ap (behind_place untouched) (untouched_given n)

pub given_back : (places : List SavedPlace) (n : ℕ) → AllByRecursion WasGiven places
    → given_places (places ++ replicate n untouched) ≡ places
given_back [] n given = untouched_given n
given_back (place ∷ rest) n given =
    ap (behind_place place) (given_back rest n given.1) ∙ behind_whole place rest given.0

-- how often the places of a state were given, in their order
abbrev given_at : List SavedPlace → ℕ → ℕ
given_at places at = admissions_at (register_of places) at

abbrev InOrder : List SavedPlace → Type 0
InOrder places = (at behind : ℕ) → at < behind → 0 < given_at places behind → 0 < given_at places at

in_order_behind : (place : SavedPlace) (rest : List SavedPlace) → InOrder (place ∷ rest) → InOrder rest
in_order_behind place rest order at behind less some = order (suc at) (suc behind) (omega arith) some

-- places behind one that was never given were never given
none_given : (places : List SavedPlace) → InOrder places → given_at places 0 ≡ 0 → given_places places ≡ []
none_given [] order none = refl
none_given (place ∷ rest) order none =
    ap (behind_place place) (none_given rest (in_order_behind place rest order) (later (cases_lt 0 (given_at rest 0))))
    ∙ ap (λ (b : Bool). cond b [] (place ∷ [])) (eq-eqb place.admissions 0 none)
  where
    later : (0 < given_at rest 0) ⊎ (given_at rest 0 ≤ 0) → given_at rest 0 ≡ 0
    later (inl some) = absurd (let first = order 0 1 (omega arith) some in omega (arith, none))
    later (inr few) = omega arith

-- so the places up to the last that was given were given, and there is one
pub all_given : (places : List SavedPlace) → InOrder places → AllByRecursion WasGiven (given_places places)
all_given [] order = tt
all_given (place ∷ rest) order =
    by (cases_lt 0 place.admissions) (all_given rest (in_order_behind place rest order))
  where
    by : (0 < place.admissions) ⊎ (place.admissions ≤ 0) → AllByRecursion WasGiven (given_places rest)
        → AllByRecursion WasGiven (given_places (place ∷ rest))
    by (inl some) given =
        subst (AllByRecursion WasGiven) (sym (behind_whole place (given_places rest) some)) (some, given)
    by (inr few) given =
        let none : place.admissions ≡ 0 = omega arith in
        subst (AllByRecursion WasGiven) (sym (none_given (place ∷ rest) order none)) tt

pub some_given : (places : List SavedPlace) → 0 < given_at places 0 → 0 < length (given_places places)
some_given [] some = absurd (omega arith)
some_given (place ∷ rest) some =
    subst (λ (l : List SavedPlace). 0 < length l) (sym (behind_whole place (given_places rest) some)) (omega arith)

-- and places that were given, filled up, were given in their order
entries_given : (places : List SavedPlace) → AllByRecursion WasGiven places → AreGiven (register_of places)
entries_given [] given = tt
entries_given (place ∷ rest) given = (given.0, entries_given rest given.1)

untouched_entries : (n : ℕ) → register_of (replicate n untouched) ≡ replicate n (vacant 0)
untouched_entries zero = refl
untouched_entries (suc n) = ap (λ (entries : List Entry). vacant 0 ∷ entries) (untouched_entries n)

filled_in_order : (places : List SavedPlace) (n : ℕ) → AllByRecursion WasGiven places → 0 < length places
    → AreGivenInOrder (register_of (places ++ replicate n untouched))
filled_in_order places n given some =
    subst AreGivenInOrder
    (sym (map-append entry_of places (replicate n untouched)
    ∙ ap (λ (entries : List Entry). register_of places ++ entries) (untouched_entries n)))
    (given_in_order (register_of places) n (entries_given places given) (omega (arith, length-map places entry_of)))

-- elements of a list in two parts
pub at_left : {X : Type 0} (xs ys : List X) (k : ℕ) (d : X) → k < length xs → get_or (xs ++ ys) k d ≡ get_or xs k d
at_left [] ys k d below = absurd (omega arith)
at_left (x ∷ xs) ys zero d below = refl
at_left (x ∷ xs) ys (suc k) d below = at_left xs ys k d (omega arith)

pub at_middle : {X : Type 0} (xs ys : List X) (y d : X) → get_or (xs ++ y ∷ ys) (length xs) d ≡ y
at_middle [] ys y d = refl
at_middle (x ∷ xs) ys y d = at_middle xs ys y d

-- each before an element is apart from it
pub pairs_middle : {X : Type 0} (R : X → X → Type 0) (xs ys : List X) (y : X) → AllPairs R (xs ++ y ∷ ys)
    → All (λ x. R x y) xs
pairs_middle {X} R xs ys y pairs k d below =
    let both = pairs k (length xs) d below (let long = length-append xs (y ∷ ys) in omega arith) in
    subst (λ (x : X). R x y) (at_left xs (y ∷ ys) k d below)
    (subst (λ (z : X). R (get_or (xs ++ y ∷ ys) k d) z) (at_middle xs ys y d) both)

pub pairs_left : {X : Type 0} (R : X → X → Type 0) (xs ys : List X) → AllPairs R (xs ++ ys) → AllPairs R xs
pairs_left {X} R xs ys pairs i j d before below =
    let both = pairs i j d before (let long = length-append xs ys in omega arith) in
    subst (λ (x : X). R x (get_or xs j d)) (at_left xs ys i d (omega arith))
    (subst (λ (z : X). R (get_or (xs ++ ys) i d) z) (at_left xs ys j d below) both)

pub all_left : {X : Type 0} (P : X → Type 0) (xs ys : List X) → All P (xs ++ ys) → All P xs
all_left {X} P xs ys all k d below =
    subst P (at_left xs ys k d below) (all k d (let long = length-append xs ys in omega arith))

-- a tenant that is apart from those at the places before is not seated there
pub not_seated : (before : List SavedPlace) (place : SavedPlace) (name : List ℕ)
    → AllByRecursion (λ entry. AreApart entry (entry_of place)) (register_of before)
    → tenant_name place ≡ Some name → has_tenant before name ≡ false
not_seated [] place name apart is = refl
not_seated (first ∷ before) place name apart is =
    ap (λ (b : Bool). b || has_tenant before name) (other (tenant_name first) refl)
    ∙ not_seated before place name apart.1 is
  where
    other : (tenant : Option (List ℕ)) → tenant_name first ≡ tenant → is_named name (tenant_name first) ≡ false
    other None e = ap (is_named name) e
    other (Some n) e = elim (bytes_eq n name) as
        (λ b. bytes_eq n name ≡ b → is_named name (tenant_name first) ≡ false) [
          | true ↦ λ same. absurd (apart.0 name (e ∙ ap Some ((bytes_eq-Decides n name).0 same)) is)
          | false ↦ λ differ. ap (is_named name) e ∙ differ
        ] refl

-- and one that is not seated there is apart from them
pub seated_apart : (before : List SavedPlace) (place : SavedPlace)
    → ((name : List ℕ) → tenant_name place ≡ Some name → has_tenant before name ≡ false)
    → AllByRecursion (λ entry. AreApart entry (entry_of place)) (register_of before)
seated_apart [] place free = tt
seated_apart (first ∷ before) place free = (
  λ name is-first is. absurd (true≢false (
      sym (ap (λ (b : Bool). b || has_tenant before name)
      (ap (is_named name) is-first ∙ (bytes_eq-Decides name name).1 refl))
      ∙ free name is)),
  seated_apart before place (λ name is. later name (free name is)),
)
  where
    later : (name : List ℕ) → has_tenant (first ∷ before) name ≡ false → has_tenant before name ≡ false
    later name e = by (is_named name (tenant_name first)) e
      where
        by : (b : Bool) → (b || has_tenant before name) ≡ false → has_tenant before name ≡ false
        by true e = absurd (true≢false e)
        by false e = e

-- one more place
pub sound_push : (places : List SavedPlace) (place : SavedPlace) → AreSoundPlaces places → length places < most_places
    → IsCounted (entry_of place) → IsSoundPlace place
    → ((name : List ℕ) → tenant_name place ≡ Some name → has_tenant places name ≡ false)
    → AreSoundPlaces (places ++ place ∷ [])
sound_push places place sound room counted whole free =
    let wide : register_of (places ++ place ∷ []) ≡ register_of places ++ entry_of place ∷ [] =
    map-append entry_of places (place ∷ []) in
    record {
      few = omega (arith, length_push places place);
      apart = subst (AllPairs AreApart) (sym wide) (all_pairs_push AreApart (register_of places) (entry_of place)
          sound.apart
          (All-from_recursion (λ entry. AreApart entry (entry_of place)) (register_of places)
          (seated_apart places place free)));
      counted = subst (All IsCounted) (sym wide)
          (push_all IsCounted (register_of places) (entry_of place) sound.counted counted);
      books = push_all IsSoundPlace places place sound.books whole;
    }
  where
    push_all : {X : Type 0} (P : X → Type 0) (xs : List X) (x : X) → All P xs → P x → All P (xs ++ x ∷ [])
    push_all {X} P xs x all here =
        All-from_recursion P (xs ++ x ∷ []) (by xs (recursion_from_All P xs all))
      where
        by : (xs : List X) → AllByRecursion P xs → AllByRecursion P (xs ++ x ∷ [])
        by [] h = (here, tt)
        by (y ∷ xs) h = (h.0, by xs h.1)

untouched_counted : IsCounted (entry_of untouched)
untouched_counted = (omega arith, λ some. absurd (true≢false (sym some)))

sound_filled : (n : ℕ) (places : List SavedPlace) → AreSoundPlaces places → length places + n ≤ most_places
    → AreSoundPlaces (places ++ replicate n untouched)
sound_filled zero places sound few = subst AreSoundPlaces (sym (append-nil places)) sound
sound_filled (suc n) places sound few =
    subst AreSoundPlaces (append_assoc places (untouched ∷ []) (replicate n untouched))
    (sound_filled n (places ++ untouched ∷ [])
    (sound_push places untouched sound (omega arith) untouched_counted tt (λ name is. absurd cc))
    (omega (arith, length_push places untouched)))

-- filled up to 64 they are a sound state, where there are some and each was given
pub sound_state : (places : List SavedPlace) → AreSoundPlaces places → AllByRecursion WasGiven places
    → 0 < length places → AreSoundSaved (filled places)
sound_state places sound given some =
    let n : ℕ = most_places - length places in
    let few = sound.few in
    let all = sound_filled n places sound (omega arith) in
    record {
      register = record {
        all = length-map (filled places) entry_of ∙ length-append places (replicate n untouched)
            ∙ ap (λ k. length places + k) (length-replicate n untouched) ∙ omega arith;
        apart = all.apart;
        counted = all.counted;
      };
      in_order = filled_in_order places n given some;
      books = all.books;
    }

-- the places of a register are filled up from the last given one
places_filled : (places : List SavedPlace) → IsRegister (register_of places) → filled (given_places places) ≡ places
places_filled places register =
    let long : length places ≡ most_places = sym (length-map places entry_of) ∙ register.all in
    ap (λ n. given_places places ++ replicate (n - length (given_places places)) untouched) (sym long)
    ∙ sym (given_split places (counted places (recursion_from_All IsCounted (register_of places) register.counted)))
  where
    counted : (places : List SavedPlace) → AllByRecursion IsCounted (register_of places)
        → AllByRecursion (λ place. IsCounted (entry_of place)) places
    counted [] h = tt
    counted (place ∷ places) h = (h.0, counted places h.1)

pub state_filled : (places : List SavedPlace) → AreSoundSaved places → filled (given_places places) ≡ places
state_filled places sound = places_filled places sound.register

-- where the places up to the last given one are sound, all are
pub sound_from : (places : List SavedPlace) (entries : List Entry) (n : ℕ) → register_of places ≡ entries
    → IsRegister entries → AreGivenInOrder entries → given_places places ≡ take n places
    → All IsSoundPlace (take n places) → AreSoundSaved places
sound_from places entries n is register in_order given front =
    let own : IsRegister (register_of places) = subst IsRegister (sym is) register in
    let count : ℕ = most_places - length (given_places places) in
    record {
      register = own;
      in_order = subst AreGivenInOrder (sym is) in_order;
      books = subst (All IsSoundPlace) (places_filled places own)
          (All-append IsSoundPlace (given_places places) (replicate count untouched)
          (subst (All IsSoundPlace) (sym given) front) (All-replicate IsSoundPlace count untouched tt));
    }

pub given_sound : (places : List SavedPlace) → AreSoundSaved places → AreSoundPlaces (given_places places)
given_sound places sound =
    let given : List SavedPlace = given_places places in
    let rest : List SavedPlace = replicate (most_places - length given) untouched in
    let whole : given ++ rest ≡ places = state_filled places sound in
    let wide : register_of given ++ register_of rest ≡ register_of places =
    sym (map-append entry_of given rest) ∙ ap register_of whole in
    let long : length places ≡ most_places = sym (length-map places entry_of) ∙ sound.register.all in
    record {
      few = omega (arith, length-append given rest, ap (λ (l : List SavedPlace). length l) whole);
      apart = pairs_left AreApart (register_of given) (register_of rest)
          (subst (AllPairs AreApart) (sym wide) sound.register.apart);
      counted = all_left IsCounted (register_of given) (register_of rest)
          (subst (All IsCounted) (sym wide) sound.register.counted);
      books = all_left IsSoundPlace given rest (subst (All IsSoundPlace) (sym whole) sound.books);
    }

-- the last place counts if it was given, and else is left out
pub given_less : (front : List SavedPlace) (last : SavedPlace) → last.admissions ≡ 0
    → given_places (front ++ last ∷ []) ≡ given_places front
given_less [] last none = ap (λ (b : Bool). cond b [] (last ∷ [])) (eq-eqb last.admissions 0 none)
given_less (place ∷ front) last none = ap (behind_place place) (given_less front last none)

pub given_whole : (front : List SavedPlace) (last : SavedPlace) → 0 < last.admissions
    → given_places (front ++ last ∷ []) ≡ front ++ last ∷ []
given_whole [] last some = behind_whole last [] some
given_whole (place ∷ front) last some = ap (behind_place place) (given_whole front last some) ∙ more front
  where
    more : (front : List SavedPlace) → behind_place place (front ++ last ∷ []) ≡ place ∷ (front ++ last ∷ [])
    more [] = refl
    more (next ∷ front) = refl

-- some places are those but the last, and the last
pub split_last : (places : List SavedPlace) (d : SavedPlace) → 1 ≤ length places
    → places ≡ take (length places - 1) places ++ get_or places (length places - 1) d ∷ []
split_last [] d some = absurd (omega arith)
split_last (last ∷ []) d some = refl
split_last (place ∷ next ∷ rest) d some =
    let more : length (place ∷ next ∷ rest) - 1 ≡ suc (length (next ∷ rest) - 1) = omega arith in
    rw more (ap (λ (l : List SavedPlace). place ∷ l) (split_last (next ∷ rest) d (omega arith)))
