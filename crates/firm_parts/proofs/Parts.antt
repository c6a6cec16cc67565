-- Books in a state that is cut, and that it is sound.
use Rattle.std.proofs.Common.{◌≡◌, ◌∙◌, ◌<◌, ◌+◌, ◌++◌, ◌∷◌, ◌||◌, [], ℕ, zero, suc, Bool, true, false, List, arith}
use Rattle.std.proofs.Common.{refl, sym}
use Rattle.std.proofs.Common.{ap}
use Rattle.std.proofs.Common.{subst, length, get_or, take, drop, drop-cons, cond, bytes_eq, is_some, Option, Some, None}
use Rattle.std.specs.Prelude.{All, AllPairs, IsSome, map, option_map, set}
use Rattle.std.proofs.Math.ListN.{get_or-map}
use Rattle.std.proofs.Math.Seq.{drop-length}
use Rattle.std.proofs.lemmas.List.{append_assoc, append-nil, get_or_default, length-map, length-take-le, map-append}
use Rattle.std.proofs.lemmas.List.{set_at, take_all, take_more}
use Rattle.std.proofs.lemmas.List.Elements.{All-map}
use Rattle.std.proofs.lemmas.Slice.Eq.{bytes_eq-Decides}
use Rattle.firm_rules.specs.Book.{Book}
use Rattle.firm_rules.specs.Names.{is_among}
use Rattle.firm_text.specs.Registers.{AreApart, IsCounted, admissions_at}
use Rattle.firm_text.specs.declared.registers.Entry.{Entry}
use Rattle.firm_parts.specs.Parts.{book_in, cut_to, kept_place, kept_tenant}
use Rattle.firm_parts.specs.Laws.{CutsKeepBooks}
use Rattle.firm_text.specs.Rosters.{FitsHeading}
use Rattle.firm_text.specs.declared.headings.Heading.{Heading}
use Rattle.firm_saved.specs.Saved.{AreSoundSaved, IsSoundPlace, PlaceFits, entry_of, register_of, untouched}
use Rattle.firm_saved.specs.declared.saved.SavedPlace.{SavedPlace}
use Rattle.firm_parts.specs.inner.Seats.{is_seated}

-- a place of these parts
abbrev pub place_is : ℕ → Option (List ℕ × Book) → SavedPlace
place_is admissions tenant = record { admissions = admissions; tenant = tenant }

-- the book of a name, behind a place with this tenant
abbrev pub book_behind : Option (List ℕ × Book) → List SavedPlace → List ℕ → Option Book
book_behind tenant rest name = book_in (place_is 0 tenant ∷ rest) name

pub cuts_keep_books : CutsKeepBooks
cuts_keep_books names [] name = elim (is_among names name) as
    (λ b. ◌≡◌ {A = Option Book} None (cond b None None)) [ true ↦ refl | false ↦ refl ]
cuts_keep_books names (place ∷ rest) name = by place.tenant (cuts_keep_books names rest name)
  where
    by : (tenant : Option (List ℕ × Book))
        → book_in (cut_to names rest) name ≡ cond (is_among names name) (book_in rest name) None
        → book_behind (kept_tenant names tenant) (cut_to names rest) name
        ≡ cond (is_among names name) (book_behind tenant rest name) None
    by None rest_is = rest_is
    by (Some tenant) rest_is = elim (bytes_eq tenant.0 name) as
        (λ b. bytes_eq tenant.0 name ≡ b → book_behind (kept_tenant names (Some tenant)) (cut_to names rest) name
        ≡ cond (is_among names name) (book_behind (Some tenant) rest name) None) [
          | true ↦ λ same. rw same (here same)
          | false ↦ λ differ. rw differ (elsewhere differ (is_among names tenant.0))
        ] refl
      where
        here : bytes_eq tenant.0 name ≡ true
            → book_behind (cond (is_among names tenant.0) (Some tenant) None) (cut_to names rest) name
            ≡ cond (is_among names name) (Some tenant.1) None
        here same =
            let alike : is_among names tenant.0 ≡ is_among names name =
            ap (is_among names) ((bytes_eq-Decides tenant.0 name).0 same) in
            elim (is_among names tenant.0) as
            (λ b. is_among names tenant.0 ≡ b → book_behind (cond b (Some tenant) None) (cut_to names rest) name
            ≡ cond (is_among names name) (Some tenant.1) None) [
              | true ↦ λ among.
                  ap (λ (b : Bool). cond b (Some tenant.1) (book_in (cut_to names rest) name)) same
                  ∙ sym (ap (λ (b : Bool). cond b (Some tenant.1) None) (sym alike ∙ among))
              | false ↦ λ none.
                  rest_is ∙ ap (λ (b : Bool). cond b (book_in rest name) None) (sym alike ∙ none)
                  ∙ sym (ap (λ (b : Bool). cond b (Some tenant.1) None) (sym alike ∙ none))
            ] refl

        elsewhere : bytes_eq tenant.0 name ≡ false → (b : Bool)
            → book_behind (cond b (Some tenant) None) (cut_to names rest) name
            ≡ cond (is_among names name) (book_in rest name) None
        elsewhere differ true = rw differ rest_is
        elsewhere differ false = rest_is

-- a tenant has a book where it is seated
pub seated_book : (places : List SavedPlace) (name : List ℕ) → is_seated places name ≡ is_some (book_in places name)
seated_book [] name = refl
seated_book (place ∷ rest) name = by place.tenant (seated_book rest name)
  where
    by : (tenant : Option (List ℕ × Book)) → is_seated rest name ≡ is_some (book_in rest name)
        → is_seated (place_is 0 tenant ∷ rest) name ≡ is_some (book_behind tenant rest name)
    by None more = more
    by (Some tenant) more = elim (bytes_eq tenant.0 name) as
        (λ b. (b || is_seated rest name) ≡ is_some (cond b (Some tenant.1) (book_in rest name)))
        [ true ↦ refl | false ↦ more ]

-- a tenant of the cut state was in the state
kept_named : (names : List (List ℕ)) (tenant : Option (List ℕ × Book)) (name : List ℕ)
    → option_map (λ (t : List ℕ × Book). t.0) (kept_tenant names tenant) ≡ Some name
    → option_map (λ (t : List ℕ × Book). t.0) tenant ≡ Some name
kept_named names None name is = is
kept_named names (Some tenant) name is = elim (is_among names tenant.0) as
    (λ b. option_map (λ (t : List ℕ × Book). t.0) (cond b (Some tenant) None) ≡ Some name → Some tenant.0 ≡ Some name)
    [ true ↦ λ e. e | false ↦ λ e. absurd (cc) ] is

kept_some : (names : List (List ℕ)) (tenant : Option (List ℕ × Book))
    → IsSome (option_map (λ (t : List ℕ × Book). t.0) (kept_tenant names tenant))
    → IsSome (option_map (λ (t : List ℕ × Book). t.0) tenant)
kept_some names None some = some
kept_some names (Some tenant) some = refl

kept_counted : (names : List (List ℕ)) (place : SavedPlace) → IsCounted (entry_of place)
    → IsCounted (entry_of (kept_place names place))
kept_counted names place counted = (counted.0, λ some. counted.1 (kept_some names place.tenant some))

kept_sound : (names : List (List ℕ)) (place : SavedPlace) → IsSoundPlace place → IsSoundPlace (kept_place names place)
kept_sound names place sound = by place.tenant sound
  where
    by : (tenant : Option (List ℕ × Book)) → IsSoundPlace (place_is 0 tenant)
        → IsSoundPlace (place_is 0 (kept_tenant names tenant))
    by None sound = tt
    by (Some tenant) sound = elim (is_among names tenant.0) as
        (λ b. IsSoundPlace (place_is 0 (cond b (Some tenant) None))) [ true ↦ sound | false ↦ tt ]

-- the entry of a place that is cut
cut_entry : (names : List (List ℕ)) (places : List SavedPlace) (at : ℕ) (d : Entry) → at < length places
    → get_or (register_of (cut_to names places)) at d ≡ entry_of (kept_place names (get_or places at untouched))
cut_entry names places at d within =
    let wide = length-map (cut_to names places) entry_of ∙ length-map places (kept_place names) in
    get_or_default (register_of (cut_to names places)) at d (entry_of untouched) (omega (arith, within, wide))
    ∙ get_or-map entry_of (cut_to names places) at untouched
    ∙ ap entry_of (get_or-map (kept_place names) places at untouched)

whole_entry : (places : List SavedPlace) (at : ℕ)
    → get_or (register_of places) at (entry_of untouched) ≡ entry_of (get_or places at untouched)
whole_entry places at = get_or-map entry_of places at untouched

cut_apart : (names : List (List ℕ)) (places : List SavedPlace) → AllPairs AreApart (register_of places)
    → AllPairs AreApart (register_of (cut_to names places))
cut_apart names places apart i j d before within name first second =
    let long = length-map places entry_of in
    let inside : j < length places =
    omega (arith, within, length-map (cut_to names places) entry_of, length-map places (kept_place names)) in
    let named : (at : ℕ) → at < length places → (get_or (register_of (cut_to names places)) at d).tenant ≡ Some name
    → (get_or (register_of places) at (entry_of untouched)).tenant ≡ Some name =
    λ at below held. ap (λ (e : Entry). e.tenant) (whole_entry places at)
    ∙ kept_named names (get_or places at untouched).tenant name
    (sym (ap (λ (e : Entry). e.tenant) (cut_entry names places at d below)) ∙ held) in
    apart i j (entry_of untouched) before (omega (arith, inside, long)) name (named i (omega arith) first)
    (named j inside second)

-- and its places were given as often
cut_as_often : (names : List (List ℕ)) (places : List SavedPlace) (at : ℕ)
    → admissions_at (register_of places) at ≡ admissions_at (register_of (cut_to names places)) at
cut_as_often names [] at = refl
cut_as_often names (place ∷ places) zero = refl
cut_as_often names (place ∷ places) (suc at) = cut_as_often names places at

-- the places of a cut state are sound
pub cut_sound : (names : List (List ℕ)) (places : List SavedPlace) → AreSoundSaved places
    → AreSoundSaved (cut_to names places)
cut_sound names places sound = record {
  register = record {
    all = length-map (cut_to names places) entry_of ∙ length-map places (kept_place names)
        ∙ sym (length-map places entry_of) ∙ sound.register.all;
    apart = cut_apart names places sound.register.apart;
    counted = All-map IsCounted entry_of (cut_to names places)
        (All-map (λ (place : SavedPlace). IsCounted (entry_of place)) (kept_place names) places
        (λ k d within. kept_counted names (get_or places k d)
        (subst IsCounted (get_or-map entry_of places k d)
        (sound.register.counted k (entry_of d) (omega (arith, within, length-map places entry_of))))));
  };
  in_order = record {
    first = subst (λ (n : ℕ). 0 < n) (cut_as_often names places 0) sound.in_order.first;
    before = λ at behind less some. subst (λ (n : ℕ). 0 < n) (cut_as_often names places at)
        (sound.in_order.before at behind less
        (subst (λ (n : ℕ). 0 < n) (sym (cut_as_often names places behind)) some));
  };
  books = All-map IsSoundPlace (kept_place names) places
      (λ k d within. kept_sound names (get_or places k d) (sound.books k d within));
}

-- and fit the heading
kept_fits : (heading : Heading) (names : List (List ℕ)) (place : SavedPlace) → PlaceFits heading place
    → PlaceFits heading (kept_place names place)
kept_fits heading names place fits = by place.tenant fits
  where
    by : (tenant : Option (List ℕ × Book)) → PlaceFits heading (place_is 0 tenant)
        → PlaceFits heading (place_is 0 (kept_tenant names tenant))
    by None fits = tt
    by (Some tenant) fits = elim (is_among names tenant.0) as
        (λ b. PlaceFits heading (place_is 0 (cond b (Some tenant) None))) [ true ↦ fits | false ↦ tt ]

pub cut_fits : (heading : Heading) (names : List (List ℕ)) (places : List SavedPlace) → All (PlaceFits heading) places
    → All (PlaceFits heading) (cut_to names places)
cut_fits heading names places fit = All-map (PlaceFits heading) (kept_place names) places
    (λ k d within. kept_fits heading names (get_or places k d) (fit k d within))

at_middle : {X : Type 0} (xs ys : List X) (y d : X) → get_or (xs ++ y ∷ ys) (length xs) d ≡ y
at_middle [] ys y d = refl
at_middle (x ∷ xs) ys y d = at_middle xs ys y d

-- one more place is cut
pub cut_more : (names : List (List ℕ)) (places items : List SavedPlace) (at : ℕ) (found after : SavedPlace)
    → at < length places → items ≡ map (kept_place names) (take at places) ++ drop at places
    → found ≡ get_or items at found → after ≡ kept_place names found
    → set items at after ≡ map (kept_place names) (take (at + 1) places) ++ drop (at + 1) places
cut_more names places items at found after within is finds cut =
    let front : List SavedPlace = map (kept_place names) (take at places) in
    let here : SavedPlace = get_or places at untouched in
    let rest : List SavedPlace = drop (at + 1) places in
    let next : at + 1 ≡ suc at = omega arith in
    let behind : drop at places ≡ here ∷ rest =
    drop-cons places at untouched within ∙ ap (λ (n : ℕ). here ∷ drop n places) (sym next) in
    let split : items ≡ front ++ here ∷ rest = is ∙ ap (λ (l : List SavedPlace). front ++ l) behind in
    let wide : length front ≡ at =
    length-map (take at places) (kept_place names) ∙ length-take-le at places (omega arith) in
    let same : found ≡ here = finds ∙ ap (λ (l : List SavedPlace). get_or l at found) split
    ∙ sym (ap (λ (n : ℕ). get_or (front ++ here ∷ rest) n found) wide) ∙ at_middle front rest here found in
    let kept : after ≡ kept_place names here = cut ∙ ap (kept_place names) same in
    ap (λ (l : List SavedPlace). set l at after) split
    ∙ set_at front here rest after at wide
    ∙ ap (λ (p : SavedPlace). front ++ p ∷ rest) kept
    ∙ sym (append_assoc front (kept_place names here ∷ []) rest)
    ∙ ap (λ (l : List SavedPlace). l ++ rest)
    (sym (ap (map (kept_place names)) (take_more places at untouched within)
    ∙ map-append (kept_place names) (take at places) (here ∷ [])))

pub cut_all : (names : List (List ℕ)) (places items : List SavedPlace) (at : ℕ) → at ≡ length places
    → items ≡ map (kept_place names) (take at places) ++ drop at places → items ≡ cut_to names places
cut_all names places items at end is =
    is
    ∙ ap (λ (n : ℕ). map (kept_place names) (take n places) ++ drop n places) end
    ∙ ap (λ (l : List SavedPlace). map (kept_place names) (take (length places) places) ++ l) (drop-length places)
    ∙ append-nil (map (kept_place names) (take (length places) places))
    ∙ ap (map (kept_place names)) (take_all (length places) places (omega arith))
