-- The state of tenants, place by place, and the rows of its text.
use Rattle.std.proofs.Common.{◌≡◌, ◌∙◌, ℕ, zero, suc, ◌+◌, ◌<◌, List, [], ◌∷◌, ◌++◌, refl, sym, ap, length, arith}
use Rattle.std.proofs.Common.{take, drop, get_or, append_assoc, length-append}
use Rattle.std.specs.Prelude.{Bool, false, Option, Some, None, Result, Ok, Err, OnOk, option_map}
use Rattle.std.specs.Option.{is_some}
use Rattle.std.specs.List.{flat_map}
use Rattle.std.proofs.lemmas.List.{flat_map_more, get_or_default, length-map, take_more}
use Rattle.std.proofs.lemmas.List.Concat.{flat_map-append}
use Rattle.std.proofs.Transfers.{starts_with_trans}
use Rattle.std.specs.Io.{StartsWith}
use Rattle.firm_rules.specs.Book.{Book}
use Rattle.firm_text.specs.Registers.{vacant}
use Rattle.firm_text.specs.declared.registers.Entry.{Entry}
use Rattle.firm_saved.specs.declared.rows.Row.{Row}
use Rattle.firm_saved.specs.declared.rows.Row.TheVariants as row
use Rattle.firm_saved.specs.declared.saved.SavedPlace.{SavedPlace}
use Rattle.firm_text.specs.declared.headings.Heading.{Heading}
use Rattle.firm_saved.specs.Saved.{entry_of, saved_with, untouched, register_of as register_saved}
use Rattle.firm_saved.specs.StateText.{book_rows, first_line, given_places, place_rows, row_text, state_text}
use Rattle.firm_saved.specs.StateText.{tenant_rows}
use Rattle.firm_table.specs.Ends.{named_book, place_with, state_with}
use Rattle.firm_table.specs.Tenants.{BooksFit, tenants_are}

-- starting with a text is transitive
pub kept_trans : (xs ys zs : List ℕ) → StartsWith xs ys → StartsWith ys zs → StartsWith xs zs
kept_trans = starts_with_trans

named_kept : (name : Option (List ℕ)) (book : Option Book) → is_some name ≡ is_some book
    → option_map (λ (tenant : List ℕ × Book). tenant.0) (named_book name book) ≡ name
named_kept None book fits = refl
named_kept (Some name) None fits = cc
named_kept (Some name) (Some book) fits = refl

-- the register of the state is the register
pub state_register : (register : List Entry) (books : List (Option Book)) → BooksFit (tenants_are register books)
    → register_saved (state_with register books) ≡ register
state_register [] [] fits = refl
state_register [] (book ∷ books) fits = cc
state_register (entry ∷ rest) [] fits = cc
state_register (entry ∷ rest) (book ∷ books) fits =
    let first : is_some entry.tenant ≡ is_some book = ap (λ (tests : List Bool). get_or tests 0 false) fits in
    let others : BooksFit (tenants_are rest books) = ap (λ (tests : List Bool). drop 1 tests) fits in
    ap (λ (name : Option (List ℕ)). let place : Entry = record { tenant = name; admissions = entry.admissions } in
    place ∷ register_saved (state_with rest books)) (named_kept entry.tenant book first)
    ∙ ap (λ (entries : List Entry). entry ∷ entries) (state_register rest books others)

-- the place of an index
state_at : (register : List Entry) (books : List (Option Book)) → BooksFit (tenants_are register books) → (at : ℕ)
    → get_or (state_with register books) at untouched
    ≡ place_with (get_or register at (vacant 0)) (get_or books at None)
state_at [] [] fits at = refl
state_at [] (book ∷ books) fits at = cc
state_at (entry ∷ rest) [] fits at = cc
state_at (entry ∷ rest) (book ∷ books) fits zero = refl
state_at (entry ∷ rest) (book ∷ books) fits (suc at) =
    state_at rest books (ap (λ (tests : List Bool). drop 1 tests) fits) at

-- one place more, as two indices find its parts
pub state_next : (register entries : List Entry) (books : List (Option Book))
    → BooksFit (tenants_are register books) → (at : ℕ) (entry : Entry) (book : Option Book) → entries ≡ register
    → at < length register → entry ≡ get_or entries at entry → book ≡ get_or books at book
    → take (at + 1) (state_with register books) ≡ take at (state_with register books) ++ place_with entry book ∷ []
state_next register entries books fits at entry book same within here found =
    let saved : List SavedPlace = state_with register books in
    let wide : length saved ≡ length register =
    sym (length-map saved entry_of)
    ∙ ap (λ (places : List Entry). length places) (state_register register books fits) in
    let many : length register ≡ length books =
    sym (length-map register (λ (place : Entry). is_some place.tenant)) ∙ ap (λ (tests : List Bool). length tests) fits
    ∙ length-map books is_some in
    let first : entry ≡ get_or register at (vacant 0) =
    here ∙ ap (λ (places : List Entry). get_or places at entry) same
    ∙ get_or_default register at entry (vacant 0) within in
    let second : book ≡ get_or books at None =
    found ∙ get_or_default books at book None (omega (arith, within, many)) in
    take_more saved at untouched (omega (arith, wide, within))
    ∙ ap (λ (place : SavedPlace). take at saved ++ place ∷ [])
    (state_at register books fits at ∙ sym (ap (λ (e : Entry). place_with e (get_or books at None)) first)
    ∙ sym (ap (λ (b : Option Book). place_with entry b) second))

-- the rows of one place more
pub more_rows : (before : List ℕ) (places : List SavedPlace) (next : SavedPlace)
    → (before ++ flat_map row_text (flat_map place_rows places)) ++ flat_map row_text (place_rows next)
    ≡ before ++ flat_map row_text (flat_map place_rows (places ++ next ∷ []))
more_rows before places next =
    append_assoc before (flat_map row_text (flat_map place_rows places)) (flat_map row_text (place_rows next))
    ∙ ap (λ (text : List ℕ). before ++ text)
    (sym (flat_map-append row_text (flat_map place_rows places) (place_rows next))
    ∙ ap (λ (rows : List Row). flat_map row_text rows) (flat_map_more place_rows [] places next))

pub more_count : (places : List SavedPlace) (next : SavedPlace)
    → length (flat_map place_rows places) + length (place_rows next)
    ≡ length (flat_map place_rows (places ++ next ∷ []))
more_count places next =
    sym (length-append (flat_map place_rows places) (place_rows next))
    ∙ ap (λ (rows : List Row). length rows) (flat_map_more place_rows [] places next)

parts_joined : (old first rows last : List ℕ)
    → (((old ++ first ++ 10 ∷ []) ++ rows) ++ last) ≡ old ++ (first ++ 10 ∷ [] ++ rows ++ last)
parts_joined old first rows last = simp append_assoc

-- the first line, the rows of the given places, and their count are the text of the state
pub state_added : {A E : Type 0} (heading : Heading) (result : Result A E) (old new : List ℕ)
    (saved given : List SavedPlace) (count : ℕ)
    → given_places saved ≡ given → count ≡ length (flat_map place_rows given)
    → OnOk result (new ≡ ((old ++ first_line heading ++ 10 ∷ []) ++ flat_map row_text (flat_map place_rows given))
    ++ row_text (row.Rows count))
    → OnOk result (new ≡ old ++ state_text (saved_with heading saved))
state_added heading (Err refused) old new saved given count same is added = tt
state_added heading (Ok done) old new saved given count same is added =
    added
    ∙ ap (λ (n : ℕ). ((old ++ first_line heading ++ 10 ∷ []) ++ flat_map row_text (flat_map place_rows given))
    ++ row_text (row.Rows n)) is
    ∙ parts_joined old (first_line heading) (flat_map row_text (flat_map place_rows given))
    (row_text (row.Rows (length (flat_map place_rows given))))
    ∙ ap (λ (places : List SavedPlace). old
    ++ (first_line heading ++ 10 ∷ [] ++ flat_map row_text (flat_map place_rows places)
    ++ row_text (row.Rows (length (flat_map place_rows places))))) (sym same)

-- what holds at all events holds on success
pub on_ok : {A E : Type 0} {P : Type 0} (result : Result A E) → P → OnOk result P
on_ok (Ok done) holds = holds
on_ok (Err refused) holds = tt

-- the row of a place, and then those of its tenant, are its rows
pub tenant_added : (old first new : List ℕ) (entry : Entry) (name : List ℕ) (book : Book) (shown : Option Book)
    → entry.tenant ≡ Some name → shown ≡ Some book → first ≡ old ++ row_text (row.Place entry.admissions)
    → new ≡ first ++ flat_map row_text (book_rows name book)
    → new ≡ old ++ flat_map row_text (place_rows (place_with entry shown))
tenant_added old first new entry name book shown named is placed added =
    let there : named_book entry.tenant shown ≡ Some (name, book) =
    ap (λ (n : Option (List ℕ)). named_book n shown) named ∙ ap (λ (b : Option Book). named_book (Some name) b) is in
    added
    ∙ ap (λ (text : List ℕ). text ++ flat_map row_text (book_rows name book)) placed
    ∙ append_assoc old (row_text (row.Place entry.admissions)) (flat_map row_text (book_rows name book))
    ∙ ap (λ (tenant : Option (List ℕ × Book)). old
    ++ flat_map row_text (row.Place entry.admissions ∷ tenant_rows tenant)) (sym there)
