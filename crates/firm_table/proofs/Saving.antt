-- The opening of a roster as a saved state.
use Rattle.std.proofs.Common.{◌≡◌, ℕ, zero, suc, ◌-◌, ◌<◌, ◌≤◌, List, [], ◌∷◌, ◌++◌, refl, sym, ap, subst, ◌∙◌}
use Rattle.std.proofs.Common.{◌+◌, length, get_or, take, arith}
use Rattle.std.specs.Prelude.{Option, Some, None, IsSome, map, option_map, replicate, set}
use Rattle.std.proofs.Math.ListN.{get_or-map}
use Rattle.std.proofs.lemmas.List.{append_assoc, append-nil, get_or_default, length-map, length-take-le, set_at}
use Rattle.std.proofs.lemmas.List.{take_all, take_more}
use Rattle.firm_rules.specs.Book.{Book, opening_book}
use Rattle.firm_text.specs.Registers.{IsCounted, IsRegister, most_admissions, vacant}
use Rattle.firm_text.specs.Rosters.{RosterRow, most_places}
use Rattle.firm_text.specs.declared.registers.Entry.{Entry}
use Rattle.firm_saved.specs.declared.saved.SavedPlace.{SavedPlace}
use Rattle.firm_saved.specs.Saved.{untouched, entry_of, register_of as register_saved}
use Rattle.firm_table.specs.Places.{Stay, Place, opened_stay, book_of, unused_place, place_of_row, restored_place}
use Rattle.firm_table.specs.Places.{restored_places, register_of}
use Rattle.firm_table.specs.SavedIsolation.{RostersAreSaved, given_once}

saved_opening : (roster : List RosterRow) (n : ℕ)
    → restored_places (map (λ row. given_once row.0 (opening_book row.1)) roster ++ replicate n untouched)
    ≡ map place_of_row roster ++ replicate n unused_place
saved_opening [] zero = refl
saved_opening [] (suc n) = ap (λ (places : List Place). unused_place ∷ places) (saved_opening [] n)
saved_opening (row ∷ rest) n = ap (λ (places : List Place). place_of_row row ∷ places) (saved_opening rest n)

pub rosters_are_saved : RostersAreSaved
rosters_are_saved roster = saved_opening roster (most_places - length roster)

-- the places of a saved state
entry_named : (tenant : Option (List ℕ × Book))
    → option_map (λ (s : Stay). s.name) (option_map (λ (t : List ℕ × Book). opened_stay t.0 t.1) tenant)
    ≡ option_map (λ (t : List ℕ × Book). t.0) tenant
entry_named None = refl
entry_named (Some tenant) = refl

pub saved_register : (saved : List SavedPlace) → register_of (restored_places saved) ≡ register_saved saved
saved_register [] = refl
saved_register (place ∷ rest) =
    ap (λ (tenant : Option (List ℕ)). let first : Entry =
    record { tenant = tenant; admissions = place.admissions } in first ∷ register_of (restored_places rest))
    (entry_named place.tenant)
    ∙ ap (λ (entries : List Entry). entry_of place ∷ entries) (saved_register rest)

pub saved_at : (saved : List SavedPlace) (at : ℕ)
    → get_or (restored_places saved) at unused_place ≡ restored_place (get_or saved at untouched)
saved_at saved at = get_or-map restored_place saved at untouched

pub saved_book : (tenant : Option (List ℕ × Book))
    → option_map book_of (option_map (λ (t : List ℕ × Book). opened_stay t.0 t.1) tenant)
    ≡ option_map (λ (t : List ℕ × Book). t.1) tenant
saved_book None = refl
saved_book (Some tenant) = refl

pub saved_some : (tenant : Option (List ℕ × Book))
    → IsSome (option_map (λ (t : List ℕ × Book). opened_stay t.0 t.1) tenant) → IsSome tenant
saved_some None some = some
saved_some (Some tenant) some = refl

-- what holds of the places of a saved state
pub saved_wide : (saved : List SavedPlace) → IsRegister (register_saved saved) → length saved ≡ most_places
saved_wide saved sound = sym (length-map saved entry_of) ∙ sound.all

still_some : (tenant : Option (List ℕ × Book)) → IsSome tenant
    → IsSome (option_map (λ (t : List ℕ × Book). t.0) tenant)
still_some None some = some
still_some (Some tenant) some = refl

pub saved_counted : (saved : List SavedPlace) (at : ℕ) → IsRegister (register_saved saved) → at < most_places
    → ((get_or saved at untouched).admissions ≤ most_admissions)
    × (IsSome (get_or saved at untouched).tenant → 0 < (get_or saved at untouched).admissions)
saved_counted saved at sound within =
    let place : SavedPlace = get_or saved at untouched in
    let counted : IsCounted (entry_of place) =
    subst IsCounted (get_or-map entry_of saved at untouched)
    (sound.counted at (entry_of untouched) (omega (arith, within, sound.all))) in
    (counted.0, λ some. counted.1 (still_some place.tenant some))

-- the place that an index finds
pub saved_found : (saved items : List SavedPlace) (at : ℕ) (found : SavedPlace) → items ≡ saved
    → IsRegister (register_saved saved) → at < most_places → found ≡ get_or items at found
    → found ≡ get_or saved at untouched
saved_found saved items at found same sound within is =
    is ∙ ap (λ (places : List SavedPlace). get_or places at found) same
    ∙ get_or_default saved at found untouched (let wide = saved_wide saved sound in omega (arith, wide, within))

-- the same, as an entry of the register
pub saved_entry : (saved items : List SavedPlace) (at : ℕ) (found : SavedPlace) → items ≡ saved
    → IsRegister (register_saved saved) → at < most_places → found ≡ get_or items at found
    → entry_of found ≡ get_or (register_saved saved) at (vacant 0)
saved_entry saved items at found same sound within is =
    ap entry_of (saved_found saved items at found same sound within is)
    ∙ sym (get_or-map entry_of saved at untouched)

-- the first of these entries, and then those of places that were never given
abbrev pub entries_to : ℕ → List Entry → List Entry
entries_to count entries = take count entries ++ replicate (most_places - count) (vacant 0)

pub next_entry : (entries : List Entry) (at : ℕ) → length entries ≡ most_places → at < most_places
    → set (entries_to at entries) at (get_or entries at (vacant 0)) ≡ entries_to (at + 1) entries
next_entry entries at all within =
    let rest : List Entry = replicate (most_places - (at + 1)) (vacant 0) in
    let one : most_places - at ≡ suc (most_places - (at + 1)) = omega arith in
    let split : replicate (most_places - at) (vacant 0) ≡ vacant 0 ∷ rest =
    ap (λ (n : ℕ). replicate n (vacant 0)) one in
    let wide : length (take at entries) ≡ at = length-take-le at entries (omega arith) in
    let here : Entry = get_or entries at (vacant 0) in
    ap (λ (places : List Entry). set (take at entries ++ places) at here) split
    ∙ set_at (take at entries) (vacant 0) rest here at wide
    ∙ sym (append_assoc (take at entries) (here ∷ []) rest)
    ∙ ap (λ (places : List Entry). places ++ rest) (sym (take_more entries at (vacant 0) (omega arith)))

pub all_entered : (entries : List Entry) → length entries ≡ most_places → entries_to 64 entries ≡ entries
all_entered entries all = append-nil (take 64 entries) ∙ take_all 64 entries (omega arith)
