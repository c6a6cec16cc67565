-- Tenants with the same row, or with the same book.
use Rattle.std.proofs.Common.{◌≡◌, ℕ, zero, suc, ◌-◌, List, [], ◌∷◌, ◌++◌, refl, ap, ◌∙◌, length}
use Rattle.std.specs.Prelude.{true, false, Option, Some, None, map, bytes_eq, option_map, replicate, if◌then◌else◌}
use Rattle.std.proofs.lemmas.Slice.Eq.{bytes_eq-Decides}
use Rattle.firm_rules.specs.Book.{Book, opening_book}
use Rattle.firm_rules.specs.Limits.{TenantLimits}
use Rattle.firm_text.specs.Rosters.{RosterRow, most_places}
use Rattle.firm_saved.specs.declared.saved.SavedPlace.{SavedPlace}
use Rattle.firm_table.specs.Places.{Given, MarkedLine, Stay, opened_stay, new_stay, unused_place, place_of_row}
use Rattle.firm_table.specs.Places.{restored_places, is_stay_of, stay_of}
use Rattle.firm_table.specs.Output.{answers_from, answers_of}
use Rattle.firm_table.specs.Isolation.{limits_in, stay_after, stay_in, commands_to, with_commands, NoneIsOperatorsFor}
use Rattle.firm_table.specs.Isolation.{TenantsAreIsolated}
use Rattle.firm_table.specs.SavedIsolation.{book_saved, SavedTenantsAreIsolated}
use Rattle.firm_table.proofs.Stays.{stays_are_isolated, saved_stays_are_isolated}
use Rattle.firm_table.proofs.Lines.{holds_lines, stays_hold_their_lines}

-- nobody stays at places that nobody had
none_unused : (name : List ℕ) (n : ℕ) → stay_of (replicate n unused_place) name ≡ None
none_unused name zero = refl
none_unused name (suc n) = none_unused name n

opening_stay : (name : List ℕ) (roster : List RosterRow) (n : ℕ)
    → stay_of (map place_of_row roster ++ replicate n unused_place) name
    ≡ option_map (λ limits. new_stay name limits) (limits_in roster name)
opening_stay name [] n = none_unused name n
opening_stay name (tenant ∷ rest) n = elim (bytes_eq tenant.0 name) as (λ b. bytes_eq tenant.0 name ≡ b
    → stay_of (map place_of_row (tenant ∷ rest) ++ replicate n unused_place) name
    ≡ option_map (λ limits. new_stay name limits) (limits_in (tenant ∷ rest) name)) [
      | true ↦ λ e. rw e (ap (λ (x : List ℕ). Some (new_stay x tenant.1)) ((bytes_eq-Decides tenant.0 name).0 e))
      | false ↦ λ e. rw e (opening_stay name rest n)
    ] refl

abbrev stay_with : List ℕ → Book → List Given → Stay
stay_with name book commands = record { name = name; opening = book; commands = commands }

stays_with : (roster : List RosterRow) (lines : List MarkedLine) (name : List ℕ) (limits : TenantLimits)
    → limits_in roster name ≡ Some limits → NoneIsOperatorsFor name (answers_of roster lines)
    → stay_in roster lines name ≡ Some (stay_with name (opening_book limits) (commands_to name lines))
stays_with roster lines name limits row none =
    stays_hold_their_lines roster lines name none
    ∙ ap (option_map (with_commands (commands_to name lines)))
    (opening_stay name roster (most_places - length roster) ∙ ap (option_map (λ l. new_stay name l)) row)

pub tenants_are_isolated : TenantsAreIsolated
tenants_are_isolated roster other_roster lines other_lines name limits row other_row none other_none same =
    stays_are_isolated roster other_roster lines other_lines name
    (stay_with name (opening_book limits) (commands_to name lines))
    (stay_with name (opening_book limits) (commands_to name other_lines))
    (stays_with roster lines name limits row none)
    (stays_with other_roster other_lines name limits other_row other_none)
    refl same

-- a saved state has stays that begin
abbrev begun : Option (List ℕ × Book) → Option Stay
begun tenant = option_map (λ t. opened_stay t.0 t.1) tenant

abbrev begin_again : List ℕ → Option Stay → Option Stay
begin_again name stay = option_map (λ s. opened_stay name s.opening) stay

saved_here : (name : List ℕ) (tenant : Option (List ℕ × Book)) (rest : Option Stay) → rest ≡ begin_again name rest
    → (if is_stay_of name (begun tenant) then begun tenant else rest)
    ≡ begin_again name (if is_stay_of name (begun tenant) then begun tenant else rest)
saved_here name None rest same = same
saved_here name (Some tenant) rest same = elim (bytes_eq tenant.0 name) as (λ b. bytes_eq tenant.0 name ≡ b
    → (if is_stay_of name (begun (Some tenant)) then begun (Some tenant) else rest)
    ≡ begin_again name (if is_stay_of name (begun (Some tenant)) then begun (Some tenant) else rest)) [
      | true ↦ λ e. rw e
          (ap (λ (x : List ℕ). Some (opened_stay x tenant.1)) ((bytes_eq-Decides tenant.0 name).0 e))
      | false ↦ λ e. rw e same
    ] refl

saved_stay : (name : List ℕ) (saved : List SavedPlace)
    → stay_of (restored_places saved) name ≡ begin_again name (stay_of (restored_places saved) name)
saved_stay name [] = refl
saved_stay name (place ∷ rest) =
    saved_here name place.tenant (stay_of (restored_places rest) name) (saved_stay name rest)

opened_with : (name : List ℕ) (stay : Option Stay) (book : Book) → stay ≡ begin_again name stay
    → option_map (λ s. s.opening) stay ≡ Some book → stay ≡ Some (opened_stay name book)
opened_with name None book begins has = cc
opened_with name (Some stay) book begins has =
    let same : stay.opening ≡ book = cc in
    begins ∙ ap (λ (b : Book). Some (opened_stay name b)) same

saved_with : (saved : List SavedPlace) (lines : List MarkedLine) (name : List ℕ) (book : Book)
    → book_saved saved name ≡ Some book → NoneIsOperatorsFor name (answers_from (restored_places saved) lines)
    → stay_after (restored_places saved) lines name ≡ Some (stay_with name book (commands_to name lines))
saved_with saved lines name book has none =
    holds_lines name (restored_places saved) lines none
    ∙ ap (option_map (with_commands (commands_to name lines)))
    (opened_with name (stay_of (restored_places saved) name) book (saved_stay name saved) has)

pub saved_tenants_are_isolated : SavedTenantsAreIsolated
saved_tenants_are_isolated saved other_saved lines other_lines name book has other_has none other_none same =
    saved_stays_are_isolated saved other_saved lines other_lines name
    (stay_with name book (commands_to name lines)) (stay_with name book (commands_to name other_lines))
    (saved_with saved lines name book has none) (saved_with other_saved other_lines name book other_has other_none)
    refl same
