-- A tenant's replies from a state that is cut, or joined with another.
use Rattle.std.proofs.Common.{◌≡◌, ◌∙◌, ℕ, List, [], ◌∷◌, Bool, true, false, cond, ap, refl, bytes_eq, Option, Some}
use Rattle.std.proofs.Common.{None}
use Rattle.std.specs.Prelude.{option_map}
use Rattle.firm_rules.specs.Book.{Book}
use Rattle.firm_parts.specs.Laws.{CutsKeepBooks, JoinsAreApart, JoinsKeepBooks}
use Rattle.firm_parts.specs.Parts.{book_in, either_book}
use Rattle.firm_saved.specs.declared.saved.SavedPlace.{SavedPlace}
use Rattle.firm_table.specs.Places.{Stay, opened_stay, restored_places, stay_of}
use Rattle.firm_table.specs.SavedIsolation.{SavedTenantsAreIsolated, book_saved}
use Rattle.firm_state.specs.Laws.{CutTenantsGoOn, JoinedTenantsGoOn, ComingTenantsGoOn, GoesOnAlike}

abbrev place_is : Option (List ℕ × Book) → SavedPlace
place_is tenant = record { admissions = 0; tenant = tenant }

-- the book that a state has for a name, by the places that a service opens with and by the state itself
same_book : (saved : List SavedPlace) (name : List ℕ) → book_saved saved name ≡ book_in saved name
same_book [] name = refl
same_book (place ∷ rest) name = by place.tenant (same_book rest name)
  where
    by : (tenant : Option (List ℕ × Book)) → book_saved rest name ≡ book_in rest name
        → book_saved (place_is tenant ∷ rest) name ≡ book_in (place_is tenant ∷ rest) name
    by None more = more
    by (Some tenant) more = elim (bytes_eq tenant.0 name) as
        (λ b. option_map (λ (stay : Stay). stay.opening)
        (cond b (Some (opened_stay tenant.0 tenant.1)) (stay_of (restored_places rest) name))
        ≡ cond b (Some tenant.1) (book_in rest name)) [ true ↦ refl | false ↦ more ]

go_on : SavedTenantsAreIsolated → (saved other : List SavedPlace) (name : List ℕ) (book : Book)
    → book_in saved name ≡ Some book → book_in other name ≡ Some book → GoesOnAlike saved other name
go_on isolated saved other name book here there lines other_lines mine theirs equal =
    isolated saved other lines other_lines name book (same_book saved name ∙ here) (same_book other name ∙ there) mine
    theirs equal

pub cut_go_on : SavedTenantsAreIsolated → CutsKeepBooks → CutTenantsGoOn
cut_go_on isolated cuts names saved name book among has =
    go_on isolated saved _ name book has
    (cuts names saved name ∙ ap (λ (b : Bool). cond b (book_in saved name) None) among ∙ has)

pub joined_go_on : SavedTenantsAreIsolated → JoinsKeepBooks → JoinedTenantsGoOn
joined_go_on isolated joins saved other both name book is has =
    go_on isolated saved both name book has
    (joins saved other both is name ∙ ap (λ (o : Option Book). either_book o (book_in other name)) has)

pub coming_go_on : SavedTenantsAreIsolated → JoinsKeepBooks → JoinsAreApart → ComingTenantsGoOn
coming_go_on isolated joins apart saved other both name book is has =
    go_on isolated other both name book has
    (joins saved other both is name
    ∙ ap (λ (o : Option Book). either_book o (book_in other name)) (apart saved other both is name book has) ∙ has)
