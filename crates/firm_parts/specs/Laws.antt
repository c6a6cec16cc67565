-- The meaning of cutting and joining states to their tenants.
use Rattle.std.specs.Prelude.{◌≡◌, ℕ, List, None, Some, Ok, if◌then◌else◌}
use Rattle.firm_rules.specs.Book.{Book}
use Rattle.firm_rules.specs.Names.{is_among}
use Rattle.firm_parts.specs.Parts.{book_in, cut_to, either_book, joined}
use Rattle.firm_saved.specs.declared.saved.SavedPlace.{SavedPlace}

-- a cut state has the books of the tenants that are named, and no others
abbrev pub CutsKeepBooks : Type 0
CutsKeepBooks = (names : List (List ℕ)) (places : List SavedPlace) (name : List ℕ)
    → book_in (cut_to names places) name ≡ (if is_among names name then book_in places name else None)

-- a joined state has the books of both, each as it was, and no others
abbrev pub JoinsKeepBooks : Type 0
JoinsKeepBooks = (places others both : List SavedPlace) → joined places others ≡ Ok both → (name : List ℕ)
    → book_in both name ≡ either_book (book_in places name) (book_in others name)

-- two states that can be joined have no tenant in common
abbrev pub JoinsAreApart : Type 0
JoinsAreApart = (places others both : List SavedPlace) → joined places others ≡ Ok both → (name : List ℕ) (book : Book)
    → book_in others name ≡ Some book → book_in places name ≡ None
