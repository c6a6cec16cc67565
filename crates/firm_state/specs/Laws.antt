-- The meaning of a state that is cut, or joined with another, to its tenants.
use Rattle.std.specs.Prelude.{◌≡◌, ℕ, List, Ok, Some, true}
use Rattle.firm_rules.specs.Book.{Book}
use Rattle.firm_rules.specs.Names.{is_among}
use Rattle.firm_parts.specs.Parts.{book_in, cut_to, joined}
use Rattle.firm_saved.specs.declared.saved.SavedPlace.{SavedPlace}
use Rattle.firm_table.specs.Isolation.{NoneIsOperatorsFor, commands_to}
use Rattle.firm_table.specs.Output.{answers_from, replies_to}
use Rattle.firm_table.specs.Places.{MarkedLine, restored_places}

-- services that go on from these two states give the tenant of this name the same replies, if they are given equal
-- lines for it, and obey no line of the operator's for it
abbrev pub GoesOnAlike : List SavedPlace → List SavedPlace → List ℕ → Type 0
GoesOnAlike saved other name = (lines other_lines : List MarkedLine)
    → NoneIsOperatorsFor name (answers_from (restored_places saved) lines)
    → NoneIsOperatorsFor name (answers_from (restored_places other) other_lines)
    → commands_to name lines ≡ commands_to name other_lines
    → replies_to name (answers_from (restored_places saved) lines)
    ≡ replies_to name (answers_from (restored_places other) other_lines)

-- a tenant to which a state is cut replies as before
abbrev pub CutTenantsGoOn : Type 0
CutTenantsGoOn = (names : List (List ℕ)) (saved : List SavedPlace) (name : List ℕ) (book : Book)
    → is_among names name ≡ true → book_in saved name ≡ Some book
    → GoesOnAlike saved (cut_to names saved) name

-- a tenant of a state to which another is joined replies as before
abbrev pub JoinedTenantsGoOn : Type 0
JoinedTenantsGoOn = (saved other both : List SavedPlace) (name : List ℕ) (book : Book)
    → joined saved other ≡ Ok both → book_in saved name ≡ Some book
    → GoesOnAlike saved both name

-- and a tenant of the state that is joined to it
abbrev pub ComingTenantsGoOn : Type 0
ComingTenantsGoOn = (saved other both : List SavedPlace) (name : List ℕ) (book : Book)
    → joined saved other ≡ Ok both → book_in other name ≡ Some book
    → GoesOnAlike other both name
