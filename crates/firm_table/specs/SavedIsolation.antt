-- The meaning, to each tenant, of the output of a service that opened with a saved state.
use Rattle.std.specs.Prelude.{◌≡◌, ℕ, ◌-◌, false, List, [], ◌∷◌, ◌++◌, Option, Some, length, map, option_map}
use Rattle.std.specs.Prelude.{replicate}
use Rattle.std.specs.List.{list_any}
use Rattle.firm_rules.specs.Book.{Book, opening_book}
use Rattle.firm_rules.specs.Limits.{TenantLimits}
use Rattle.firm_tenant.specs.Alone.{replies_from}
use Rattle.firm_text.specs.Rosters.{RosterRow, most_places}
use Rattle.firm_saved.specs.Saved.{untouched}
use Rattle.firm_saved.specs.declared.saved.SavedPlace.{SavedPlace}
use Rattle.firm_table.specs.Opened.{Opened}
use Rattle.firm_table.specs.Places.{MarkedLine, Stay, Place, new_stay, opening_places, restored_places, after_lines}
use Rattle.firm_table.specs.Places.{stay_of}
use Rattle.firm_table.specs.Answers.{answer_of, tells_memory}
use Rattle.firm_table.specs.declared.answers.LineAnswer.TheVariants.{Replied}
use Rattle.firm_table.specs.Output.{answers_from, granted_output, output_from, AreLinesFrom, replies_to}
use Rattle.firm_table.specs.Isolation.{stay_after, line_to, commands_to, with_commands, NoneIsOperatorsFor}
use Rattle.firm_table.specs.Isolation.{BeginsStayFrom}

-- a place that was given once, and whose tenant has this book
abbrev pub given_once : List ℕ → Book → SavedPlace
given_once name book = record { admissions = 1; tenant = Some (name, book) }

-- the state before the first line of a service of this roster
abbrev pub of_roster : List RosterRow → List SavedPlace
of_roster roster =
    map (λ row. given_once row.0 (opening_book row.1)) roster ++ replicate (most_places - length roster) untouched

-- a roster opens with the places of a saved state, in which each row's tenant has its opening book
abbrev pub RostersAreSaved : Type 0
RostersAreSaved = (roster : List RosterRow) → restored_places (of_roster roster) ≡ opening_places roster

-- one more line is answered after the others, whose answers stay the same
abbrev pub AnswersGoOn : Type 0
AnswersGoOn = (places : List Place) (lines : List MarkedLine) (given : MarkedLine)
    → answers_from places (lines ++ given ∷ [])
    ≡ answers_from places lines ++ answer_of (after_lines places lines) given ∷ []

-- a tenant's replies since its stay began are those of a tenant alone that begins with the same book
abbrev pub SavedRepliesAreAlone : Type 0
SavedRepliesAreAlone = (saved : List SavedPlace) (lines : List MarkedLine) (name : List ℕ) (stay : Stay)
    → stay_after (restored_places saved) lines name ≡ Some stay
    → replies_to name (answers_from (restored_places saved) lines) ≡ replies_from stay.opening stay.commands

-- two stays that began with the same book and were given the same commands have the same replies, regardless of what
-- else the two services hold and were given, earlier tenants of the place included
abbrev pub SavedStaysAreIsolated : Type 0
SavedStaysAreIsolated = (saved other_saved : List SavedPlace) (lines other_lines : List MarkedLine) (name : List ℕ)
    (stay other : Stay)
    → stay_after (restored_places saved) lines name ≡ Some stay
    → stay_after (restored_places other_saved) other_lines name ≡ Some other
    → stay.opening ≡ other.opening → stay.commands ≡ other.commands
    → replies_to name (answers_from (restored_places saved) lines)
    ≡ replies_to name (answers_from (restored_places other_saved) other_lines)

-- the state of a service that holds this tenant alone, with this book
abbrev pub saved_alone : List ℕ → Book → List SavedPlace
saved_alone name book = given_once name book ∷ replicate (most_places - 1) untouched

-- and they are the replies of a service that opens with that book alone and is given only the tenant's commands
abbrev pub SavedStaysAreServedAlone : Type 0
SavedStaysAreServedAlone = (saved : List SavedPlace) (lines : List MarkedLine) (name : List ℕ) (stay : Stay)
    → stay_after (restored_places saved) lines name ≡ Some stay
    → map (Replied name) (replies_to name (answers_from (restored_places saved) lines))
    ≡ answers_from (restored_places (saved_alone name stay.opening)) (map (line_to name) stay.commands)

-- a tenant for which no line of the operator's was obeyed was given the commands of its lines, and goes on in the stay
-- that it had
abbrev pub PlacesHoldTheirLines : Type 0
PlacesHoldTheirLines = (places : List Place) (lines : List MarkedLine) (name : List ℕ)
    → NoneIsOperatorsFor name (answers_from places lines)
    → stay_after places lines name ≡ option_map (with_commands (commands_to name lines)) (stay_after places [] name)

-- a tenant admitted while the service runs has the limits of its admission, and was given the commands of the later
-- lines to it
abbrev pub PlacesBeginAnew : Type 0
PlacesBeginAnew = (places : List Place) (lines later : List MarkedLine) (admission : MarkedLine) (name : List ℕ)
    (limits : TenantLimits)
    → BeginsStayFrom places lines admission later name limits
    → stay_after places (lines ++ admission ∷ later) name
    ≡ Some (with_commands (commands_to name later) (new_stay name limits))

-- a tenant that two services admitted so, with the same limits, gets the same replies if the later lines to it are
-- equal, regardless of what precedes its admission
abbrev pub SavedAdmissionsAreIsolated : Type 0
SavedAdmissionsAreIsolated = (saved other_saved : List SavedPlace)
    (lines later other_lines other_later : List MarkedLine) (admission other_admission : MarkedLine) (name : List ℕ)
    (limits : TenantLimits)
    → BeginsStayFrom (restored_places saved) lines admission later name limits
    → BeginsStayFrom (restored_places other_saved) other_lines other_admission other_later name limits
    → commands_to name later ≡ commands_to name other_later
    → replies_to name (answers_from (restored_places saved) (lines ++ admission ∷ later))
    ≡ replies_to name (answers_from (restored_places other_saved) (other_lines ++ other_admission ∷ other_later))

-- the book that a saved state has for the tenant of this name
abbrev pub book_saved : List SavedPlace → List ℕ → Option Book
book_saved saved name = option_map (λ stay. stay.opening) (stay_of (restored_places saved) name)

-- a tenant with the same book in two saved states, for which no line of the operator's was obeyed, gets the same
-- replies in services that are given equal lines for it
abbrev pub SavedTenantsAreIsolated : Type 0
SavedTenantsAreIsolated = (saved other_saved : List SavedPlace) (lines other_lines : List MarkedLine) (name : List ℕ)
    (book : Book)
    → book_saved saved name ≡ Some book → book_saved other_saved name ≡ Some book
    → NoneIsOperatorsFor name (answers_from (restored_places saved) lines)
    → NoneIsOperatorsFor name (answers_from (restored_places other_saved) other_lines)
    → commands_to name lines ≡ commands_to name other_lines
    → replies_to name (answers_from (restored_places saved) lines)
    ≡ replies_to name (answers_from (restored_places other_saved) other_lines)

-- if no answer says that memory was refused, the output is a function of the heading, of the places at first and of the
-- bytes of the input
abbrev pub PlacesNeedNoMarks : Type 0
PlacesNeedNoMarks = (opened : Opened) (input : List ℕ) (lines : List MarkedLine) → AreLinesFrom opened input lines
    → list_any tells_memory (answers_from opened.places lines) ≡ false
    → output_from opened.places lines ≡ granted_output opened input
