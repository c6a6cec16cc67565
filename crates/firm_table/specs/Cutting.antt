-- A service that is cut off between two lines and goes on from its saved state.
use Rattle.std.specs.Prelude.{◌≡◌, ℕ, List, [], ◌++◌, map}
use Rattle.std.specs.Io.{IsEmptyOrEndsWith}
use Rattle.firm_text.specs.Inputs.{input_lines}
use Rattle.firm_saved.specs.Saved.{SavedIs}
use Rattle.firm_table.specs.Opened.{Opened, opened_state, state_after}
use Rattle.firm_table.specs.Places.{MarkedLine, Place, restored_places, saved_after, after_lines}
use Rattle.firm_table.specs.Output.{answers_from, granted_output, output_from, unmarked, AreLinesFrom}

-- the places with which a service goes on after these lines from its saved state
abbrev pub reopened : List Place → List MarkedLine → List Place
reopened places lines = restored_places (saved_after (after_lines places lines))

-- what a service opens with that goes on after these lines from its saved state
abbrev pub goes_on : Opened → List MarkedLine → Opened
goes_on opened lines = opened_state (state_after opened lines)

-- what is read from a saved state is what was saved
abbrev pub SavedIsKept : Type 0
SavedIsKept = (saved : SavedIs) → state_after (opened_state saved) [] ≡ saved

-- the answers to lines and more are those to the lines, followed by those of a service that goes on from the state
-- after them; each reply keeps its number
abbrev pub AnswersGoOnFrom : Type 0
AnswersGoOnFrom = (places : List Place) (lines more : List MarkedLine)
    → answers_from places (lines ++ more) ≡ answers_from places lines ++ answers_from (reopened places lines) more

-- and the state after all of them is the same
abbrev pub StatesGoOnFrom : Type 0
StatesGoOnFrom = (places : List Place) (lines more : List MarkedLine)
    → saved_after (after_lines places (lines ++ more)) ≡ saved_after (after_lines (reopened places lines) more)

-- the lines of a text and those of what follows it, each with the marks of a service that is given this text alone: the
-- second goes on from the state after the first, and the outputs follow each other
pub record IsCut (opened : Opened) (text more : List ℕ) (whole : List MarkedLine) : Type 0 where
  pub lines : List MarkedLine
  pub later : List MarkedLine
  pub both : whole ≡ lines ++ later
  pub first : AreLinesFrom opened text lines
  pub rest : AreLinesFrom (goes_on opened lines) more later
  pub output : output_from opened.places whole
      ≡ output_from opened.places lines ++ output_from (goes_on opened lines).places later

-- a text can be cut after each line feed, and before the first line
abbrev pub TextsAreCut : Type 0
TextsAreCut = (opened : Opened) (text more : List ℕ) (whole : List MarkedLine)
    → IsEmptyOrEndsWith text 10 → AreLinesFrom opened (text ++ more) whole → IsCut opened text more whole

-- and texts can be joined there
abbrev pub TextsAreJoined : Type 0
TextsAreJoined = (opened : Opened) (text more : List ℕ) (lines later : List MarkedLine)
    → IsEmptyOrEndsWith text 10 → AreLinesFrom opened text lines → AreLinesFrom (goes_on opened lines) more later
    → AreLinesFrom opened (text ++ more) (lines ++ later)

-- so what a service writes where memory is never refused
abbrev pub OutputsGoOnFrom : Type 0
OutputsGoOnFrom = (opened : Opened) (text more : List ℕ) → IsEmptyOrEndsWith text 10
    → granted_output opened (text ++ more)
    ≡ granted_output opened text
    ++ granted_output (goes_on opened (map unmarked (input_lines opened.heading text))) more
