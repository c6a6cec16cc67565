-- How a service gets on, line by line: what a line makes of its tenants, and what it claims about the lines so far.
use Rattle.std.specs.Prelude.{◌≡◌, ℕ, List, ◌++◌, Option, map, option_map}
use Rattle.std.specs.Io.KnownBytes.{Appends}
use Rattle.firm_rules.specs.Book.{Book}
use Rattle.firm_text.specs.declared.inputs.Line.{Line}
use Rattle.firm_table.specs.Answers.{answer_of, tells_memory, text_of_answer}
use Rattle.firm_table.specs.declared.answers.LineAnswer.{LineAnswer}
use Rattle.firm_table.specs.Output.{output_from, AreLinesFrom}
use Rattle.firm_table.specs.Opened.{Opened}
use Rattle.firm_table.specs.Places.{MarkedLine, Place, book_of, register_of, after_line, after_lines}
use Rattle.firm_table.specs.Tenants.{TenantsState, tenants_are}

-- the books of the tenants that stay at these places
abbrev pub books_of : List Place → List (Option Book)
books_of places = map (λ place. option_map book_of place.stay) places

-- the tenants that stay at these places
abbrev pub tenants_at : List Place → TenantsState
tenants_at places = tenants_are (register_of places) (books_of places)

-- these are the tenants that stay at these places
pub record Shows (tenants : TenantsState) (places : List Place) : Type 0 where
  pub register : register_of places ≡ tenants.register
  pub books : books_of places ≡ tenants.books

-- The answer to a line is the one for the places of these tenants, and the tenants after it are those of the places
-- after it; memory was refused to the line exactly if the answer says so.
pub record IsRight (tenants after : TenantsState) (line : Line) (answer : LineAnswer) : Type 0 where
  pub answers : (places : List Place) → Shows tenants places → answer ≡ answer_of places (line, tells_memory answer)
  pub leaves : (places : List Place) → Shows tenants places
      → Shows after (after_line places (line, tells_memory answer))

-- a line was answered rightly, and the answer's text was added to what was to be written
pub record IsAnswer (tenants after : TenantsState) (line : Line) (pending pending_after : List ℕ) : Type 0 where
  pub answer : LineAnswer
  pub right : IsRight tenants after line answer
  pub text : pending_after ≡ pending ++ text_of_answer answer

-- a service between two lines: what it opened with, its tenants, and what is still to be written
pub record State : Type 0 where
  pub opening : Opened
  pub tenants : TenantsState
  pub pending : List ℕ

-- the state of these parts
abbrev pub state_is : Opened → TenantsState → List ℕ → State
state_is opening tenants pending = record { opening = opening; tenants = tenants; pending = pending }

-- the lines of this text were answered: the tenants are those after these lines, and what was written and what is still
-- to be written make up the output for them
pub record Told (state : State) (text : List ℕ) (written now : Option (List ℕ)) : Type 0 where
  pub lines : List MarkedLine
  pub are_lines : AreLinesFrom state.opening text lines
  pub shows : Shows state.tenants (after_lines state.opening.places lines)
  pub sent : List ℕ
  pub wrote : Appends written now sent
  pub whole : sent ++ state.pending ≡ output_from state.opening.places lines
