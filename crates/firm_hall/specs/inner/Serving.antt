-- How far a serving hall has come.
use Rattle.std.specs.Prelude.{◌≡◌, ℕ, ◌-◌, ◌<◌, ◌≤◌, Bool, true, false, List, [], ◌∷◌, ◌++◌, Option, Some, None}
use Rattle.std.specs.Prelude.{suc, map, length, option_map, slice_index_or}
use Rattle.std.specs.Option.{is_some}
use Rattle.firm_rules.specs.Book.{Book}
use Rattle.firm_rules.specs.declared.commands.Command.TheVariants.{Round}
use Rattle.firm_text.specs.Inputs.{input_lines}
use Rattle.firm_text.specs.Registers.{place_in}
use Rattle.firm_text.specs.Rosters.{most_places}
use Rattle.firm_text.specs.declared.inputs.Line.{Line}
use Rattle.firm_text.specs.declared.inputs.Line.TheVariants.{Nothing, Long, Nameless, For, Operator}
use Rattle.firm_text.specs.declared.operator.OperatorLine.{OperatorLine}
use Rattle.firm_text.specs.declared.operator.OperatorLine.TheVariants.{Admit, Retire, Faulty}
use Rattle.firm_text.specs.declared.operator.OperatorReply.{OperatorReply}
use Rattle.firm_text.specs.declared.registers.Entry.{Entry}
use Rattle.firm_table.specs.Opened.{Opened}
use Rattle.firm_table.specs.Places.{Place, book_of}
use Rattle.firm_table.specs.Output.{answers_from}
use Rattle.firm_table.specs.Tenants.{tenants_are}
use Rattle.firm_table.specs.Progress.{State, Told, state_is}
use Rattle.firm_rounds.specs.Rounds.{weigh}
use Rattle.firm_rounds.specs.Passes.{QueueId}
use Rattle.firm_hall.specs.Counts.{Counted}
use Rattle.firm_hall.specs.Desks.{DeskIs, desk_is, place_is}
use Rattle.firm_held.specs.Held.{FirstIs, FirstWaits, HasRoom, HeldIs, NoneWaits}
use Rattle.firm_hall.specs.inner.Reckoned.{Mark, Reckoned, reckon}
use Rattle.firm_hall.specs.inner.DeskStates.{IsBack, IsHome}
use Rattle.firm_hall.specs.declared.desk_states.DeskState.{DeskState}
use Rattle.firm_hall.specs.declared.desk_states.DeskState.TheVariants.{Home, Away, Empty, Gone}
use Rattle.firm_table.specs.declared.answers.LineAnswer.TheVariants.{ToOperator}
use Rattle.firm_held.specs.declared.held.HeldAnswer.{HeldAnswer}
use Rattle.firm_held.specs.declared.held.HeldAnswer.TheVariants.{Known, Waiting}

-- a serving hall: the queue of its desks, which tenant has which place, what stands at each, the held answers, and the
-- text still to be written before them
pub record ServingIs : Type 0 where
  pub queue : QueueId
  pub register : List Entry
  pub desk_states : List DeskState
  pub answers : List HeldAnswer
  pub output : List ℕ

abbrev pub serving_is : QueueId → List Entry → List DeskState → HeldIs → ServingIs
serving_is queue register desk_states held =
    record {
      queue = queue;
      register = register;
      desk_states = desk_states;
      answers = held.answers;
      output = held.output;
    }

-- the book at a place, before the first command that waits for it or is away is done
abbrev pub book_at : DeskState → Option Book
book_at (Home desk waits) = Some desk.book
book_at (Away asked) = Some asked.book
book_at (Empty place) = None
book_at Gone = None

-- number of rounds requested at a place, by all its tenants, without one that is away
abbrev pub asked_at : DeskState → ℕ
asked_at (Home desk waits) = desk.put
asked_at (Away asked) = asked.put - 1
asked_at (Empty place) = place.put
asked_at Gone = 0

-- the books, the text to be written and the number of rounds asked, before the held answers
abbrev pub before_held : List DeskState → List ℕ → Reckoned
before_held desk_states output =
    record { books = map book_at desk_states; text = output; asked = weigh asked_at desk_states }

-- the state of the tenants, once these are done
abbrev pub state_after : Opened → List Entry → Reckoned → State
state_after opening register reckoned = state_is opening (tenants_are register reckoned.books) reckoned.text

-- the state of a place that has a tenant with this book, or none, and was given this often; no round was requested
-- there
abbrev pub opened_at : QueueId → ℕ → ℕ → Option Book → DeskState
opened_at queue place admissions None = Empty (place_is queue place 0 admissions)
opened_at queue place admissions (Some book) = Home (desk_is queue place 0 admissions book) false

-- what stands at this place before the first line
abbrev pub opening_state : QueueId → ℕ → Place → DeskState
opening_state queue at place = opened_at queue at place.admissions (option_map book_of place.stay)

-- and at these places, from this one on
abbrev pub opening_states : QueueId → ℕ → List Place → List DeskState
opening_states queue at [] = []
opening_states queue at (place ∷ rest) = opening_state queue at place ∷ opening_states queue (suc at) rest

-- whether a tenant has the place, and how often it was given
abbrev pub desk_state_counts : DeskState → Bool × ℕ
desk_state_counts (Home desk waits) = (true, desk.admissions)
desk_state_counts (Away asked) = (true, asked.admissions)
desk_state_counts (Empty place) = (false, place.admissions)
desk_state_counts Gone = (false, 0)

-- the same, as the register has it
abbrev pub place_counts : Entry → Bool × ℕ
place_counts place = (is_some place.tenant, place.admissions)

-- the round of this hall and place is away, asked by a tenant that had life for it, and an answer waits for it
pub record IsAskedAt (queue : QueueId) (place : ℕ) (answers : List HeldAnswer) (asked : DeskIs) : Type 0 where
  pub queue_is : asked.queue ≡ queue
  pub place_is : asked.place ≡ place
  pub some : 1 ≤ asked.put
  pub left : asked.book.given < asked.book.rows.limits.life
  pub first : FirstIs place Round answers

-- the desk of this hall and place is at home, and no answer waits for it unless it says so; or its round is away; or
-- the place is empty
abbrev pub DeskStateIs : QueueId → ℕ → List HeldAnswer → DeskState → Type 0
DeskStateIs queue place answers (Home desk waits) =
    (desk.queue ≡ queue) × (desk.place ≡ place) × (waits ≡ false → NoneWaits place answers)
DeskStateIs queue place answers (Away asked) = IsAskedAt queue place answers asked
DeskStateIs queue place answers (Empty empty) = (empty.queue ≡ queue) × (empty.place ≡ place) × NoneWaits place answers
DeskStateIs queue place answers Gone = ⊥

-- a desk state for each place
pub record AreDeskStates (queue : QueueId) (answers : List HeldAnswer) (desk_states : List DeskState) : Type 0 where
  pub long : length desk_states ≡ most_places
  pub each : (place : ℕ) (default : DeskState) → place < most_places
      → DeskStateIs queue place answers (slice_index_or desk_states place default)

-- an answer that waits does so for a place that exists
abbrev pub IsPlaced : HeldAnswer → Type 0
IsPlaced (Waiting place name command) = place < most_places
IsPlaced (Known answer) = Unit {0}

abbrev pub ArePlaced : List HeldAnswer → Type 0
ArePlaced [] = Unit {0}
ArePlaced (answer ∷ rest) = IsPlaced answer × ArePlaced rest

-- desk states and register agree on which places a tenant has, and on how often each was given
abbrev pub Fits : List Entry → List DeskState → Type 0
Fits register desk_states = map desk_state_counts desk_states ≡ map place_counts register

-- desk states, register and held answers fit each other
pub record Stands (serving : ServingIs) : Type 0 where
  pub desk_states : AreDeskStates serving.queue serving.answers serving.desk_states
  pub fits : Fits serving.register serving.desk_states
  pub placed : ArePlaced serving.answers

-- a service of this hall
abbrev pub IsOpen : QueueId → ServingIs → Type 0
IsOpen id serving = serving.queue ≡ id

-- empty so far, with room for each place
abbrev pub IsReserved : {A : Type 0} → List A → ℕ → Type 0
IsReserved items capacity = (items ≡ []) × (most_places ≤ capacity)

-- The lines of this text were answered. However memory is granted to the remaining commands, the bytes
-- written and the held answers are then the output for these lines; and as many rounds were requested as the lines ask
-- for.
pub record Tells (state : State) (asked : ℕ) (text : List ℕ) (written now : Option (List ℕ)) : Type 0 where
  pub told : Told state text written now
  pub counted : Counted asked told.lines (answers_from state.opening.places told.lines)

abbrev pub TellsReckoned : Opened → List Entry → Reckoned → List ℕ → Option (List ℕ) → Option (List ℕ) → Type 0
TellsReckoned opening register reckoned text written now =
    Tells (state_after opening register reckoned) reckoned.asked text written now

abbrev pub TellsParts : Opened → List Entry → List DeskState → List HeldAnswer → List ℕ → List ℕ
    → Option (List ℕ)
    → Option (List ℕ) → Type 0
TellsParts opening register desk_states answers output text written now =
    (marks : ℕ → Mark)
    → TellsReckoned opening register (reckon marks (before_held desk_states output) answers) text written now

-- the same for a whole service
abbrev pub TellsAll : Opened → ServingIs → List ℕ → Option (List ℕ) → Option (List ℕ) → Type 0
TellsAll opening serving text written now =
    TellsParts opening serving.register serving.desk_states serving.answers serving.output text written now

-- the same hall and tenants, with no more answers held
pub record Follows (old new : ServingIs) : Type 0 where
  pub same_hall : new.queue ≡ old.queue
  pub same_register : new.register ≡ old.register
  pub fewer : length new.answers ≤ length old.answers

-- a step that answers no further line
abbrev pub Keeps : ServingIs → ServingIs → Type 0
Keeps old new = (opening : Opened) (text : List ℕ) (written now : Option (List ℕ))
    → TellsAll opening old text written now → TellsAll opening new text written now

-- the same for a step in which the output grew from one text to another
abbrev pub Passes : ServingIs → ServingIs → Option (List ℕ) → Option (List ℕ) → Type 0
Passes old new now later = (opening : Opened) (text : List ℕ) (written : Option (List ℕ))
    → TellsAll opening old text written now → TellsAll opening new text written later

-- the answer to one more line
abbrev pub Takes : ServingIs → ServingIs → Line → Type 0
Takes old new line = (opening : Opened) (text after : List ℕ) (written now : Option (List ℕ))
    → input_lines opening.heading after ≡ input_lines opening.heading text ++ line ∷ []
    → TellsAll opening old text written now → TellsAll opening new after written now

-- an operator's line is done, and its answer is this reply, still to be held
abbrev pub Obeys : ServingIs → ServingIs → OperatorLine → OperatorReply → Type 0
Obeys old new request reply = (opening : Opened) (text after : List ℕ) (written now : Option (List ℕ))
    → input_lines opening.heading after ≡ input_lines opening.heading text ++ Operator request ∷ []
    → TellsAll opening old text written now
    → TellsParts opening new.register new.desk_states
    (new.answers ++ Known (ToOperator reply) ∷ []) new.output after written now

-- the lines of this text were answered, and what was written is part of the output for them
pub record Begun (opening : Opened) (text : List ℕ) (written now : Option (List ℕ)) : Type 0 where
  pub state : State
  pub opened : state.opening ≡ opening
  pub told : Told state text written now

-- so it is, however far the writing of what is held has come
abbrev pub Begins : ServingIs → Option (List ℕ) → Option (List ℕ) → Type 0
Begins old now later = (opening : Opened) (text : List ℕ) (written : Option (List ℕ))
    → TellsAll opening old text written now → Begun opening text written later

-- the place is empty, or its tenant at home with no command waiting
abbrev pub IsBackAt : ℕ → List DeskState → Type 0
IsBackAt place desk_states = (default : DeskState) → place < most_places
    → IsBack (slice_index_or desk_states place default)

-- the tenant of the place is at home
abbrev pub IsHomeAt : ℕ → List DeskState → Type 0
IsHomeAt place desk_states = (default : DeskState) → place < most_places
    → IsHome (slice_index_or desk_states place default)

-- the place whose tenant a request of the operator waits for
abbrev pub place_of_request : List Entry → OperatorLine → Option ℕ
place_of_request register (Admit name limits) = None
place_of_request register (Retire name) = place_in register name
place_of_request register (Faulty refusal) = None

-- the place whose tenant a line waits for
abbrev pub place_of_line : List Entry → Line → Option ℕ
place_of_line register Nothing = None
place_of_line register Long = None
place_of_line register Nameless = None
place_of_line register (For name command) = None
place_of_line register (Operator request) = place_of_request register request

-- the same, if there is such a place
abbrev pub IsBackIf : Option ℕ → List DeskState → Type 0
IsBackIf None desk_states = Unit {0}
IsBackIf (Some place) desk_states = IsBackAt place desk_states

-- a line that waits for the tenant of this place, or for none, has its turn: the tenant is home with no command
-- waiting, and its answer can be held
pub record HasTurn (place : Option ℕ) (serving : ServingIs) : Type 0 where
  pub room : HasRoom serving.answers
  pub back : IsBackIf place serving.desk_states

-- no known answer is left unwritten before the first that waits
pub record IsWrittenOut (serving : ServingIs) : Type 0 where
  pub none : serving.output ≡ []
  pub first : FirstWaits serving.answers

-- no answer is left unwritten
pub record IsFinished (serving : ServingIs) : Type 0 where
  pub none : serving.output ≡ []
  pub answered : serving.answers ≡ []
