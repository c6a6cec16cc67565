-- The answers that are held.
use Rattle.std.specs.Prelude.{◌≡◌, ℕ, zero, suc, ◌<◌, ◌==◌, Bool, true, false, List, [], ◌∷◌, MatchBool}
use Rattle.std.specs.Prelude.{Option, Some, None, if◌then◌else◌, length, min}
use Rattle.std.specs.List.{flat_map, sum_by}
use Rattle.firm_rules.specs.declared.commands.Command.{Command}
use Rattle.firm_rules.specs.declared.replies.Outcome.{Outcome}
use Rattle.firm_rules.specs.declared.replies.Outcome.TheVariants.{Round}
use Rattle.firm_rules.specs.declared.replies.Reply.{Reply}
use Rattle.firm_rules.specs.declared.rounds.Change.{Change}
use Rattle.firm_text.specs.Replies.{change_words, spaced}
use Rattle.firm_table.specs.Answers.{text_of_answer}
use Rattle.firm_table.specs.declared.answers.LineAnswer.{LineAnswer}
use Rattle.firm_table.specs.declared.answers.LineAnswer.TheVariants.{Replied}
use Rattle.firm_held.specs.declared.held.HeldAnswer.{HeldAnswer}
use Rattle.firm_held.specs.declared.held.HeldAnswer.TheVariants.{Known, Waiting}

-- at most this many answers are held
abbrev pub most_answers_held : ℕ
most_answers_held = 1024

-- and no further one while the changes of held rounds have this many bytes of text
abbrev pub most_bytes_held : ℕ
most_bytes_held = 4000000

-- how many bytes a change has in its round's reply
abbrev pub bytes_of_change : Change → ℕ
bytes_of_change change = length (flat_map spaced (change_words change))

-- and all changes of a round; at most this many count
abbrev pub bytes_of_changes : List Change → ℕ
bytes_of_changes changes = min (sum_by bytes_of_change changes) 4294967296

abbrev pub bytes_of_outcome : Outcome → ℕ
bytes_of_outcome (Round cost changes) = bytes_of_changes changes
bytes_of_outcome _ = 0

abbrev pub bytes_of_reply : Reply → ℕ
bytes_of_reply reply = bytes_of_outcome reply.outcome

-- the same of a known answer, and of a held one
abbrev pub bytes_of_line : LineAnswer → ℕ
bytes_of_line (Replied name reply) = bytes_of_reply reply
bytes_of_line _ = 0

abbrev pub bytes_of_answer : HeldAnswer → ℕ
bytes_of_answer (Known answer) = bytes_of_line answer
bytes_of_answer (Waiting place name command) = 0

abbrev pub bytes_in : List HeldAnswer → ℕ
bytes_in answers = sum_by bytes_of_answer answers

-- one more answer can be held
pub record HasRoom (answers : List HeldAnswer) : Type 0 where
  pub few : length answers < most_answers_held
  pub light : bytes_in answers < most_bytes_held

-- the held answers, in the order of their lines, and the text still to be written before them
pub record HeldIs : Type 0 where
  pub answers : List HeldAnswer
  pub output : List ℕ

abbrev pub held_is : List HeldAnswer → List ℕ → HeldIs
held_is answers output = record { answers = answers; output = output }

-- the answer to a command that was given this reply, or that waits for one
abbrev pub held_answer : ℕ → List ℕ → Command → Option Reply → HeldAnswer
held_answer place name command None = Waiting place name command
held_answer place name command (Some reply) = Known (Replied name reply)

-- whether an answer waits for the place
abbrev pub waits_for : ℕ → HeldAnswer → Bool
waits_for place (Waiting other name command) = other == place
waits_for place (Known answer) = false

-- an answer, with this reply if it waits
abbrev pub answered : Reply → HeldAnswer → HeldAnswer
answered reply (Waiting place name command) = Known (Replied name reply)
answered reply (Known answer) = Known answer

-- the answers, with this reply for the first that waits for the place
abbrev pub filled : ℕ → Reply → List HeldAnswer → List HeldAnswer
filled place reply [] = []
filled place reply (answer ∷ rest) =
    if waits_for place answer then answered reply answer ∷ rest else answer ∷ filled place reply rest

-- the text of a known answer
abbrev pub known_text : HeldAnswer → List ℕ
known_text (Waiting place name command) = []
known_text (Known answer) = text_of_answer answer

-- no answer waits for the place
abbrev pub NoneWaits : ℕ → List HeldAnswer → Type 0
NoneWaits place [] = Unit {0}
NoneWaits place (answer ∷ rest) = (waits_for place answer ≡ false) × NoneWaits place rest

-- an answer waits for the place and is the reply to this command
abbrev pub IsWaiting : ℕ → Command → HeldAnswer → Type 0
IsWaiting place command (Waiting other name given) = (other ≡ place) × (given ≡ command)
IsWaiting place command (Known answer) = ⊥

-- the first answer that waits for the place is the reply to this command
abbrev pub FirstIs : ℕ → Command → List HeldAnswer → Type 0
FirstIs place command [] = ⊥
FirstIs place command (answer ∷ rest) =
    MatchBool (waits_for place answer) (IsWaiting place command answer) (FirstIs place command rest)

-- and it is this answer
abbrev pub FirstIsAt : ℕ → Command → ℕ → List HeldAnswer → Type 0
FirstIsAt place command at [] = ⊥
FirstIsAt place command zero (answer ∷ rest) = IsWaiting place command answer
FirstIsAt place command (suc at) (answer ∷ rest) =
    (waits_for place answer ≡ false) × FirstIsAt place command at rest

-- the first held answer waits, or none is held
abbrev pub FirstWaits : List HeldAnswer → Type 0
FirstWaits [] = Unit {0}
FirstWaits (Waiting place name command ∷ rest) = Unit {0}
FirstWaits (Known answer ∷ rest) = ⊥

-- the first held answer is known
abbrev pub FirstIsKnown : List HeldAnswer → Type 0
FirstIsKnown [] = ⊥
FirstIsKnown (Waiting place name command ∷ rest) = ⊥
FirstIsKnown (Known answer ∷ rest) = Unit {0}

-- the first held answer waits for this place
abbrev pub FirstIsFor : ℕ → List HeldAnswer → Type 0
FirstIsFor place [] = ⊥
FirstIsFor place (answer ∷ rest) = waits_for place answer ≡ true
