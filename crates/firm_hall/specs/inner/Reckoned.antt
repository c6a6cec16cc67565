-- One fold over the held answers.
use Rattle.std.specs.Prelude.{ℕ, suc, ◌+◌, Bool, List, [], ◌∷◌, ◌++◌}
use Rattle.std.specs.Prelude.{Option, Some, None, if◌then◌else◌, slice_index_or, slice_set}
use Rattle.firm_rules.specs.Book.{Book}
use Rattle.firm_rules.specs.declared.commands.Command.{Command}
use Rattle.firm_rules.specs.declared.replies.Reply.{Reply}
use Rattle.firm_tenant.specs.Step.{step, is_memory}
use Rattle.firm_table.specs.Answers.{text_of_answer}
use Rattle.firm_table.specs.declared.answers.LineAnswer.TheVariants.{Replied}
use Rattle.firm_hall.specs.Counts.{round_in}
use Rattle.firm_held.specs.declared.held.HeldAnswer.{HeldAnswer}
use Rattle.firm_held.specs.declared.held.HeldAnswer.TheVariants.{Known, Waiting}

-- whether memory is refused to a command, and whether a round that is refused memory was requested all the same
abbrev pub Mark : Type 0
Mark = Bool × Bool

-- The books of the tenants at their places, the text to be written and the number of rounds asked, when the commands to
-- which these answers reply are done.
pub record Reckoned : Type 0 where
  pub books : List (Option Book)
  pub text : List ℕ
  pub asked : ℕ

-- 1 for a requested round; only one without life or memory is not requested
abbrev pub asks : Command → Reply → Bool → ℕ
asks command reply asked =
    if is_memory reply then (if asked then round_in command reply else 0) else round_in command reply

-- these, once a command of the tenant at a place with this book is done
abbrev pub reckon_command : Mark → ℕ → List ℕ → Command → Reckoned → Option Book → Reckoned
reckon_command mark place name command before None = before
reckon_command mark place name command before (Some book) =
    record {
      books = slice_set before.books place (Some (step book command mark.0).1);
      text = before.text ++ text_of_answer (Replied name (step book command mark.0).0);
      asked = before.asked + asks command (step book command mark.0).0 mark.1;
    }

-- these, with one more answer
abbrev pub reckon_one : Mark → Reckoned → HeldAnswer → Reckoned
reckon_one mark before (Known answer) =
    record { books = before.books; text = before.text ++ text_of_answer answer; asked = before.asked }
reckon_one mark before (Waiting place name command) =
    reckon_command mark place name command before (slice_index_or before.books place None)

-- these, with all held answers, each with its mark
abbrev pub reckon : (ℕ → Mark) → Reckoned → List HeldAnswer → Reckoned
reckon marks before [] = before
reckon marks before (answer ∷ rest) = reckon (λ n. marks (suc n)) (reckon_one (marks 0) before answer) rest
