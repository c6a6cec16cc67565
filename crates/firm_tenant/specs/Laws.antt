-- Laws of a tenant's steps: all that the crates above need to know of them.
use Rattle.std.specs.Prelude.{◌≡◌, ◌+◌, ◌<◌, ◌≤◌, Bool, false, List, [], ◌∷◌, ◌++◌}
use Rattle.firm_rules.specs.Book.{Book}
use Rattle.firm_rules.specs.declared.commands.Command.{Command}
use Rattle.firm_tenant.specs.Step.{step, is_memory}
use Rattle.firm_tenant.specs.Alone.{replies_from, book_after}

-- a step without a mark is never refused for lack of memory
abbrev pub UnmarkedStepsAreGranted : Type 0
UnmarkedStepsAreGranted = (book : Book) (command : Command) → is_memory (step book command false).0 ≡ false

-- every step is the step with the mark that its reply shows
abbrev pub RepliesTellTheirMarks : Type 0
RepliesTellTheirMarks =
    (book : Book) (command : Command) (mark : Bool)
    → step book command (is_memory (step book command mark).0) ≡ step book command mark

-- one more command appends its reply to the earlier ones, and applies its step to the book after them
pub record AddsOneStep (book : Book) (commands : List (Command × Bool)) (last : Command × Bool) : Type 0 where
  pub replies : replies_from book (commands ++ last ∷ []) ≡ replies_from book commands
      ++ (step (book_after book commands) last.0 last.1).0 ∷ []
  pub book_is : book_after book (commands ++ last ∷ []) ≡ (step (book_after book commands) last.0 last.1).1

abbrev pub OneMoreCommandAddsOneStep : Type 0
OneMoreCommandAddsOneStep =
    (book : Book) (commands : List (Command × Bool)) (last : Command × Bool) → AddsOneStep book commands last

-- a step keeps the limits, counts the command if life is left, and changes nothing otherwise
pub record CountsOnce (book : Book) (command : Command) (mark : Bool) : Type 0 where
  pub limits : (step book command mark).1.rows.limits ≡ book.rows.limits
  pub counted : book.given < book.rows.limits.life → (step book command mark).1.given ≡ book.given + 1
  pub worn : book.rows.limits.life ≤ book.given → (step book command mark).1 ≡ book

abbrev pub StepsCountOnce : Type 0
StepsCountOnce = (book : Book) (command : Command) (mark : Bool) → CountsOnce book command mark
