-- The fold over the held answers, as one is added, becomes known, or a book changes for which none waits.
use Rattle.std.proofs.Common.{◌≡◌, ◌≢◌, ℕ, zero, suc, ◌+◌, ◌<◌, List, [], ◌∷◌, ◌++◌, length, set, get_or}
use Rattle.std.proofs.Common.{refl, sym, ap, ◌∙◌, arith, append_assoc, eq-eqb}
use Rattle.std.specs.Prelude.{true, false, ◌==◌, Option, Some, None}
use Rattle.std.proofs.lemmas.List.{length-set, get_or-set_other}
use Rattle.std.proofs.lemmas.Grind.{get_or-set_at}
use mathlib.Core.Logic.{dite}
use native.Mathlib.Decide.{ℕ_discrete}
use Rattle.firm_rules.specs.Book.{Book}
use Rattle.firm_rules.specs.declared.commands.Command.{Command}
use Rattle.firm_rules.specs.declared.replies.Reply.{Reply}
use Rattle.firm_tenant.specs.Step.{step}
use Rattle.firm_table.specs.Answers.{text_of_answer}
use Rattle.firm_table.specs.declared.answers.LineAnswer.TheVariants.{Replied}
use Rattle.firm_held.specs.Held.{FirstIs, IsWaiting, NoneWaits, answered, filled, waits_for}
use Rattle.firm_hall.specs.inner.Reckoned.{Mark, Reckoned, asks, reckon, reckon_command, reckon_one}
use Rattle.firm_held.specs.declared.held.HeldAnswer.{HeldAnswer}
use Rattle.firm_held.specs.declared.held.HeldAnswer.TheVariants.{Known, Waiting}

-- a place is no other
differs : {X : Type 0} (place other : ℕ) → (place == other) ≡ false → place ≡ other → X
differs place other out e = let both : true ≡ false = sym (eq-eqb place other e) ∙ out in absurd (cc)

-- the fold with this book at a place and this many more rounds requested
abbrev pub put_at : ℕ → Option Book → ℕ → Reckoned → Reckoned
put_at place book more before =
    record { books = set before.books place book; text = before.text; asked = before.asked + more }

-- one more answer is done last
pub reckon_push : (marks : ℕ → Mark) (before : Reckoned) (answers : List HeldAnswer) (answer : HeldAnswer)
    → reckon marks before (answers ++ answer ∷ [])
    ≡ reckon_one (marks (length answers)) (reckon marks before answers) answer
reckon_push marks before [] answer = refl
reckon_push marks before (first ∷ rest) answer =
    reckon_push (λ n. marks (suc n)) (reckon_one (marks 0) before first) rest answer

set_apart : {A : Type 0} (xs : List A) (i j : ℕ) (a b : A) → i ≢ j → set (set xs i a) j b ≡ set (set xs j b) i a
set_apart [] i j a b differ = refl
set_apart (x ∷ xs) zero zero a b differ = absurd (differ refl)
set_apart (x ∷ xs) zero (suc j) a b differ = refl
set_apart (x ∷ xs) (suc i) zero a b differ = refl
set_apart {A = A} (x ∷ xs) (suc i) (suc j) a b differ =
    ap (λ (ys : List A). x ∷ ys) (set_apart xs i j a b (λ e. differ (ap suc e)))

-- a command of another place leaves the book of this one
command_apart : (place : ℕ) (book : Option Book) (more : ℕ) (mark : Mark) (before : Reckoned) (other : ℕ)
    (name : List ℕ) (command : Command) (found : Option Book) → place ≢ other
    → reckon_command mark other name command (put_at place book more before) found
    ≡ put_at place book more (reckon_command mark other name command before found)
command_apart place book more mark before other name command None differ = refl
command_apart place book more mark before other name command (Some there) differ =
    let new : Option Book = Some (step there command mark.0).1 in
    let text : List ℕ = before.text ++ text_of_answer (Replied name (step there command mark.0).0) in
    let count : ℕ = asks command (step there command mark.0).0 mark.1 in
    let sums : (before.asked + more) + count ≡ (before.asked + count) + more = omega arith in
    let make : List (Option Book) → ℕ → Reckoned = λ books asked.
    record { books = books; text = text; asked = asked } in
    ap (λ (books : List (Option Book)). make books ((before.asked + more) + count))
    (set_apart before.books place other book new differ)
    ∙ ap (make (set (set before.books other new) place book)) sums

one_apart : (place : ℕ) (book : Option Book) (more : ℕ) (mark : Mark) (before : Reckoned) (answer : HeldAnswer)
    → waits_for place answer ≡ false
    → reckon_one mark (put_at place book more before) answer ≡ put_at place book more (reckon_one mark before answer)
one_apart place book more mark before (Known answer) out = refl
one_apart place book more mark before (Waiting other name command) out =
    ap (reckon_command mark other name command (put_at place book more before))
    (get_or-set_other before.books place other book None (λ e. differs other place out e))
    ∙ command_apart place book more mark before other name command (get_or before.books other None)
    (λ e. differs other place out (sym e))

pub reckon_apart : (place : ℕ) (book : Option Book) (more : ℕ) (marks : ℕ → Mark) (before : Reckoned)
    (answers : List HeldAnswer)
    → NoneWaits place answers
    → reckon marks (put_at place book more before) answers ≡ put_at place book more (reckon marks before answers)
reckon_apart place book more marks before [] none = refl
reckon_apart place book more marks before (answer ∷ rest) none =
    ap (λ (r : Reckoned). reckon (λ n. marks (suc n)) r rest)
    (one_apart place book more (marks 0) before answer none.0)
    ∙ reckon_apart place book more (λ n. marks (suc n)) (reckon_one (marks 0) before answer) rest none.1

-- a book is there still, once one answer is known
found_command : (place : ℕ) (mark : Mark) (before : Reckoned) (other : ℕ) (name : List ℕ) (command : Command)
    (found : Option Book) → place ≢ other
    → get_or (reckon_command mark other name command before found).books place None ≡ get_or before.books place None
found_command place mark before other name command None differ = refl
found_command place mark before other name command (Some there) differ =
    get_or-set_other before.books other place (Some (step there command mark.0).1) None differ

found_apart : (place : ℕ) (mark : Mark) (before : Reckoned) (answer : HeldAnswer) → waits_for place answer ≡ false
    → get_or (reckon_one mark before answer).books place None ≡ get_or before.books place None
found_apart place mark before (Known answer) out = refl
found_apart place mark before (Waiting other name command) out =
    found_command place mark before other name command (get_or before.books other None)
    (λ e. differs other place out (sym e))

record IsThere (place : ℕ) (reckoned : Reckoned) : Type 0 where
  low : place < length reckoned.books
  book : Book
  found : get_or reckoned.books place None ≡ Some book

there_command : (place : ℕ) (mark : Mark) (before : Reckoned) (other : ℕ) (name : List ℕ) (command : Command)
    (found : Option Book) → IsThere place before → IsThere place (reckon_command mark other name command before found)
there_command place mark before other name command None is = is
there_command place mark before other name command (Some there) is =
    let new : Book = (step there command mark.0).1 in
    let low : place < length (set before.books other (Some new)) =
    omega (arith, length-set before.books other (Some new), is.low) in
    dite (ℕ_discrete place other)
    (λ same. record {
      low = low;
      book = new;
      found = get_or-set_at before.books other place (Some new) None same (omega (arith, is.low, same));
    })
    (λ differ. record {
      low = low;
      book = is.book;
      found = get_or-set_other before.books other place (Some new) None differ ∙ is.found;
    })

there_one : (place : ℕ) (mark : Mark) (before : Reckoned) (answer : HeldAnswer) → IsThere place before
    → IsThere place (reckon_one mark before answer)
there_one place mark before (Known answer) is = record { low = is.low; book = is.book; found = is.found }
there_one place mark before (Waiting other name command) is =
    there_command place mark before other name command (get_or before.books other None) is

there_all : (place : ℕ) (marks : ℕ → Mark) (before : Reckoned) (answers : List HeldAnswer) → IsThere place before
    → IsThere place (reckon marks before answers)
there_all place marks before [] is = is
there_all place marks before (answer ∷ rest) is =
    there_all place (λ n. marks (suc n)) (reckon_one (marks 0) before answer) rest
    (there_one place (marks 0) before answer is)

pub book_behind : (place : ℕ) (marks : ℕ → Mark) (before : Reckoned) (answers : List HeldAnswer) (book : Book)
    → place < length before.books → get_or before.books place None ≡ Some book
    → (later : Book) × (get_or (reckon marks before answers).books place None ≡ Some later)
book_behind place marks before answers book low found =
    let is = there_all place marks before answers (record { low = low; book = book; found = found }) in
    (is.book, is.found)

-- these marks, with one before them
abbrev pub behind : Mark → (ℕ → Mark) → ℕ → Mark
behind mark marks zero = mark
behind mark marks (suc n) = marks n

-- the reply that came is the one that its mark tells
one_filled : (place : ℕ) (mark other : Mark) (command : Command) (reply : Reply) (book after : Book) (more : ℕ)
    (before : Reckoned) (answer : HeldAnswer)
    → IsWaiting place command answer → get_or before.books place None ≡ Some book
    → (reply, after) ≡ step book command mark.0 → more ≡ asks command reply mark.1
    → reckon_one other (put_at place (Some after) more before) (answered reply answer) ≡ reckon_one mark before answer
one_filled place mark other command reply book after more before (Known answer) is found stepped count = absurd is
one_filled place mark other command reply book after more before (Waiting at name given) is found stepped count =
    rw (is.0, is.1, found)
    (ap (λ (n : ℕ). record {
      books = set before.books place (Some after);
      text = before.text ++ text_of_answer (Replied name reply);
      asked = before.asked + n;
    }) count
    ∙ ap (λ (p : Reply × Book). record {
      books = set before.books place (Some p.1);
      text = before.text ++ text_of_answer (Replied name p.0);
      asked = before.asked + asks command p.0 mark.1;
    }) stepped)

pub reckon_filled : (place : ℕ) (mark : Mark) (command : Command) (reply : Reply) (book after : Book) (more : ℕ)
    (marks : ℕ → Mark) (before : Reckoned) (answers : List HeldAnswer)
    → FirstIs place command answers → get_or before.books place None ≡ Some book
    → (reply, after) ≡ step book command mark.0 → more ≡ asks command reply mark.1
    → (marked : ℕ → Mark)
    × (reckon marks (put_at place (Some after) more before) (filled place reply answers) ≡ reckon marked before answers)
reckon_filled place mark command reply book after more marks before [] first found stepped count = absurd first
reckon_filled place mark command reply book after more marks before (answer ∷ rest) first found stepped count =
    elim (waits_for place answer) as (λ b. waits_for place answer ≡ b → (marked : ℕ → Mark)
    × (reckon marks (put_at place (Some after) more before) (filled place reply (answer ∷ rest))
    ≡ reckon marked before (answer ∷ rest))) [
      | true ↦ λ e.
          let is : IsWaiting place command answer = rw e at first in (
            behind mark (λ n. marks (suc n)),
            rw e (ap (λ (r : Reckoned). reckon (λ n. marks (suc n)) r rest)
                (one_filled place mark (marks 0) command reply book after more before answer is found stepped count)),
          )
      | false ↦ λ e.
          let later : FirstIs place command rest = rw e at first in
          let there = reckon_filled place mark command reply book after more (λ n. marks (suc n))
          (reckon_one (marks 0) before answer) rest later (found_apart place (marks 0) before answer e ∙ found) stepped
          count in (
            behind (marks 0) there.0,
            rw e (ap (λ (r : Reckoned). reckon (λ n. marks (suc n)) r (filled place reply rest))
                (one_apart place (Some after) more (marks 0) before answer e) ∙ there.1),
          )
    ] refl

-- what is reckoned, with this text before the other
abbrev pub with_front : List ℕ → Reckoned → Reckoned
with_front front before = record { books = before.books; text = front ++ before.text; asked = before.asked }

command_front : (front : List ℕ) (mark : Mark) (before : Reckoned) (place : ℕ) (name : List ℕ) (command : Command)
    (found : Option Book)
    → reckon_command mark place name command (with_front front before) found
    ≡ with_front front (reckon_command mark place name command before found)
command_front front mark before place name command None = refl
command_front front mark before place name command (Some book) =
    let made = step book command mark.0 in
    ap (λ (text : List ℕ). record {
      books = set before.books place (Some made.1);
      text = text;
      asked = before.asked + asks command made.0 mark.1;
    }) (append_assoc front before.text (text_of_answer (Replied name made.0)))

one_front : (front : List ℕ) (mark : Mark) (before : Reckoned) (answer : HeldAnswer)
    → reckon_one mark (with_front front before) answer ≡ with_front front (reckon_one mark before answer)
one_front front mark before (Known answer) =
    ap (λ (text : List ℕ). record { books = before.books; text = text; asked = before.asked })
    (append_assoc front before.text (text_of_answer answer))
one_front front mark before (Waiting place name command) =
    command_front front mark before place name command (get_or before.books place None)

pub reckon_front : (front : List ℕ) (marks : ℕ → Mark) (before : Reckoned) (answers : List HeldAnswer)
    → reckon marks (with_front front before) answers ≡ with_front front (reckon marks before answers)
reckon_front front marks before [] = refl
reckon_front front marks before (answer ∷ rest) =
    ap (λ (r : Reckoned). reckon (λ n. marks (suc n)) r rest) (one_front front (marks 0) before answer)
    ∙ reckon_front front (λ n. marks (suc n)) (reckon_one (marks 0) before answer) rest
