-- The states of the places, as a desk comes home, answers or requests a round.
use Rattle.std.proofs.Common.{◌≡◌, ◌≢◌, ℕ, zero, suc, ◌+◌, ◌<◌, List, [], ◌∷◌, ◌++◌, length, set, get_or, sym}
use Rattle.std.proofs.Common.{ap, ◌∙◌, subst, arith}
use Rattle.std.specs.Prelude.{false, map, Option}
use Rattle.std.proofs.Math.Seq.{map-set_same}
use Rattle.std.proofs.lemmas.List.{length-set, map-set, get_or-map, get_or-set_same, get_or-set_other}
use mathlib.Core.Logic.{dite}
use native.Mathlib.Decide.{ℕ_discrete}
use Rattle.firm_rules.specs.Book.{Book}
use Rattle.firm_rules.specs.declared.commands.Command.{Command}
use Rattle.firm_rules.specs.declared.commands.Command.TheVariants.{Round}
use Rattle.firm_rules.specs.declared.replies.Reply.{Reply}
use Rattle.firm_rounds.specs.Rounds.{weigh}
use Rattle.firm_rounds.specs.Passes.{QueueId}
use Rattle.firm_held.specs.Held.{FirstIs, filled, waits_for}
use Rattle.firm_hall.specs.inner.DeskStates.{IsBack}
use Rattle.firm_hall.specs.inner.Serving.{AreDeskStates, DeskStateIs, asked_at, book_at}
use Rattle.firm_hall.specs.declared.desk_states.DeskState.{DeskState}
use Rattle.firm_hall.specs.declared.desk_states.DeskState.TheVariants.{Home, Away, Empty, Gone}
use Rattle.firm_held.specs.declared.held.HeldAnswer.{HeldAnswer}
use Rattle.firm_held.specs.Laws.{first_other, first_push, none_other, none_push}

module _ {A : Type 0} where
  pub weigh_set : (g : A → ℕ) (xs : List A) (i : ℕ) (y d : A) → i < length xs
      → weigh g (set xs i y) + g (get_or xs i d) ≡ weigh g xs + g y
  weigh_set g [] i y d low = absurd (omega arith)
  weigh_set g (x ∷ xs) zero y d low = omega arith
  weigh_set g (x ∷ xs) (suc i) y d low = let rest : weigh g (set xs i y) + g (get_or xs i d) ≡ weigh g xs + g y =
      weigh_set g xs i y d (omega arith) in omega arith

  -- a list in which one element was set, and of which all others hold what they held
  pub each_set : (P Q : ℕ → A → Type 0) (xs : List A) (i : ℕ) (y d : A) → i < length xs → Q i y
      → ((j : ℕ) → j ≢ i → P j (get_or xs j d) → Q j (get_or xs j d))
      → (j : ℕ) → (j < length xs → P j (get_or xs j d)) → j < length xs → Q j (get_or (set xs i y) j d)
  each_set P Q xs i y d low here there j all within = dite (ℕ_discrete j i)
      (λ same. subst (λ (k : ℕ). Q k (get_or (set xs i y) k d)) (sym same)
      (subst (Q i) (sym (get_or-set_same xs i y d low)) here))
      (λ differ. subst (Q j) (sym (get_or-set_other xs i j y d differ)) (there j differ (all within)))

-- another place, of which an answer became known that waited for this one
pub desk_state_other : (queue : QueueId) (place other : ℕ) (command : Command) (reply : Reply)
    (answers : List HeldAnswer) (desk_state : DeskState)
    → FirstIs place command answers → other ≢ place
    → DeskStateIs queue other answers desk_state
    → DeskStateIs queue other (filled place reply answers) desk_state
desk_state_other queue place other command reply answers (Home desk waits) here differ is =
    (is.0, is.1, λ none. none_other place other reply answers (is.2 none))
desk_state_other queue place other command reply answers (Away asked) here differ is = record {
  queue_is = is.queue_is;
  place_is = is.place_is;
  some = is.some;
  left = is.left;
  first = first_other place other command Round reply answers differ here is.first;
}
desk_state_other queue place other command reply answers (Empty empty) here differ is =
    (is.0, is.1, none_other place other reply answers is.2)
desk_state_other queue place other command reply answers Gone here differ is = absurd is

-- a place, with one answer more, which waits for another or for none, unless commands wait for this one anyway
pub desk_state_push : (queue : QueueId) (place : ℕ) (answers : List HeldAnswer) (answer : HeldAnswer)
    (desk_state : DeskState)
    → (IsBack desk_state → waits_for place answer ≡ false) → DeskStateIs queue place answers desk_state
    → DeskStateIs queue place (answers ++ answer ∷ []) desk_state
desk_state_push queue place answers answer (Home desk waits) out is =
    (is.0, is.1, λ none. none_push place answers answer (is.2 none) (out none))
desk_state_push queue place answers answer (Away asked) out is = record {
  queue_is = is.queue_is;
  place_is = is.place_is;
  some = is.some;
  left = is.left;
  first = first_push place Round answers answer is.first;
}
desk_state_push queue place answers answer (Empty empty) out is =
    (is.0, is.1, none_push place answers answer is.2 (out tt))
desk_state_push queue place answers answer Gone out is = absurd is

-- a place, once the first answer is taken, which waits for none
pub desk_state_pop : (queue : QueueId) (place : ℕ) (answer : HeldAnswer) (rest : List HeldAnswer)
    (desk_state : DeskState)
    → waits_for place answer ≡ false → DeskStateIs queue place (answer ∷ rest) desk_state
    → DeskStateIs queue place rest desk_state
desk_state_pop queue place answer rest (Home desk waits) out is = (is.0, is.1, λ none. (is.2 none).1)
desk_state_pop queue place answer rest (Away asked) out is = record {
  queue_is = is.queue_is;
  place_is = is.place_is;
  some = is.some;
  left = is.left;
  first = rw out at is.first;
}
desk_state_pop queue place answer rest (Empty empty) out is = (is.0, is.1, is.2.1)
desk_state_pop queue place answer rest Gone out is = absurd is

-- what stands at one place is replaced
module _ (desk_states : List DeskState) (place : ℕ) (before last default : DeskState)
    (within : place < length desk_states) (at : before ≡ get_or desk_states place default) where
  pub books_set : map book_at (set desk_states place last) ≡ set (map book_at desk_states) place (book_at last)
  books_set = map-set book_at desk_states place last

  pub book_here : (none : Option Book) → get_or (map book_at desk_states) place none ≡ book_at before
  book_here none = get_or-map book_at desk_states place default none within ∙ ap book_at (sym at)

  pub books_same : book_at last ≡ book_at before → map book_at (set desk_states place last) ≡ map book_at desk_states
  books_same same = map-set_same book_at desk_states place last default (same ∙ ap book_at at)

  pub asked_set : weigh asked_at (set desk_states place last) + asked_at before
      ≡ weigh asked_at desk_states + asked_at last
  asked_set =
      let turn = weigh_set asked_at desk_states place last default within in
      let here : asked_at (get_or desk_states place default) ≡ asked_at before = sym (ap asked_at at) in
      omega (arith, turn, here)

  pub desk_states_set : (queue : QueueId) (answers later : List HeldAnswer) → AreDeskStates queue answers desk_states
      → DeskStateIs queue place later last
      → ((other : ℕ) (desk_state : DeskState) → other ≢ place → DeskStateIs queue other answers desk_state
      → DeskStateIs queue other later desk_state) → AreDeskStates queue later (set desk_states place last)
  desk_states_set queue answers later are is others = record {
    long = length-set desk_states place last ∙ are.long;
    each = λ j d l.
        each_set (λ k (s : DeskState). DeskStateIs queue k answers s)
        (λ k (s : DeskState). DeskStateIs queue k later s) desk_states place last d within is
        (λ k differ old. others k (get_or desk_states k d) differ old)
        j (λ w. are.each j d l) (omega (arith, are.long));
  }
