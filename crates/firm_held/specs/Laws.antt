-- Laws for callers that hold one more answer, make one known or take one off the front. No contract names these laws,
-- and each is proved here.
use Rattle.std.proofs.Common.{◌≡◌, ◌≢◌, ℕ, zero, suc, ◌+◌, List, [], ◌∷◌, ◌++◌, length, take}
use Rattle.std.proofs.Common.{refl, sym, ap, ◌∙◌, subst, eq-eqb, ne_eqb, add-one}
use Rattle.std.specs.Prelude.{Bool, true, false}
use Rattle.firm_rules.specs.declared.commands.Command.{Command}
use Rattle.firm_rules.specs.declared.replies.Reply.{Reply}
use Rattle.firm_table.specs.declared.answers.LineAnswer.TheVariants.{Replied}
use Rattle.firm_held.specs.Held.{FirstIs, FirstIsAt, FirstIsKnown, IsWaiting, NoneWaits, answered, filled, waits_for}
use Rattle.firm_held.specs.declared.held.HeldAnswer.{HeldAnswer}
use Rattle.firm_held.specs.declared.held.HeldAnswer.TheVariants.{Known, Waiting}

-- an answer waits for the place that it names
pub waits_here : (place : ℕ) (command : Command) (answer : HeldAnswer) → IsWaiting place command answer
    → waits_for place answer ≡ true
waits_here place command (Waiting other name given) is = eq-eqb other place is.0
waits_here place command (Known answer) is = absurd is

-- and for no other
waits_once : (place other : ℕ) (command : Command) (answer : HeldAnswer) → other ≢ place
    → IsWaiting place command answer → waits_for other answer ≡ false
waits_once place other command (Known answer) differ is = refl
waits_once place other command (Waiting at name given) differ is = ne_eqb at other (λ e. differ (sym e ∙ is.0))

-- an answer that is known waits for nothing
pub answered_waits : (place : ℕ) (reply : Reply) (answer : HeldAnswer) → waits_for place (answered reply answer) ≡ false
answered_waits place reply (Waiting other name command) = refl
answered_waits place reply (Known answer) = refl

pub known_waits : (place : ℕ) (answer : HeldAnswer) (rest : List HeldAnswer) → FirstIsKnown (answer ∷ rest)
    → waits_for place answer ≡ false
known_waits place (Waiting at name command) rest known = absurd known
known_waits place (Known answer) rest known = refl

-- one answer more
pub none_push : (place : ℕ) (answers : List HeldAnswer) (answer : HeldAnswer) → NoneWaits place answers
    → waits_for place answer ≡ false
    → NoneWaits place (answers ++ answer ∷ [])
none_push place [] answer none out = (out, tt)
none_push place (first ∷ rest) answer none out = (none.0, none_push place rest answer none.1 out)

pub first_push : (place : ℕ) (command : Command) (answers : List HeldAnswer) (answer : HeldAnswer)
    → FirstIs place command answers
    → FirstIs place command (answers ++ answer ∷ [])
first_push place command [] answer first = absurd first
first_push place command (next ∷ rest) answer first =
    elim (waits_for place next) as (λ b. waits_for place next ≡ b
    → FirstIs place command (next ∷ (rest ++ answer ∷ []))) [
      | true ↦ λ e. rw e (rw e at first)
      | false ↦ λ e. rw e (first_push place command rest answer (rw e at first))
    ] refl

pub first_here : (place : ℕ) (command : Command) (answers : List HeldAnswer) (answer : HeldAnswer)
    → NoneWaits place answers → IsWaiting place command answer
    → FirstIs place command (answers ++ answer ∷ [])
first_here place command [] answer none is = rw (waits_here place command answer is) is
first_here place command (first ∷ rest) answer none is = rw none.0 (first_here place command rest answer none.1 is)

-- what waited for the place is known, and what waits for another stays
pub none_other : (place other : ℕ) (reply : Reply) (answers : List HeldAnswer) → NoneWaits other answers
    → NoneWaits other (filled place reply answers)
none_other place other reply [] none = tt
none_other place other reply (answer ∷ rest) none =
    elim (waits_for place answer) as
    (λ b. waits_for place answer ≡ b → NoneWaits other (filled place reply (answer ∷ rest))) [
      | true ↦ λ e. rw e (answered_waits other reply answer, none.1)
      | false ↦ λ e. rw e (none.0, none_other place other reply rest none.1)
    ] refl

pub first_other : (place other : ℕ) (command given : Command) (reply : Reply) (answers : List HeldAnswer)
    → other ≢ place → FirstIs place command answers
    → FirstIs other given answers
    → FirstIs other given (filled place reply answers)
first_other place other command given reply [] differ here first = absurd first
first_other place other command given reply (answer ∷ rest) differ here first =
    elim (waits_for place answer) as (λ b. waits_for place answer ≡ b
    → FirstIs other given (filled place reply (answer ∷ rest))) [
      | true ↦ λ e.
          let is : IsWaiting place command answer = rw e at here in
          let there : FirstIs other given rest = rw (waits_once place other command answer differ is) at first in
          rw (e, answered_waits other reply answer) there
      | false ↦ λ e. rw e (behind (waits_for other answer) refl
          (first_other place other command given reply rest differ (rw e at here)))
    ] refl
  where
    behind : (c : Bool) → waits_for other answer ≡ c
        → (FirstIs other given rest → FirstIs other given (filled place reply rest))
        → FirstIs other given (answer ∷ filled place reply rest)
    behind true f more = rw f (rw f at first)
    behind false f more = rw f (more (rw f at first))

-- an answer that waits, and is known at once
pub filled_push : (place : ℕ) (name : List ℕ) (command : Command) (reply : Reply) (answers : List HeldAnswer)
    → NoneWaits place answers
    → filled place reply (answers ++ Waiting place name command ∷ []) ≡ answers ++ Known (Replied name reply) ∷ []
filled_push place name command reply [] none = rw (eq-eqb place place refl) refl
filled_push place name command reply (answer ∷ rest) none =
    rw none.0 (ap (λ (xs : List HeldAnswer). answer ∷ xs) (filled_push place name command reply rest none.1))

-- which one is the first
pub first_at : (place : ℕ) (command : Command) (at : ℕ) (answers : List HeldAnswer)
    → FirstIsAt place command at answers → FirstIs place command answers
first_at place command at [] first = absurd first
first_at place command zero (answer ∷ rest) first = rw (waits_here place command answer first) first
first_at place command (suc at) (answer ∷ rest) first = rw first.0 (first_at place command at rest first.1)

-- and none waits up to it then
none_up_to : (place : ℕ) (command : Command) (reply : Reply) (at : ℕ) (answers : List HeldAnswer)
    → FirstIsAt place command at answers
    → NoneWaits place (take (suc at) (filled place reply answers))
none_up_to place command reply at [] first = absurd first
none_up_to place command reply zero (answer ∷ rest) first =
    rw (waits_here place command answer first) (answered_waits place reply answer, tt)
none_up_to place command reply (suc at) (answer ∷ rest) first =
    rw first.0 (first.0, none_up_to place command reply at rest first.1)

pub none_filled : (place : ℕ) (command : Command) (reply : Reply) (at : ℕ) (answers : List HeldAnswer)
    → FirstIsAt place command at answers
    → NoneWaits place (take (at + 1) (filled place reply answers))
none_filled place command reply at answers first =
    subst (λ (n : ℕ). NoneWaits place (take n (filled place reply answers))) (sym (add-one at))
    (none_up_to place command reply at answers first)

-- there is one, if one waits
pub not_none : {X : Type 0} (place : ℕ) (command : Command) (answers : List HeldAnswer) → FirstIs place command answers
    → NoneWaits place answers → X
not_none place command [] first none = absurd first
not_none place command (answer ∷ rest) first none = let there : FirstIs place command rest = rw none.0 at first in
    not_none place command rest there none.1

-- as many answers are held as before
pub length_filled : (place : ℕ) (reply : Reply) (answers : List HeldAnswer)
    → length (filled place reply answers) ≡ length answers
length_filled place reply [] = refl
length_filled place reply (answer ∷ rest) =
    elim (waits_for place answer) as (λ b. waits_for place answer ≡ b
    → length (filled place reply (answer ∷ rest)) ≡ length (answer ∷ rest)) [
      | true ↦ λ e. rw e refl
      | false ↦ λ e. rw e (ap suc (length_filled place reply rest))
    ] refl
