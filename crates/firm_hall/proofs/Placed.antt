-- The places for which answers wait.
use Rattle.std.proofs.Common.{◌≡◌, ℕ, ◌<◌, List, [], ◌∷◌, ◌++◌}
use Rattle.std.proofs.Common.{refl, subst}
use Rattle.std.specs.Prelude.{true, false}
use Rattle.std.proofs.lemmas.Bool.{eqb-true}
use Rattle.firm_rules.specs.declared.replies.Reply.{Reply}
use Rattle.firm_text.specs.Rosters.{most_places}
use Rattle.firm_held.specs.Held.{FirstIsFor, answered, filled, waits_for}
use Rattle.firm_hall.specs.inner.Serving.{IsPlaced, ArePlaced}
use Rattle.firm_held.specs.declared.held.HeldAnswer.{HeldAnswer}
use Rattle.firm_held.specs.declared.held.HeldAnswer.TheVariants.{Known, Waiting}

-- one answer more
pub placed_push : (answers : List HeldAnswer) (answer : HeldAnswer) → ArePlaced answers → IsPlaced answer
    → ArePlaced (answers ++ answer ∷ [])
placed_push [] answer are is = (is, tt)
placed_push (first ∷ rest) answer are is = (are.0, placed_push rest answer are.1 is)

-- the same answers, with one that is known now
answered_placed : (reply : Reply) (answer : HeldAnswer) → IsPlaced answer → IsPlaced (answered reply answer)
answered_placed reply (Waiting at name command) is = tt
answered_placed reply (Known answer) is = tt

pub placed_filled : (place : ℕ) (reply : Reply) (answers : List HeldAnswer) → ArePlaced answers
    → ArePlaced (filled place reply answers)
placed_filled place reply [] are = tt
placed_filled place reply (answer ∷ rest) are =
    elim (waits_for place answer) as
    (λ b. waits_for place answer ≡ b → ArePlaced (filled place reply (answer ∷ rest))) [
      | true ↦ λ e. rw e (answered_placed reply answer are.0, are.1)
      | false ↦ λ e. rw e (are.0, placed_filled place reply rest are.1)
    ] refl

-- the first answer waits for a place that there is
waits_low : (place : ℕ) (answer : HeldAnswer) → waits_for place answer ≡ true → IsPlaced answer → place < most_places
waits_low place (Known answer) here is = cc
waits_low place (Waiting at name command) here is = subst (λ (p : ℕ). p < most_places) (eqb-true at place here) is

pub first_low : (place : ℕ) (answers : List HeldAnswer) → FirstIsFor place answers → ArePlaced answers
    → place < most_places
first_low place [] here placed = absurd here
first_low place (answer ∷ rest) here placed = waits_low place answer here placed.0
