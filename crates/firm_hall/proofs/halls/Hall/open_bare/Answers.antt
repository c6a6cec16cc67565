use Rattle.std.proofs.Common.{◌≡◌, ◌∙◌, All, sym, subst}
use Rattle.firm_rounds.specs.Passes.{PopIs}
use Rattle.firm_hall.proofs.halls.Hall.open_bare.Goals as goal

pub returns-clause-passes : goal.returns-clause-passes
returns-clause-passes c = c.in_ok-passes.ensures ∙ c.in_ok-queue.ensures.passes.1

pub returns-clause-of_this : goal.returns-clause-of_this
returns-clause-of_this c =
    subst (All (λ (p : PopIs). p.queue ≡ c.in_ok-queue.queue.id)) (sym c.in_ok-passes.ensures)
    c.in_ok-queue.ensures.of_this.1
