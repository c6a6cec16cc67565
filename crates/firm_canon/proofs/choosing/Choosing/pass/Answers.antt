use Rattle.std.proofs.Common.{ℕ, ◌<◌, ◌≤◌, arith, subst, ⊎_elim}
use Rattle.std.proofs.lemmas.Bool.{cases_lt}
use Rattle.firm_graph.specs.declared.network.Key.TheVariants.{Through}
use Rattle.firm_canon.specs.inner.Choosing.{IsSpent, best}
use Rattle.firm_canon.specs.inner.State.{prefix, view}
use Rattle.firm_canon.specs.declared.choosing.Choosing.{Choosing}
use Rattle.firm_canon.proofs.Counts.{nothing_made}
use Rattle.firm_canon.proofs.States.{goes_counted}
use Rattle.firm_canon.proofs.choosing.Choosing.pass.Goals as goal

pub returns-then-machine-self-clause-goes_on : goal.returns-then-machine-self-clause-goes_on
returns-then-machine-self-clause-goes_on c =
    let s : Choosing = c.args.self.now in
    goes_counted s s.scratch.now s.searched _ 0 0 c.requires.ready
    (λ j l. ⊎_elim (λ (before : j < s.spent). c.requires.ready.spent j before)
    (λ (here : s.spent ≤ j).
    subst (λ (k : ℕ). IsSpent (view s).case (prefix s) (best (view s) (prefix s)) (Through k))
    (omega (arith, l, here, c.if-machine-self.true)) c.requires.spent) (cases_lt j s.spent))
    (omega arith) (nothing_made s.scratch.now _)
