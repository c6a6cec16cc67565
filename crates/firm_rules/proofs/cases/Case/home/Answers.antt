use Rattle.std.proofs.Common.{◌<◌, ℕ, IfSome, Option, length, subst}
use Rattle.firm_rules.proofs.cases.Case.home.Goals as goal

pub returns-in-Some-clause-place : goal.returns-in-Some-clause-place
returns-in-Some-clause-place g c =
    subst (λ (home : Option ℕ). IfSome home (λ place. place < length c.args.self.now.slots)) c.in-Some.is
    c.demand.ensures.fits.home
