use Rattle.std.proofs.Common.{to_z, of_z, w64}
use Rattle.firm_rules.proofs.Recents.{pushed}
use Rattle.firm_rules.proofs.recent.RecentCosts.push.Goals as goal

pub invariant_of-self : goal.invariant_of-self
invariant_of-self c =
    pushed c.self.inside.costs c.self.inside.len (to_z w64 (of_z w64 c.args.cost)) c.self.invariant
    c.if-len-lt-MOST_COSTS.true
