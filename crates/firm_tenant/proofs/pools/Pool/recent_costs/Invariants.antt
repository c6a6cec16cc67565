use Rattle.std.proofs.Common.{◌≡◌, ◌++◌}
use Rattle.firm_tenant.proofs.pools.Pool.recent_costs.Given as goal

abbrev pub invariant-loop-cost : goal.invariant-loop-cost
invariant-loop-cost l = l.recent ++ l.cost-iterator ≡ l.self.costs
