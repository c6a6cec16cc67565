use Rattle.std.proofs.Common.{◌≡◌, ◌*◌, ◌≤◌}
use Rattle.firm_rules.specs.Placement.{total, load, load_cost}
use Rattle.firm_rules.proofs.cases.Case.cost_of_loads.Given as goal

abbrev pub invariant-loop-place : goal.invariant-loop-place
invariant-loop-place g l =
    (l.cost ≡ total (λ j. load_cost l.self.spread (load l.placement j)) l.place) × (l.cost ≤ l.place * 8589934592)
