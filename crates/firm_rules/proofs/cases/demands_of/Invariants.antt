use Rattle.std.proofs.Common.{◌≡◌, map, take, length}
use Rattle.std.specs.List.{All}
use Rattle.firm_rules.specs.Round.{demand_of}
use Rattle.firm_rules.specs.inner.Demands.{seen, Fits}
use Rattle.firm_rules.proofs.cases.demands_of.Given as goal

abbrev pub invariant-loop-number : goal.invariant-loop-number
invariant-loop-number l = record {
  made : map seen l.demands.items ≡ map (demand_of l.rows) (take l.number l.rows.tasks);
  fit : All (Fits (length l.rows.machines)) (map seen l.demands.items);
}
