use Rattle.std.proofs.Common.{◌≡◌, length}
use Rattle.firm_rules.proofs.CountedLoads.{Counted}
use Rattle.firm_rules.proofs.cases.Case.counts_loads.Given as goal

abbrev pub invariant-loop-choice : goal.invariant-loop-choice
invariant-loop-choice g l = record {
  long : length l.loads ≡ 4096;
  counted : Counted l.self.slots l.placement l.choice-index l.loads;
}
