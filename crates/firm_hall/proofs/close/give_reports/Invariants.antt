use Rattle.std.proofs.Common.{◌≡◌, take}
use Rattle.firm_rounds.specs.Passes.{spent_pop}
use Rattle.firm_rounds.specs.Turning.{turned}
use Rattle.firm_hall.specs.inner.Gathered.{Gave}
use Rattle.firm_hall.proofs.close.give_reports.Given as goal

abbrev pub invariant-loop-i : goal.invariant-loop-i
invariant-loop-i l = record {
  id : l.closing.id ≡ l.initial.closing.id;
  shares : Gave l.initial.closing.shares l.closing.shares (take l.i l.initial.reports);
  reports : l.reports ≡ turned spent_pop l.i l.initial.reports;
}
