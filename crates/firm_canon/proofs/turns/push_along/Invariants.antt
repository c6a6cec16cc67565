use Rattle.std.proofs.Common.{take, drop}
use Rattle.firm_graph.specs.View.{Shows}
use Rattle.firm_graph.specs.Graph.{Graph}
use Rattle.firm_canon.specs.inner.Graphs.{IsSameGraph}
use Rattle.firm_canon.specs.inner.Turns.{SameLows, SameOff}
use Rattle.firm_canon.proofs.Cycles.{IsGoing}
use Rattle.firm_graph.specs.Ids.{view_of}
use Rattle.firm_canon.proofs.turns.push_along.Given as goal

abbrev pub invariant-loop-step : goal.invariant-loop-step
invariant-loop-step l =
    let old : Graph = l.initial.graph in
    let now : Graph = l.graph in
    record {
      shows : Shows (view_of now);
      same : IsSameGraph old now;
      lows : SameLows old.net now.net;
      others : SameOff old.net now.net (take l.step-index l.steps);
      going : IsGoing old.net now.net l.steps (drop l.step-index l.steps);
    }
