use Rattle.std.proofs.Common.{Option, IsSome, arith, subst, sym, refl}
use Rattle.firm_net.specs.Row.{Row}
use Rattle.firm_net.specs.Net.{AreInRange, IsArc}
use Rattle.firm_graph.proofs.edits.rate.Goals as goal

pub returns-clause-edit : goal.returns-clause-edit
returns-clause-edit c row there =
    let ranges : AreInRange 0 c.args.cap c.args.cost 0 =
    record {
      above_low = omega arith;
      below_cap = omega arith;
      cap_limit = c.requires.cap;
      cost_limit = c.requires.cost;
    } in
    let P : Option Row → Type 0 = λ (o : Option Row). IsSome o in
    let held : IsArc c.args.net.now c.args.arc = subst P (sym there) refl in
    c.set.ensures.edit row there (c.set.ensures.allowed.1 (held, ranges))
