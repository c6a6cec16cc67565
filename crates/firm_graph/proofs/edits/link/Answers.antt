use Rattle.std.proofs.Common.{◌≡◌, subst, [], ◌∷◌}
use Rattle.firm_net.specs.Row.{Row}
use Rattle.firm_net.specs.Edits.{IsEdit, span_of}
use Rattle.firm_graph.proofs.edits.link.Goals as goal

pub returns-clause-edit : goal.returns-clause-edit
returns-clause-edit c =
    let given : Row = record {
      tail = c.args.tail;
      head = c.args.head;
      low = 0;
      cap = c.args.cap;
      cost = c.args.cost;
      flow = 0;
    } in
    let is : c.in-Some.row ≡ given = c.in-Some.ensures.row in
    subst (λ (r : Row). IsEdit c.args.net.now c.add_arc.new.self [] [] [] (span_of c.in-Ok.arc r ∷ [])) is
    c.in-Ok.ensures.edit
