use Rattle.std.proofs.Common.{Option, subst, sym}
use Rattle.firm_net.specs.Row.{Row}
use Rattle.firm_net.specs.Net.{row_at, HasOtherTail}
use Rattle.firm_graph.proofs.edits.lead.Goals as goal

pub returns-clause-edit : goal.returns-clause-edit
returns-clause-edit c row there node other =
    let P : Option Row → Type 0 = λ (o : Option Row). HasOtherTail o c.args.head in
    let apart : HasOtherTail (row_at c.args.net.now c.args.arc) c.args.head = subst P (sym there) other in
    c.retarget.ensures.edit row there (c.retarget.ensures.allowed.1 (node, apart))
