use Rattle.std.proofs.Common.{sym, subst, ◌∙◌}
use Rattle.firm_net.specs.Net.{Net, IsNode}
use Rattle.firm_canon.proofs.Heads.{has_row}
use Rattle.firm_canon.proofs.turns.is_tight_arc.Goals as goal

pub unreachable-requires : goal.unreachable-requires
unreachable-requires c =
    has_row c.args.graph.now.net c.net.result.now c.args.arc c.arc.result c.net.ensures.value c.arc.ensures.row
    c.requires.there
    c.in_default.is

pub is_tight-requires-clause-tail : goal.is_tight-requires-clause-tail
is_tight-requires-clause-tail c =
    subst (λ (n : Net). IsNode n c.in-Some.row.tail) (c.net.ensures.value ∙ sym c.net-2.ensures.value)
    c.in-Some.ensures.in_range.1

pub is_tight-requires-clause-head : goal.is_tight-requires-clause-head
is_tight-requires-clause-head c =
    subst (λ (n : Net). IsNode n c.in-Some.row.head) (c.net.ensures.value ∙ sym c.net-2.ensures.value)
    c.in-Some.ensures.in_range.2
