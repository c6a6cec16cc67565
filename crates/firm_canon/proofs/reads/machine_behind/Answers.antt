use Rattle.std.proofs.Common.{◌≡◌, ap, sym, ◌∙◌, Option, Some, subst, arith}
use Rattle.std.proofs.lemmas.Option.{same_Some}
use Rattle.std.proofs.lemmas.List.{length-map}
use Rattle.firm_net.specs.Row.{Row}
use Rattle.firm_net.specs.Net.{Net, row_at, IsNode}
use Rattle.firm_net.specs.declared.row.ArcId.{ArcId}
use Rattle.firm_graph.specs.Ids.{view_of}
use Rattle.firm_canon.proofs.Heads.{hub_apart, has_row}
use Rattle.firm_canon.proofs.reads.machine_behind.Goals as goal

-- the row at hand is the one that was read, and its head is a node
read : (net shown : Net) (arc : ArcId) (found : Option Row) (row got : Row) → shown ≡ net → found ≡ row_at shown arc
    → found ≡ Some got → row_at net arc ≡ Some row → row ≡ got
read net shown arc found row got same is some at =
    same_Some row got (sym at ∙ ap (λ (n : Net). row_at n arc) (sym same) ∙ sym is ∙ some)

is_node : (net shown : Net) (row got : Row) → shown ≡ net → row ≡ got → IsNode shown got.head → IsNode net row.head
is_node net shown row got same is there =
    subst (λ (n : Net). IsNode n row.head) same (subst (λ (r : Row). IsNode shown r.head) (sym is) there)

pub returns-then-is_hub-clause-none : goal.returns-then-is_hub-clause-none
returns-then-is_hub-clause-none c row at =
    let same : row ≡ c.in-Some.row =
    read c.args.graph.now.net c.net.result.now c.args.arc c.arc.result row c.in-Some.row c.net.ensures.value
    c.arc.ensures.row c.in-Some.is at in
    hub_apart (view_of c.args.graph.now) c.net.ensures.shows row.head
    (ap (λ (r : Row). r.head) same ∙ sym c.head.ensures.value ∙ c.is_hub.ensures c.if-is_hub.true)

pub returns-then-is_hub-clause-node : goal.returns-then-is_hub-clause-node
returns-then-is_hub-clause-node c row at =
    is_node c.args.graph.now.net c.net.result.now row c.in-Some.row c.net.ensures.value
    (read c.args.graph.now.net c.net.result.now c.args.arc c.arc.result row c.in-Some.row c.net.ensures.value
    c.arc.ensures.row c.in-Some.is at) c.in-Some.ensures.in_range.2

pub returns-in_default-machine_of-clause-node : goal.returns-in_default-machine_of-clause-node
returns-in_default-machine_of-clause-node c row at =
    is_node c.args.graph.now.net c.net.result.now row c.in-Some.row c.net.ensures.value
    (read c.args.graph.now.net c.net.result.now c.args.arc c.arc.result row c.in-Some.row c.net.ensures.value
    c.arc.ensures.row c.in-Some.is at) c.in-Some.ensures.in_range.2

pub returns-clause-node : goal.returns-clause-node
returns-clause-node c row at =
    is_node c.args.graph.now.net c.net.result.now row c.in-Some.row c.net.ensures.value
    (read c.args.graph.now.net c.net.result.now c.args.arc c.arc.result row c.in-Some.row c.net.ensures.value
    c.arc.ensures.row c.in-Some.is at) c.in-Some.ensures.in_range.2

pub returns-in_default-machine_of-clause-none : goal.returns-in_default-machine_of-clause-none
returns-in_default-machine_of-clause-none c row at j l e =
    let same : row ≡ c.in-Some.row =
    read c.args.graph.now.net c.net.result.now c.args.arc c.arc.result row c.in-Some.row c.net.ensures.value
    c.arc.ensures.row c.in-Some.is at in
    c.in_default-machine_of.ensures.none j
    (omega (arith, l, length-map c.args.graph.now.rows.machines (λ m. m.slots)))
    (e ∙ ap (λ (r : Row). r.head) same ∙ sym c.head-2.ensures.value)

pub returns-clause-some : goal.returns-clause-some
returns-clause-some c row at =
    let same : row ≡ c.in-Some.row =
    read c.args.graph.now.net c.net.result.now c.args.arc c.arc.result row c.in-Some.row c.net.ensures.value
    c.arc.ensures.row c.in-Some.is at in (
      omega (arith, c.in-Some-machine_of.ensures.some.0, length-map c.args.graph.now.rows.machines (λ m. m.slots)),
      c.in-Some-machine_of.ensures.some.1 ∙ c.head-2.ensures.value ∙ sym (ap (λ (r : Row). r.head) same),
    )

pub unreachable-requires : goal.unreachable-requires
unreachable-requires c =
    has_row c.args.graph.now.net c.net.result.now c.args.arc c.arc.result c.net.ensures.value c.arc.ensures.row
    c.requires
    c.in_default.is
