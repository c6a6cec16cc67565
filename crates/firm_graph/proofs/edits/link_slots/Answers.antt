use Rattle.std.proofs.Common.{◌≡◌, ◌+◌, ℕ, arith, ap, ap₂, sym, subst, ◌∙◌, List, [], ◌∷◌, ◌++◌, length, length-append}
use Rattle.firm_net.specs.declared.row.ArcId.{ArcId}
use Rattle.firm_net.specs.Edits.{IsEdit, Span}
use Rattle.firm_rules.specs.Placement.{slot_cost}
use Rattle.firm_graph.specs.Graph.{slot_spans}
use Rattle.firm_graph.proofs.Totals.{slots-count}
use Rattle.firm_graph.proofs.NetEdits.{edit-then, slots-push}
use Rattle.firm_graph.proofs.edits.link_slots.Goals as goal

pub link-arc-requires-clause-room : goal.link-arc-requires-clause-room
link-arc-requires-clause-room c =
    omega (arith, slots-count c.args.ladder.node c.args.ladder.sink c.args.ladder.spread 0 c.loop-k.slots.items)

pub link-arc-requires-clause-stamps : goal.link-arc-requires-clause-stamps
link-arc-requires-clause-stamps c =
    omega (arith, slots-count c.args.ladder.node c.args.ladder.sink c.args.ladder.spread 0 c.loop-k.slots.items)

pub loop-k-preserved : goal.loop-k-preserved
loop-k-preserved c =
    let span : ℕ → Span = λ (n : ℕ). record {
      arc = c.link-arc.result;
      tail = c.args.ladder.node;
      head = c.args.ladder.sink;
      cap = 1;
      cost = n;
    } in
    let spans_on : List ArcId → List Span = slot_spans c.args.ladder.node c.args.ladder.sink c.args.ladder.spread 0 in
    let was : List ArcId = c.loop-k.slots.items in
    let spans : spans_on c.push_reserved.new.list.items ≡ spans_on was ++ span c.slot_cost-cost.result ∷ [] =
    ap (λ (l : List ArcId). spans_on l) c.push_reserved.ensures.items
    ∙ slots-push c.args.ladder.node c.args.ladder.sink c.args.ladder.spread 0 was c.link-arc.result
    ∙ ap (λ (n : ℕ). spans_on was ++ span n ∷ [])
    (ap (slot_cost c.args.ladder.spread)
    (let e : 0 + length was ≡ c.loop-k.k = omega (arith, c.loop-k.invariant.so_far) in e)
    ∙ sym (c.slot_cost-cost.ensures.cost ∙ ap₂ slot_cost c.from.ensures c.from-in-loop-k.ensures)) in
    record {
      edit = subst (λ (l : List Span). IsEdit c.args.net.now c.link-arc.new.net [] [] [] l) (sym spans)
          (edit-then c.args.net.now c.loop-k.net c.link-arc.new.net []
          (spans_on was) (span c.slot_cost-cost.result ∷ [])
          c.loop-k.invariant.edit c.link-arc.ensures.edit);
      so_far = omega (
        arith,
        ap length c.push_reserved.ensures.items,
        length-append c.loop-k.slots.items
            (c.link-arc.result ∷ []),
      );
      len = omega (arith, c.push_reserved.ensures.len, c.loop-k.invariant.len);
      reserved = omega (arith, c.push_reserved.ensures.capacity, c.loop-k.invariant.reserved);
      node = c.link-arc.ensures.nodes c.args.ladder.node c.loop-k.invariant.node;
      sink = c.link-arc.ensures.nodes c.args.ladder.sink c.loop-k.invariant.sink;
    }
