use Rattle.std.proofs.Common.{◌∙◌, ◌<◌, arith, length, sym}
use Rattle.std.proofs.lemmas.List.{length-set}
use Rattle.firm_parts.proofs.Settling.{left_behind, next_other, one_came}
use Rattle.firm_parts.proofs.joining.settle_all.Goals as goal

pub loop-at-preserved : goal.loop-at-preserved
loop-at-preserved c =
    let at = c.loop-at.at in
    let found = c.index_mut.result.now in
    let items = c.loop-at.others.items in
    let others = c.args.others.items in
    let before = c.loop-at.invariant in
    let came = c.in_ok-settle_tenant.ensures in
    let within : at < length items =
    omega (arith, c.loop-at-test.true, c.len-at-end.ensures, before.as_many) in
    let next = next_other others at found items within before.left c.index_mut.ensures.value in
    record {
      register_is = came.register;
      in_order = came.in_order;
      books = came.books;
      as_many = length-set items at _ ∙ before.as_many;
      left = left_behind items others at _ before.left;
      so_far = sym (one_came c.loop-at.places.items _ others _ at found _ next c.take.ensures.value came.joined)
          ∙ before.so_far;
    }
