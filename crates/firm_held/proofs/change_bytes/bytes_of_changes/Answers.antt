use Rattle.std.proofs.Common.{◌≡◌, ◌<◌, ◌∙◌, ap, arith, get_or, length}
use Rattle.std.proofs.lemmas.List.Sums.{sum_by_more}
use Rattle.firm_held.specs.Held.{bytes_of_change}
use Rattle.firm_held.proofs.change_bytes.bytes_of_changes.Goals as goal

pub loop-change-preserved : goal.loop-change-preserved
loop-change-preserved c =
    let at = c.loop-change.change-index in
    let all = c.args.changes.now in
    let change = c.change-item.result in
    let low : at < length all = c.loop-change-test.true in
    let one : c.bytes_of_change.result ≡ bytes_of_change (get_or all at change) =
    c.bytes_of_change.ensures.value ∙ ap bytes_of_change c.change-item.is in
    omega (arith, one, c.loop-change.invariant, c.min-bytes.ensures, sum_by_more bytes_of_change all at change low)
