use Rattle.std.proofs.Common.{◌++◌, [], List, ap, ◌∙◌}
use Rattle.std.specs.Prelude.{ℤ}
use Rattle.circular_buffer.specs.Buffer.{Buffer, keep_last}
use Rattle.firm_tenant.proofs.Entries.{few-kept}
use Rattle.firm_tenant.proofs.pools.ring_of.Goals as goal

pub returns-clause-items : goal.returns-clause-items
returns-clause-items c =
    ap (λ (b : Buffer ℤ). b.items) c.extend_from_slice.ensures
    ∙ ap (λ (b : Buffer ℤ). keep_last b.capacity (b.items ++ c.as_slice.result.now)) c.in_ok-ring.ensures
    ∙ ap (λ (l : List ℤ). keep_last 8 ([] ++ l)) c.as_slice.ensures.costs
    ∙ few-kept c.args.costs c.as_slice.ensures.few
