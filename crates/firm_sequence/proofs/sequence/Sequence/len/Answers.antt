use Rattle.std.proofs.Common.{length, ap, arith}
use Rattle.firm_sequence.specs.Items.{Items}
use Rattle.firm_sequence.proofs.KeptItems.{counts}
use Rattle.firm_sequence.proofs.sequence.Sequence.len.Goals as goal

pub overflow_sub-result : goal.overflow_sub-result
overflow_sub-result g c =
    omega (
      arith,
      c.len.ensures,
      c.len-2.ensures,
      c.self.inside.slots.ok.0,
      c.self.inside.gaps.ok.0,
      (counts c.self.inside.slots.items c.self.inside.gaps.items 0 c.self.invariant).1,
    )

pub returns : goal.returns
returns g c =
    omega (
      arith,
      c.len.ensures,
      c.len-2.ensures,
      c.self.inside.slots.ok.0,
      c.self.inside.gaps.ok.0,
      (counts c.self.inside.slots.items c.self.inside.gaps.items 0 c.self.invariant).1,
      ap (λ (v : Items g.row.T.Denot). length v.items) c.self.view_is,
    )
