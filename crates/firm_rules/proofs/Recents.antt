-- A table of 8 costs, and one more cost.
use Rattle.std.proofs.Common.{ℕ, ◌+◌, ◌<◌, List, ap, sym, ◌∙◌}
use Rattle.std.specs.Prelude.{ℤ, pos, length, slice_set}
use Rattle.firm_rules.specs.inner.Padding.{padded_costs, AreRecentCosts}
use Rattle.firm_rules.proofs.Padded.{written, long, taken}

pub pushed : (table : List ℤ) (count : ℕ) (cost : ℤ) → AreRecentCosts table count → count < 8
    → AreRecentCosts (slice_set table count cost) (count + 1)
pushed table count cost kept few =
    let held = taken 8 (pos 0) table count cost kept.zeros kept.counted few in
    record {
      zeros = written 8 (pos 0) table count cost kept.zeros kept.counted few ∙ ap padded_costs (sym held);
      counted = ap length held ∙ long 8 (pos 0) table count cost kept.zeros kept.counted few;
    }
