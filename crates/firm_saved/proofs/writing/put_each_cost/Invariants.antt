use Rattle.std.proofs.Common.{◌≡◌, ◌++◌, drop, map}
use Rattle.std.specs.Fmt.{signed_decimal}
use Rattle.std.specs.Io.{StartsWith}
use Rattle.std.specs.List.{flat_map}
use Rattle.firm_text.specs.Replies.{spaced}
use Rattle.firm_saved.proofs.writing.put_each_cost.Given as goal

-- what was added and what the costs still to come add are the text of all costs
abbrev pub invariant-loop-cost : goal.invariant-loop-cost
invariant-loop-cost l = record {
  kept : StartsWith l.output.items l.initial.output.items;
  added : l.output.items ++ flat_map spaced (map signed_decimal (drop l.cost-index l.costs))
      ≡ l.initial.output.items ++ flat_map spaced (map signed_decimal l.costs);
}
