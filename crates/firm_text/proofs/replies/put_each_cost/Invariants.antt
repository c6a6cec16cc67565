use Rattle.std.proofs.Common.{◌≡◌, ◌++◌, drop, map}
use Rattle.std.specs.Fmt.{signed_decimal}
use Rattle.std.specs.Io.{StartsWith}
use Rattle.std.specs.List.{flat_map}
use Rattle.firm_text.specs.Replies.{spaced}
use Rattle.firm_text.proofs.replies.put_each_cost.Given as goal

-- what was added and what the costs still to come add are the text of all costs
abbrev pub invariant-loop-cost : goal.invariant-loop-cost
invariant-loop-cost l = record {
  kept : StartsWith l.text.items l.initial.text.items;
  added : l.text.items ++ flat_map spaced (map signed_decimal (drop l.cost-index l.costs)) ≡ l.initial.text.items
      ++ flat_map spaced (map signed_decimal l.costs);
}
