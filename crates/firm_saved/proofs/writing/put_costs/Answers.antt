use Rattle.std.proofs.Common.{map, ◌++◌}
use Rattle.std.specs.Prelude.{codes}
use Rattle.std.specs.Fmt.{signed_decimal}
use Rattle.std.specs.List.{flat_map}
use Rattle.firm_text.specs.Replies.{spaced}
use Rattle.firm_saved.proofs.Puts.{bytes_kept, kept_after, last_added}
use Rattle.firm_saved.proofs.writing.put_costs.Goals as goal

pub returns-clause-kept : goal.returns-clause-kept
returns-clause-kept c = kept_after _ _ _ _ c.in_ok-extend_from_slice.ensures.items c.put_each_cost.ensures.kept

pub returns-in_err-extend_from_slice-clause-kept : goal.returns-in_err-extend_from_slice-clause-kept
returns-in_err-extend_from_slice-clause-kept c =
    bytes_kept c.extend_from_slice.result _ _ _ c.extend_from_slice.ensures.items

pub returns-clause-added : goal.returns-clause-added
returns-clause-added c =
    last_added c.put_each_cost.result c.put_each_cost.new.output.items c.extend_from_slice.new.self.items
    (c.args.output.now.items ++ codes "costs") (flat_map spaced (map signed_decimal c.args.costs.now))
    c.in_ok-extend_from_slice.ensures.items c.put_each_cost.ensures.added
