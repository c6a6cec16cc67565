use Rattle.std.proofs.Common.{◌++◌}
use Rattle.firm_saved.proofs.Puts.{bytes_added, bytes_kept, kept_after, last_added}
use Rattle.firm_saved.proofs.writing.put_after.Goals as goal

pub returns-in_err-extend_from_slice-clause-kept : goal.returns-in_err-extend_from_slice-clause-kept
returns-in_err-extend_from_slice-clause-kept c =
    bytes_kept c.extend_from_slice.result _ _ _ c.extend_from_slice.ensures.items

pub returns-clause-kept : goal.returns-clause-kept
returns-clause-kept c =
    kept_after _ _ _ _ c.in_ok-extend_from_slice.ensures.items
    (bytes_kept c.extend_from_slice-2.result _ _ _ c.extend_from_slice-2.ensures.items)

pub returns-clause-added : goal.returns-clause-added
returns-clause-added c =
    let first = c.extend_from_slice.new.self.items in
    let new = c.extend_from_slice-2.new.self.items in
    last_added c.extend_from_slice-2.result new first (c.args.output.now.items ++ c.args.label.now) c.args.word.now
    c.in_ok-extend_from_slice.ensures.items
    (bytes_added c.extend_from_slice-2.result new first c.args.word.now c.extend_from_slice-2.ensures.items)
