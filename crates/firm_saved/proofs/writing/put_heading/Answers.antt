use Rattle.std.proofs.Common.{◌++◌, ◌∷◌, ◌∙◌, [], ℕ, List, ap}
use Rattle.firm_saved.specs.StateText.{first_line}
use Rattle.firm_saved.proofs.Puts.{bytes_kept, kept_after, last_added}
use Rattle.firm_saved.proofs.writing.put_heading.Goals as goal

pub returns-in_err-extend_from_slice-clause-kept : goal.returns-in_err-extend_from_slice-clause-kept
returns-in_err-extend_from_slice-clause-kept c =
    bytes_kept c.extend_from_slice.result _ _ _ c.extend_from_slice.ensures.items

pub returns-clause-kept : goal.returns-clause-kept
returns-clause-kept c =
    kept_after _ _ _ _ c.in_ok-extend_from_slice.ensures.items c.end_line.ensures.kept

pub returns-clause-added : goal.returns-clause-added
returns-clause-added c =
    last_added c.end_line.result c.end_line.new.output.items c.extend_from_slice.new.self.items
    (c.args.output.now.items ++ first_line c.args.heading) (10 ∷ [])
    (c.in_ok-extend_from_slice.ensures.items
    ∙ ap (λ (l : List ℕ). c.args.output.now.items ++ l) c.first_line.ensures) c.end_line.ensures.added
