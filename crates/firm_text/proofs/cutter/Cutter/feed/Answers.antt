use Rattle.std.proofs.Common.{rules, take}
use Rattle.std.specs.List.{position_or_len}
use Rattle.firm_text.specs.Lines.{is_line_feed}
use Rattle.firm_text.proofs.Cutting.{stands_more, none_before}
use Rattle.firm_text.proofs.cutter.Cutter.feed.Goals as goal

pub returns-clause-stands : goal.returns-clause-stands
returns-clause-stands c text stands =
    stands_more _ _ text (take (position_or_len is_line_feed c.args.piece.now) c.args.piece.now) stands
    (none_before is_line_feed c.args.piece.now) (search rules) (search rules)
