use Rattle.std.proofs.Common.{rules}
use Rattle.firm_tray.proofs.Moves.{fills_as}
use Rattle.firm_tray.proofs.sides.AnswerSide.answer.Goals as goal

pub store-requires : goal.store-requires
store-requires c = (
  search rules,
  search rules,
  fills_as c.args.self.book _ _ c.args.solved _ _ (search rules) (search rules) c.requires,
)
