use Rattle.std.proofs.Common.{◌<◌, length}
use Rattle.firm_held.proofs.HeldAnswers.{looked_at}
use Rattle.firm_held.proofs.held.Held.waiting_at.Goals as goal

pub returns : goal.returns
returns c =
    let s = c.self.inside in
    let low : c.args.at < length s.answers.items = rw (← c.self.view_is) at c.requires in
    rw (← c.self.view_is)
    (looked_at c.args.place c.args.at s.answers.items c.index.result.now _ c.command_of.result c.index.ensures low
    c.command_of.ensures)
