use Rattle.firm_graph.proofs.Turns.{runs-home}
use Rattle.firm_graph.proofs.moves.is_running.Goals as goal

pub returns-in-On : goal.returns-in-On
returns-in-On c =
    runs-home c.args.rows.now c.case.result.now c.args.place c.home.result _ c.case.ensures c.requires
    c.home.ensures.home c.in-On.is

pub returns-in-Wait : goal.returns-in-Wait
returns-in-Wait c =
    runs-home c.args.rows.now c.case.result.now c.args.place c.home.result _ c.case.ensures c.requires
    c.home.ensures.home c.in-Wait.is
