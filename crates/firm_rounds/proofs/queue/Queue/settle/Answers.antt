use Rattle.crossbeam_queue.specs.Passes.{view}
use Rattle.firm_rounds.proofs.Gathered.{as_often}
use Rattle.firm_rounds.proofs.queue.Queue.settle.Goals as goal

pub returns-clause-often : goal.returns-clause-often
returns-clause-often g c =
    as_often (view c.gather-keep.result) _ _ _ c.gather-keep.ensures.shares c.drain.ensures.balanced
    c.drain.ensures.placed
