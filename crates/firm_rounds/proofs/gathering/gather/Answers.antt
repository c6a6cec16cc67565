use Rattle.crossbeam_queue.specs.Passes.{view}
use Rattle.firm_rounds.proofs.Gathered.{gathered}
use Rattle.firm_rounds.proofs.gathering.gather.Goals as goal

pub returns-clause-shares : goal.returns-clause-shares
returns-clause-shares c =
    let cut = c.split_at_mut-head.ensures in let seat = c.give-keep.ensures.seat in
    gathered (view c.give-keep.result) (view c.give_puts.new.keep) (view c.give_pops.new.keep) _ _ _ _ c.args.pops.now
    c.args.puts.now _ cut.value cut.front_len seat.1.1 c.give_puts.ensures.shares c.give_pops.ensures.shares
