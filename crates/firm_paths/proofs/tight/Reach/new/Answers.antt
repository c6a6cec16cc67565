use Rattle.std.proofs.Common.{◌≡◌, false, rules}
use Rattle.std.specs.Prelude.{replicate}
use Rattle.firm_paths.proofs.Beginnings.{agree_start}
use Rattle.firm_paths.proofs.tight.Reach.new.Goals as goal

pub returns-clause-agree : goal.returns-clause-agree
returns-clause-agree c =
    let seen : c.in_ok-seen.seen.items ≡ replicate c.args.nodes false = search rules in
    rw (seen, c.in_ok-visits.ensures.items) (agree_start c.args.nodes)
