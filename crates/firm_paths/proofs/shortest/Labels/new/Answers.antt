use Rattle.std.proofs.Common.{◌≡◌, false, None, rules}
use Rattle.std.specs.Prelude.{replicate}
use Rattle.firm_paths.proofs.Beginnings.{idle_start}
use Rattle.firm_paths.proofs.shortest.Labels.new.Goals as goal

pub returns-clause-idle : goal.returns-clause-idle
returns-clause-idle c =
    let states : c.in_ok-states.states.items
    ≡ replicate c.args.nodes (record { node = None; label = 0; settled = false; predecessor = None }) =
    search rules in
    rw (states, c.in_ok-queue.ensures) (idle_start c.args.nodes)
