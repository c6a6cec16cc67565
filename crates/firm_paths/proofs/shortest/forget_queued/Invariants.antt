use Rattle.std.proofs.Common.{◌≡◌, ℕ, length, ltb}
use Rattle.std.specs.List.{count_by}
use Rattle.firm_paths.specs.inner.Queue.{AreOpen}
use Rattle.firm_paths.proofs.shortest.forget_queued.Given as goal

abbrev pub invariant-loop-place : goal.invariant-loop-place
invariant-loop-place l = record {
  size : length l.states ≡ length l.fn.states;
  queue_size : length l.queue ≡ length l.states;
  left : AreOpen l.states l.queue;
}

abbrev pub decreases-loop-place : goal.decreases-loop-place
decreases-loop-place l = count_by (λ (key : ℕ). ltb key 18446744073709551615) l.queue
