use Rattle.std.proofs.Common.{◌≡◌, ℕ, ◌+◌, ◌<◌, ◌≤◌, length, vec_len, vec_capacity}
use Rattle.crossbeam_queue.specs.Passes.{view, IsPassOf}
use Rattle.firm_rules.specs.declared.tickets.Ticket.{Ticket}
use Rattle.firm_rounds.specs.Rounds.{weigh, put_by, got_by, is_at}
use Rattle.firm_rounds.specs.Closed.{job_weight}
use Rattle.firm_rounds.proofs.gathering.drain.Given as goal

abbrev pub invariant-loop : goal.invariant-loop
invariant-loop g l = record {
  seat : IsPassOf l.ring l.keep × ((view l.keep).all ≤ length (view l.keep).shares) × (0 < (view l.keep).all);
  room : 8 ≤ vec_capacity l.jobs;
  count : length l.jobs.items ≡ l.counter;
  puts : (h : Ticket → ℕ) → weigh (put_by h) (view l.keep).shares ≡ weigh (put_by h) (view l.fn.keep).shares;
  gots : (h : Ticket → ℕ)
      → weigh (got_by h) (view l.keep).shares ≡ weigh (got_by h) (view l.fn.keep).shares + job_weight h l.jobs.items;
  places : (p : ℕ) → weigh (is_at p) (view l.keep).shares ≡ weigh (is_at p) (view l.fn.keep).shares;
}
