use Rattle.std.proofs.Common.{◌≡◌, ◌++◌, List}
use Rattle.firm_rules.specs.declared.tickets.Ticket.{Ticket}
use Rattle.firm_hall.proofs.workers.worker.Given as goal

abbrev pub invariant-loop : goal.invariant-loop
invariant-loop g l = record {
  queue : l.taken.queue ≡ l.hall.id;
  got : (more : List Ticket) × (l.taken.got ≡ l.fn.pass.got ++ more);
}
