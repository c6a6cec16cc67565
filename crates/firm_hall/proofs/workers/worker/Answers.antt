use Rattle.std.proofs.Common.{◌≡◌, ◌++◌, ◌∷◌, [], List, ap, refl, ◌∙◌, append_assoc}
use Rattle.firm_rules.specs.declared.tickets.Ticket.{Ticket}
use Rattle.firm_rounds.specs.Passes.{GoesOn, PopIs}
use Rattle.firm_hall.proofs.workers.worker.Goals as goal
use Rattle.firm_hall.proofs.workers.worker.Goals.{then-is_shut, else-is_shut}

still : (old mid new : PopIs) → new ≡ mid → GoesOn old mid → GoesOn old new
still old mid new is same =
    (ap (λ (p : PopIs). p.queue) is ∙ same.0, ap (λ (p : PopIs). p.got) is ∙ same.1)

pub loop-preserved-in-Some-pop : goal.loop-preserved-in-Some-pop
loop-preserved-in-Some-pop g c =
    let one = c.in-Some-pop.job.ticket ∷ [] in
    let before = c.loop.invariant.got in
    let same : GoesOn c.loop.taken c.if-is_shut.taken =
    elim c.if-is_shut.branch [
      | then-is_shut w ↦
          still c.loop.taken w.is_shut-is_shut.new.pass c.if-is_shut.taken w.taken-is w.is_shut-is_shut.ensures.same
      | else-is_shut w ↦ still c.loop.taken c.loop.taken c.if-is_shut.taken w.taken-is (refl, refl)
    ] in
    record {
      queue = ap (λ (p : PopIs). p.queue) c.in-Some-pop.ensures ∙ (same.0 ∙ c.loop.invariant.queue);
      got = (
        before.0 ++ one,
        ap (λ (p : PopIs). p.got) c.in-Some-pop.ensures
            ∙ (ap (λ (ts : List Ticket). ts ++ one) (same.1 ∙ before.1)
            ∙ append_assoc c.args.pass.got before.0 one),
      );
    }
