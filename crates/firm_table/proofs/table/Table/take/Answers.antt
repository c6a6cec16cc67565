use Rattle.std.proofs.Common.{◌≡◌, ◌∙◌, ◌++◌, ◌∷◌, List, ap, sym, arith}
use Rattle.std.specs.Prelude.{true, false, Option, option_to_list}
use Rattle.std.specs.Option.{is_some}
use Rattle.std.proofs.lemmas.List.{length-set}
use Rattle.firm_rules.specs.declared.tickets.Ticket.{Ticket}
use Rattle.firm_table.specs.Interleaving.{Seat, place_held}
use Rattle.firm_table.proofs.Moves.{seat_at, refused_worker, refused_holder, allowed, takes, takes_not, front_within}
use Rattle.firm_table.proofs.table.Table.take.Goals as goal

pub returns-then-self-worker : goal.returns-then-self-worker
returns-then-self-worker c =
    let seats = c.self.inside.seats.items in
    let queue = c.self.inside.queue.items in
    let refused = refused_worker c.self.inside.workers c.args.worker seats queue c.if-self-worker.true in
    rw (← c.self.view_is) (takes_not c.self.inside.workers c.args.worker seats queue c.self.invariant.0 refused)

pub returns-then-is_some : goal.returns-then-is_some
returns-then-is_some c =
    let seats = c.self.inside.seats.items in
    let queue = c.self.inside.queue.items in
    let holds : is_some (place_held c.args.worker seats) ≡ true =
    ap (λ (all : List Seat). is_some (place_held c.args.worker all)) (sym c.deref.ensures.value)
    ∙ sym (c.is_some.ensures ∙ ap is_some c.place_held.ensures) ∙ c.if-is_some.true in
    rw (← c.self.view_is) (takes_not c.self.inside.workers c.args.worker seats queue c.self.invariant.0
    (refused_holder c.self.inside.workers c.args.worker seats queue holds))

pub index_mut-requires : goal.index_mut-requires
index_mut-requires c =
    let queue_is : c.self.inside.queue.items ≡ c.in-Some.ticket ∷ c.pop_front.new.self.items =
    c.pop_front.ensures.items ∙ ap (λ (front : Option Ticket). option_to_list front ++ c.pop_front.new.self.items)
    c.in-Some.is in
    let within =
    front_within c.self.inside.workers c.self.inside.seats.items c.self.inside.queue.items
    c.pop_front.new.self.items c.in-Some.ticket c.self.invariant.0 queue_is in
    omega (arith, within, c.self.inside.seats.ok.0)

pub invariant_of-self-2 : goal.invariant_of-self-2
invariant_of-self-2 c =
    let seats = c.self.inside.seats.items in
    let none : is_some (place_held c.args.worker seats) ≡ false =
    ap (λ (all : List Seat). is_some (place_held c.args.worker all)) (sym c.deref.ensures.value)
    ∙ sym (c.is_some.ensures ∙ ap is_some c.place_held.ensures) ∙ c.if-is_some.false in
    let may = allowed c.self.inside.workers c.args.worker seats c.self.inside.queue.items c.if-self-worker.false none in
    let queue_is : c.self.inside.queue.items ≡ c.in-Some.ticket ∷ c.pop_front.new.self.items =
    c.pop_front.ensures.items ∙ ap (λ (front : Option Ticket). option_to_list front ++ c.pop_front.new.self.items)
    c.in-Some.is in
    let within =
    front_within c.self.inside.workers seats c.self.inside.queue.items c.pop_front.new.self.items c.in-Some.ticket
    c.self.invariant.0 queue_is in
    let here = seat_at seats c.in-Some.ticket.place c.index_mut.result.now within c.index_mut.ensures.value in
    let kept =
    takes c.self.inside.workers c.args.worker seats c.self.inside.queue.items c.pop_front.new.self.items
    c.in-Some.ticket c.index_mut.result.now c.give.new.self
    c.self.invariant.0 may queue_is here c.give.ensures in (
      kept.sound,
      omega (
        arith,
        length-set seats c.in-Some.ticket.place c.give.new.self,
        c.pop_front.ensures.capacity,
        c.self.invariant.1,
      ),
    )

pub returns : goal.returns
returns c =
    let seats = c.self.inside.seats.items in
    let none : is_some (place_held c.args.worker seats) ≡ false =
    ap (λ (all : List Seat). is_some (place_held c.args.worker all)) (sym c.deref.ensures.value)
    ∙ sym (c.is_some.ensures ∙ ap is_some c.place_held.ensures) ∙ c.if-is_some.false in
    let may = allowed c.self.inside.workers c.args.worker seats c.self.inside.queue.items c.if-self-worker.false none in
    let queue_is : c.self.inside.queue.items ≡ c.in-Some.ticket ∷ c.pop_front.new.self.items =
    c.pop_front.ensures.items ∙ ap (λ (front : Option Ticket). option_to_list front ++ c.pop_front.new.self.items)
    c.in-Some.is in
    let within =
    front_within c.self.inside.workers seats c.self.inside.queue.items c.pop_front.new.self.items c.in-Some.ticket
    c.self.invariant.0 queue_is in
    let here = seat_at seats c.in-Some.ticket.place c.index_mut.result.now within c.index_mut.ensures.value in
    let kept =
    takes c.self.inside.workers c.args.worker seats c.self.inside.queue.items c.pop_front.new.self.items
    c.in-Some.ticket c.index_mut.result.now c.give.new.self
    c.self.invariant.0 may queue_is here c.give.ensures in
    rw (← c.self.view_is) kept.done
