use Rattle.std.proofs.Common.{◌≡◌, ◌∙◌, ◌<◌, ◌++◌, length, length-append, refl, sym, arith}
use Rattle.std.specs.Prelude.{Some}
use Rattle.std.proofs.lemmas.List.{length-set}
use Rattle.firm_table.specs.Interleaving.{event_place, queue_more}
use Rattle.firm_table.specs.inner.Tables.{table_of}
use Rattle.firm_table.proofs.Moves.{seat_at, acts, acts_nowhere, acts_past, has_room}
use Rattle.firm_table.proofs.table.Table.happen.Goals as goal

pub returns-in_default : goal.returns-in_default
returns-in_default c =
    let none = rw (← c.self.view_is) at (sym c.place_of.ensures ∙ c.in_default.is) in
    rw (← c.self.view_is) (acts_nowhere c.self.inside.workers c.self.inside.seats.items c.self.inside.queue.items
    c.args.event c.self.invariant.0 c.requires none)

pub returns-then-len-place : goal.returns-then-len-place
returns-then-len-place c =
    let seats = c.self.inside.seats.items in
    let queue = c.self.inside.queue.items in
    let at : event_place (table_of c.self.inside.workers seats queue) c.args.event ≡ Some c.in-Some.place =
    rw (← c.self.view_is) at (sym c.place_of.ensures ∙ c.in-Some.is) in
    rw (← c.self.view_is) (acts_past c.self.inside.workers seats queue c.args.event c.in-Some.place c.self.invariant.0
    c.requires at (omega (arith, c.len.ensures, c.self.inside.seats.ok.0)))

pub put_queued-requires : goal.put_queued-requires
put_queued-requires c =
    let seats = c.self.inside.seats.items in
    let queue = c.self.inside.queue.items in
    let at : event_place (table_of c.self.inside.workers seats queue) c.args.event ≡ Some c.in-Some.place =
    rw (← c.self.view_is) at (sym c.place_of.ensures ∙ c.in-Some.is) in
    let within : c.in-Some.place < length seats = omega (arith, c.len.ensures, c.self.inside.seats.ok.0) in
    let here = seat_at seats c.in-Some.place c.index_mut.result.now within c.index_mut.ensures.value in
    let kept =
    acts c.self.inside.workers seats queue (queue ++ queue_more c.happen-answer.result) c.in-Some.place
    c.index_mut.result.now c.happen-answer.new.self c.args.event c.happen-answer.ensures.0
    c.happen-answer.result c.self.invariant.0
    c.happen-answer.ensures.1 c.requires at here c.happen-answer.ensures.2 refl in
    let room = has_room _ kept.sound in
    omega (
      arith,
      room,
      length-append queue (queue_more c.happen-answer.result),
      length-set seats c.in-Some.place c.happen-answer.new.self,
      c.self.inside.queue.ok.0,
      c.self.invariant.1,
    )

pub invariant_of-self : goal.invariant_of-self
invariant_of-self c =
    let seats = c.self.inside.seats.items in
    let queue = c.self.inside.queue.items in
    let at : event_place (table_of c.self.inside.workers seats queue) c.args.event ≡ Some c.in-Some.place =
    rw (← c.self.view_is) at (sym c.place_of.ensures ∙ c.in-Some.is) in
    let within : c.in-Some.place < length seats = omega (arith, c.len.ensures, c.self.inside.seats.ok.0) in
    let here = seat_at seats c.in-Some.place c.index_mut.result.now within c.index_mut.ensures.value in
    let kept =
    acts c.self.inside.workers seats queue c.put_queued.new.queue.items c.in-Some.place c.index_mut.result.now
    c.happen-answer.new.self c.args.event c.happen-answer.ensures.0 c.happen-answer.result c.self.invariant.0
    c.happen-answer.ensures.1 c.requires at here c.happen-answer.ensures.2 c.put_queued.ensures.items in (
      kept.sound,
      omega (
        arith,
        length-set seats c.in-Some.place c.happen-answer.new.self,
        c.put_queued.ensures.capacity,
        c.self.invariant.1,
      ),
    )

pub returns : goal.returns
returns c =
    let seats = c.self.inside.seats.items in
    let queue = c.self.inside.queue.items in
    let at : event_place (table_of c.self.inside.workers seats queue) c.args.event ≡ Some c.in-Some.place =
    rw (← c.self.view_is) at (sym c.place_of.ensures ∙ c.in-Some.is) in
    let within : c.in-Some.place < length seats = omega (arith, c.len.ensures, c.self.inside.seats.ok.0) in
    let here = seat_at seats c.in-Some.place c.index_mut.result.now within c.index_mut.ensures.value in
    let kept =
    acts c.self.inside.workers seats queue c.put_queued.new.queue.items c.in-Some.place c.index_mut.result.now
    c.happen-answer.new.self c.args.event c.happen-answer.ensures.0 c.happen-answer.result c.self.invariant.0
    c.happen-answer.ensures.1 c.requires at here c.happen-answer.ensures.2 c.put_queued.ensures.items in
    rw (← c.self.view_is) kept.done
