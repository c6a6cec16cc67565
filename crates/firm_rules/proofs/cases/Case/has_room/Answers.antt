use Rattle.std.proofs.Common.{◌<◌, ◌&&◌, Bool, ℕ, sym, ap, ◌∙◌, arith}
use Rattle.std.specs.Prelude.{nat_le, slice_index}
use borrow.Author.Count.{falls}
use Rattle.firm_rules.specs.Placement.{load}
use Rattle.firm_rules.proofs.CaseLists.{room_more}
use Rattle.firm_rules.proofs.cases.Case.has_room.Goals.{then-has_room, else-has_room}
use Rattle.firm_rules.proofs.cases.Case.has_room.Goals as goal

pub loop-place-preserved : goal.loop-place-preserved
loop-place-preserved g c =
    let place = c.loop-place.place in
    let fits : ℕ → Bool = λ j. nat_le (load c.args.placement.now j) (slice_index c.args.self.now.slots j) in
    let inside : place < 4096 =
    omega (arith, c.loop-place-test.true, c.machine_count-place-end.ensures.few) in
    elim c.if-has_room.branch [
      | then-has_room w ↦ w.has_room-is
          ∙ ap (λ n. nat_le n w.slots.result) (w.from.ensures ∙ c.loads_of-loads.ensures place inside)
          ∙ ap (λ n. nat_le (load c.args.placement.now place) n) w.slots.ensures.slots
          ∙ ap (λ b. b && fits place) (sym (sym c.loop-place.invariant ∙ w.if-has_room.true))
          ∙ room_more fits place
      | else-has_room w ↦ w.has_room-is ∙ w.if-has_room.false
          ∙ ap (λ b. b && fits place) (sym (sym c.loop-place.invariant ∙ w.if-has_room.false))
          ∙ room_more fits place
    ]

pub loop-place-smaller : goal.loop-place-smaller
loop-place-smaller g c = falls c.machine_count-place-end.result c.loop-place.place c.loop-place-test.true
