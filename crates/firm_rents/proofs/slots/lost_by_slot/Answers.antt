use Rattle.std.proofs.Common.{◌≡◌, ◌-◌, arith}
use Rattle.std.specs.Prelude.{slice_index}
use Rattle.firm_rents.specs.Rents.{gain}
use Rattle.firm_rents.proofs.OtherSlots.{slots_of_one, gain_less}
use Rattle.firm_rents.proofs.slots.lost_by_slot.Goals as goal

pub returns : goal.returns
returns c = record {
  lost = λ placement show other legal.
      (let case = c.args.case.now in
      let rents = c.args.rents.now in
      let slots = slice_index case.slots c.args.place in
      let one = slots_of_one case rents placement c.other_slots_cost.ensures show c.args.place (slots - 1)
      c.requires.place other legal in
      let now : c.gain_of.result ≡ gain case.spread (slice_index rents c.args.place) slots =
      rw (c.spread.ensures.spread, c.as_slice.ensures.rents, c.slots-slots.ensures.slots) at c.gain_of.ensures.gain in
      let fewer : c.gain_of-2.result ≡ gain case.spread (slice_index rents c.args.place) (slots - 1) =
      rw (c.spread-2.ensures.spread, c.as_slice.ensures.rents, c.saturating_sub.ensures, c.slots-slots.ensures.slots)
      at c.gain_of-2.ensures.gain in
      omega (arith, one, now, fewer, gain_less case.spread (slice_index rents c.args.place) slots));
}
