use Rattle.std.proofs.Common.{ap, length, arith, List}
use Rattle.std.proofs.lemmas.List.{length-map}
use Rattle.firm_saved.specs.declared.saved.SavedPlace.{SavedPlace}
use Rattle.firm_table.specs.Places.{restored_place}
use Rattle.firm_table.proofs.Saving.{saved_wide}
use Rattle.firm_table.proofs.openings.Opening.places.Goals as goal

pub returns-in-State : goal.returns-in-State
returns-in-State c =
    let saved = c.in-State.saved.now.places in
    let all = length-map saved restored_place in
    let wide = saved_wide saved c.places.ensures.sound.places.register in
    let same = ap (λ (places : List SavedPlace). length places) c.places.ensures.places in
    rw c.in-State.is
    (record { all = omega (arith, all, same); most = omega (arith, wide, same) })
