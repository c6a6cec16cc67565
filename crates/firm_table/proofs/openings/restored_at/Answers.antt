use Rattle.std.proofs.Common.{◌≡◌, ap, get_or, length, rules, arith, List}
use Rattle.firm_saved.specs.declared.saved.SavedPlace.{SavedPlace}
use Rattle.firm_saved.specs.Saved.{untouched}
use Rattle.firm_table.proofs.Saving.{saved_wide, saved_found}
use Rattle.firm_table.proofs.openings.restored_at.Goals as goal

pub bounds-places-place : goal.bounds-places-place
bounds-places-place c =
    let wide = saved_wide c.args.saved.now.places c.places.ensures.sound.places.register in
    let same = ap (λ (places : List SavedPlace). length places) c.places.ensures.places in
    omega (arith, wide, same, c.requires)

pub returns-in_ok-restore-in-Some : goal.returns-in_ok-restore-in-Some
returns-in_ok-restore-in-Some c =
    let here : c.index-places-place.result ≡ get_or c.args.saved.now.places c.args.place untouched =
    saved_found c.args.saved.now.places _ c.args.place _ c.places.ensures.places
    c.places.ensures.sound.places.register c.requires
    c.index-places-place.is in
    rw (← here) (search rules)

pub returns-in-None : goal.returns-in-None
returns-in-None c =
    let here : c.index-places-place.result ≡ get_or c.args.saved.now.places c.args.place untouched =
    saved_found c.args.saved.now.places _ c.args.place _ c.places.ensures.places
    c.places.ensures.sound.places.register c.requires
    c.index-places-place.is in
    rw (← here) (search rules)
