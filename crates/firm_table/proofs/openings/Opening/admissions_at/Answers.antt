use Rattle.std.proofs.Common.{◌≡◌, ◌<◌, ◌≤◌, ◌∙◌, sym, ap, subst, get_or, length, arith, List}
use Rattle.firm_text.specs.Registers.{most_admissions}
use Rattle.firm_saved.specs.declared.saved.SavedPlace.{SavedPlace}
use Rattle.firm_saved.specs.Saved.{untouched}
use Rattle.firm_table.proofs.Saving.{saved_at, saved_some, saved_wide, saved_counted, saved_found}
use Rattle.firm_table.proofs.openings.Opening.admissions_at.Goals as goal

pub bounds-places-place : goal.bounds-places-place
bounds-places-place c =
    let wide = saved_wide c.in-State.saved.now.places c.places.ensures.sound.places.register in
    let same = ap (λ (places : List SavedPlace). length places) c.places.ensures.places in
    omega (arith, wide, same, c.requires)

pub returns-in-State : goal.returns-in-State
returns-in-State c =
    let saved = c.in-State.saved.now.places in
    let sound = c.places.ensures.sound.places.register in
    let here : c.index-places-place.result ≡ get_or saved c.args.place untouched =
    saved_found saved _ c.args.place _ c.places.ensures.places sound c.requires c.index-places-place.is in
    let read : get_or c.places.result.now c.args.place c.index-places-place.result
    ≡ get_or saved c.args.place untouched = sym c.index-places-place.is ∙ here in
    let counted = saved_counted saved c.args.place sound c.requires in
    rw (c.in-State.is, saved_at saved c.args.place)
    (record {
      count = ap (λ (p : SavedPlace). p.admissions) read;
      few = subst (λ (p : SavedPlace). p.admissions ≤ most_admissions) (sym read) counted.0;
      some = λ some. subst (λ (p : SavedPlace). 0 < p.admissions) (sym read) (counted.1 (saved_some _ some));
    })
