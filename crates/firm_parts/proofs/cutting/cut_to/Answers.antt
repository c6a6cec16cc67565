use Rattle.std.proofs.Common.{◌≡◌, ◌∙◌, ◌<◌, ap, arith, length, subst, sym, List}
use Rattle.firm_parts.specs.Parts.{cut_to}
use Rattle.firm_text.specs.declared.headings.Heading.{Heading}
use Rattle.firm_saved.specs.Saved.{IsSoundSaved, saved_with}
use Rattle.firm_saved.specs.declared.saved.SavedPlace.{SavedPlace}
use Rattle.firm_parts.proofs.Parts.{cut_all, cut_fits, cut_more, cut_sound}
use Rattle.firm_parts.proofs.cutting.cut_to.Goals as goal

pub loop-at-preserved : goal.loop-at-preserved
loop-at-preserved c =
    let places = c.into_places-places.result.items in
    let within : c.loop-at.at < length places =
    omega (arith, c.loop-at-test.true, c.loop-at.auto.at-end, c.len-at-end.ensures) in
    cut_more c.args.names.now places c.loop-at.places.items c.loop-at.at _ _ within c.loop-at.invariant
    c.index_mut.ensures.value c.keep.ensures

pub of-requires : goal.of-requires
of-requires c =
    let names = c.args.names.now in
    let places = c.into_places-places.result.items in
    let end : c.loop-at.at ≡ length places =
    omega (arith, c.loop-at-test.false, c.loop-at.auto.at-end, c.len-at-end.ensures) in
    let sound = c.into_places-places.ensures.sound in
    let heading = c.args.saved.heading in
    let is : c.loop-at.places.items ≡ cut_to names c.args.saved.places =
    cut_all names places c.loop-at.places.items c.loop-at.at end c.loop-at.invariant
    ∙ ap (cut_to names) c.into_places-places.ensures.places in
    subst (λ (h : Heading). IsSoundSaved (saved_with h c.loop-at.places.items)) (sym c.heading-heading.ensures.heading)
    (subst (λ (l : List SavedPlace). IsSoundSaved (saved_with heading l)) (sym is)
    (record {
      places = cut_sound names c.args.saved.places sound.places;
      fit = cut_fits heading names c.args.saved.places sound.fit;
    }))

pub returns : goal.returns
returns c =
    let names = c.args.names.now in
    let places = c.into_places-places.result.items in
    let end : c.loop-at.at ≡ length places =
    omega (arith, c.loop-at-test.false, c.loop-at.auto.at-end, c.len-at-end.ensures) in
    c.of.ensures
    ∙ ap (λ (h : Heading). saved_with h c.loop-at.places.items) c.heading-heading.ensures.heading
    ∙ ap (saved_with c.args.saved.heading)
    (cut_all names places c.loop-at.places.items c.loop-at.at end c.loop-at.invariant
    ∙ ap (cut_to names) c.into_places-places.ensures.places)
