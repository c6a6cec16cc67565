use Rattle.std.proofs.Common.{◌<◌, ◌∙◌, List, sym, ap, subst, arith, length}
use Rattle.std.proofs.lemmas.Grind.{common_steps}
use Rattle.std.proofs.lemmas.List.Elements.{recursion_from_All}
use Rattle.firm_saved.specs.Saved.{AreSoundSaved, filled}
use Rattle.firm_saved.specs.declared.saved.SavedPlace.{SavedPlace}
use Rattle.firm_saved.specs.inner.Kept.{WasGiven}
use Rattle.firm_saved.proofs.Places.{sound_state}
use Rattle.firm_saved.proofs.drafts.Draft.finish.Goals as goal

pub of-requires : goal.of-requires
of-requires c =
    let before : List SavedPlace = c.close.new.self.before.items in
    let found : 0 < length c.replace-places.result.items = grind (arith, common_steps) in
    let some : 0 < length before = subst (λ (places : List SavedPlace). 0 < length places)
    (ap (λ v. v.items) c.replace-places.ensures.value) found in
    subst AreSoundSaved (sym (c.in_ok-fill.ensures ∙ ap (λ v. filled v.items) c.replace-places.ensures.value))
    (sound_state before c.in_ok-close.ensures.sound
    (recursion_from_All WasGiven before c.in_ok-close.ensures.given) some)
