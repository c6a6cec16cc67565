use Rattle.std.proofs.Common.{◌≡◌, ◌∙◌, ℕ, ◌+◌, List, [], ◌∷◌, ◌++◌, sym, ap, subst, arith, length, take}
use Rattle.std.specs.Prelude.{All, Option}
use Rattle.std.specs.List.{flat_map}
use Rattle.std.proofs.lemmas.List.Elements.{All-push}
use Rattle.firm_rules.specs.Book.{Book}
use Rattle.firm_saved.specs.declared.saved.SavedPlace.{SavedPlace}
use Rattle.firm_saved.specs.Saved.{IsSoundPlace}
use Rattle.firm_saved.specs.StateText.{place_rows, row_text}
use Rattle.firm_table.specs.Ends.{place_with, tenants_state}
use Rattle.firm_table.proofs.Stating.{kept_trans, more_count, more_rows, state_next}
use Rattle.firm_table.proofs.tenants.Tenants.put_places.Goals as goal

pub overflow_add-count : goal.overflow_add-count
overflow_add-count c =
    omega (arith, c.requires, c.loop-place-test.true, c.loop-place.invariant.few, c.in-Ok.ensures.few)

pub loop-place-preserved : goal.loop-place-preserved
loop-place-preserved c =
    let at : ℕ = c.loop-place.place in
    let known = c.loop-place.invariant in
    let added = c.in-Ok.ensures in
    let books : List (Option Book) = c.self.inside.places.items in
    let saved : List SavedPlace = tenants_state c.args.self.now in
    let place : SavedPlace = place_with c.index-entries-place.result c.index.result.now in
    let next : take (at + 1) saved ≡ take at saved ++ place ∷ [] =
    rw (← c.self.view_is)
    (state_next c.self.inside.register c.entries-entries.result.now books c.self.invariant.books at
    c.index-entries-place.result c.index.result.now c.entries-entries.ensures.entries
    (omega (arith, c.requires, c.loop-place-test.true, c.entries-entries.ensures.sound.all))
    c.index-entries-place.is c.index.ensures) in
    record {
      kept = kept_trans _ _ _ c.put_place.ensures.kept known.kept;
      added = added.added
          ∙ ap (λ (text : List ℕ). text ++ flat_map row_text (place_rows place)) known.added
          ∙ more_rows c.args.output.now.items (take at saved) place
          ∙ ap (λ (places : List SavedPlace). c.args.output.now.items
          ++ flat_map row_text (flat_map place_rows places)) (sym next);
      counted = ap (λ (n : ℕ). n + c.in-Ok.more) known.counted
          ∙ ap (λ (n : ℕ). length (flat_map place_rows (take at saved)) + n) added.count
          ∙ more_count (take at saved) place
          ∙ ap (λ (places : List SavedPlace). length (flat_map place_rows places)) (sym next);
      few = omega (arith, known.few, added.few);
      sound = subst (All IsSoundPlace) (sym next) (All-push IsSoundPlace (take at saved) place known.sound added.sound);
    }

pub returns-clause-added : goal.returns-clause-added
returns-clause-added c =
    let end : c.loop-place.place ≡ c.args.given = omega (arith, c.loop-place.auto.place-end, c.loop-place-test.false) in
    rw end at c.loop-place.invariant.added

pub returns-clause-count : goal.returns-clause-count
returns-clause-count c =
    let end : c.loop-place.place ≡ c.args.given = omega (arith, c.loop-place.auto.place-end, c.loop-place-test.false) in
    rw end at c.loop-place.invariant.counted

pub returns-clause-sound : goal.returns-clause-sound
returns-clause-sound c =
    let end : c.loop-place.place ≡ c.args.given = omega (arith, c.loop-place.auto.place-end, c.loop-place-test.false) in
    subst (λ (n : ℕ). All IsSoundPlace (take n (tenants_state c.args.self.now))) end c.loop-place.invariant.sound

pub returns-in_default-clause-kept : goal.returns-in_default-clause-kept
returns-in_default-clause-kept c = kept_trans _ _ _ c.in_default.ensures.kept c.loop-place.invariant.kept

pub returns-in_default-clause-added : goal.returns-in_default-clause-added
returns-in_default-clause-added c = tt

pub returns-in_default-clause-count : goal.returns-in_default-clause-count
returns-in_default-clause-count c = tt

pub returns-in_default-clause-sound : goal.returns-in_default-clause-sound
returns-in_default-clause-sound c = tt
