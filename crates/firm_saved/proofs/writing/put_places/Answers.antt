use Rattle.std.proofs.Common.{◌≡◌, ◌∙◌, ◌+◌, ◌++◌, ◌∷◌, List, ℕ, ap, sym, arith, append_assoc, drop, length, refl}
use Rattle.std.specs.List.{flat_map}
use Rattle.std.proofs.lemmas.List.{drop_all, drop_more, length-append}
use Rattle.std.proofs.lemmas.Result.{err_from_is_err_and}
use Rattle.std.proofs.lemmas.List.Concat.{flat_map-append}
use Rattle.firm_saved.specs.StateText.{place_rows, row_text}
use Rattle.firm_saved.specs.declared.rows.Row.{Row}
use Rattle.firm_saved.specs.declared.saved.SavedPlace.{SavedPlace}
use Rattle.firm_saved.proofs.Puts.{all_added, kept_trans}
use Rattle.firm_saved.proofs.writing.put_places.Goals as goal

pub loop-place-preserved : goal.loop-place-preserved
loop-place-preserved c =
    let i : ℕ = c.loop-place.place-index in
    let places : List SavedPlace = c.args.places.now in
    let here : SavedPlace = c.place-item.result in
    let known = c.loop-place.invariant in
    let text : List ℕ = c.loop-place.output.items in
    let others : List Row = flat_map place_rows (drop (i + 1) places) in
    let next : drop i places ≡ here ∷ drop (i + 1) places =
    drop_more places i here (let test = c.loop-place-test.true in omega arith)
    ∙ ap (λ (p : SavedPlace). p ∷ drop (i + 1) places) (sym c.place-item.is) in
    let rows : flat_map place_rows (drop i places) ≡ place_rows here ++ others = ap (flat_map place_rows) next in
    let long : length (flat_map place_rows (drop i places)) ≡ length (place_rows here) + length others =
    ap (λ (l : List Row). length l) rows ∙ length-append (place_rows here) others in
    let count = c.in_ok-count.ensures.count in
    let few = c.in_ok-count.ensures.few in
    record {
      kept = kept_trans _ _ _ c.put_place.ensures.kept known.kept;
      added = ap (λ (l : List ℕ). l ++ flat_map row_text others) c.in_ok-count.ensures.added
          ∙ append_assoc text (flat_map row_text (place_rows here)) (flat_map row_text others)
          ∙ ap (λ (l : List ℕ). text ++ l)
          (sym (flat_map-append row_text (place_rows here) others) ∙ ap (flat_map row_text) (sym rows))
          ∙ known.added;
      counted = let all = known.counted in omega arith;
      few = let all = known.few in omega arith;
    }

pub returns-in_err-count-clause-kept : goal.returns-in_err-count-clause-kept
returns-in_err-count-clause-kept c = kept_trans _ _ _ c.put_place.ensures.kept c.loop-place.invariant.kept

pub returns-clause-added : goal.returns-clause-added
returns-clause-added c =
    all_added (λ places. flat_map row_text (flat_map place_rows places)) refl c.args.places.now
    c.loop-place.place-index c.loop-place-test.false _ _ c.loop-place.invariant.added

pub overflow_add-count : goal.overflow_add-count
overflow_add-count c =
    omega (arith, c.requires, c.loop-place-test.true, c.loop-place.invariant.few, c.in_ok-count.ensures.few)

pub returns-clause-count : goal.returns-clause-count
returns-clause-count c =
    let none = drop_all c.loop-place.place-index c.args.places.now c.loop-place-test.false in
    let all = rw none at c.loop-place.invariant.counted in
    omega (arith, all)

pub returns-clause-kept : goal.returns-clause-kept
returns-clause-kept c = c.loop-place.invariant.kept

pub returns-in_err-count-clause-added : goal.returns-in_err-count-clause-added
returns-in_err-count-clause-added c = rw (err_from_is_err_and c.from_residual.result c.from_residual.ensures.1).1 tt

pub returns-in_err-count-clause-count : goal.returns-in_err-count-clause-count
returns-in_err-count-clause-count c = rw (err_from_is_err_and c.from_residual.result c.from_residual.ensures.1).1 tt
