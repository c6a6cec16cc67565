use Rattle.std.proofs.Common.{◌≡◌, ◌-◌, ◌∙◌, ◌++◌, ◌∷◌, [], List, sym, ap, arith, length, take}
use Rattle.std.proofs.lemmas.List.{length-take}
use Rattle.firm_saved.specs.StateText.{given_places}
use Rattle.firm_saved.specs.declared.saved.SavedPlace.{SavedPlace}
use Rattle.firm_saved.proofs.Places.{given_less, given_whole, split_last}
use Rattle.firm_saved.proofs.writing.given_places.Goals as goal

pub offset_bounds-rest-rest : goal.offset_bounds-rest-rest
offset_bounds-rest-rest c = let few = c.loop-rest.invariant.few in omega arith

pub returns-then-last-gt0 : goal.returns-then-last-gt0
returns-then-last-gt0 c =
    let rest : List SavedPlace = c.loop-rest.rest.now in
    let front : List SavedPlace = take (length rest - 1) rest in
    let last : SavedPlace = c.last-item.result in
    let split : rest ≡ front ++ last ∷ [] =
    split_last rest last c.in-len1-up.len_at_least ∙ ap (λ (p : SavedPlace). front ++ p ∷ []) (sym c.last-item.is) in
    split ∙ sym (given_whole front last (let some = c.if-last-gt0.true in omega arith))
    ∙ ap given_places (sym split) ∙ c.loop-rest.invariant.same

pub loop-rest-preserved : goal.loop-rest-preserved
loop-rest-preserved c =
    let rest : List SavedPlace = c.loop-rest.rest.now in
    let front : List SavedPlace = take (length rest - 1) rest in
    let last : SavedPlace = c.last-item.result in
    let split : rest ≡ front ++ last ∷ [] =
    split_last rest last c.in-len1-up.len_at_least ∙ ap (λ (p : SavedPlace). front ++ p ∷ []) (sym c.last-item.is) in
    record {
      few = omega (arith, c.loop-rest.invariant.few, length-take (length rest - 1) rest);
      same = sym (given_less front last (let none = c.if-last-gt0.false in omega arith))
          ∙ ap given_places (sym split) ∙ c.loop-rest.invariant.same;
    }
