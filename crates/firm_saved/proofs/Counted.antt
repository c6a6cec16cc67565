-- The number of places up to the last that was ever given.
use Rattle.std.proofs.Common.{◌≡◌, ◌≤◌, ◌+◌, ◌-◌, ℕ, List, [], ◌∷◌, ◌++◌, length, get_or, take, sym, ap, ◌∙◌}
use Rattle.std.proofs.Common.{arith}
use Rattle.std.proofs.lemmas.List.{get_or-map, get_or-take, length-map, take_more}
use Rattle.firm_text.specs.declared.registers.Entry.{Entry}
use Rattle.firm_saved.specs.Saved.{entry_of, register_of, untouched}
use Rattle.firm_saved.specs.declared.saved.SavedPlace.{SavedPlace}

-- the last of the first places, where those of the register are known
pub record HasLast (places : List SavedPlace) (count admissions : ℕ) : Type 0 where
  pub last : SavedPlace
  pub split : take count places ≡ take (count - 1) places ++ last ∷ []
  pub given : last.admissions ≡ admissions

pub last_of : (places : List SavedPlace) (entries rest : List Entry) (last : Entry)
    → register_of places ≡ entries → length rest ≤ length entries → rest ≡ take (length rest) entries
    → 1 ≤ length rest → last ≡ get_or rest (length rest - 1) last
    → HasLast places (length rest) last.admissions
last_of places entries rest last is few front some found =
    let k : ℕ = length rest - 1 in
    let one : k + 1 ≡ length rest = omega arith in
    let wide : length places ≡ length entries =
    sym (length-map places entry_of) ∙ ap (λ (l : List Entry). length l) is in
    let here : SavedPlace = get_or places k untouched in
    let entry : entry_of here ≡ last =
    sym (get_or-map entry_of places k untouched last (omega (arith, wide)))
    ∙ ap (λ (l : List Entry). get_or l k last) is
    ∙ sym (get_or-take (length rest) entries k last (omega arith))
    ∙ ap (λ (l : List Entry). get_or l k last) (sym front)
    ∙ sym found in
    record {
      last = here;
      split = ap (λ (n : ℕ). take n places) (sym one) ∙ take_more places k untouched (omega (arith, wide));
      given = ap (λ (e : Entry). e.admissions) entry;
    }
