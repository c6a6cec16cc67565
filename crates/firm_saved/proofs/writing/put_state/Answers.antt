use Rattle.std.proofs.Common.{List, ap, arith, length}
use Rattle.std.proofs.lemmas.List.{length-map}
use Rattle.firm_saved.specs.Saved.{entry_of}
use Rattle.firm_saved.specs.StateText.{given_places}
use Rattle.firm_saved.specs.declared.saved.SavedPlace.{SavedPlace}
use Rattle.firm_saved.proofs.Places.{given_sound}
use Rattle.firm_saved.proofs.Puts.{kept_trans}
use Rattle.firm_saved.proofs.writing.put_state.Goals as goal

pub given_places-requires : goal.given_places-requires
given_places-requires c =
    omega (
      arith,
      ap (λ (l : List SavedPlace). length l) c.places.ensures.places,
      length-map c.args.saved.now.places entry_of,
      c.places.ensures.sound.places.register.all,
    )

pub put_places-requires : goal.put_places-requires
put_places-requires c =
    omega (
      arith,
      ap (λ (l : List SavedPlace). length l) c.given_places.ensures,
      ap (λ (l : List SavedPlace). length (given_places l)) c.places.ensures.places,
      (given_sound c.args.saved.now.places c.places.ensures.sound.places).few,
    )

pub returns-in_err-count-clause-kept : goal.returns-in_err-count-clause-kept
returns-in_err-count-clause-kept c = kept_trans _ _ _ c.put_places.ensures.kept c.put_heading.ensures.kept

pub returns-clause-kept : goal.returns-clause-kept
returns-clause-kept c =
    kept_trans _ _ _ c.put_row.ensures.kept
    (kept_trans _ _ _ c.put_places.ensures.kept c.put_heading.ensures.kept)
