use Rattle.std.proofs.Common.{◌∙◌, ap, List}
use Rattle.firm_saved.specs.declared.saved.SavedPlace.{SavedPlace}
use Rattle.firm_parts.specs.inner.Seats.{is_seated}
use Rattle.firm_parts.proofs.Parts.{seated_book}
use Rattle.firm_parts.proofs.cutting.has_tenant.Goals as goal

pub returns : goal.returns
returns c =
    c.is_seated.ensures
    ∙ ap (λ (places : List SavedPlace). is_seated places c.args.name) c.places.ensures.places
    ∙ seated_book c.args.saved.now.places c.args.name
