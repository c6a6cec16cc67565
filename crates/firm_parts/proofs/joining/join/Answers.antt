use Rattle.std.proofs.Common.{◌≡◌, ◌∙◌, Ok, All, List, Result, sym, ap, subst}
use Rattle.firm_text.specs.declared.headings.Heading.{Heading}
use Rattle.firm_saved.specs.Saved.{PlaceFits, SavedIs, saved_with}
use Rattle.firm_saved.specs.declared.saved.SavedPlace.{SavedPlace}
use Rattle.firm_parts.specs.Parts.{either_heading, joined, with_heading}
use Rattle.firm_parts.specs.declared.joining.JoinFault.{JoinFault}
use Rattle.firm_parts.proofs.Joined.{joined_fit}
use Rattle.firm_parts.proofs.joining.join.Goals as goal

-- the heading of both
both : (a b first second found : Heading) → found ≡ either_heading a b → a ≡ first → b ≡ second
    → found ≡ either_heading first second
both a b first second found is f s =
    is ∙ ap (λ (h : Heading). either_heading h b) f ∙ ap (either_heading first) s

-- the places of both
same : (xs ys places others : List SavedPlace) → xs ≡ places → ys ≡ others → joined places others ≡ joined xs ys
same xs ys places others x y =
    sym (ap (λ (l : List SavedPlace). joined l ys) x ∙ ap (joined places) y)

pub of-requires : goal.of-requires
of-requires c =
    let places : List SavedPlace = c.settle_all.new.places.items in
    let heading = both _ _ _ _ _ c.either_heading-heading.ensures c.heading.ensures.heading
    c.heading-2.ensures.heading in
    let come = same _ _ _ _ c.into_places-places.ensures.places c.into_places.ensures.places in
    record {
      places = record {
        register = c.in-Ok.ensures.register;
        in_order = c.in-Ok.ensures.in_order;
        books = c.in-Ok.ensures.books;
      };
      fit = subst (λ (h : Heading). All (PlaceFits h) places) (sym heading)
          (joined_fit c.args.saved.heading c.args.other.heading c.args.saved.places c.args.other.places places
          (come ∙ c.in-Ok.ensures.joined) c.heading.ensures.fit c.heading-2.ensures.fit);
    }

pub returns-in-Ok : goal.returns-in-Ok
returns-in-Ok c =
    let heading = both _ _ _ _ _ c.either_heading-heading.ensures c.heading.ensures.heading
    c.heading-2.ensures.heading in
    let come = same _ _ _ _ c.into_places-places.ensures.places c.into_places.ensures.places in
    ap (λ (s : SavedIs). let r : Result SavedIs JoinFault = Ok s in r)
    (c.of.ensures ∙ ap (λ (h : Heading). saved_with h c.settle_all.new.places.items) heading)
    ∙ sym (ap (with_heading (either_heading c.args.saved.heading c.args.other.heading))
    (come ∙ c.in-Ok.ensures.joined))

pub returns-in-Err : goal.returns-in-Err
returns-in-Err c =
    let come = same _ _ _ _ c.into_places-places.ensures.places c.into_places.ensures.places in
    sym (ap (with_heading (either_heading c.args.saved.heading c.args.other.heading)) (come ∙ c.in-Err.ensures.joined))
