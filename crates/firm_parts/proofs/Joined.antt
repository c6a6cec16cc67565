-- The limits of the tenants of joined states fit the heading of both.
use Rattle.std.proofs.Common.{◌≡◌, ◌∷◌, ◌+◌, [], ℕ, All, List, Option, Some, None, Result, Ok, Err, get_or, subst}
use Rattle.std.specs.Prelude.{IfSome}
use Rattle.std.specs.List.{AllByRecursion}
use Rattle.std.proofs.lemmas.List.Elements.{All-from_recursion, All-set, recursion_from_All}
use Rattle.firm_rules.specs.Book.{Book}
use Rattle.firm_rules.specs.Limits.{TenantLimits}
use Rattle.firm_text.specs.Commands.{◌>>=◌}
use Rattle.firm_text.specs.Registers.{place_for}
use Rattle.firm_text.specs.Rosters.{FitsHeading}
use Rattle.firm_text.specs.declared.headings.Heading.{Heading}
use Rattle.firm_text.specs.declared.headings.Heading.TheVariants.{Plain, Extended}
use Rattle.firm_text.specs.declared.operator.OperatorRefusal.{OperatorRefusal}
use Rattle.firm_saved.specs.Saved.{PlaceFits, register_of, untouched}
use Rattle.firm_saved.specs.declared.saved.SavedPlace.{SavedPlace}
use Rattle.firm_parts.specs.Parts.{either_heading, joined, joined_by, settled, settled_at}

first_fits : (first second : Heading) (limits : TenantLimits) → FitsHeading first limits
    → FitsHeading (either_heading first second) limits
first_fits Plain Plain limits fits = fits
first_fits Plain Extended limits fits = tt
first_fits Extended second limits fits = tt

second_fits : (first second : Heading) (limits : TenantLimits) → FitsHeading second limits
    → FitsHeading (either_heading first second) limits
second_fits Plain second limits fits = fits
second_fits Extended second limits fits = tt

weaker : (a b : Heading) → ((limits : TenantLimits) → FitsHeading a limits → FitsHeading b limits)
    → (places : List SavedPlace) → All (PlaceFits a) places → All (PlaceFits b) places
weaker a b fits places all k d within = one (get_or places k d) (all k d within)
  where
    one : (place : SavedPlace) → PlaceFits a place → PlaceFits b place
    one place h = by place.tenant h
      where
        by : (tenant : Option (List ℕ × Book)) → IfSome tenant (λ (t : List ℕ × Book). FitsHeading a t.1.rows.limits)
            → IfSome tenant (λ (t : List ℕ × Book). FitsHeading b t.1.rows.limits)
        by None h = tt
        by (Some tenant) h = fits tenant.1.rows.limits h

-- one tenant after the other
come_fit : (heading : Heading) (places others both : List SavedPlace) → joined places others ≡ Ok both
    → All (PlaceFits heading) places → AllByRecursion (PlaceFits heading) others → All (PlaceFits heading) both
come_fit heading places [] both is fit more =
    let same : places ≡ both = cc in
    subst (All (PlaceFits heading)) same fit
come_fit heading places (other ∷ rest) both is fit more =
    by other.tenant is more.0 (λ next e h. come_fit heading next rest both e h more.1)
  where
    by : (tenant : Option (List ℕ × Book)) → (joined_by places tenant >>= λ next. joined next rest) ≡ Ok both
        → IfSome tenant (λ (t : List ℕ × Book). FitsHeading heading t.1.rows.limits)
        → ((next : List SavedPlace) → joined next rest ≡ Ok both → All (PlaceFits heading) next
        → All (PlaceFits heading) both)
        → All (PlaceFits heading) both
    by None e fits on = on places e fit
    by (Some tenant) e fits on = go (place_for (register_of places) tenant.0) e
      where
        go : (given : Result ℕ OperatorRefusal) → (settled places tenant given >>= λ next. joined next rest) ≡ Ok both
            → All (PlaceFits heading) both
        go (Ok at) e = on (settled_at places at tenant) e (All-set (PlaceFits heading) places at _ fits fit)
        go (Err refusal) e = absurd (cc)

pub joined_fit : (first second : Heading) (places others both : List SavedPlace) → joined places others ≡ Ok both
    → All (PlaceFits first) places → All (PlaceFits second) others
    → All (PlaceFits (either_heading first second)) both
joined_fit first second places others both is fit more =
    let heading : Heading = either_heading first second in
    come_fit heading places others both is (weaker first heading (first_fits first second) places fit)
    (recursion_from_All (PlaceFits heading) others
    (weaker second heading (second_fits first second) others more))
