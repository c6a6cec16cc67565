use Rattle.std.proofs.Common.{◌≡◌, ◌≤◌, ◌∷◌, [], ℕ, List, Bor, Option, Some, length, sym, ap, subst, arith}
use Rattle.std.specs.Prelude.{MatchOption}
use Rattle.std.specs.List.{slice_split}
use Rattle.firm_text.specs.OperatorLines.{is_comma}
use Rattle.firm_text.specs.inner.Fields.{rest_fields}
use Rattle.firm_text.proofs.Commas.{some_piece}
use Rattle.firm_text.proofs.row_fields.last_fields.Goals as goal

-- a row that has a rest is its first field, and the fields of the rest
cut : (row field : List ℕ) (behind : Option (Bor (List ℕ))) (rest : Bor (List ℕ)) → behind ≡ Some rest
    → MatchOption behind (slice_split is_comma row ≡ field ∷ [])
    (λ r. slice_split is_comma row ≡ field ∷ slice_split is_comma r.now)
    → slice_split is_comma row ≡ field ∷ slice_split is_comma rest.now
cut row field behind rest is first =
    subst
    (λ (o : Option (Bor (List ℕ))). MatchOption o (slice_split is_comma row ≡ field ∷ [])
    (λ r. slice_split is_comma row ≡ field ∷ slice_split is_comma r.now))
    is first

pub returns-in_default-Some : goal.returns-in_default-Some
returns-in_default-Some c =
    let rest : List ℕ = c.in-Some.rest.now in
    let behind : List ℕ = c.in-Some-rest.rest.now in
    let last : List ℕ = c.in_default-Some.field-0-1.now in
    let first : slice_split is_comma rest ≡ c.first_field.result.0.now ∷ slice_split is_comma behind =
    cut rest c.first_field.result.0.now c.first_field.result.1 c.in-Some-rest.rest c.in-Some-rest.is
    c.first_field.ensures in
    let second : slice_split is_comma behind ≡ c.first_field-2.result.0.now ∷ slice_split is_comma last =
    cut behind c.first_field-2.result.0.now c.first_field-2.result.1 c.in_default-Some.field-0-1
    c.in_default-Some.is-1 c.first_field-2.ensures in
    let long : 3 ≤ length (rest_fields c.args.rest) =
    subst (λ (o : Option (Bor (List ℕ))). 3 ≤ length (rest_fields o)) (sym c.in-Some.is)
    (omega (
      arith,
      ap (λ (l : List (List ℕ)). length l) first,
      ap (λ (l : List (List ℕ)). length l) second,
      some_piece is_comma last,
    )) in
    record { fields = long; told = long }
