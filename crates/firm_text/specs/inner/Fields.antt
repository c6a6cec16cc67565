-- The fields of a row, which six, seven or eight make up, and those that may end a heading.
use Rattle.std.specs.Prelude.{◌≡◌, ◌&&◌, ◌++◌, ℕ, Bool, true, List, [], ◌∷◌, Option, None, Some, Ok, bytes_eq}
use Rattle.std.specs.Borrow.{Bor}
use Rattle.std.specs.Prelude.{length, nat_le, option_map}
use Rattle.std.specs.Option.{option_to_list}
use Rattle.std.specs.List.{slice_split}
use Rattle.firm_text.specs.Rosters.{last_fields}
use Rattle.firm_text.specs.OperatorLines.{is_comma}

-- an optional field, if present
abbrev pub seen : Option (Bor (List ℕ)) → Option (List ℕ)
seen field = option_map (λ f. f.now) field

-- whether a field of a heading is this one, or left out
abbrev pub may_be : List ℕ → Option (List ℕ) → Bool
may_be name None = true
may_be name (Some field) = bytes_eq field name

-- whether this many fields describe a tenant
abbrev pub are_fields : List (List ℕ) → Bool
are_fields fields = nat_le 6 (length fields) && nat_le (length fields) 8

-- the fields after the sixth
abbrev pub behind_sixth : Option (List ℕ) → Option (List ℕ) → List (List ℕ)
behind_sixth remote patience = option_to_list remote ++ option_to_list patience

-- a row has six fields, and the last two where they are there; an eighth field has a seventh before it
pub record AreFields (fields : List (List ℕ)) (tenant nodes arcs life spread churn : List ℕ)
    (remote patience : Option (List ℕ)) : Type 0 where
  pub all : fields ≡ tenant ∷ nodes ∷ arcs ∷ life ∷ spread ∷ churn ∷ behind_sixth remote patience
  pub last : last_fields (behind_sixth remote patience) ≡ Ok (remote, patience)

-- the fields of the rest of a row, where it has one
abbrev pub rest_fields : Option (Bor (List ℕ)) → List (List ℕ)
rest_fields None = []
rest_fields (Some rest) = slice_split is_comma rest.now
