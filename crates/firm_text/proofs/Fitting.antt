-- The limits that a row gives fit the heading under which it is read.
use Rattle.std.proofs.Common.{◌≡◌, ◌∙◌, ℕ, Bool, true, false, List, [], ◌∷◌, Option, Some, None, Result, Ok, Err}
use Rattle.std.proofs.Common.{length}
use Rattle.std.proofs.Common.{arith, refl, sym, ap, subst}
use Rattle.std.specs.Prelude.{IfOk, ◌==◌, nat_le, if◌then◌else◌}
use Rattle.std.specs.Option.{ok_or}
use Rattle.std.proofs.lemmas.Bool.{eqb-true, leb-true}
use Rattle.firm_rules.specs.Limits.{TenantLimits, limits_of, longest_patience, with_patience}
use Rattle.firm_rules.specs.Names.{name_of}
use Rattle.firm_text.specs.Commands.{◌>>=◌}
use Rattle.firm_text.specs.Rosters.{FitsHeading, RosterRow, fields_told, heading_of, limits_fields, most_fields}
use Rattle.firm_text.specs.Rosters.{number_field, number_or}
use Rattle.firm_text.specs.Rosters.{own_tenant, told_under, tenant_told}
use Rattle.firm_text.specs.declared.faults.RosterFault.{RosterFault}
use Rattle.firm_text.specs.declared.faults.RosterFault.TheVariants.{BadName, BadNumber, Row}
use Rattle.firm_text.specs.declared.headings.Heading.{Heading}
use Rattle.firm_text.specs.declared.headings.Heading.TheVariants.{Plain, Extended}

-- limits that no eighth field gives have the longest patience
patient : (limits told : TenantLimits)
    → ok_or {E = RosterFault} (with_patience limits longest_patience) BadNumber ≡ Ok told
    → told.patience ≡ longest_patience
patient limits told e =
    let same : record limits { patience = longest_patience } ≡ told = cc in
    sym (ap (λ (l : TenantLimits). l.patience) same)

plain_steps : (a b c d f g : Result ℕ RosterFault) (told : TenantLimits)
    → (do
      nodes ← a
      arcs ← b
      life ← c
      spread ← d
      churn ← f
      remote ← g
      limits ← ok_or (limits_of nodes arcs life spread churn remote) BadNumber
      ok_or (with_patience limits longest_patience) BadNumber) ≡ Ok told
    → told.patience ≡ longest_patience
plain_steps (Err x) b c d f g told e = absurd (cc)
plain_steps (Ok n) (Err x) c d f g told e = absurd (cc)
plain_steps (Ok n) (Ok m) (Err x) d f g told e = absurd (cc)
plain_steps (Ok n) (Ok m) (Ok k) (Err x) f g told e = absurd (cc)
plain_steps (Ok n) (Ok m) (Ok k) (Ok j) (Err x) g told e = absurd (cc)
plain_steps (Ok n) (Ok m) (Ok k) (Ok j) (Ok i) (Err x) told e = absurd (cc)
plain_steps (Ok n) (Ok m) (Ok k) (Ok j) (Ok i) (Ok h) told e = by (limits_of n m k j i h) e
  where
    by : (limits : Option TenantLimits)
        → (ok_or {E = RosterFault} limits BadNumber >>= λ l. ok_or (with_patience l longest_patience) BadNumber)
        ≡ Ok told
        → told.patience ≡ longest_patience
    by None e = absurd (cc)
    by (Some limits) e = patient limits told e

row_steps : (name : Result (List ℕ) RosterFault) (limits : Result TenantLimits RosterFault) (told : RosterRow)
    → ((l : TenantLimits) → limits ≡ Ok l → l.patience ≡ longest_patience)
    → (do
      n ← name
      l ← limits
      Ok (n, l)) ≡ Ok told
    → told.1.patience ≡ longest_patience
row_steps (Err x) limits told plain e = absurd (cc)
row_steps (Ok n) (Err x) told plain e = absurd (cc)
row_steps (Ok n) (Ok l) told plain e =
    let same : (n, l) ≡ told = cc in
    subst (λ (row : RosterRow). row.1.patience ≡ longest_patience) same (plain l refl)

fields_plain : (tenant nodes arcs life spread churn : List ℕ) (remote : Option (List ℕ)) (told : RosterRow)
    → fields_told tenant nodes arcs life spread churn remote None ≡ Ok told → told.1.patience ≡ longest_patience
fields_plain tenant nodes arcs life spread churn remote told e =
    row_steps (ok_or (name_of tenant) BadName) (limits_fields nodes arcs life spread churn remote None) told
    (λ l. plain_steps (number_field nodes) (number_field arcs) (number_field life) (number_field spread)
    (number_field churn) (number_or 0 remote) l) e

-- a row of at most seven fields
told_plain : (fields : List (List ℕ)) (told : RosterRow) → nat_le (length fields) (most_fields Plain) ≡ true
    → tenant_told fields ≡ Ok told → told.1.patience ≡ longest_patience
told_plain [] told few e = absurd (cc)
told_plain (a ∷ []) told few e = absurd (cc)
told_plain (a ∷ b ∷ []) told few e = absurd (cc)
told_plain (a ∷ b ∷ c ∷ []) told few e = absurd (cc)
told_plain (a ∷ b ∷ c ∷ d ∷ []) told few e = absurd (cc)
told_plain (a ∷ b ∷ c ∷ d ∷ f ∷ []) told few e = absurd (cc)
told_plain (a ∷ b ∷ c ∷ d ∷ f ∷ g ∷ []) told few e = fields_plain a b c d f g None told e
told_plain (a ∷ b ∷ c ∷ d ∷ f ∷ g ∷ h ∷ []) told few e = fields_plain a b c d f g (Some h) told e
told_plain (a ∷ b ∷ c ∷ d ∷ f ∷ g ∷ h ∷ i ∷ rest) told few e =
    absurd (omega (arith, leb-true (length (a ∷ b ∷ c ∷ d ∷ f ∷ g ∷ h ∷ i ∷ rest)) 7 few))

-- a row under a heading
pub told_fits : (heading : Heading) (fields : List (List ℕ)) (told : RosterRow) → told_under heading fields ≡ Ok told
    → FitsHeading heading told.1
told_fits Extended fields told e = tt
told_fits Plain fields told e = by (nat_le (length fields) (most_fields Plain)) refl e
  where
    by : (b : Bool) → nat_le (length fields) (most_fields Plain) ≡ b
        → (if b then tenant_told fields else Err Row) ≡ Ok told → FitsHeading Plain told.1
    by true few e = told_plain fields told few e
    by false many e = absurd (cc)

-- a record of a roster
pub own_fits : (width : ℕ) (fields : List (List ℕ)) (told : RosterRow) → own_tenant width fields ≡ Ok told
    → FitsHeading (heading_of width) told.1
own_fits width fields told e = by_width (nat_le width (most_fields Plain)) refl
  where
    by_wide : nat_le width (most_fields Plain) ≡ true → (b : Bool) → (length fields == width) ≡ b
        → ((if b then Ok fields else Err Row) >>= tenant_told) ≡ Ok told → told.1.patience ≡ longest_patience
    by_wide few true same e =
        told_plain fields told (ap (λ n. nat_le n (most_fields Plain)) (eqb-true (length fields) width same) ∙ few) e
    by_wide few false other e = absurd (cc)

    by_width : (b : Bool) → nat_le width (most_fields Plain) ≡ b
        → FitsHeading (if b then Plain else Extended) told.1
    by_width true few = by_wide few (length fields == width) refl e
    by_width false many = tt

-- what was read of a record
pub own_result_fits : (width : ℕ) (fields : List (List ℕ)) (result : Result RosterRow RosterFault)
    → result ≡ own_tenant width fields → IfOk result (λ told. FitsHeading (heading_of width) told.1)
own_result_fits width fields (Ok told) is = own_fits width fields told (sym is)
own_result_fits width fields (Err fault) is = tt
