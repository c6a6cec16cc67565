-- An optional place of an arc as one number. No public clause cites this module.
use Rattle.std.specs.Prelude.{◌≡◌, ℕ, ◌==◌, Bool, true, false, Option, Some, None, if◌then◌else◌}
use Rattle.std.proofs.Common.{refl, sym, ap}
use Rattle.std.proofs.lemmas.Bool.{eqb-true}
use Rattle.firm_net.specs.declared.links.Place.TheInside.{Inside}

-- the number of no place
abbrev pub nowhere : ℕ
nowhere = 4294967295

abbrev pub named : Inside → Option ℕ
named p = if p.number == nowhere then None else Some p.number

abbrev pub number_of : Option ℕ → Inside
number_of None = record { number = nowhere }
number_of (Some number) = record { number = number }

number-kept : (n : ℕ) (b : Bool) → (n == nowhere) ≡ b → number_of (if b then None else Some n) ≡ record { number = n }
number-kept n true e = ap (λ (m : ℕ). let p : Inside = record { number = m } in p) (sym (eqb-true n nowhere e))
number-kept n false e = refl

-- what is named gives the number back
pub number_kept : (p : Inside) → number_of (named p) ≡ p
number_kept p = number-kept p.number (p.number == nowhere) refl
