use Rattle.std.proofs.Common.{◌≡◌, ◌<◌, true, eqb, ◌-◌, arith, inl, inr, [], refl, length}
use Rattle.std.proofs.lemmas.Bool.{eq-eqb}
use Rattle.std.proofs.lemmas.Grind.{common_steps}
use Rattle.firm_saved.proofs.Runs.{not_end}
use Rattle.firm_saved.proofs.reading.last_row.Goals as goal

pub returns-then-not-is_empty-clause-read : goal.returns-then-not-is_empty-clause-read
returns-then-not-is_empty-clause-read c =
    let some : 0 < length c.args.rest.now = grind (arith, common_steps) in
    let counted : eqb c.args.count (c.args.line - 2) ≡ true = eq-eqb _ _ (grind (arith, common_steps)) in
    let read = c.in-Ok.ensures in
    inr (rw (counted, read, not_end c.args.rest.now some) refl)

pub returns-in-Err-clause-read : goal.returns-in-Err-clause-read
returns-in-Err-clause-read c =
    let counted : eqb c.args.count (c.args.line - 2) ≡ true = eq-eqb _ _ (grind (arith, common_steps)) in
    elim c.in-Err.ensures [
      | inl memory ↦ inl memory
      | inr refused ↦ inr (rw (counted, refused) refl)
    ]

pub returns-clause-read : goal.returns-clause-read
returns-clause-read c =
    let counted : eqb c.args.count (c.args.line - 2) ≡ true = eq-eqb _ _ (grind (arith, common_steps)) in
    let none : c.args.rest.now ≡ [] = grind (arith, common_steps) in
    rw (counted, c.in-Ok.ensures, none) refl
