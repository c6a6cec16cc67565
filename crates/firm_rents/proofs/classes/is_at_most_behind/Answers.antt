use Rattle.std.proofs.Common.{◌≤◌, ◌⊎◌, ◌≡◌, sym, inl, inr, arith}
use Rattle.std.proofs.lemmas.Bool.{leb-true, leb-false, ltb-true, ltb-false}
use Rattle.firm_rents.specs.inner.Classes.{offered}
use Rattle.firm_rents.proofs.Comparing.{by_choice, by_first, by_parting}
use Rattle.firm_rents.proofs.classes.is_at_most_behind.Goals as goal
use Rattle.firm_rents.proofs.classes.is_at_most_behind.Goals.{else-from-parting-via-then-from-parting+else-one-other}
use Rattle.firm_rents.proofs.classes.is_at_most_behind.Goals.{else-from-parting-via-else-from-parting}

pub returns-clause-yes : goal.returns-clause-yes
returns-clause-yes c =
    let found = c.first_differences-found.result in
    λ e. by_first (offered c.args.classes.now c.args.one) (offered c.args.classes.now c.args.other) found.less
    found.more (omega arith) (λ t h. (c.first_differences-found.ensures.covers t).more h)
    c.first_differences-found.ensures.differ.less (omega (arith, leb-true))

pub returns-clause-no : goal.returns-clause-no
returns-clause-no c =
    let found = c.first_differences-found.result in
    λ e. by_first (offered c.args.classes.now c.args.other) (offered c.args.classes.now c.args.one) found.more
    found.less (omega arith) (λ t h. (c.first_differences-found.ensures.covers t).less h)
    c.first_differences-found.ensures.differ.more (omega (arith, leb-false))

pub returns-then-one-other-clause-yes : goal.returns-then-one-other-clause-yes
returns-then-one-other-clause-yes c =
    λ e. by_choice c.args.classes.now c.args.one c.args.other (omega arith)
    (λ t h. c.requires.parting.before t (omega (arith, h, ltb-true, c.min.ensures, c.from.ensures)))
    (omega (arith, ltb-true))

pub returns-then-one-other-clause-no : goal.returns-then-one-other-clause-no
returns-then-one-other-clause-no c =
    λ e. by_choice c.args.classes.now c.args.other c.args.one (omega arith)
    (λ t h. sym (c.requires.parting.before t (omega (arith, h, ltb-false, c.min.ensures, c.from.ensures))))
    (omega (arith, ltb-false))

pub returns-then-here-there-clause-yes : goal.returns-then-here-there-clause-yes
returns-then-here-there-clause-yes c =
    let classes = c.args.classes.now in
    let one = c.args.one in
    let other = c.args.other in
    let first = c.args.parting.time in
    let choices : (one.time ≡ other.time) ⊎ ((first ≤ one.time) × (first ≤ other.time)) =
    elim c.else-from-parting.branch [
      | else-from-parting-via-then-from-parting+else-one-other w ↦ inl (omega (arith, w.if-one-other.false))
      | else-from-parting-via-else-from-parting w ↦
          inr (
            omega (arith, w.if-from-parting.false, c.min.ensures, c.from.ensures),
            omega (arith, w.if-from-parting.false, c.min.ensures, c.from.ensures),
          )
    ] in
    λ e. by_parting classes one other first c.requires.amounts c.requires.parting.before choices
    (omega (
      arith,
      ltb-true,
      c.marked-here.ensures classes c.requires.parting.one,
      c.marked-there.ensures classes c.requires.parting.other,
    ))

pub returns-then-here-there-clause-no : goal.returns-then-here-there-clause-no
returns-then-here-there-clause-no c =
    let classes = c.args.classes.now in
    let one = c.args.one in
    let other = c.args.other in
    let first = c.args.parting.time in
    let choices : (other.time ≡ one.time) ⊎ ((first ≤ other.time) × (first ≤ one.time)) =
    elim c.else-from-parting.branch [
      | else-from-parting-via-then-from-parting+else-one-other w ↦ inl (omega (arith, w.if-one-other.false))
      | else-from-parting-via-else-from-parting w ↦
          inr (
            omega (arith, w.if-from-parting.false, c.min.ensures, c.from.ensures),
            omega (arith, w.if-from-parting.false, c.min.ensures, c.from.ensures),
          )
    ] in
    λ e. by_parting classes other one first (omega arith) (λ t h. sym (c.requires.parting.before t h))
    choices (omega (
      arith,
      ltb-false,
      c.if-here-there.true,
      c.marked-here.ensures classes c.requires.parting.one,
      c.marked-there.ensures classes c.requires.parting.other,
    ))
