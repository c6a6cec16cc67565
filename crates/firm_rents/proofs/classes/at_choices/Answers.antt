use Rattle.std.proofs.Common.{◌<◌, refl, arith, sym, subst}
use Rattle.firm_rents.specs.inner.Classes.{offered, Covers}
use Rattle.firm_rents.proofs.classes.at_choices.Goals as goal

pub returns-then-other-one : goal.returns-then-other-one
returns-then-other-one c = record {
  one = c.looked_at-found.ensures.covers;
  other = subst (Covers (offered c.args.classes.now c.args.one) (offered c.args.classes.now c.args.other)
      c.looked_at-found.result) (sym c.if-other-one.true) c.looked_at-found.ensures.covers;
  differ = c.looked_at-found.ensures.differ
      (record { less = λ l. absurd (omega arith); more = λ l. absurd (omega arith) });
}

pub returns : goal.returns
returns c = record {
  one = c.looked_at.ensures.kept c.args.one.time c.looked_at-found.ensures.covers;
  other = c.looked_at.ensures.covers;
  differ = c.looked_at.ensures.differ (c.looked_at-found.ensures.differ
      (record { less = λ l. absurd (omega arith); more = λ l. absurd (omega arith) }));
}
