use Rattle.std.proofs.Common.{arith}
use Rattle.firm_rents.proofs.tables.lower_all.Goals as goal

pub loop-preserved : goal.loop-preserved
loop-preserved c = record {
  one_each = c.lower.ensures.one_each;
  falls = λ j. omega (arith, c.lower.ensures.falls j, c.loop.invariant.falls j);
  within = λ bounds less more suit fewer before. c.lower.ensures.within bounds less more suit fewer
      (c.loop.invariant.within bounds less more suit fewer before);
}

pub returns-then-not-lower-clause-falls : goal.returns-then-not-lower-clause-falls
returns-then-not-lower-clause-falls c = λ j. omega (arith, c.lower.ensures.falls j, c.loop.invariant.falls j)

pub returns-then-not-lower-clause-within : goal.returns-then-not-lower-clause-within
returns-then-not-lower-clause-within c = λ bounds less more suit fewer before.
    c.lower.ensures.within bounds less more suit fewer
    (c.loop.invariant.within bounds less more suit fewer before)
