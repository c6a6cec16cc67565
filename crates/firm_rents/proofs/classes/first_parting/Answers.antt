use Rattle.std.proofs.Common.{◌≡◌, ◌<◌, ◌≤◌, ◌^◌, ◌∙◌, sym, subst, ⊎_elim, arith}
use Rattle.std.proofs.lemmas.Bool.{cases_lt}
use Rattle.firm_rents.specs.inner.Classes.{number}
use Rattle.firm_rents.proofs.Comparing.{left_number, left_on, met}
use Rattle.firm_rents.proofs.classes.first_parting.Goals as goal

pub loop-here-preserved-then-there-here : goal.loop-here-preserved-then-there-here
loop-here-preserved-then-there-here c =
    record {
      one = left_on c.args.classes.now c.requires.tree c.args.one c.loop-here.here c.loop-here.first
          c.of-first.result c.loop-here.invariant.one (omega arith) c.of-first.ensures.same.0 c.of-first.ensures.some
          c.of-first.ensures.same.1;
      other = c.loop-here.invariant.other;
    }

pub loop-here-preserved : goal.loop-here-preserved
loop-here-preserved c =
    record {
      one = c.loop-here.invariant.one;
      other = left_on c.args.classes.now c.requires.tree c.args.other c.loop-here.there c.loop-here.second
          c.of-second.result c.loop-here.invariant.other (omega arith) c.of-second.ensures.same.0
          c.of-second.ensures.some c.of-second.ensures.same.1;
    }

pub returns-then-first-second : goal.returns-then-first-second
returns-then-first-second c =
    let classes = c.args.classes.now in
    let at = c.loop-here in
    let same : at.here ≡ at.there = omega arith in
    let sooner : at.first.time < at.second.time = omega arith in
    record {
      before = λ t h. met classes c.args.one c.args.other at.here at.there at.first at.second same at.invariant.one
          at.invariant.other t h (omega (arith, h, sooner));
      one = at.invariant.one.own (omega (arith, sooner, at.invariant.other.most));
      other = left_number classes c.requires.tree c.args.one c.args.other at.here at.there at.first at.second same
          at.invariant.one at.invariant.other sooner;
    }

pub returns-then-second-first : goal.returns-then-second-first
returns-then-second-first c =
    let classes = c.args.classes.now in
    let at = c.loop-here in
    let same : at.here ≡ at.there = omega arith in
    let sooner : at.second.time < at.first.time = omega arith in
    record {
      before = λ t h. met classes c.args.one c.args.other at.here at.there at.first at.second same at.invariant.one
          at.invariant.other t (omega (arith, h, sooner)) h;
      one = left_number classes c.requires.tree c.args.other c.args.one at.there at.here at.second at.first (sym same)
          at.invariant.other at.invariant.one sooner;
      other = at.invariant.other.own (omega (arith, sooner, at.invariant.one.most));
    }

pub returns : goal.returns
returns c =
    let classes = c.args.classes.now in
    let at = c.loop-here in
    let same : at.here ≡ at.there = omega arith in
    let alike : at.first.time ≡ at.second.time = omega arith in
    let some : at.first.time < 2 ^ 32 =
    ⊎_elim (λ (h : at.first.time < 2 ^ 32). h)
    (λ (h : 2 ^ 32 ≤ at.first.time).
    absurd (c.requires.apart (sym (at.invariant.one.fresh (omega (arith, h, at.invariant.one.most)))
    ∙ (same ∙ at.invariant.other.fresh (omega (arith, h, alike, at.invariant.other.most))))))
    (cases_lt at.first.time (2 ^ 32)) in
    record {
      before = λ t h. met classes c.args.one c.args.other at.here at.there at.first at.second same at.invariant.one
          at.invariant.other t h (omega (arith, h, alike));
      one = at.invariant.one.own some;
      other = subst (λ t. number classes c.args.other t ≡ at.second.number) (sym alike)
          (at.invariant.other.own (omega (arith, some, alike)));
    }
