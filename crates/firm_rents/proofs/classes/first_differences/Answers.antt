use Rattle.std.proofs.Common.{◌<◌, refl, inr, arith}
use Rattle.firm_rents.specs.inner.Classes.{class_at}
use Rattle.firm_rents.proofs.Comparing.{looked_here, looked_there}
use Rattle.firm_rents.proofs.classes.first_differences.Goals as goal

pub loop-here-init : goal.loop-here-init
loop-here-init c =
    record {
      here = c.requires.one;
      there = c.requires.other;
      one_time = c.at_choices-found.ensures.one;
      other_time = c.at_choices-found.ensures.other;
      looked = λ t. inr (record { one_told = refl; other_told = refl });
      differ = c.at_choices-found.ensures.differ;
    }

pub loop-here-preserved-then-there-here : goal.loop-here-preserved-then-there-here
loop-here-preserved-then-there-here c =
    let classes = c.args.classes.now in
    let here = c.loop-here.here in
    let looked_at = c.looked_at-found in
    let below : (class_at classes here).parent < here =
    c.requires.tree.parents here (omega arith) c.loop-here.invariant.here in
    record {
      here = omega (arith, below, c.loop-here.invariant.here);
      there = c.loop-here.invariant.there;
      one_time = looked_at.ensures.kept c.args.one.time c.loop-here.invariant.one_time;
      other_time = looked_at.ensures.kept c.args.other.time c.loop-here.invariant.other_time;
      looked = looked_here classes c.requires.tree c.args.one c.args.other c.loop-here.found looked_at.result here
          c.loop-here.there (omega arith) c.loop-here.invariant.here c.loop-here.invariant.looked
          looked_at.ensures.kept looked_at.ensures.covers;
      differ = looked_at.ensures.differ c.loop-here.invariant.differ;
    }

pub loop-here-preserved : goal.loop-here-preserved
loop-here-preserved c =
    let classes = c.args.classes.now in
    let there = c.loop-here.there in
    let looked_at = c.looked_at-found-else-there-here in
    let below : (class_at classes there).parent < there =
    c.requires.tree.parents there (omega arith) c.loop-here.invariant.there in
    record {
      here = c.loop-here.invariant.here;
      there = omega (arith, below, c.loop-here.invariant.there);
      one_time = looked_at.ensures.kept c.args.one.time c.loop-here.invariant.one_time;
      other_time = looked_at.ensures.kept c.args.other.time c.loop-here.invariant.other_time;
      looked = looked_there classes c.requires.tree c.args.one c.args.other c.loop-here.found looked_at.result
          c.loop-here.here there (omega arith) c.loop-here.invariant.there c.loop-here.invariant.looked
          looked_at.ensures.kept looked_at.ensures.covers;
      differ = looked_at.ensures.differ c.loop-here.invariant.differ;
    }
