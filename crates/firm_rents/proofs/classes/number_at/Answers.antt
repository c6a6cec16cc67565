use Rattle.std.proofs.Common.{◌<◌, ◌∙◌, arith}
use Rattle.firm_rents.specs.inner.Classes.{class_at}
use Rattle.firm_rents.proofs.Comparing.{number_parent}
use Rattle.firm_rents.proofs.classes.number_at.Goals as goal

pub loop-at-preserved : goal.loop-at-preserved
loop-at-preserved c =
    let classes = c.args.classes.now in
    let at = c.loop-at.at in
    let below : (class_at classes at).parent < at =
    c.requires.tree.parents at (omega arith) c.loop-at.invariant.inside in
    record {
      inside = omega (arith, below, c.loop-at.invariant.inside);
      same = c.loop-at.invariant.same
          ∙ number_parent classes c.requires.tree at c.args.time (omega arith) c.loop-at.invariant.inside
          (λ e. omega (arith, e));
    }
