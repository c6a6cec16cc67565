use Rattle.std.proofs.Common.{◌∙◌}
use Rattle.firm_hall.proofs.Coming.{follows_then}
use Rattle.firm_hall.proofs.serving.Serving.wait.Goals as goal

pub returns-in_err-write_out-clause-begins : goal.returns-in_err-write_out-clause-begins
returns-in_err-write_out-clause-begins g c opening text written told =
    c.in_err-write_out.ensures.begins opening text written (c.loop.invariant.passes opening text written told)

pub returns-then-look-clause-told : goal.returns-then-look-clause-told
returns-then-look-clause-told g c opening text written told =
    c.in_ok-write_out.ensures.told opening text written (c.loop.invariant.passes opening text written told)

pub returns-then-look-clause-begins : goal.returns-then-look-clause-begins
returns-then-look-clause-begins g c opening text written told =
    c.in_ok-write_out.ensures.begins opening text written (c.loop.invariant.passes opening text written told)

pub returns-then-look-clause-come : goal.returns-then-look-clause-come
returns-then-look-clause-come g c =
    let come = rw c.loop.invariant.kept at c.look.ensures.come in come c.if-look.true

pub loop-preserved : goal.loop-preserved
loop-preserved g c =
    let i = c.loop.invariant in
    let wrote = c.in_ok-write_out.ensures in
    rw c.rest-looks.ensures
    (record {
      well = wrote.well;
      kept = c.look.ensures.kept ∙ i.kept;
      follows = follows_then i.follows wrote.follows;
      passes = λ opening text written told. wrote.told opening text written (i.passes opening text written told);
    })
