use Rattle.firm_hall.proofs.Coming.{follows_then}
use Rattle.firm_hall.proofs.serving.Serving.look.Goals as goal

pub loop-place-preserved : goal.loop-place-preserved
loop-place-preserved g c =
    let i = c.loop-place.invariant in
    let visited = c.visit.ensures in
    record {
      follows = follows_then i.follows visited.follows;
      keeps = λ opening text written now told.
          visited.keeps opening text written now (i.keeps opening text written now told);
    }
