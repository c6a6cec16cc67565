use Rattle.firm_held.specs.Held.{FirstIsFor}
use Rattle.firm_hall.proofs.Placed.{first_low}
use Rattle.firm_hall.proofs.serving.Serving.visit_first.Goals as goal

pub visit-requires-clause-place : goal.visit-requires-clause-place
visit-requires-clause-place g c =
    let s = c.self.inside in
    let here : FirstIsFor c.in-Some.place s.held.answers = rw c.in-Some.is at c.first_place.ensures in
    first_low c.in-Some.place s.held.answers here c.self.invariant.placed
