use Rattle.std.proofs.Common.{◌≡◌}
use Rattle.firm_hall.specs.Desks.{DeskIs}
use Rattle.firm_hall.proofs.Alls.{all_push}
use Rattle.firm_hall.proofs.desk_states.DeskState.put_away.Goals as goal

pub returns-in-Home-clause-of : goal.returns-in-Home-clause-of
returns-in-Home-clause-of c id is are =
    let of = rw c.in-Home.is at is in
    record {
      each = all_push (λ (d : DeskIs). d.queue ≡ id) _ _ _ c.push_reserved.ensures.items are.each of;
      places =
          are.places;
    }
