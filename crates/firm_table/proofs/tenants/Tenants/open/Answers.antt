use Rattle.firm_table.specs.Openings.{places_opened}
use Rattle.firm_table.proofs.Seated.{places_seated}
use Rattle.firm_table.proofs.tenants.Tenants.open.Goals as goal

pub invariant_of-result : goal.invariant_of-result
invariant_of-result c =
    record {
      books = rw (c.register.ensures.places, c.in_ok-open_places.ensures)
          (places_seated (places_opened c.args.opening));
      in_order = c.register.ensures.in_order;
    }
