use Rattle.std.proofs.Common.{false, sym, ◌∙◌}
use Rattle.firm_table.proofs.Seating.{admits_empty}
use Rattle.firm_table.proofs.seats.Seat.admit.Goals as goal

pub returns : goal.returns
returns c = (
  false,
  rw (← c.self.view_is) (admits_empty c.self.inside.occupant c.self.inside.rounds c.self.inside.admissions c.args.limits
      c.in-Ok.occupant
      (sym c.is_some.ensures ∙ c.if-is_some.false) c.if-self-ge-MOST_ADMISSIONS.false c.in-Ok.ensures.home),
)
