use Rattle.std.proofs.Common.{sym, ◌∙◌}
use Rattle.firm_table.proofs.Seating.{retires_home}
use Rattle.firm_table.proofs.seats.Seat.retire.Goals as goal

pub returns : goal.returns
returns c =
    rw (← c.self.view_is) (retires_home c.self.inside.occupant c.self.inside.rounds c.self.inside.admissions
    c.in-Some.occupant c.in-Some.is
    (sym c.is_home.ensures ∙ c.if-not-is_home.false))
