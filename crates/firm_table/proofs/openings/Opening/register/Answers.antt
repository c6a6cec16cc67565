use Rattle.std.proofs.Common.{◌<◌, ◌∙◌, length, sym, subst, arith}
use Rattle.firm_saved.specs.Saved.{AreGivenInOrder}
use Rattle.firm_table.proofs.Books.{roster_register}
use Rattle.firm_table.proofs.Saving.{saved_register}
use Rattle.firm_table.proofs.openings.Opening.register.Goals as goal

pub returns-in-Roster : goal.returns-in-Roster
returns-in-Roster c =
    let roster = c.in-Roster.roster.now.rows in
    let some : 0 < length roster = omega (arith, c.len.ensures.some, c.len.ensures.length) in
    rw c.in-Roster.is (record {
      places = c.of.ensures ∙ sym (roster_register roster);
      in_order = subst AreGivenInOrder (sym c.of.ensures) (c.places_are_given_in_order.ensures.rosters roster some);
    })

pub returns-in-State : goal.returns-in-State
returns-in-State c =
    rw c.in-State.is (record {
      places = c.restored_register.ensures.places ∙ sym (saved_register c.in-State.saved.now.places);
      in_order = c.restored_register.ensures.in_order;
    })
