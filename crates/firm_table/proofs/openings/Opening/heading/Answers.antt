use Rattle.firm_table.proofs.Fits.{roster_fits, state_fits}
use Rattle.firm_table.proofs.openings.Opening.heading.Goals as goal

pub returns-in-Roster : goal.returns-in-Roster
returns-in-Roster c =
    let roster = c.in-Roster.roster.now in
    rw c.in-Roster.is (record {
      heading = c.heading.ensures.heading;
      fit = roster_fits roster.heading roster.rows c.heading.ensures.fit;
    })

pub returns-in-State : goal.returns-in-State
returns-in-State c =
    let saved = c.in-State.saved.now in
    rw c.in-State.is (record {
      heading = c.heading-in-State.ensures.heading;
      fit = state_fits saved.heading saved.places c.heading-in-State.ensures.fit;
    })
