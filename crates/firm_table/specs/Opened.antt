-- The opening of a service: the heading under which it reads lines, and its places before the first.
use Rattle.std.specs.Prelude.{List}
use Rattle.firm_text.specs.Rosters.{RosterIs}
use Rattle.firm_text.specs.declared.headings.Heading.{Heading}
use Rattle.firm_saved.specs.Saved.{SavedIs, saved_with}
use Rattle.firm_table.specs.Places.{MarkedLine, Place, after_lines, opening_places, restored_places, saved_after}

pub record Opened : Type 0 where
  pub heading : Heading
  pub places : List Place

-- the opening of these parts
abbrev pub opened_with : Heading → List Place → Opened
opened_with heading places = record { heading = heading; places = places }

-- what a service of this roster opens with
abbrev pub opened_roster : RosterIs → Opened
opened_roster roster = opened_with roster.heading (opening_places roster.rows)

-- what a service opens with that goes on from this state
abbrev pub opened_state : SavedIs → Opened
opened_state saved = opened_with saved.heading (restored_places saved.places)

-- the state of a service that opened so and answered these lines
abbrev pub state_after : Opened → List MarkedLine → SavedIs
state_after opened lines = saved_with opened.heading (saved_after (after_lines opened.places lines))
