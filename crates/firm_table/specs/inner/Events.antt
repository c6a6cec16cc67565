-- The effect of each arm of the table's one call.
use Rattle.std.specs.Prelude.{◌≡◌, false, ◌↔◌}
use Rattle.firm_table.specs.Interleaving.{TableState}
use Rattle.firm_table.specs.Fitting.{IsEventStep, fits}
use Rattle.firm_table.specs.declared.events.Event.{Event}
use Rattle.firm_table.specs.declared.events.Answer.{Answer as EventAnswer}
use Rattle.firm_table.specs.declared.events.Answer.TheVariants.{NoMemory, NotNow}

-- the event happened as defined; it was refused exactly if it does not fit, and then changed nothing; nor did an
-- admission that found no memory
pub record IsDone (table : TableState) (event : Event) (answer : EventAnswer) (after : TableState) : Type 0 where
  pub stepped : IsEventStep table event answer after
  pub not_now : (answer ≡ NotNow) ↔ (fits table event ≡ false)
  pub unchanged : answer ≡ NotNow → after ≡ table
  pub no_memory : answer ≡ NoMemory → after ≡ table
