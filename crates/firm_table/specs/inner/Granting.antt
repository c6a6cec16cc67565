-- The claims of a service that may have to end when memory is refused to a line.
use Rattle.std.specs.Prelude.{◌≡◌, ℕ, Bool, true, List, Option, false, map}
use Rattle.firm_text.specs.Inputs.{input_lines}
use Rattle.firm_text.specs.declared.inputs.Line.{Line}
use Rattle.firm_table.specs.Answers.{tells_memory}
use Rattle.firm_table.specs.Output.{unmarked}
use Rattle.firm_table.specs.Tenants.{TenantsState}
use Rattle.firm_table.specs.Progress.{IsAnswer, State, Told}

-- a line was answered, and memory was not refused to it if all must be granted
pub record IsAnswerAs (all_granted : Bool) (tenants after : TenantsState) (line : Line)
    (pending pending_after : List ℕ) : Type 0 where
  pub answered : IsAnswer tenants after line pending pending_after
  pub granted : all_granted ≡ true → tells_memory answered.answer ≡ false

-- the lines of this text were answered, and memory was refused to none of them if all must be granted
pub record ToldAs (all_granted : Bool) (state : State) (text : List ℕ) (written now : Option (List ℕ)) : Type 0 where
  pub told : Told state text written now
  pub granted : all_granted ≡ true → told.lines ≡ map unmarked (input_lines state.opening.heading text)
