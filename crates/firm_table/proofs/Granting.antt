-- The invariant, from line to line, of a service that may have to end when memory is refused to a line.
use Rattle.std.proofs.Common.{◌≡◌, ◌∙◌, ◌++◌, ◌∷◌, [], ℕ, List, ap, append-nil, sym}
use Rattle.std.specs.Prelude.{Bool, Option, map}
use Rattle.std.specs.Io.KnownBytes.{Appends}
use Rattle.std.proofs.lemmas.List.{map-append}
use Rattle.firm_text.specs.Inputs.{input_lines}
use Rattle.firm_text.specs.declared.inputs.Line.{Line}
use Rattle.firm_table.specs.Output.{unmarked}
use Rattle.firm_table.specs.Opened.{Opened}
use Rattle.firm_table.specs.Places.{MarkedLine}
use Rattle.firm_table.specs.Service.{Device, UpToDate}
use Rattle.firm_table.specs.Tenants.{TenantsState}
use Rattle.firm_table.specs.Progress.{State, Told, state_is, tenants_at}
use Rattle.firm_table.specs.inner.Granting.{IsAnswerAs, ToldAs}
use Rattle.firm_table.proofs.Progress.{front_written_of_lines, nothing_told, one_more}

module _ (all_granted : Bool) where
  -- no line was answered yet
  pub nothing_told_as : (opened : Opened) (written : Option (List ℕ))
      → ToldAs all_granted (state_is opened (tenants_at opened.places) []) [] written written
  nothing_told_as opened written =
      record { told = (nothing_told opened written).0; granted = λ all. (nothing_told opened written).1 }

  -- one line more was answered
  pub one_more_as : (state : State) (text after : List ℕ) (written now : Option (List ℕ)) (tenants : TenantsState)
      (pending : List ℕ) (line : Line) → ToldAs all_granted state text written now
      → input_lines state.opening.heading after ≡ input_lines state.opening.heading text ++ line ∷ []
      → IsAnswerAs all_granted state.tenants tenants line state.pending pending
      → ToldAs all_granted (state_is state.opening tenants pending) after written now
  one_more_as state text after written now tenants pending line p more a =
      let told = one_more state text after written now tenants pending line p.told more a.answered in
      record {
        told = told.0;
        granted = λ all.
            told.1 ∙ ap (λ (mark : Bool). p.told.lines ++ (line, mark) ∷ []) (a.granted all)
            ∙ ap (λ (lines : List MarkedLine). lines ++ unmarked line ∷ []) (p.granted all)
            ∙ sym (map-append unmarked (input_lines state.opening.heading text) (line ∷ []))
            ∙ ap (map unmarked) (sym more);
      }

  -- all that was to be written was
  pub all_written_as : (state : State) (text held : List ℕ) (written now later : Option (List ℕ))
      → ToldAs all_granted state text written now → Appends now later state.pending → held ≡ []
      → ToldAs all_granted (state_is state.opening state.tenants held) text written later
  all_written_as state text held written now later p wrote empty =
      let told = front_written_of_lines state text written now later state.pending held p.told
      (sym (append-nil state.pending) ∙ ap (λ (l : List ℕ). state.pending ++ l) (sym empty)) wrote in
      record { told = told.0; granted = λ all. told.1 ∙ p.granted all }

  -- the claims about the lines
  pub told_up_to_date : (state : State) (reader writer : Device) → UpToDate (ToldAs all_granted state) reader writer
      → UpToDate (Told state) reader writer
  told_up_to_date state reader writer u = record {
    lines = u.lines;
    rest = u.rest;
    read = u.read;
    whole = u.whole;
    in_line = u.in_line;
    told = u.told.told;
  }
