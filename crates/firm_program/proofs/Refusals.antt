-- Why a file is refused, as a program's fault.
use Rattle.std.proofs.Common.{◌≡◌, ◌∙◌, ◌≤◌, ℕ, List, inl, inr, length, refl, sym}
use Rattle.std.specs.Prelude.{◌⊎◌, Option, Err, Ok}
use Rattle.firm_saved.specs.Reading.{state_of}
use Rattle.firm_saved.specs.declared.faults.FaultKind.{FaultKind}
use Rattle.firm_saved.specs.declared.faults.FaultKind.TheVariants as kind
use Rattle.firm_saved.specs.declared.faults.StateFault.{StateFault}
use Rattle.firm_text.specs.Rosters.{RosterIs, roster_of}
use Rattle.firm_text.specs.declared.faults.RosterFault.{RosterFault}
use Rattle.firm_text.specs.declared.faults.RosterFault.TheVariants.{Header, Row, BadName, BadNumber, Repeated, Count}
use Rattle.firm_text.specs.declared.faults.RosterFault.TheVariants.{Memory}
use Rattle.firm_program.specs.Faults.{fault_of_kind, fault_of_roster, fault_of_state}
use Rattle.firm_program.specs.Files.{IsFrontOf, IsReadRoster, IsTextOf, longest_state}
use Rattle.firm_program.specs.Files.{RefusesRoster, NoRoster, NoRosterMemory, RefusesState, NoState, NoStateMemory}
use Rattle.firm_program.specs.declared.faults.Fault.TheVariants.{Roster}
use Rattle.firm_program.proofs.Whole.{whole_roster}

module _ (file : Option (List ℕ)) (front : List ℕ) (is : IsFrontOf file 65537 front) where
  -- all of the file is the roster that its front is
  pub reads_roster : (roster : RosterIs) → roster_of front ≡ Ok roster → IsReadRoster file roster
  reads_roster roster judged =
      let whole = whole_roster file front is in
      record { text = whole.text; all = whole.all; judged = sym whole.same ∙ judged }

  -- or no roster, by its first fault
  no_roster : (first : RosterFault) → (first ≡ Memory → ⊥) → (first ≡ Memory) ⊎ (roster_of front ≡ Err first)
      → RefusesRoster file (Roster first)
  no_roster first named (inl memory) = absurd (named memory)
  no_roster first named (inr judged) =
      let whole = whole_roster file front is in
      NoRoster first refl (record { text = whole.text; all = whole.all; judged = sym whole.same ∙ judged })

  pub refuses_roster : (first : RosterFault) → (first ≡ Memory) ⊎ (roster_of front ≡ Err first)
      → RefusesRoster file (fault_of_roster first)
  refuses_roster Header why = no_roster Header (λ is. cc) why
  refuses_roster Row why = no_roster Row (λ is. cc) why
  refuses_roster BadName why = no_roster BadName (λ is. cc) why
  refuses_roster BadNumber why = no_roster BadNumber (λ is. cc) why
  refuses_roster Repeated why = no_roster Repeated (λ is. cc) why
  refuses_roster Count why = no_roster Count (λ is. cc) why
  refuses_roster Memory why = NoRosterMemory refl

-- a text is that of no state, by its first fault
abbrev Refused : List ℕ → StateFault → Type 0
Refused text found = (found.kind ≡ kind.Memory) ⊎ (state_of text ≡ Err found)

module _ (file : Option (List ℕ)) (text : List ℕ) (all : IsTextOf file text)
    (within : length text ≤ longest_state) where
  no_state : (found : StateFault) (k : FaultKind) → found.kind ≡ k → Refused text found
      → RefusesState file (fault_of_kind found k)
  no_state found kind.Memory is why = NoStateMemory refl
  no_state found k is (inl memory) = absurd (cc)
  no_state found k is (inr first) =
      NoState found refl (record { text = text; all = all; within = within; judged = first })

  pub refuses_state : (found : StateFault) → Refused text found → RefusesState file (fault_of_state found)
  refuses_state found why = no_state found found.kind refl why
