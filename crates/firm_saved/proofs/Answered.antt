-- The result returned for a text, by the result that the text gives.
use Rattle.std.proofs.Common.{◌≡◌, ◌∙◌, ℕ, List, Result, Ok, Err, sym, inl, inr}
use Rattle.std.specs.Prelude.{◌⊎◌, IfErr, IfOk, MatchResult}
use Rattle.firm_rules.specs.SlotCosts.{LaterSlotsCostNoLess}
use Rattle.firm_saved.specs.Saved.{IsSoundSaved, SavedIs}
use Rattle.firm_saved.specs.StateLaws.{BeginAlike}
use Rattle.firm_saved.specs.StateText.{state_text}
use Rattle.firm_saved.specs.declared.faults.FaultKind.TheVariants as fault
use Rattle.firm_saved.specs.declared.faults.StateFault.{StateFault}
use Rattle.firm_saved.specs.Reading.{state_of}
use Rattle.firm_saved.specs.inner.Returned.{GivesState}
use Rattle.firm_saved.proofs.SameFault.{first_fault, no_err}
use Rattle.firm_saved.proofs.States.{text_is}
use Rattle.firm_saved.proofs.Steps.{ok_is}

pub found_of : (result : Result SavedIs StateFault) (text : List ℕ) → GivesState result (state_of text)
    → IfOk result (λ saved. IsSoundSaved saved)
    → IfOk result (λ saved. IsSoundSaved saved × (text ≡ state_text saved))
found_of (Ok saved) text gives sound = (sound, text_is text saved gives)
found_of (Err found) text gives sound = tt

pub only_of : (result : Result SavedIs StateFault) (text : List ℕ) → GivesState result (state_of text)
    → (other : SavedIs) → IsSoundSaved other → state_of text ≡ Ok other
    → MatchResult result (λ saved. saved ≡ other) (λ found. found.kind ≡ fault.Memory)
only_of (Ok saved) text gives other sound is = ok_is {E = StateFault} saved other (sym gives ∙ is)
only_of (Err found) text (inl memory) other sound is = memory
only_of (Err found) text (inr refused) other sound is = absurd
    (no_err {E = StateFault} other found (sym is ∙ refused))

pub refused_of : (result : Result SavedIs StateFault) (text : List ℕ) → GivesState result (state_of text)
    → IfErr result (λ found. (found.kind ≡ fault.Memory) ⊎ (state_of text ≡ Err found))
refused_of (Ok saved) text gives = tt
refused_of (Err found) text gives = gives

pub first_of : LaterSlotsCostNoLess → (result : Result SavedIs StateFault) (text : List ℕ)
    → GivesState result (state_of text)
    → IfErr result (λ found. (found.kind ≡ fault.Memory) ⊎ ((other : SavedIs) → IsSoundSaved other
    → BeginAlike found.line (state_text other) text → ⊥))
first_of rises (Ok saved) text gives = tt
first_of rises (Err found) text (inl memory) = inl memory
first_of rises (Err found) text (inr refused) =
    inr (λ other sound alike. first_fault rises text found other refused sound alike)
