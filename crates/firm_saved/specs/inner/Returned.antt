-- The result returned in place of that of reading if memory runs out.
use Rattle.std.specs.Prelude.{◌≡◌, ◌⊎◌, Result, Ok, Err}
use Rattle.firm_saved.specs.declared.faults.FaultKind.{FaultKind}
use Rattle.firm_saved.specs.declared.faults.FaultKind.TheVariants as fault
use Rattle.firm_saved.specs.declared.faults.StateFault.{StateFault}

-- what was returned is what reading gives, unless memory ran out
abbrev pub Gives : {A B : Type 0} → (A → B) → Result A FaultKind → Result B FaultKind → Type 0
Gives view (Ok value) read = read ≡ Ok (view value)
Gives view (Err kind) read = (kind ≡ fault.Memory) ⊎ (read ≡ Err kind)

-- what was returned is what reading gives, or memory ran out
abbrev pub GivesState : {A : Type 0} → Result A StateFault → Result A StateFault → Type 0
GivesState (Ok value) read = read ≡ Ok value
GivesState (Err found) read = (found.kind ≡ fault.Memory) ⊎ (read ≡ Err found)
