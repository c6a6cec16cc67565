-- The file that a program opens with, and the opening of a service that it gives.
use Rattle.std.specs.Prelude.{◌≡◌, ◌<◌, ◌≤◌, ℕ, List, Option, IfSome, Ok, Err, length, take}
use Rattle.firm_saved.specs.Saved.{IsSoundSaved, SavedIs}
use Rattle.firm_saved.specs.Reading.{state_of}
use Rattle.firm_saved.specs.StateText.{state_text}
use Rattle.firm_saved.specs.declared.faults.StateFault.{StateFault}
use Rattle.firm_table.specs.Opened.{Opened, opened_roster, opened_state}
use Rattle.firm_table.specs.declared.faults.ServeFault.TheVariants.{Memory}
use Rattle.firm_text.specs.Rosters.{RosterIs, roster_of}
use Rattle.firm_text.specs.declared.faults.RosterFault.{RosterFault}
use Rattle.firm_program.specs.declared.faults.Fault.{Fault}
use Rattle.firm_program.specs.declared.faults.Fault.TheVariants.{UnreadableRoster, Roster, Service}
use Rattle.firm_program.specs.declared.faults.Fault.TheVariants.{UnreadableState, LongState, State as StateFaulty}
use Rattle.firm_program.specs.declared.words.Named.{Named}
use Rattle.firm_program.specs.declared.words.Named.TheVariants.{Roster as RosterAt, State as StateAt}

-- the bytes of the file at each path, where they are known
abbrev pub KnownFiles : Type 0
KnownFiles = List ℕ → Option (List ℕ)

-- all bytes of a file, where they are known, are this text
abbrev pub IsTextOf : Option (List ℕ) → List ℕ → Type 0
IsTextOf file text = IfSome file (λ bytes. text ≡ bytes)

-- its first bytes are, this many, or all of a shorter one
abbrev pub IsFrontOf : Option (List ℕ) → ℕ → List ℕ → Type 0
IsFrontOf file most text = IfSome file (λ bytes. text ≡ take most bytes)

-- a state's file has at most this many bytes
abbrev pub longest_state : ℕ
longest_state = 41943040

-- all of a file is this roster
pub record IsReadRoster (file : Option (List ℕ)) (roster : RosterIs) : Type 0 where
  pub text : List ℕ
  pub all : IsTextOf file text
  pub judged : roster_of text ≡ Ok roster

-- all of a file is no roster, by its first fault
pub record IsNoRoster (file : Option (List ℕ)) (first : RosterFault) : Type 0 where
  pub text : List ℕ
  pub all : IsTextOf file text
  pub judged : roster_of text ≡ Err first

-- a file can't be read, or is no roster, or memory was refused
pub data RefusesRoster (file : Option (List ℕ)) (fault : Fault) : Type 0 where
  NoRosterFile : fault ≡ UnreadableRoster → RefusesRoster file fault
  NoRoster : (first : RosterFault) → fault ≡ Roster first → IsNoRoster file first → RefusesRoster file fault
  NoRosterMemory : fault ≡ Service Memory → RefusesRoster file fault

-- all of a file is the text of this state, and not too long
pub record IsReadState (file : Option (List ℕ)) (saved : SavedIs) : Type 0 where
  pub text : List ℕ
  pub all : IsTextOf file text
  pub within : length text ≤ longest_state
  pub sound : IsSoundSaved saved
  pub told : text ≡ state_text saved

-- all of a file is that of no state, by its first fault, and not too long
pub record IsNoState (file : Option (List ℕ)) (first : StateFault) : Type 0 where
  pub text : List ℕ
  pub all : IsTextOf file text
  pub within : length text ≤ longest_state
  pub judged : state_of text ≡ Err first

-- a file has more bytes than a state's may have
pub record IsTooLong (file : Option (List ℕ)) : Type 0 where
  pub text : List ℕ
  pub all : IsTextOf file text
  pub beyond : longest_state < length text

-- a file can't be read, is too long, or is that of no state, or memory was refused
pub data RefusesState (file : Option (List ℕ)) (fault : Fault) : Type 0 where
  NoStateFile : fault ≡ UnreadableState → RefusesState file fault
  LongStateFile : fault ≡ LongState → IsTooLong file → RefusesState file fault
  NoState : (first : StateFault) → fault ≡ StateFaulty first → IsNoState file first → RefusesState file fault
  NoStateMemory : fault ≡ Service Memory → RefusesState file fault

-- a service opens so with the roster that a file is
pub record OpensRoster (file : Option (List ℕ)) (opened : Opened) : Type 0 where
  pub roster : RosterIs
  pub read : IsReadRoster file roster
  pub opened_is : opened ≡ opened_roster roster

-- a service opens so with the state that a file is
pub record OpensState (file : Option (List ℕ)) (opened : Opened) : Type 0 where
  pub saved : SavedIs
  pub read : IsReadState file saved
  pub opened_is : opened ≡ opened_state saved

-- what a service opens with, by the file that is named
abbrev pub Opens : KnownFiles → Named → Opened → Type 0
Opens files (RosterAt path) opened = OpensRoster (files path.now) opened
Opens files (StateAt path) opened = OpensState (files path.now) opened

-- that file is refused
abbrev pub RefusesFile : KnownFiles → Named → Fault → Type 0
RefusesFile files (RosterAt path) fault = RefusesRoster (files path.now) fault
RefusesFile files (StateAt path) fault = RefusesState (files path.now) fault
