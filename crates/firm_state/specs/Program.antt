-- The meaning of the program's exit status for the bytes read and written.
use Rattle.std.specs.Prelude.{◌≡◌, ◌≤◌, ◌<◌, ◌++◌, ℕ, All, List, [], ◌∷◌, Result, Ok, Err, true, false, get_or, is_some}
use Rattle.std.specs.Prelude.{Option}
use Rattle.std.specs.Prelude.{length, map, take}
use Rattle.std.specs.Io.KnownBytes.{Appends, Consumes, IsAtEnd}
use Rattle.firm_text.specs.Commands.{◌>>=◌}
use Rattle.firm_text.specs.Inputs.{input_lines}
use Rattle.firm_text.specs.declared.operator.OperatorRefusal.TheVariants.{NoSuchTenant}
use Rattle.firm_parts.specs.Parts.{book_in, cut_state, joined_state}
use Rattle.firm_parts.specs.declared.joining.JoinFault.{JoinFault}
use Rattle.firm_saved.specs.Saved.{IsSoundSaved, SavedIs}
use Rattle.firm_saved.specs.StateText.{state_text}
use Rattle.firm_table.specs.Output.{unmarked}
use Rattle.firm_table.specs.Opened.{Opened, state_after}
use Rattle.firm_table.specs.Service.{AreWholeLines, Device, IsCause}
use Rattle.firm_table.specs.declared.faults.ServeFault.{ServeFault}
use Rattle.firm_table.specs.declared.faults.ServeFault.TheVariants.{Memory, Write}
use Rattle.firm_program.specs.Faults.{status_of}
use Rattle.firm_program.specs.Files.{IsReadState, KnownFiles, Opens, RefusesFile, RefusesState}
use Rattle.firm_program.specs.Runs.{IsUnread, IsUntouched, IsUnwritten, most_input}
use Rattle.firm_program.specs.Words.{AnswersWords}
use Rattle.firm_program.specs.declared.faults.Fault.{Fault}
use Rattle.firm_program.specs.declared.faults.Fault.TheVariants.{Service, Tenant}
use Rattle.firm_program.specs.declared.words.Named.{Named}
use Rattle.firm_state.specs.CommandLine.{AskAmiss, AskFor, Asked, faults_in}

-- everything left to read was read, and this is the state after its lines, memory being refused to none of them
pub record Folds (opened : Opened) (reader : Device) (saved : SavedIs) : Type 0 where
  pub input : List ℕ
  pub read : Consumes reader.before reader.after input
  pub at_end : IsAtEnd reader.after
  pub within : length input ≤ most_input
  pub reads : reader.failed ≡ false
  pub state : saved ≡ state_after opened (map unmarked (input_lines opened.heading input))

-- and this is its text
pub record FoldsTo (opened : Opened) (reader : Device) (text : List ℕ) : Type 0 where
  pub saved : SavedIs
  pub sound : IsSoundSaved saved
  pub folds : Folds opened reader saved
  pub is : text ≡ state_text saved

-- a service opened with the file that is named, and came to the end of the input in this state
pub record FoldsFile (files : KnownFiles) (named : Named) (reader : Device) (saved : SavedIs) : Type 0 where
  pub opened : Opened
  pub opens : Opens files named opened
  pub folds : Folds opened reader saved
  pub sound : IsSoundSaved saved

-- and this is its text
pub record FoldsText (files : KnownFiles) (named : Named) (reader : Device) (text : List ℕ) : Type 0 where
  pub saved : SavedIs
  pub file : FoldsFile files named reader saved
  pub is : text ≡ state_text saved

-- a service stopped: whole lines and a rest were read, and the fault has its cause, which is no failed write
pub record StopsReading (reader : Device) (fault : Fault) : Type 0 where
  pub cause : ServeFault
  pub is : fault ≡ Service cause
  pub answered : List ℕ
  pub rest : List ℕ
  pub read : Consumes reader.before reader.after (answered ++ rest)
  pub whole : AreWholeLines answered rest reader
  pub caused : IsCause cause (answered ++ rest) most_input reader.failed false

-- a service opened with the file that is named, and stopped
pub record StopsService (files : KnownFiles) (named : Named) (reader : Device) (fault : Fault) : Type 0 where
  pub opened : Opened
  pub opens : Opens files named opened
  pub stopped : StopsReading reader fault

-- why there is no state after the lines: the file is refused, and nothing was read; or the service stopped
pub data NoFold (files : KnownFiles) (named : Named) (reader : Device) (fault : Fault) : Type 0 where
  NotOpened : IsUnread reader → RefusesFile files named fault → NoFold files named reader fault
  Stopped : StopsService files named reader fault → NoFold files named reader fault

-- the state to which these are joined, one after the other
abbrev pub all_joined : SavedIs → List SavedIs → Result SavedIs JoinFault
all_joined saved [] = Ok saved
all_joined saved (other ∷ rest) = joined_state saved other >>= λ more. all_joined more rest

-- the state with the tenants of these names alone, or with all where no name is given
abbrev pub kept : List (List ℕ) → SavedIs → SavedIs
kept [] saved = saved
kept (name ∷ rest) saved = cut_state (name ∷ rest) saved

-- a state, and the path of its file
pub record FromFile : Type 0 where
  pub path : List ℕ
  pub saved : SavedIs

-- the states of the files at these paths, each once and in this order, were joined to a state, which became the other
pub record JoinsAll (files : KnownFiles) (paths : List (List ℕ)) (saved both : SavedIs) : Type 0 where
  pub others : List FromFile
  pub named : map (λ (other : FromFile). other.path) others ≡ paths
  pub read : All (λ (other : FromFile). IsReadState (files other.path) other.saved) others
  pub whole : all_joined saved (map (λ (other : FromFile). other.saved) others) ≡ Ok both

-- a tenant of the state that a file is finds no place in this one: the first that doesn't, and why
pub record NotJoined (file : Option (List ℕ)) (before : SavedIs) (fault : Fault) : Type 0 where
  pub other : SavedIs
  pub read : IsReadState file other
  pub first : JoinFault
  pub refused : joined_state before other ≡ Err first
  pub is : fault ≡ Tenant first.tenant first.refusal

-- why a state is not joined to this one: its file is refused, or a tenant finds no place
pub data RefusesOther (file : Option (List ℕ)) (before : SavedIs) (fault : Fault) : Type 0 where
  NotRead : RefusesState file fault → RefusesOther file before fault
  NoPlace : NotJoined file before fault → RefusesOther file before fault

-- of the states to join, those of the files at these paths, the first were joined, this many, and the next is refused
pub record StopsJoining (files : KnownFiles) (paths : List (List ℕ)) (saved : SavedIs) (fault : Fault) : Type 0 where
  pub so_far : ℕ
  pub fewer : so_far < length paths
  pub before : SavedIs
  pub joins : JoinsAll files (take so_far paths) saved before
  pub next : RefusesOther (files (get_or paths so_far [])) before fault

-- a state was cut to the tenants of these names, if there are names: each of them is there
pub record CutsTo (names : List (List ℕ)) (both after : SavedIs) : Type 0 where
  pub there : All (λ name. is_some (book_in both.places name) ≡ true) names
  pub cut : after ≡ kept names both

-- this is the first of the names that no tenant of the state has
pub record IsMissing (names : List (List ℕ)) (both : SavedIs) (name : List ℕ) : Type 0 where
  pub at : ℕ
  pub within : at < length names
  pub found : get_or names at name ≡ name
  pub before : All (λ name. is_some (book_in both.places name) ≡ true) (take at names)
  pub gone : is_some (book_in both.places name) ≡ false

-- it can't be cut, since no tenant has that name
pub record StopsCutting (names : List (List ℕ)) (both : SavedIs) (fault : Fault) : Type 0 where
  pub name : List ℕ
  pub missing : IsMissing names both name
  pub is : fault ≡ Tenant name NoSuchTenant

-- the states of the files at the paths were joined to a state, which then was cut to the names, and became the other
pub record Changed (files : KnownFiles) (asked : Asked) (saved after : SavedIs) : Type 0 where
  pub both : SavedIs
  pub joins : JoinsAll files asked.others saved both
  pub cuts : CutsTo asked.names both after

-- it is sound, and this is its text
pub record ChangesText (files : KnownFiles) (asked : Asked) (saved : SavedIs) (text : List ℕ) : Type 0 where
  pub after : SavedIs
  pub changed : Changed files asked saved after
  pub sound : IsSoundSaved after
  pub is : text ≡ state_text after

-- a name is missing once all others are joined
pub record StopsMissing (files : KnownFiles) (asked : Asked) (saved : SavedIs) (fault : Fault) : Type 0 where
  pub both : SavedIs
  pub joins : JoinsAll files asked.others saved both
  pub cutting : StopsCutting asked.names both fault

-- why a state is not changed so: another is not joined to it, a name is missing, or memory was refused
pub data NoChange (files : KnownFiles) (asked : Asked) (saved : SavedIs) (fault : Fault) : Type 0 where
  NotAllJoined : StopsJoining files asked.others saved fault → NoChange files asked saved fault
  NotThere : StopsMissing files asked saved fault → NoChange files asked saved fault
  NoMemoryToChange : fault ≡ Service Memory → NoChange files asked saved fault

-- all was read, and this is the text of the state after it, changed as asked
pub record TellsState (files : KnownFiles) (asked : Asked) (reader : Device) (text : List ℕ) : Type 0 where
  pub saved : SavedIs
  pub file : FoldsFile files asked.opening reader saved
  pub changed : ChangesText files asked saved text

-- all was read, and the state after it is not changed so
pub record StopsChanging (files : KnownFiles) (asked : Asked) (reader : Device) (fault : Fault) : Type 0 where
  pub saved : SavedIs
  pub file : FoldsFile files asked.opening reader saved
  pub unchanged : NoChange files asked saved fault

-- the reason why there is no text of the requested state
pub data NoText (files : KnownFiles) (asked : Asked) (reader : Device) (fault : Fault) : Type 0 where
  NotFolded : NoFold files asked.opening reader fault → NoText files asked reader fault
  NotChanged : StopsChanging files asked reader fault → NoText files asked reader fault

-- this text was written
pub record Wrote (text : List ℕ) (writer : Device) : Type 0 where
  pub wrote : Appends writer.before writer.after text
  pub writes : writer.failed ≡ false

-- a front of it was, maybe all of it, and a write or a flush failed
pub record CannotWrite (text : List ℕ) (writer : Device) (fault : Fault) : Type 0 where
  pub is : fault ≡ Service Write
  pub count : ℕ
  pub few : count ≤ length text
  pub wrote : Appends writer.before writer.after (take count text)
  pub failed : writer.failed ≡ true

-- the text of the requested state was written
pub record WritesState (files : KnownFiles) (asked : Asked) (reader writer : Device) : Type 0 where
  pub text : List ℕ
  pub told : TellsState files asked reader text
  pub written : Wrote text writer

-- or it was cut off
pub record CutsOff (files : KnownFiles) (asked : Asked) (reader writer : Device) (fault : Fault) : Type 0 where
  pub text : List ℕ
  pub told : TellsState files asked reader text
  pub cut : CannotWrite text writer fault

-- how the program stops: there is no text, and nothing is written; or a write failed
pub data StopsState (files : KnownFiles) (asked : Asked) (reader writer : Device) (fault : Fault) : Type 0 where
  Unwritten : IsUnwritten writer → NoText files asked reader fault → StopsState files asked reader writer fault
  HalfWritten : CutsOff files asked reader writer fault → StopsState files asked reader writer fault

-- how the program ends: its words ask for a state, which it wrote, or it stopped with a fault's status; or the words
-- have their forms but ask for none, and are refused, or they were answered: then nothing was read
pub data Exits (files : KnownFiles) (words : List (List ℕ)) (reader writer : Device) (status : ℕ) : Type 0 where
  Writes : (asked : Asked) → AskFor words asked → status ≡ 0 → WritesState files asked reader writer
      → Exits files words reader writer status
  Stops : (asked : Asked) → AskFor words asked → (fault : Fault) → status ≡ status_of fault
      → StopsState files asked reader writer fault
      → Exits files words reader writer status
  AsksAmiss : faults_in words ≡ [] → (fault : Fault) → status ≡ status_of fault → AskAmiss words fault
      → IsUntouched reader writer
      → Exits files words reader writer status
  NamesNothing : IsUnread reader → AnswersWords (faults_in words) writer status
      → Exits files words reader writer status
