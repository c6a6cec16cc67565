-- How the program stops.
use Rattle.std.proofs.Common.{◌≡◌, ◌∙◌, ap, ℕ, List, Vec, Global, [], append-nil, false, inr, refl, subst, sym}
use Rattle.std.specs.Prelude.{Bool, Option, MatchResult, Result, Ok, Err}
use Rattle.std.specs.Borrow.{Bor}
use Rattle.std.specs.Io.KnownBytes.{Consumes}
use Rattle.firm_text.specs.Rosters.{RosterIs}
use Rattle.firm_saved.specs.Saved.{IsSoundSaved, SavedIs, saved_with}
use Rattle.firm_saved.specs.StateText.{state_text}
use Rattle.firm_table.specs.Ends.{ServedTo, tenants_state}
use Rattle.firm_table.specs.Opened.{Opened, opened_roster, opened_state, state_after}
use Rattle.firm_table.specs.Places.{MarkedLine}
use Rattle.firm_table.specs.Service.{Device, StoppedFrom, device}
use Rattle.firm_table.specs.Tenants.{TenantsState}
use Rattle.firm_table.specs.declared.faults.ServeFault.{ServeFault}
use Rattle.firm_table.specs.declared.faults.ServeFault.TheVariants.{Memory}
use Rattle.firm_program.specs.Runs.{most_input}
use Rattle.firm_program.specs.declared.faults.Fault.{Fault}
use Rattle.firm_program.specs.declared.faults.Fault.TheVariants.{Service}
use Rattle.firm_program.specs.Laws.{opens_roster, opens_state}
use Rattle.firm_program.specs.Files.{IsReadRoster, IsReadState, KnownFiles, Opens, RefusesRoster, RefusesState}
use Rattle.firm_program.specs.declared.words.Named.{Named}
use Rattle.firm_program.specs.declared.words.Named.TheVariants.{Roster, State}
use Rattle.firm_state.specs.CommandLine.{Asked}
use Rattle.firm_state.specs.Program.{CannotWrite, Folds, FoldsText, FoldsTo, HalfWritten, NoChange, NoFold}
use Rattle.firm_state.specs.Program.{NoText, NotChanged, NotOpened, Stopped}
use Rattle.firm_state.specs.Program.{StopsReading, StopsState, TellsState, Unwritten, WritesState, Wrote}

-- a service that wrote its replies nowhere stopped
pub stops_reading : (opened : Opened) (reader : Device) (before after : Option (List ℕ)) (cause : ServeFault)
    → StoppedFrom opened most_input reader (device before after false) cause → StopsReading reader (Service cause)
stops_reading opened reader before after cause stopped = record {
  cause = cause;
  is = refl;
  answered = stopped.answered;
  rest = stopped.rest;
  read = stopped.read;
  whole = stopped.whole;
  caused = stopped.cause;
}

-- memory was refused once all was read
pub lacks_memory : (opened : Opened) (reader : Device) (saved : SavedIs) → Folds opened reader saved
    → StopsReading reader (Service Memory)
lacks_memory opened reader saved folds = record {
  cause = Memory;
  is = refl;
  answered = folds.input;
  rest = [];
  read = subst (Consumes reader.before reader.after) (sym (append-nil folds.input)) folds.read;
  whole = inr (refl, folds.at_end, folds.reads);
  caused = (folds.reads, refl);
}

-- what becomes of a service that opened with a file
folds_or_stops : (files : KnownFiles) (named : Named) (reader : Device) (opened : Opened) → Opens files named opened
    → (result : Result (Vec ℕ Global) Fault)
    → MatchResult result (λ text. FoldsTo opened reader text.items) (StopsReading reader)
    → MatchResult result (λ text. FoldsText files named reader text.items) (NoFold files named reader)
folds_or_stops files named reader opened opens (Ok text) to = record {
  saved = to.saved;
  file = record { opened = opened; opens = opens; folds = to.folds; sound = to.sound };
  is = to.is;
}
folds_or_stops files named reader opened opens (Err fault) stopped =
    Stopped (record { opened = opened; opens = opens; stopped = stopped })

module _ (files : KnownFiles) (path : Bor (List ℕ)) where
  -- with a roster, and with a state
  pub from_roster : (reader : Device) (roster : RosterIs) → IsReadRoster (files path.now) roster
      → (result : Result (Vec ℕ Global) Fault)
      → MatchResult result (λ text. FoldsTo (opened_roster roster) reader text.items) (StopsReading reader)
      → MatchResult result (λ text. FoldsText files (Roster path) reader text.items)
      (NoFold files (Roster path) reader)
  from_roster reader roster read result to =
      folds_or_stops files (Roster path) reader (opened_roster roster) (opens_roster files path roster read) result to

  pub from_state : (reader : Device) (saved : SavedIs) → IsReadState (files path.now) saved
      → (result : Result (Vec ℕ Global) Fault)
      → MatchResult result (λ text. FoldsTo (opened_state saved) reader text.items) (StopsReading reader)
      → MatchResult result (λ text. FoldsText files (State path) reader text.items) (NoFold files (State path) reader)
  from_state reader saved read result to =
      folds_or_stops files (State path) reader (opened_state saved) (opens_state files path saved read) result to

module _ (files : KnownFiles) (path : Bor (List ℕ)) (left : Option (List ℕ)) (failed : Bool) (reads : failed ≡ false)
    (fault : Fault) where
  -- the file is refused
  pub no_roster : RefusesRoster (files path.now) fault → NoFold files (Roster path) (device left left failed) fault
  no_roster refused = NotOpened (record { unread = refl; reads = reads }) refused

  pub no_state : RefusesState (files path.now) fault → NoFold files (State path) (device left left failed) fault
  no_state refused = NotOpened (record { unread = refl; reads = reads }) refused

-- the state after the lines is not changed as asked
pub stops_changing : (files : KnownFiles) (asked : Asked) (reader : Device) (text : List ℕ) (fault : Fault)
    → FoldsText files asked.opening reader text
    → ((saved : SavedIs) → IsSoundSaved saved → text ≡ state_text saved → NoChange files asked saved fault)
    → NoText files asked reader fault
stops_changing files asked reader text fault folded change = NotChanged (record {
  saved = folded.saved;
  file = folded.file;
  unchanged = change folded.saved folded.file.sound folded.is;
})

-- the text was written, or cut off
pub writes_or_stops : (files : KnownFiles) (asked : Asked) (reader writer : Device) (text : List ℕ) {A : Type 0}
    (result : Result A Fault) → TellsState files asked reader text
    → MatchResult result (λ _. Wrote text writer) (CannotWrite text writer)
    → MatchResult result (λ _. WritesState files asked reader writer) (StopsState files asked reader writer)
writes_or_stops files asked reader writer text (Ok done) told wrote =
    record { text = text; told = told; written = wrote }
writes_or_stops files asked reader writer text (Err fault) told cut =
    HalfWritten (record { text = text; told = told; cut = cut })

-- there is no text, and nothing was written
pub stops_unwritten : (files : KnownFiles) (asked : Asked) (reader : Device) (fault : Fault)
    (written : Option (List ℕ)) (failed : Bool) → failed ≡ false → NoText files asked reader fault
    → StopsState files asked reader (device written written failed) fault
stops_unwritten files asked reader fault written failed writes none =
    Unwritten (record { unwritten = refl; writes = writes }) none

-- what a service that came to the end says of the state after it
pub folds_served : (opened : Opened) (reader writer : Device) (after : TenantsState)
    → ServedTo opened most_input reader writer after
    → Folds opened reader (saved_with opened.heading (tenants_state after))
folds_served opened reader writer after ended = record {
  input = ended.served.input;
  read = ended.served.read;
  at_end = ended.served.at_end;
  within = ended.served.within;
  reads = ended.served.reads;
  state = ap (saved_with opened.heading) ended.state
      ∙ ap (λ (lines : List MarkedLine). state_after opened lines) ended.granted;
}
