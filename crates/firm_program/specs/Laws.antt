-- Laws for callers about the words in `Options`, `Files` and `Runs`.
use Rattle.std.specs.Prelude.{◌≡◌, ℕ, Bool, List, [], Option, Some, None, Result, Ok, Err, MatchResult, false, true}
use Rattle.std.specs.Prelude.{is_some, refl}
use Rattle.std.specs.Borrow.{Bor}
use Rattle.std.proofs.Common.{◌∙◌, ap, ap₂, subst, sym}
use Rattle.clap.proofs.WalkLemmas.{first_value-rows}
use Rattle.clap.specs.Words.{App, FailsBy, HasMatchesOf, app_of, fault_of, first_of, first_value, found_of, is_simple}
use Rattle.clap.specs.Words.{AddsArg, Rule, is_simple_and_free, matches_of, rows_of, with_rule}
use Rattle.clap.specs.declared.builder.arg.Arg.{Arg}
use Rattle.clap.specs.declared.builder.command.Command.{Command}
use Rattle.clap.specs.declared.error.Error.{Error}
use Rattle.clap.specs.declared.parser.matches.ArgMatches.{ArgMatches}
use Rattle.firm_saved.specs.Saved.{SavedIs}
use Rattle.firm_text.specs.Rosters.{RosterIs}
use Rattle.firm_table.specs.Opened.{Opened, opened_roster, opened_state}
use Rattle.firm_table.specs.Service.{Device, ServedFrom, device}
use Rattle.firm_program.specs.Files.{IsReadRoster, IsReadState, KnownFiles, Opens, RefusesFile}
use Rattle.firm_program.specs.Options.{GivesPaths, NamesFile, NamesNotOne, NamesRoster, NamesState}
use Rattle.firm_program.specs.Options.{HasRule, IsOption, text_of, value_given}
use Rattle.firm_program.specs.Runs.{NotOpened, NotServed, ServesFile, StopsFile, StopsFrom}
use Rattle.firm_program.specs.Runs.{most_input}
use Rattle.firm_program.specs.Words.{IsNamed}
use Rattle.firm_program.specs.declared.faults.Fault.{Fault}
use Rattle.firm_program.specs.declared.words.Named.{Named}
use Rattle.firm_program.specs.declared.words.Named.TheVariants.{Roster, State}

pub has_rule : {rule : Rule} {option : Arg} → IsOption rule option → HasRule rule option
has_rule is = record { rules = is.rules; global = is.global }

-- a command that an option is added to
pub adds_option : (app : App) (rule : Rule) (before after : Command) (option : Arg) → app_of before ≡ app
    → HasRule rule option → AddsArg before option after → app_of after ≡ with_rule app rule
adds_option app rule before after option is has adds =
    adds.shape has.global ∙ ap₂ with_rule is has.rules

-- a parse fails by the faults that the parser's rule finds in the words
pub fails_by_faults : (app : App) → is_simple_and_free app ≡ true → (command : Command) → app_of command ≡ app
    → {T : Type 0} (words : List (List ℕ)) (result : Result T Error)
    → (is_simple_and_free (app_of command) ≡ true → FailsBy (fault_of (app_of command) words) result)
    → FailsBy (fault_of app words) result
fails_by_faults app simple command same words result told =
    subst (λ app. FailsBy (fault_of app words) result) same
    (told (subst (λ app. is_simple_and_free app ≡ true) (sym same) simple))

-- and it finds what the rule finds
pub finds : (app : App) → is_simple app ≡ true → (command : Command) → app_of command ≡ app
    → (words : List (List ℕ)) (m : ArgMatches) → HasMatchesOf (app_of command) words m
    → rows_of (found_of m) ≡ matches_of app words
finds app simple command same words m told =
    (told (subst (λ app. is_simple app ≡ true) (sym same) simple)).0 ∙ ap (λ app. matches_of app words) same

-- what is read of an option is the first value that the rule finds
pub finds_value : (app : App) (words : List (List ℕ)) (m : ArgMatches) (name : List ℕ) (o : Option (Bor (List ℕ)))
    → rows_of (found_of m) ≡ matches_of app words → text_of o ≡ first_value (found_of m) name
    → text_of o ≡ value_given app name words
finds_value app words m name o found got =
    got ∙ (first_value-rows (found_of m) name ∙ ap (first_of name) found)

some_path : (path : Option (Bor (List ℕ))) → is_some (text_of path) ≡ is_some path
some_path None = refl
some_path (Some path) = refl

-- what words name, by the paths that they give
module _ (app : App) (words : List (List ℕ)) (roster state : Option (Bor (List ℕ))) (well : fault_of app words ≡ [])
    (given : GivesPaths app words roster state) where
  names_roster : (path : Bor (List ℕ)) → roster ≡ Some path → state ≡ None → NamesRoster app words path.now
  names_roster path is none = record {
    well = well;
    given = sym given.roster_path ∙ ap text_of is;
    alone = sym given.state_path ∙ ap text_of none;
  }

  names_state : (path : Bor (List ℕ)) → roster ≡ None → state ≡ Some path → NamesState app words path.now
  names_state path none is = record {
    well = well;
    given = sym given.state_path ∙ ap text_of is;
    alone = sym given.roster_path ∙ ap text_of none;
  }

  pub names_not_one : is_some roster ≡ is_some state → NamesNotOne app words
  names_not_one alike = record {
    well = well;
    alike = ap (λ (o : Option (List ℕ)). is_some o) (sym given.roster_path) ∙ some_path roster ∙ alike
        ∙ sym (some_path state) ∙ ap (λ (o : Option (List ℕ)). is_some o) given.state_path;
  }

  -- the one file to open with
  pub names_file : (named : Named) → IsNamed roster state named → NamesFile app words named
  names_file (Roster path) is = names_roster path is.0 is.1
  names_file (State path) is = names_state path is.0 is.1

-- what the roster opens, and the state, that a file is
pub opens_roster : (files : KnownFiles) (path : Bor (List ℕ)) (roster : RosterIs)
    → IsReadRoster (files path.now) roster → Opens files (Roster path) (opened_roster roster)
opens_roster files path roster read = record { roster = roster; read = read; opened_is = refl }

pub opens_state : (files : KnownFiles) (path : Bor (List ℕ)) (saved : SavedIs)
    → IsReadState (files path.now) saved → Opens files (State path) (opened_state saved)
opens_state files path saved read = record { saved = saved; read = read; opened_is = refl }

-- what becomes of a service that opened with the file that is named
pub serves_or_stops : (files : KnownFiles) (named : Named) (reader writer : Device) (opened : Opened)
    → Opens files named opened → {A : Type 0} (result : Result A Fault)
    → MatchResult result (λ _. ServedFrom opened most_input reader writer) (StopsFrom opened reader writer)
    → MatchResult result (λ _. ServesFile files named reader writer) (StopsFile files named reader writer)
serves_or_stops files named reader writer opened opens (Ok done) served =
    record { opened = opened; opens = opens; served = served }
serves_or_stops files named reader writer opened opens (Err fault) stopped =
    NotServed (record { opened = opened; opens = opens; stopped = stopped })

-- a refused file leaves what would be read and written as it was
pub stops_at_file : (files : KnownFiles) (named : Named) (left written : Option (List ℕ))
    (read_failed write_failed : Bool) → read_failed ≡ false → write_failed ≡ false → (fault : Fault)
    → RefusesFile files named fault
    → StopsFile files named (device left left read_failed) (device written written write_failed) fault
stops_at_file files named left written read_failed write_failed reads writes fault refused =
    NotOpened refused (record { unread = refl; unwritten = refl; reads = reads; writes = writes })
