-- The request in the words of a command line.
use Rattle.std.specs.Prelude.{◌≡◌, ◌<◌, ℕ, true, false, All, List, [], Option, Some, codes, get_or, length, map}
use Rattle.std.specs.Prelude.{unwrap_or}
use Rattle.std.specs.Borrow.{Bor}
use Rattle.clap.specs.Lexer.{usize_max}
use Rattle.clap.specs.Simple.{on_top}
use Rattle.clap.specs.Words.{App, Rule, Kinds, all_of, fault_of, matches_of, new_app, with_rule}
use Rattle.clap.specs.declared.builder.action.ArgAction.TheVariants.{Append}
use Rattle.firm_rules.specs.Names.{is_name}
use Rattle.firm_table.specs.declared.faults.ServeFault.TheVariants.{Memory}
use Rattle.firm_program.specs.Options.{GivesPaths, NamesFile, NamesNotOne, option_of, roster_option, state_option}
use Rattle.firm_program.specs.Faults.{status_of}
use Rattle.firm_program.specs.declared.faults.Fault.{Fault}
use Rattle.firm_program.specs.declared.faults.Fault.TheVariants.{Service, Words}
use Rattle.firm_program.specs.declared.faults.WordsFault.TheVariants.{NoTenant}
use Rattle.firm_program.specs.declared.words.Named.{Named}

-- an option of this name that has one value or more, and may come again
abbrev pub repeated_option : List ℕ → Rule
repeated_option name = record (option_of name) {
  action = Some Append;
  range = Some (record { start_inclusive = 1; end_inclusive = usize_max });
}

-- `--merge FILE..`
abbrev pub merge_option : Rule
merge_option = repeated_option (codes "merge")

-- `--tenant NAME..`
abbrev pub tenant_option : Rule
tenant_option = repeated_option (codes "tenant")

-- a program of this name that has a version, so `clap` gives it `--version` beside `--help`
abbrev pub versioned_app : App
versioned_app = on_top (λ top. record top { has_version = true }) (new_app (codes "firm_state"))

-- the command line, with these four options
abbrev pub command_line : App
command_line =
    with_rule (with_rule (with_rule (with_rule versioned_app roster_option) state_option) merge_option) tenant_option

-- why these words, the first of which is the program's name, are refused: a request for the help or the version, or
-- faults. The crate `clap` defines which words are which
abbrev pub faults_in : List (List ℕ) → Kinds
faults_in words = fault_of command_line words

-- the texts behind references
abbrev pub texts : List (Bor (List ℕ)) → List (List ℕ)
texts words = map (λ (word : Bor (List ℕ)). word.now) words

-- all values that the words give with an option of this name, in their order
abbrev pub values_given : List ℕ → List (List ℕ) → List (List ℕ)
values_given name words = unwrap_or (all_of name (matches_of command_line words)) []

-- the words give these paths of a roster and of a state, these of states to join, and these words for tenants
pub record Gives (words : List (List ℕ)) (roster state : Option (Bor (List ℕ)))
    (others tenants : List (Bor (List ℕ))) : Type 0 where
  pub paths : GivesPaths command_line words roster state
  pub others_are : texts others ≡ values_given (codes "merge") words
  pub tenants_are : texts tenants ≡ values_given (codes "tenant") words

-- a request: the file to open with, the paths of the states to join, and the names of the tenants to keep
pub record Asked : Type 0 where
  pub opening : Named
  pub others : List (List ℕ)
  pub names : List (List ℕ)

-- the words ask for this
pub record AskFor (words : List (List ℕ)) (asked : Asked) : Type 0 where
  pub file : NamesFile command_line words asked.opening
  pub others : asked.others ≡ values_given (codes "merge") words
  pub names : asked.names ≡ values_given (codes "tenant") words
  pub are_names : All (λ name. is_name name ≡ true) asked.names

-- one of these words is no name
pub record HasNoName (words : List (List ℕ)) : Type 0 where
  pub at : ℕ
  pub within : at < length words
  pub no_name : is_name (get_or words at []) ≡ false

-- why words give no names: one of them is none, or memory was refused
pub data NoNames (words : List (List ℕ)) (fault : Fault) : Type 0 where
  NotAName : HasNoName words → fault ≡ Words NoTenant → NoNames words fault
  NoMemoryForNames : fault ≡ Service Memory → NoNames words fault

-- why words without a fault by `clap`'s rule ask for nothing: they name no file to open with, or two; or those for
-- tenants give no names
pub data AskAmiss (words : List (List ℕ)) (fault : Fault) : Type 0 where
  NotOneFile : NamesNotOne command_line words → status_of fault ≡ 2 → AskAmiss words fault
  NotTenants : NoNames (values_given (codes "tenant") words) fault → AskAmiss words fault
