-- The request in the words of a command line.
use Rattle.std.specs.Prelude.{◌≡◌, ℕ, Bool, true, false, IfSome, List, Option, Some, None, codes, pos}
use Rattle.std.specs.Borrow.{Bor}
use Rattle.clap.specs.Words.{App, Rule, Kinds, fault_of, matches_of, new_app, new_rule, one_of, with_rule}
use Rattle.clap.specs.declared.builder.action.ArgAction.TheVariants.{SetTrue}
use Rattle.clap.specs.declared.builder.value_parser.ValueParser.TheVariants.{Signed}
use Rattle.firm_rules.specs.Names.{is_name}
use Rattle.firm_program.specs.Options.{GivesPaths, NamesFile, NamesNotOne, option_of, roster_option, state_option}
use Rattle.firm_program.specs.Options.{text_of, value_given}
use Rattle.firm_program.specs.declared.words.Named.{Named}

-- `--tenant NAME`, the tenant whose rounds are explained; `--why TASK`, the task whose choices are all told
abbrev pub tenant_option : Rule
tenant_option = option_of (codes "tenant")

abbrev pub why_option : Rule
why_option = option_of (codes "why")

-- `--machine SLOTS`, a number from 1 to 64
abbrev pub machine_option : Rule
machine_option = record (option_of (codes "machine")) { parser = Some (Signed (pos 1) (pos 64)) }

-- `--all` and `--rows`, which have no value
abbrev pub flag_option : List ℕ → Rule
flag_option name = record (new_rule name) { long = Some name; action = Some SetTrue }

abbrev pub all_option : Rule
all_option = flag_option (codes "all")

abbrev pub rows_option : Rule
rows_option = flag_option (codes "rows")

-- the options that name a file, and those that name a tenant and a task
abbrev pub with_names : App → App
with_names app =
    with_rule (with_rule (with_rule (with_rule app roster_option) state_option) tenant_option) why_option

-- the command line, with these seven options; `clap` gives it `--help`
abbrev pub command_line : App
command_line =
    with_rule (with_rule (with_rule (with_names (new_app (codes "firm_explain"))) machine_option) all_option)
    rows_option

-- why these words, the first of which is the program's name, are refused: a request for the help, or faults. The crate
-- `clap` defines which words are which
abbrev pub faults_in : List (List ℕ) → Kinds
faults_in words = fault_of command_line words

-- the words for a tenant and for a task, if they are given
abbrev pub tenant_given : List (List ℕ) → Option (List ℕ)
tenant_given words = value_given command_line (codes "tenant") words

abbrev pub task_given : List (List ℕ) → Option (List ℕ)
task_given words = value_given command_line (codes "why") words

-- what the words say of `--rows`, as `clap` reads it
abbrev pub rows_given : List (List ℕ) → Option (List ℕ)
rows_given words = one_of (codes "rows") (matches_of command_line words)

-- whether a flag is set, by what words say of it
pub record IsFlag (given : Option (List ℕ)) (flag : Bool) : Type 0 where
  pub set : given ≡ Some (codes "true") → flag ≡ true
  pub not_set : given ≡ Some (codes "false") → flag ≡ false
  pub not_given : given ≡ None → flag ≡ false

-- the words give these paths of a roster and of a state, and these words for a tenant and a task
pub record Gives (words : List (List ℕ)) (roster state tenant task : Option (Bor (List ℕ))) : Type 0 where
  pub paths : GivesPaths command_line words roster state
  pub tenant_is : text_of tenant ≡ tenant_given words
  pub task_is : text_of task ≡ task_given words

-- the words name this file to open with; a tenant and a task, if they are given, have names
pub record AskFor (words : List (List ℕ)) (named : Named) : Type 0 where
  pub file : NamesFile command_line words named
  pub tenant : IfSome (tenant_given words) (λ word. is_name word ≡ true)
  pub task : IfSome (task_given words) (λ word. is_name word ≡ true)

-- a word is given, and is no name
pub record IsNoName (given : Option (List ℕ)) : Type 0 where
  pub word : List ℕ
  pub is : given ≡ Some word
  pub no_name : is_name word ≡ false

-- why words without a fault by `clap`'s rule ask for nothing: they name no file to open with, or two; or the word for a
-- tenant or for a task is no name
pub data AskAmiss (words : List (List ℕ)) : Type 0 where
  NotOneFile : NamesNotOne command_line words → AskAmiss words
  NoTenant : IsNoName (tenant_given words) → AskAmiss words
  NoTask : IsNoName (task_given words) → AskAmiss words
