-- The options that the programs have in common, and what words give with them.
use Rattle.std.specs.Prelude.{◌≡◌, ◌≤◌, ℕ, false, List, [], Option, Some, None, is_some, codes, option_map}
use Rattle.std.specs.Borrow.{Bor}
use Rattle.clap.specs.Facts.{least_values}
use Rattle.clap.specs.Words.{App, IsPlainArg, Rule, fault_of, first_of, matches_of, new_rule, rule_of}
use Rattle.clap.specs.declared.builder.action.ArgAction.TheVariants.{Set}
use Rattle.clap.specs.declared.builder.arg.Arg.{Arg}
use Rattle.firm_program.specs.declared.words.Named.{Named}
use Rattle.firm_program.specs.declared.words.Named.TheVariants.{Roster, State}

-- an option of this name that has a value, as `--name VALUE`
abbrev pub option_of : List ℕ → Rule
option_of name = record (new_rule name) { long = Some name; value_names = 1; action = Some Set }

-- `--roster FILE`
abbrev pub roster_option : Rule
roster_option = option_of (codes "roster")

-- `--state FILE`
abbrev pub state_option : Rule
state_option = option_of (codes "state")

-- an argument of this rule, which excludes nothing and takes a value
pub record IsOption (rule : Rule) (option : Arg) : Type 0 where
  pub id : option.id.now ≡ rule.id
  pub rules : rule_of option ≡ rule
  pub plain : IsPlainArg option
  pub global : option.global ≡ false
  pub action : option.action ≡ Some Set
  pub delimiter : option.val_delim ≡ None
  pub least : 1 ≤ least_values option

-- an argument of this rule, which belongs to no subcommand
pub record HasRule (rule : Rule) (option : Arg) : Type 0 where
  pub rules : rule_of option ≡ rule
  pub global : option.global ≡ false

-- what words give with an option of this name, if they have it: the first value that `clap`'s rule finds
abbrev pub value_given : App → List ℕ → List (List ℕ) → Option (List ℕ)
value_given app name words = first_of name (matches_of app words)

-- the words have no fault, and give this path of a roster, and none of a state
pub record NamesRoster (app : App) (words : List (List ℕ)) (path : List ℕ) : Type 0 where
  pub well : fault_of app words ≡ []
  pub given : value_given app (codes "roster") words ≡ Some path
  pub alone : value_given app (codes "state") words ≡ None

-- the other way round
pub record NamesState (app : App) (words : List (List ℕ)) (path : List ℕ) : Type 0 where
  pub well : fault_of app words ≡ []
  pub given : value_given app (codes "state") words ≡ Some path
  pub alone : value_given app (codes "roster") words ≡ None

-- the words have no fault by `clap`'s rule, but give the paths of both, or of none
pub record NamesNotOne (app : App) (words : List (List ℕ)) : Type 0 where
  pub well : fault_of app words ≡ []
  pub alike : is_some (value_given app (codes "roster") words) ≡ is_some (value_given app (codes "state") words)

-- the words name the file to open with
abbrev pub NamesFile : App → List (List ℕ) → Named → Type 0
NamesFile app words (Roster path) = NamesRoster app words path.now
NamesFile app words (State path) = NamesState app words path.now

-- a value as it is given
abbrev pub text_of : Option (Bor (List ℕ)) → Option (List ℕ)
text_of given = option_map (λ (value : Bor (List ℕ)). value.now) given

-- the words give these paths of a roster and of a state
pub record GivesPaths (app : App) (words : List (List ℕ)) (roster state : Option (Bor (List ℕ))) : Type 0 where
  pub roster_path : text_of roster ≡ value_given app (codes "roster") words
  pub state_path : text_of state ≡ value_given app (codes "state") words
