-- How a program answers words that name nothing to run.
use Rattle.std.specs.Prelude.{◌≡◌, ◌≢◌, ◌⊎◌, ℕ, List, Option, Some, None, true, false}
use Rattle.std.specs.Borrow.{Bor}
use Rattle.std.specs.Option.{is_some}
use Rattle.std.specs.Io.KnownBytes.{Appends}
use Rattle.clap.specs.Words.{IsAmong, Kinds}
use Rattle.clap.specs.declared.error.kind.ErrorKind.{ErrorKind}
use Rattle.clap.specs.declared.error.kind.ErrorKind.TheVariants.{DisplayHelp, DisplayVersion}
use Rattle.firm_table.specs.Service.{Device}
use Rattle.firm_program.specs.declared.words.Named.{Named}
use Rattle.firm_program.specs.declared.words.Named.TheVariants.{Roster, State}

-- the one path that is given, of a roster's and a state's
abbrev pub IsNamed : Option (Bor (List ℕ)) → Option (Bor (List ℕ)) → Named → Type 0
IsNamed roster state (Roster path) = (roster ≡ Some path) × (state ≡ None)
IsNamed roster state (State path) = (roster ≡ None) × (state ≡ Some path)

-- both are given, or none
abbrev pub AreNotOne : Option (Bor (List ℕ)) → Option (Bor (List ℕ)) → Type 0
AreNotOne roster state = is_some roster ≡ is_some state

-- words with faults of these kinds ask for the help or the version
abbrev pub AskForText : Kinds → Type 0
AskForText kinds = IsAmong DisplayHelp kinds ⊎ IsAmong DisplayVersion kinds

-- and these words are at fault
pub record AreFaulty (kinds : Kinds) : Type 0 where
  pub fault : ErrorKind
  pub found : IsAmong fault kinds
  pub no_help : fault ≢ DisplayHelp
  pub no_version : fault ≢ DisplayVersion

-- some text was written
pub record WritesText (writer : Device) : Type 0 where
  pub text : List ℕ
  pub wrote : Appends writer.before writer.after text

-- how words with faults of these kinds are answered: with the help or the version they ask for, with one that could not
-- be written, with a fault of the words, or with refused memory; the last two leave the writer unchanged
pub data AnswersWords (kinds : Kinds) (writer : Device) (status : ℕ) : Type 0 where
  Informs : AskForText kinds → status ≡ 0 → WritesText writer → writer.failed ≡ false → AnswersWords kinds writer status
  CannotInform : AskForText kinds → status ≡ 5 → WritesText writer → writer.failed ≡ true
      → AnswersWords kinds writer status
  Refuses : AreFaulty kinds → status ≡ 2 → writer.after ≡ writer.before → writer.failed ≡ false
      → AnswersWords kinds writer status
  LacksMemory : status ≡ 6 → writer.after ≡ writer.before → writer.failed ≡ false → AnswersWords kinds writer status
