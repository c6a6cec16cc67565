-- The meaning of the program's exit status for the bytes read and the replies written, whatever the reasons are.
use Rattle.std.specs.Prelude.{◌≡◌, ℕ, List, []}
use Rattle.firm_table.specs.Service.{Device}
use Rattle.firm_table.specs.declared.faults.ServeFault.TheVariants.{Write}
use Rattle.firm_program.specs.Faults.{status_of}
use Rattle.firm_program.specs.Files.{KnownFiles}
use Rattle.firm_program.specs.Runs.{IsUnread, IsUntouched, ServesFile, StopsFile}
use Rattle.firm_program.specs.Words.{AnswersWords}
use Rattle.firm_program.specs.declared.faults.Fault.{Fault}
use Rattle.firm_program.specs.declared.faults.Fault.TheVariants.{Service}
use Rattle.firm_program.specs.declared.words.Named.{Named}
use Rattle.firm_explain.specs.CommandLine.{AskAmiss, AskFor, faults_in}

-- how the program stops once it has the path of its file: as `firm` does, or after all replies, with the fault of a
-- failed write, which is one of reasons
pub data StopsExplaining (files : KnownFiles) (named : Named) (reader replies : Device) (fault : Fault) : Type 0 where
  StopsServing : StopsFile files named reader replies fault → StopsExplaining files named reader replies fault
  LosesReasons : fault ≡ Service Write → ServesFile files named reader replies
      → StopsExplaining files named reader replies fault

-- how the program ends: its words ask for the rounds of a service that opens with a file, and it wrote the replies to
-- all of the input, byte for byte as `firm` writes them, or it stopped with a fault's status; or the words have their
-- forms but ask for none, and are refused, or they were answered: then nothing was read
pub data Exits (files : KnownFiles) (words : List (List ℕ)) (reader replies : Device) (status : ℕ) : Type 0 where
  Explains : (named : Named) → AskFor words named → status ≡ 0 → ServesFile files named reader replies
      → Exits files words reader replies status
  Stops : (named : Named) → AskFor words named → (fault : Fault) → status ≡ status_of fault
      → StopsExplaining files named reader replies fault
      → Exits files words reader replies status
  AsksAmiss : faults_in words ≡ [] → AskAmiss words → status ≡ 2 → IsUntouched reader replies
      → Exits files words reader replies status
  NamesNothing : IsUnread reader → AnswersWords (faults_in words) replies status
      → Exits files words reader replies status
