-- The command line as the parser's own command, and what is made of the words that its options give.
use Rattle.std.specs.Prelude.{◌≡◌, ℕ, List, All, true}
use Rattle.clap.specs.Words.{app_of}
use Rattle.clap.specs.declared.builder.command.Command.{Command}
use Rattle.firm_rules.specs.Names.{is_name}
use Rattle.firm_program.specs.Faults.{status_of}
use Rattle.firm_program.specs.Words.{AreNotOne, IsNamed}
use Rattle.firm_program.specs.declared.faults.Fault.{Fault}
use Rattle.firm_state.specs.CommandLine.{Asked, NoNames, command_line, texts}
use Rattle.firm_state.specs.declared.options.Given.{Given}
use Rattle.firm_state.specs.declared.options.Request.{Request}

-- the parser's own command is this command line
abbrev pub IsCommandLine : Command → Type 0
IsCommandLine command = app_of command ≡ command_line

-- the words are these names
pub record AreNames (words names : List (List ℕ)) : Type 0 where
  pub same : names ≡ words
  pub formed : All (λ name. is_name name ≡ true) names

-- what a request asks for
abbrev pub asked_by : Request → Asked
asked_by request =
    record { opening = request.named; others = texts request.others.items; names = request.names.items }

-- the request is what the words give
pub record AsksFor (given : Given) (request : Request) : Type 0 where
  pub named : IsNamed given.roster given.state request.named
  pub others : texts request.others.items ≡ texts given.others.items
  pub names : AreNames (texts given.tenants.items) request.names.items

-- or they give none
pub data MisasksFor (given : Given) (fault : Fault) : Type 0 where
  NotOne : AreNotOne given.roster given.state → status_of fault ≡ 2 → MisasksFor given fault
  NotNames : NoNames (texts given.tenants.items) fault → MisasksFor given fault
