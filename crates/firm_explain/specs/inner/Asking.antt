-- The command line as the parser's own command, what is made of the words that its options give,
-- and how the program ends after a service.
use Rattle.std.specs.Prelude.{◌≡◌, ℕ, Bool, true, false, IfSome, List, Option, Result, Ok, Err}
use Rattle.std.specs.Borrow.{Bor}
use Rattle.clap.specs.Words.{app_of}
use Rattle.clap.specs.declared.builder.command.Command.{Command}
use Rattle.firm_rules.specs.Names.{is_name}
use Rattle.firm_table.specs.declared.faults.ServeFault.{ServeFault}
use Rattle.firm_table.specs.declared.faults.ServeFault.TheVariants.{Write}
use Rattle.firm_program.specs.Faults.{status_of}
use Rattle.firm_program.specs.Options.{text_of}
use Rattle.firm_program.specs.Words.{AreNotOne, IsNamed}
use Rattle.firm_program.specs.declared.faults.Fault.{Fault}
use Rattle.firm_program.specs.declared.faults.Fault.TheVariants.{Service}
use Rattle.firm_program.specs.declared.words.Named.{Named}
use Rattle.firm_explain.specs.CommandLine.{IsNoName, command_line}
use Rattle.firm_explain.specs.declared.options.Given.{Given}

-- the parser's own command is this command line
abbrev pub IsCommandLine : Command → Type 0
IsCommandLine command = app_of command ≡ command_line

-- a word that is given is a name
abbrev pub IsNameIfGiven : Option (Bor (List ℕ)) → Type 0
IsNameIfGiven given = IfSome (text_of given) (λ word. is_name word ≡ true)

-- the words give this file, and a tenant and a task, if they are given, have names
pub record AsksFor (given : Given) (named : Named) : Type 0 where
  pub named_is : IsNamed given.roster given.state named
  pub tenant : IsNameIfGiven given.tenant
  pub task : IsNameIfGiven given.why

-- or they give not one file, or a word that is no name
pub data MisasksFor (given : Given) (fault : Fault) : Type 0 where
  NotOne : AreNotOne given.roster given.state → status_of fault ≡ 2 → MisasksFor given fault
  NoTenantNamed : IsNoName (text_of given.tenant) → status_of fault ≡ 2 → MisasksFor given fault
  NoTaskNamed : IsNoName (text_of given.why) → status_of fault ≡ 2 → MisasksFor given fault

-- what the program ends with, after a service that says whether reasons could not be written
abbrev pub EndsAs : {A : Type 0} → Result Bool ServeFault → Result A Fault → Type 0
EndsAs (Ok has_lost) (Ok done) = has_lost ≡ false
EndsAs (Ok has_lost) (Err fault) = (has_lost ≡ true) × (fault ≡ Service Write)
EndsAs (Err cause) (Ok done) = ⊥
EndsAs (Err cause) (Err fault) = fault ≡ Service cause
