-- The line read by a function that writes a tenant's line in place.
use Rattle.std.specs.Prelude.{ℕ, List, Result, Ok, Err}
use Rattle.firm_rules.specs.declared.commands.Command.{Command}
use Rattle.firm_rules.specs.declared.commands.Command.TheVariants.{Faulty}
use Rattle.firm_rules.specs.declared.commands.LineFault.{LineFault}
use Rattle.firm_text.specs.Commands.{command_or_fault}
use Rattle.firm_text.specs.declared.inputs.Line.{Line}
use Rattle.firm_text.specs.declared.inputs.Line.TheVariants.{For}

-- the line that was read, or the one that stands for the fault
abbrev pub read_or_fault : {A : Type 0} → List ℕ → Result A LineFault → Line → Line
read_or_fault tenant (Ok done) read = read
read_or_fault tenant (Err fault) read = For tenant (Faulty fault)

-- the line that gives the tenant a command, or the one that stands for the fault
abbrev pub line_to : List ℕ → Result Command LineFault → Line
line_to tenant command = For tenant (command_or_fault command)
