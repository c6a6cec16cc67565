-- The outcome of a command or of adding a row, as the code of a step returns it.
use Rattle.std.specs.Prelude.{Result, Ok, Err}
use Rattle.firm_graph.specs.declared.ids.GraphRefusal.{GraphRefusal}
use Rattle.firm_graph.specs.declared.ids.GraphRefusal.TheVariants.{Nodes, Arcs, Memory as NoMemory}
use Rattle.firm_rules.specs.declared.replies.Outcome.{Outcome}
use Rattle.firm_rules.specs.declared.replies.Outcome.TheVariants.{Plain, Refused}
use Rattle.firm_rules.specs.declared.replies.Refusal.{Refusal}
use Rattle.firm_rules.specs.declared.replies.Refusal.TheVariants.{ArenaNodes, ArenaArcs, Memory}

-- the outcome of a command that was done or refused
abbrev pub outcome_of : Result Outcome Refusal → Outcome
outcome_of (Ok outcome) = outcome
outcome_of (Err refusal) = Refused refusal

-- the outcome of adding a row, done or refused
abbrev pub plain_or : Result (Unit {0}) GraphRefusal → Outcome
plain_or (Ok _) = Plain
plain_or (Err Nodes) = Refused ArenaNodes
plain_or (Err Arcs) = Refused ArenaArcs
plain_or (Err NoMemory) = Refused Memory
