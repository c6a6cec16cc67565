-- The arcs of a task by what they are for. No public clause cites this module.
use Rattle.std.specs.Prelude.{ℕ, ◌<◌, ⊤, length, Option, Some, None}
use Rattle.firm_rules.specs.Placement.{Case}
use Rattle.firm_graph.specs.Network.{demand, preferred_at}
use Rattle.firm_graph.specs.declared.network.Key.{Key}
use Rattle.firm_graph.specs.declared.network.Key.TheVariants.{Wide, Stay, Wait, Prefer}
use Rattle.firm_canon.specs.declared.reads.TaskArc.{TaskArc}
use Rattle.firm_canon.specs.declared.reads.TaskArc.TheVariants.{Stay as StayArc, Prefer as PreferArc, Wide as WideArc}
use Rattle.firm_canon.specs.declared.reads.TaskArc.TheVariants.{Wait as WaitArc}

-- its key in the network, for the task at a place
abbrev pub key_of : ℕ → TaskArc → Key
key_of i StayArc = Stay i
key_of i (PreferArc number) = Prefer i number
key_of i WideArc = Wide i
key_of i WaitArc = Wait i

-- the task has such an arc
abbrev pub IsArcOf : Case → ℕ → TaskArc → Type 0
IsArcOf c i StayArc = ⊤
IsArcOf c i (PreferArc number) = number < length (demand c i).preferred
IsArcOf c i WideArc = ⊤
IsArcOf c i WaitArc = ⊤

-- the machine to which the arc leads, if it leads to one
abbrev pub machine_of : Case → ℕ → TaskArc → Option ℕ
machine_of c i StayArc = (demand c i).home
machine_of c i (PreferArc number) = Some (preferred_at c i number)
machine_of c i WideArc = None
machine_of c i WaitArc = None
