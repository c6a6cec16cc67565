use Rattle.std.proofs.Common.{take}
use Rattle.firm_state.specs.CommandLine.{texts}
use Rattle.firm_state.specs.Program.{JoinsAll}
use Rattle.firm_state.proofs.states.join_files.Given as goal

-- the states at the first paths, `path-index` in number, were joined
abbrev pub invariant-loop-path : goal.invariant-loop-path
invariant-loop-path g l =
    JoinsAll (g.R.FileSystem.bytes_at l.fn.rt) (texts (take l.path-index l.paths)) l.fn.saved l.joined
