use Rattle.std.proofs.Common.{take}
use Rattle.firm_state.specs.CommandLine.{texts}
use Rattle.firm_state.specs.inner.Options.{AreNames}
use Rattle.firm_state.proofs.options.names_of.Given as goal

-- the first words, `word-index` in number, are names
abbrev pub invariant-loop-word : goal.invariant-loop-word
invariant-loop-word l = AreNames (texts (take l.word-index l.words)) l.names.items
