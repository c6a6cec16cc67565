use Rattle.std.proofs.Common.{◌≡◌, [], length}
use Rattle.firm_saved.specs.Lines.{names_at, words_behind}
use Rattle.firm_saved.proofs.row_lines.names_at.Given as goal

-- those so far and the words that are left give all of them
abbrev pub invariant-loop-word : goal.invariant-loop-word
invariant-loop-word l = names_at l.preferred (words_behind l.rest) ≡ names_at [] (words_behind l.behind)

abbrev pub decreases-loop-word : goal.decreases-loop-word
decreases-loop-word l = length (words_behind l.rest)
