use Rattle.std.proofs.Common.{◌≡◌, [], length}
use Rattle.firm_saved.specs.Lines.{costs_at, words_behind}
use Rattle.firm_saved.proofs.row_lines.costs_at.Given as goal

-- those so far and the words that are left give all of them
abbrev pub invariant-loop-word : goal.invariant-loop-word
invariant-loop-word l = costs_at l.costs (words_behind l.rest) ≡ costs_at [] (words_behind l.behind)

abbrev pub decreases-loop-word : goal.decreases-loop-word
decreases-loop-word l = length (words_behind l.rest)
