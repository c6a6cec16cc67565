use Rattle.std.proofs.Common.{◌≡◌, ◌≤◌, [], drop, length, map}
use Rattle.firm_text.specs.Commands.{preferring}
use Rattle.firm_text.proofs.commands.preferences.Given as goal

-- the words so far gave these preferences, which are no more
abbrev pub invariant-loop-word : goal.invariant-loop-word
invariant-loop-word l = record {
  same : preferring [] (map (λ word. word.now) l.words)
      ≡ preferring l.preferred (map (λ word. word.now) (drop l.word-index l.words));
  few : length l.preferred ≤ l.word-index;
}
