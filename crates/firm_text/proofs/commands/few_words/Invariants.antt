use Rattle.std.proofs.Common.{◌≡◌, ◌++◌, map}
use Rattle.arrayvec.specs.ArrayVec.{array_vec_len}
use Rattle.firm_text.specs.Lines.{words}
use Rattle.firm_text.proofs.commands.few_words.Given as goal

-- `counter` words so far, which are those before the rest
abbrev pub invariant-loop : goal.invariant-loop
invariant-loop l = record {
  count : array_vec_len l.found ≡ l.counter;
  same : words l.line ≡ map (λ word. word.now) l.found.items ++ words l.rest;
}
