use Rattle.std.proofs.Common.{arith, List, length, ap, rules}
use Rattle.firm_paths.specs.declared.search.Visit.{Visit}
use Rattle.firm_paths.proofs.scratch.Scratch.new.Goals as goal

pub invariant_of-result : goal.invariant_of-result
invariant_of-result c = (
  c.in_ok-labels.ensures.size,
  c.in_ok-reach.ensures.size,
  c.in_ok-labels.ensures.idle,
  c.in_ok-reach.ensures.agree,
  c.in_ok-labels.ensures.capacity,
  c.in_ok-reach.ensures.capacity,
  c.in_ok-steps.ensures.capacity,
  search rules,
  λ k l. absurd (omega (arith, l, ap (λ (vs : List Visit). length vs) c.in_ok-reach.ensures.none)),
)
