use Rattle.std.proofs.Common.{◌≡◌, true, List, All, sym, subst, ◌∙◌}
use Rattle.std.specs.Prelude.{ℤ}
use Rattle.firm_rules.specs.SoundBook.{is_cost}
use Rattle.firm_tenant.proofs.pools.Pool.restore.Goals as goal

pub of_graph-requires-clause-costs : goal.of_graph-requires-clause-costs
of_graph-requires-clause-costs c =
    subst (λ (costs : List ℤ). All (λ (x : ℤ). is_cost x ≡ true) costs)
    (sym (c.in_ok-costs.ensures.items ∙ c.costs.ensures.value)) c.costs.ensures.sound.costs
