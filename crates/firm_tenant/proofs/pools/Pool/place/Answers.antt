use Rattle.std.proofs.Common.{◌≡◌, ◌++◌, ◌∷◌, [], ℕ, ℤ, pos, true, List, All, refl, rules, to_z, of_z, w64, ap, sym}
use Rattle.std.proofs.Common.{◌∙◌, subst}
use Rattle.circular_buffer.specs.Buffer.{Buffer, keep_last}
use Rattle.firm_rules.specs.Placement.{placement_cost}
use Rattle.firm_rules.specs.Recent.{with_cost}
use Rattle.firm_rules.specs.Round.{case_of, changes_made, rows_after}
use Rattle.firm_rules.specs.Book.{TenantRows}
use Rattle.firm_rules.specs.declared.rounds.Change.{Change}
use Rattle.firm_rules.specs.declared.rounds.Choice.{Choice}
use Rattle.firm_rules.specs.declared.replies.Outcome.{Outcome}
use Rattle.firm_rules.specs.declared.replies.Outcome.TheVariants.{Round}
use Rattle.firm_rules.specs.SoundBook.{is_cost}
use Rattle.firm_tenant.specs.inner.Pools.{Pool, Counts, placed_in}
use Rattle.firm_tenant.proofs.Entries.{costs-kept}
use Rattle.firm_tenant.proofs.pools.Pool.place.Goals as goal

-- what a placement comes to, from its parts
placed-by : (pool : Pool) (placement : List Choice) (cost : ℤ) (changes : List Change) (rows : TenantRows)
    (costs : List ℤ) (asked : ℕ) (workspace : Counts)
    → cost ≡ pos (placement_cost (case_of pool.rows) placement) → changes ≡ changes_made pool.rows placement
    → rows ≡ rows_after pool.rows placement → costs ≡ with_cost pool.costs cost → asked ≡ pool.asked
    → workspace ≡ pool.workspace
    → (let after : Outcome × Pool =
    (Round cost changes, record { rows = rows; costs = costs; asked = asked; workspace = workspace }) in after)
    ≡ placed_in pool placement
placed-by pool placement cost changes rows costs asked workspace c h r k a w = rw (k, c, h, r, a, w) refl

pub returns : goal.returns
returns c =
    let pool = c.args.self.now in
    let placement : List Choice = c.args.placement.now in
    let rows : c.self.inside.graph.rows ≡ pool.rows = ap (λ (p : Pool). p.rows) c.self.view_is in
    let kept : ℤ = to_z w64 (of_z w64 c.cost_of-cost.result) in
    let same : kept ≡ c.cost_of-cost.result = search rules in
    let cost : kept ≡ pos (placement_cost (case_of pool.rows) placement) =
    same ∙ c.cost_of-cost.ensures.cost
    ∙ ap (λ (r : TenantRows). pos (placement_cost (case_of r) placement)) (c.rows.ensures.value ∙ rows) in
    placed-by pool placement kept c.in_ok-changes.changes c.settle.new.self.rows
    c.push_back.new.self.items c.settle.new.self.asked
    (record {
      net = c.self.inside.scratch;
      proposed = record {
        tries = c.self.inside.proposals.proposer.value.tries;
        looks = c.self.inside.proposals.work.looks;
        allowed = c.self.inside.proposals.allowed;
      };
    })
    cost
    (c.in_ok-changes.ensures ∙ ap (λ (r : TenantRows). changes_made r placement) (c.rows-2.ensures.value ∙ rows))
    (c.settle.ensures.rows ∙ ap (λ (r : TenantRows). rows_after r placement) rows)
    (ap (λ (b : Buffer ℤ). b.items) c.push_back.ensures.items
    ∙ ap (λ (n : ℕ). keep_last n (c.self.inside.costs.items ++ kept ∷ [])) c.self.invariant.0
    ∙ ap (λ (p : Pool). keep_last 8 (p.costs ++ kept ∷ [])) c.self.view_is)
    (c.settle.ensures.asked ∙ ap (λ (p : Pool). p.asked) c.self.view_is)
    (ap (λ (p : Pool). p.workspace) c.self.view_is)

pub invariant_of-self : goal.invariant_of-self
invariant_of-self c =
    let kept : ℤ = to_z w64 (of_z w64 c.cost_of-cost.result) in
    let same : kept ≡ c.cost_of-cost.result = search rules in
    let cost : is_cost kept ≡ true = ap is_cost same ∙ c.cost_of-cost.ensures.within in (
      search rules,
      search rules,
      search rules,
      subst (λ (costs : List ℤ). All (λ (x : ℤ). is_cost x ≡ true) costs)
          (sym (ap (λ (b : Buffer ℤ). b.items) c.push_back.ensures.items))
          (costs-kept c.self.inside.costs.capacity c.self.inside.costs.items kept c.self.invariant.3 cost),
      search rules,
      search rules,
    )
