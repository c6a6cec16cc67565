use Rattle.std.proofs.Common.{◌≡◌, ◌+◌, ◌≤◌, ℕ, Bool, cond, ltb, is_some, List, ◌∷◌, length, refl, ap, ap₂, sym, ◌∙◌}
use Rattle.std.proofs.Common.{subst}
use Rattle.firm_net.specs.Net.{Net, added_of}
use Rattle.firm_rules.specs.Limits.{TenantLimits}
use Rattle.firm_rules.specs.declared.book.Job.{Job}
use Rattle.firm_graph.specs.Graph.{weight_under}
use Rattle.firm_graph.specs.Network.{away}
use Rattle.firm_graph.specs.inner.Steps.{task_at}
use Rattle.firm_graph.proofs.Drops.{wide_of, stay_of, wait_of, preferred-paired}
use Rattle.firm_graph.proofs.Places.{Rates, task-placed, step-1, step-2, step-3, step-4, step-5, rated, rest_of}
use Rattle.firm_graph.proofs.Turns.{leads-home}
use Rattle.firm_graph.proofs.moves.place_task.Goals as goal

pub returns : goal.returns
returns c = record {
  placed = λ g home p.
      let place : ℕ = c.args.place in
      let parts = c.args.parts.now in
      let leaving : ℕ = c.where_runs-leaving.result in
      let far : ℕ = c.away_cost-away.result in
      let cap : ℕ = c.where_runs.result in
      let weight : ℕ = c.weight_of-weight.result in
      let limits : c.limits-limits.result ≡ g.rows.limits = c.limits-limits.ensures.limits ∙ sym p.limits in
      let churn : c.churn.result ≡ g.rows.limits.churn = c.churn.ensures.value ∙ ap (λ (l : TenantLimits). l.churn)
      limits in
      let leaving_is : leaving ≡ cond (is_some home) g.rows.limits.churn 0 =
      c.where_runs-leaving.ensures ∙ ap₂ (λ (b : Bool) (n : ℕ). cond b n 0) p.runs churn in
      let count : c.len.result ≡ length (task_at g.rows place).preferred =
      c.len.ensures.value ∙ preferred-paired g place parts p.mirrors p.below p.its_parts in
      let far_is : far ≡ away g.rows.limits.remote (task_at g.rows place).preferred =
      c.away_cost-away.ensures.value
      ∙ ap₂ (λ (n : ℕ) (l : TenantLimits). cond (ltb 0 n) l.remote 0) count limits in
      let cap_is : cap ≡ cond (is_some home) 1 0 = c.where_runs.ensures ∙ ap (λ (b : Bool). cond b 1 0) p.runs in
      let weight_is : weight ≡ weight_under g.rows.jobs (task_at g.rows place).job =
      c.weight_of-weight.ensures.value ∙ ap₂ (λ (js : List Job) (n : List ℕ). weight_under js n) (sym p.jobs)
      (sym p.its_job) in
      let R : Net → Type 0 = λ (n : Net). Rates n c.rate.new.net parts.arcs.wide 1 (leaving + far) in
      let A : Net → Type 0 = λ (n : Net). added_of c.rate.new.net ≤ added_of n in
      let one = step-1 g place parts c.rate.new.net (leaving + far) p.mirrors p.below p.its_parts
      (subst R (sym p.over) c.rate.ensures.edit) (subst A (sym p.over) c.rate.ensures.added) in
      let two = step-2 g place parts c.rate.new.net c.rate-2.new.net (leaving + far) cap one c.rate-2.ensures.edit
      c.rate-2.ensures.added in
      let home_is = leads-home g place parts home c.rate-2.new.net c.args.stand.node
      (rated cap 0 (stay_of g place parts))
      (rated 1 (leaving + far) (wide_of g place parts) ∷ wait_of g place parts ∷ rest_of g place parts) p.mirrors
      p.below p.its_parts p.node refl two in
      let three = step-3 g place parts c.rate-2.new.net c.lead.new.net (leaving + far) cap c.args.stand.node two
      (λ row there. c.lead.ensures.edit row there (home_is row there).0 (home_is row there).1) c.lead.ensures.added in
      let four = step-4 g place parts c.lead.new.net c.rate-3.new.net c.args.stand.node (leaving + far) cap
      (weight + c.args.stand.waited + leaving) three c.rate-3.ensures.edit c.rate-3.ensures.added in
      let five = step-5 g place parts c.rate-3.new.net c.rate_preferred.new.net home c.args.stand.node
      c.args.stand.waited leaving far cap weight p.mirrors p.below p.its_parts four c.rate_preferred.ensures.rated
      p.node leaving_is cap_is weight_is far_is in
      task-placed g c.rate_preferred.new.net place parts home c.args.stand.waited p.mirrors p.below p.its_parts five;
}
