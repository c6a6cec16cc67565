use Rattle.std.proofs.Common.{◌≡◌, ℕ, true, false, refl, sym, ◌∙◌, subst}
use Rattle.firm_rules.specs.Book.{TenantRows, is_on}
use Rattle.firm_graph.specs.Graph.{Mirrors}
use Rattle.firm_graph.specs.inner.Steps.{moved, task_at}
use Rattle.firm_graph.proofs.Firsts.{throw-no, forgotten-at}
use Rattle.firm_graph.proofs.Turns.{evict-next}
use Rattle.firm_graph.proofs.moves.evict_task.Goals as goal

pub returns-then-not-runs_on : goal.returns-then-not-runs_on
returns-then-not-runs_on c = record {
  step = λ g mirrors rows_is hub_is below at.
      let place : ℕ = c.args.place in
      let h = forgotten-at g.rows c.args.rows.now c.args.from.name place rows_is c.requires.place in
      let off : is_on c.args.from.name (task_at g.rows place).machine ≡ false = h.machine_is c.args.from.name ∙ sym
      c.runs_on.ensures ∙ c.if-not-runs_on.true in
      subst (λ (r : TenantRows). Mirrors (moved g r c.args.net.now))
      (sym (throw-no g.rows c.args.from.name place h.below off))
      mirrors;
}

pub returns : goal.returns
returns c = record {
  step = λ g mirrors rows_is hub_is below at.
      let on : is_on c.args.from.name (task_at c.args.rows.now c.args.place).machine ≡ true = sym c.runs_on.ensures ∙
      c.if-not-runs_on.false in
      evict-next g c.args.rows.now c.args.from.name c.args.place c.args.parts.now
      (record { node = c.args.from.hub; runs = false; waited = 0 }) c.args.net.now c.place_task.new.net
      rows_is hub_is refl refl c.requires.place below at on mirrors c.place_task.ensures.placed;
}
