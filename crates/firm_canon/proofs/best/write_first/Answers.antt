use Rattle.std.proofs.Common.{rules, ◌≡◌, ℕ, [], ◌+◌, ◌*◌, List, length, arith, sym, ap, subst, ◌∙◌}
use Rattle.std.proofs.Math.Nat.{mul-add}
use Rattle.firm_rules.specs.ArenaUse.{arena_arcs}
use Rattle.firm_rules.specs.declared.rounds.Choice.{Choice}
use Rattle.firm_rules.specs.Placement.{Case}
use Rattle.firm_paths.specs.PriceTable.{price_of}
use Rattle.firm_graph.specs.Graph.{Graph}
use Rattle.firm_graph.specs.Ids.{view_of}
use Rattle.firm_graph.specs.View.{View, IsSameCase}
use Rattle.firm_canon.specs.Counts.{HasMadeUpTo}
use Rattle.firm_canon.specs.inner.Choosing.{Keeps}
use Rattle.firm_canon.proofs.Counts.{at_most, looked_in_all, more_since}
use Rattle.firm_canon.proofs.Graphs.{same_on, same_rows}
use Rattle.firm_canon.proofs.Starts.{ends}
use Rattle.firm_canon.proofs.best.write_first.Goals as goal
use Rattle.firm_canon.proofs.best.write_first.Goals.{After-choose_all}

pub choose_all-requires-clause-ready : goal.choose_all-requires-clause-ready
choose_all-requires-clause-ready c =
    let v : View = view_of c.start.new.graph in
    let made = c.start.ensures in
    let items : [] ≡ c.args.chosen.now.items = sym c.requires.empty in
    record {
      prices_fit = made.prices ∙ (c.requires.made_for.0 ∙ sym made.same.limits);
      scratch_fits = made.searched.searched.limits ∙ (c.requires.made_for.1 ∙ sym made.same.limits);
      keeps = subst (λ (p : List Choice). Keeps v (price_of c.start.new.prices) p) items made.keeps;
      spent = λ j l. absurd (omega (arith, l));
    }

pub returns-clause-round : goal.returns-clause-round
returns-clause-round c =
    let old : View = view_of c.args.graph.now in
    let end : View = view_of c.choose_all.new.self.graph.now in
    let s = c.start.ensures.same.case in
    let t = c.choose_all.ensures.same.case in
    let same : IsSameCase old end = record { case = t.case ∙ s.case; node = t.node ∙ s.node; arc = t.arc ∙ s.arc } in
    let tie : c.chosen-1.given.0 ≡ c.choose_all.new.self.chosen.now = search rules in
    rw tie (ends c.the_round_is_the_first.ensures old end _ c.choose_all.new.self.chosen.now.items same
    c.choose_all.ensures.ready.keeps
    (omega (arith, ap (λ (k : Case). length k.tasks) same.case)))

-- a search for each task in the flow, and two in its choice
made : (c : After-choose_all) → HasMadeUpTo c.args.scratch.now c.choose_all.new.self.scratch.now
    (3 * length c.args.graph.now.rows.tasks) (arena_arcs c.args.graph.now.rows)
made c =
    let old : Graph = c.args.graph.now in
    let tasks : ℕ = length old.rows.tasks in
    more_since old c.start.new.graph (same_rows old c.start.new.graph c.start.ensures.same)
    c.args.scratch.now c.start.new.scratch c.choose_all.new.self.scratch.now
    tasks (2 * c.task_count-tasks.result) (3 * tasks) c.start.ensures.searched c.choose_all.ensures.searched
    (omega (arith, c.task_count-tasks.ensures.rows))

pub returns-clause-searched : goal.returns-clause-searched
returns-clause-searched c =
    let tasks : ℕ = length c.args.graph.now.rows.tasks in
    let machines : ℕ = length c.args.graph.now.rows.machines in
    let tie : c.scratch-1.given.0 ≡ c.choose_all.new.self.scratch.now = search rules in
    rw tie (at_most c.args.scratch.now c.choose_all.new.self.scratch.now (3 * tasks) (tasks * (machines + 4)) _
    (made (goal.at.returns-clause-searched c).After-choose_all) (omega (arith, mul-add tasks machines 4)))

pub returns-clause-searched_few : goal.returns-clause-searched_few
returns-clause-searched_few c =
    let tie : c.scratch-1.given.0 ≡ c.choose_all.new.self.scratch.now = search rules in
    rw tie (at_most c.args.scratch.now c.choose_all.new.self.scratch.now (3 * length c.args.graph.now.rows.tasks) _ _
    (made (goal.at.returns-clause-searched_few c).After-choose_all) (omega arith))

pub returns-clause-looked_few : goal.returns-clause-looked_few
returns-clause-looked_few c =
    let tie : c.scratch-1.given.0 ≡ c.choose_all.new.self.scratch.now = search rules in
    rw tie (looked_in_all c.args.scratch.now c.choose_all.new.self.scratch.now
    (3 * length c.args.graph.now.rows.tasks) _ (made (goal.at.returns-clause-looked_few c).After-choose_all))

pub returns-clause-same : goal.returns-clause-same
returns-clause-same c =
    let tie : c.graph-1.given.0 ≡ c.choose_all.new.self.graph.now = search rules in
    subst (λ (g : Graph). g ≡ record c.args.graph.now { net = g.net }) (sym tie)
    ((same_on c.args.graph.now c.start.new.graph c.choose_all.new.self.graph.now c.start.ensures.same
    c.choose_all.ensures.same).graph)

pub returns-clause-limits : goal.returns-clause-limits
returns-clause-limits c =
    let tie : c.graph-1.given.0 ≡ c.choose_all.new.self.graph.now = search rules in
    rw tie (c.choose_all.ensures.same.limits ∙ c.start.ensures.same.limits)
