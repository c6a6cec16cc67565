use Rattle.std.proofs.Common.{◌≡◌, ℕ, true, List, length, arith, sym, subst}
use Rattle.std.specs.List.{All}
use Rattle.std.proofs.lemmas.List.{length-map}
use Rattle.firm_rules.specs.Placement.{IsLegal, IsPlace, is_legal}
use Rattle.firm_rules.specs.Round.{case_of, demand_of}
use Rattle.firm_rules.specs.Book.{TenantRows}
use Rattle.firm_rules.specs.declared.book.Machine.{Machine}
use Rattle.firm_rules.specs.declared.rounds.Choice.{Choice}
use Rattle.firm_graph.specs.Graph.{Graph}
use Rattle.firm_graph.specs.inner.Inside.{graph_of}
use Rattle.firm_graph.proofs.graph.Graph.settle.Goals as goal

one-each : (rows : TenantRows) (choices : List Choice) → IsLegal (case_of rows) choices
    → length choices ≡ length rows.tasks
one-each rows choices legal = omega (arith, legal.one_each, length-map rows.tasks (demand_of rows))

in-places : (rows : TenantRows) (choices : List Choice) → IsLegal (case_of rows) choices
    → All (IsPlace (length rows.machines)) choices
in-places rows choices legal =
    subst (λ (n : ℕ). All (IsPlace n) choices) (length-map rows.machines (λ (m : Machine). m.slots)) legal.places

pub settle_tasks-requires-clause-one_each : goal.settle_tasks-requires-clause-one_each
settle_tasks-requires-clause-one_each c =
    let g : Graph = graph_of c.self.inside in
    let P : Graph → Type 0 = λ (h : Graph). is_legal (case_of h.rows) c.args.choices.now ≡ true in
    one-each g.rows c.args.choices.now ((c.legality_is_judged.ensures (case_of g.rows) c.args.choices.now).yes
    (subst P (sym c.self.view_is) c.requires.legal))

pub settle_tasks-requires-clause-places : goal.settle_tasks-requires-clause-places
settle_tasks-requires-clause-places c =
    let g : Graph = graph_of c.self.inside in
    let P : Graph → Type 0 = λ (h : Graph). is_legal (case_of h.rows) c.args.choices.now ≡ true in
    in-places g.rows c.args.choices.now ((c.legality_is_judged.ensures (case_of g.rows) c.args.choices.now).yes
    (subst P (sym c.self.view_is) c.requires.legal))
