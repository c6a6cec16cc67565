use Rattle.std.proofs.Common.{ℕ, length, None, [], arith, ap, sym, ◌∙◌}
use Rattle.std.proofs.lemmas.List.{get_or-map, length-map}
use Rattle.firm_rules.specs.Placement.{Case, Demand, task_at as demand_at}
use Rattle.firm_rules.specs.Round.{demand_of, weight_at}
use Rattle.firm_graph.specs.inner.Steps.{no_task, task_at}
use Rattle.firm_graph.proofs.Lookups.{weight_under-at}
use Rattle.firm_graph.proofs.moves.weight_of.Goals as goal

pub job-owner-requires : goal.job-owner-requires
job-owner-requires c =
    let rows = c.args.rows.now in
    omega (
      arith,
      c.requires,
      ap (λ (k : Case). length k.tasks) c.case.ensures,
      length-map rows.tasks (demand_of rows),
    )

pub returns-clause-value : goal.returns-clause-value
returns-clause-value c =
    let rows = c.args.rows.now in
    let none : Demand = record { home = None; preferred = []; delay = 0; job = 0 } in
    let job : Demand → ℕ = λ (d : Demand). d.job in
    c.weight_at.ensures.weight
    ∙ ap (weight_at rows)
    (c.job-owner.ensures ∙ ap (λ (k : Case). (demand_at k c.args.place).job) c.case.ensures
    ∙ ap job (get_or-map (demand_of rows) rows.tasks c.args.place no_task none c.requires))
    ∙ sym (weight_under-at rows.jobs (task_at rows c.args.place).job)
