use Rattle.std.proofs.Common.{◌≡◌, ◌+◌, ◌≤◌, ℕ, Option, set, sym, ap, ◌∙◌, arith}
use Rattle.std.specs.Prelude.{slice_index_or}
use Rattle.std.specs.Map.{values_of}
use Rattle.firm_rules.specs.Placement.{Case, task_at}
use Rattle.firm_rules.specs.inner.Demands.{placed}
use Rattle.firm_rules.specs.inner.Tables.{given_home, weight_in}
use Rattle.firm_rules.specs.declared.book.Task.{Task}
use Rattle.firm_rules.proofs.TableLemmas.{entry-at}
use Rattle.firm_rules.proofs.tables.settle_demand.Goals as goal

pub place-requires-clause-delay : goal.place-requires-clause-delay
place-requires-clause-delay g c =
    let rows = values_of c.args.tasks.now.entries in
    let task : Task = c.in-Some.task.now in
    let read = entry-at c.args.tasks.now.entries c.args.number c.in-Some.field-0-0.now task c.in-Some.ensures.entry in
    let few : (slice_index_or rows c.args.number task).waited ≤ 1000000 =
    c.requires.waited c.args.number task c.requires.row in
    omega (arith, c.weight_at.ensures.most, c.from.ensures, ap (λ (t : Task). t.waited) (read.1 task), few)

pub returns : goal.returns
returns g c d =
    let case : Case = c.args.case.now in
    let number = c.args.number in
    let rows = values_of c.args.tasks.now.entries in
    let jobs = values_of c.args.jobs.now.entries in
    let task : Task = c.in-Some.task.now in
    let read = entry-at c.args.tasks.now.entries number c.in-Some.field-0-0.now task c.in-Some.ensures.entry in
    let weight : c.weight_at.result ≡ weight_in jobs (task_at case number).job =
    c.weight_at.ensures.weight ∙ ap (weight_in jobs) c.job.ensures in
    let waited : c.from.result ≡ (slice_index_or rows number d).waited =
    c.from.ensures ∙ sym (ap (λ (t : Task). t.waited) (read.1 d)) in
    let delay : c.weight_at.result + c.from.result
    ≡ weight_in jobs (task_at case number).job + (slice_index_or rows number d).waited =
    omega (arith, weight, waited) in
    c.place.ensures
    ∙ ap (λ (home : Option ℕ). let k : Case = record case {
      tasks = set case.tasks number
          (placed home (c.weight_at.result + c.from.result) (task_at case number));
    } in k) c.given_home.ensures
    ∙ ap (λ (n : ℕ). let k : Case = record case {
      tasks = set case.tasks number
          (placed (given_home c.args.choice) n (task_at case number));
    } in k) delay
