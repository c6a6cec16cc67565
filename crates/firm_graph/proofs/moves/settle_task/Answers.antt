use Rattle.std.proofs.Common.{◌≡◌, ◌+◌, ◌≤◌, ℕ, false, is_some, List, ap, ap₂, sym, ◌∙◌, subst}
use Rattle.firm_net.specs.Net.{Net, added_of}
use Rattle.firm_rules.specs.declared.book.Job.{Job}
use Rattle.firm_rules.specs.declared.book.Task.{Task}
use Rattle.firm_graph.specs.declared.ids.TaskParts.{TaskParts}
use Rattle.firm_graph.specs.Graph.{Mirrors, weight_under}
use Rattle.firm_graph.specs.inner.Steps.{moved, with_task_at, task_at, no_task}
use Rattle.firm_graph.proofs.Places.{Rates}
use Rattle.firm_graph.proofs.Stays.{both-wait, kept-whole, kept-but-wait}
use Rattle.firm_graph.proofs.moves.settle_task.Goals as goal

pub returns-then-waited_at-stand : goal.returns-then-waited_at-stand
returns-then-waited_at-stand c = record {
  settled = λ g home p read.
      let place : ℕ = c.args.place in
      let parts : TaskParts = c.args.parts.now in
      let same : (task_at g.rows place).machine ≡ home =
      both-wait (task_at g.rows place).machine home
      (ap (λ (t : Task). is_some t.machine) read ∙ sym c.is_running.ensures ∙ c.if-is_running.false)
      (sym p.runs ∙ c.if-stand.false) in
      subst (λ (n : Net). Mirrors (moved g (with_task_at g.rows place home c.args.stand.waited) n)) p.over
      (kept-whole g place parts home c.args.stand.waited p.mirrors p.below p.its_parts same
      (ap (λ (t : Task). t.waited) read ∙ sym (c.waited_at.ensures no_task) ∙ c.if-waited_at-stand.true));
}

pub returns : goal.returns
returns c = record {
  settled = λ g home p read.
      let place : ℕ = c.args.place in
      let parts : TaskParts = c.args.parts.now in
      let weight : ℕ = c.weight_of-weight.result in
      let waits : is_some home ≡ false = sym p.runs ∙ c.if-stand.false in
      let same : (task_at g.rows place).machine ≡ home =
      both-wait (task_at g.rows place).machine home
      (ap (λ (t : Task). is_some t.machine) read ∙ sym c.is_running.ensures ∙ c.if-is_running.false) waits in
      let weight_is : weight ≡ weight_under g.rows.jobs (task_at g.rows place).job =
      c.weight_of-weight.ensures.value ∙ ap₂ (λ (js : List Job) (n : List ℕ). weight_under js n) (sym p.jobs)
      (sym p.its_job) in
      let R : Net → Type 0 = λ (n : Net). Rates n c.rate.new.net parts.arcs.wait 1 (weight + c.args.stand.waited) in
      let A : Net → Type 0 = λ (n : Net). added_of c.rate.new.net ≤ added_of n in
      kept-but-wait g place parts home c.rate.new.net c.args.stand.waited weight p.mirrors p.below p.its_parts same
      waits weight_is (subst R (sym p.over) c.rate.ensures.edit) (subst A (sym p.over) c.rate.ensures.added);
}
