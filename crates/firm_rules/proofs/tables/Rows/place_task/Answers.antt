use Rattle.std.proofs.Common.{◌≡◌, ◌<◌, ◌≤◌, ◌+◌, ◌-◌, ℕ, Bool, true, false, Option, IfSome, length, set, sym, ap}
use Rattle.std.proofs.Common.{subst, ◌∙◌, arith}
use mir.Syntax.{w64}
use mir.Val.{Fits}
use Rattle.firm_rules.specs.Book.{TenantRows}
use Rattle.firm_rules.specs.Placement.{Case, task_at}
use Rattle.firm_rules.specs.Round.{machine_place, weight_at}
use Rattle.firm_rules.specs.inner.Demands.{placed}
use Rattle.firm_rules.proofs.CaseKept.{kept, sound-rows, slots-counted, tasks-counted, running-few}
use Rattle.firm_rules.proofs.CaseLaws.{case-with_task_placed}
use Rattle.firm_rules.proofs.SoundRows.{one_if, one_if-from_bool}
use Rattle.firm_rules.proofs.TableLemmas.{tables-placed, ran-le}
use Rattle.firm_rules.proofs.tables.Rows.place_task.Goals as goal

longer : {weight its more waited : ℕ} → weight ≡ its → more ≡ waited → weight + more ≡ its + waited
longer is same = omega (arith, is, same)

pub overflow_sub-self : goal.overflow_sub-self
overflow_sub-self g c =
    ran-le c.self.invariant.tables c.self.view_is c.args.place c.requires.there
    (λ d. c.from.ensures ∙ one_if-from_bool c.place_at-ran.result ∙ ap one_if (c.place_at-ran.ensures.ran d))

pub invariant_of-self : goal.invariant_of-self
invariant_of-self g c =
    let rows : TenantRows = c.args.self.now in
    let was : Case = c.self.inside.case in
    let place = c.args.place in
    let all = tables-placed c.self.invariant.tables c.self.view_is place c.args.machine c.args.waited c.requires.there
    c.requires.machine_there c.requires.room c.requires.waited c.requires.running c.place_at-ran.ensures.names
    c.place_at-ran.ensures.tasks
    (λ d. c.from.ensures ∙ one_if-from_bool c.place_at-ran.result ∙ ap one_if (c.place_at-ran.ensures.ran d))
    (c.from-2.ensures ∙ one_if-from_bool c.is_some.result ∙ ap one_if c.is_some.ensures) in
    let weight : c.weight_at.result ≡ weight_at rows (task_at was place).job =
    c.weight_at.ensures.weight ∙ ap (λ (r : TenantRows). weight_at r c.job.result) c.self.view_is
    ∙ ap (weight_at rows) c.job.ensures in
    let delay : c.weight_at.result + c.from-3.result ≡ weight_at rows (task_at was place).job + c.args.waited =
    longer weight c.from-3.ensures in
    record {
      tables = all.tables;
      case = kept (λ (case : Case). let k : Case = record case {
        tasks = set case.tasks place
            (placed (machine_place rows c.args.machine) (weight_at rows (task_at case place).job + c.args.waited)
            (task_at case place));
      } in k)
          c.self.invariant.case c.self.view_is
          (c.place.ensures
          ∙ ap (λ (home : Option ℕ). let k : Case = record was {
            tasks = set was.tasks place
                (placed home (c.weight_at.result + c.from-3.result) (task_at was place));
          } in k) c.home_of-home.ensures.place
          ∙ ap (λ (n : ℕ). let k : Case = record was {
            tasks = set was.tasks place
                (placed (machine_place rows c.args.machine) n (task_at was place));
          } in k) delay)
          (case-with_task_placed rows (sound-rows c.self.invariant c.self.view_is) place c.args.machine c.args.waited
          c.requires.there) all.view;
    }

pub returns : goal.returns
returns g c =
    let all = tables-placed c.self.invariant.tables c.self.view_is c.args.place c.args.machine c.args.waited
    c.requires.there c.requires.machine_there c.requires.room c.requires.waited c.requires.running
    c.place_at-ran.ensures.names c.place_at-ran.ensures.tasks
    (λ d. c.from.ensures ∙ one_if-from_bool c.place_at-ran.result ∙ ap one_if (c.place_at-ran.ensures.ran d))
    (c.from-2.ensures ∙ one_if-from_bool c.is_some.result ∙ ap one_if c.is_some.ensures) in
    record { rows = all.view; sound = all.tables.sound }

one_fits : (running ran : ℕ) (b : Bool) (one : ℕ) → running ≤ 4096 → one ≡ one_if b
    → Fits w64 (running - ran + one)
one_fits running ran true one few is = omega (arith, few, is)
one_fits running ran false one few is = omega (arith, few, is)

pub overflow_add-self : goal.overflow_add-self
overflow_add-self g c =
    one_fits c.self.inside.running c.from.result c.is_some.result c.from-2.result
    (running-few c.self.invariant c.self.view_is) (c.from-2.ensures ∙ one_if-from_bool c.is_some.result)

-- what a wait costs
most : (weight more waited patience : ℕ) → weight ≤ 1000000 → more ≡ waited → waited ≤ patience → patience ≤ 1000000
    → weight + more ≤ 2000000
most weight more waited patience light is short few = omega (arith, light, is, short, few)

few : (delay : ℕ) → delay ≤ 2000000 → Fits w64 delay
few delay short = omega (arith, short)

pub overflow_add-delay : goal.overflow_add-delay
overflow_add-delay g c =
    few (c.weight_at.result + c.from-3.result)
    (most c.weight_at.result c.from-3.result c.args.waited c.args.self.now.limits.patience c.weight_at.ensures.most
    c.from-3.ensures c.requires.waited (sound-rows c.self.invariant c.self.view_is).most_patience)

pub place-requires-clause-there : goal.place-requires-clause-there
place-requires-clause-there g c =
    subst (λ n. c.args.place < n) (sym (tasks-counted c.self.invariant c.self.view_is)) c.requires.there

pub place-requires-clause-home : goal.place-requires-clause-home
place-requires-clause-home g c =
    subst (λ n. IfSome c.home_of-home.result (λ place. place < n))
    (sym (slots-counted c.self.invariant c.self.view_is)) c.home_of-home.ensures.below

pub place-requires-clause-delay : goal.place-requires-clause-delay
place-requires-clause-delay g c =
    most c.weight_at.result c.from-3.result c.args.waited c.args.self.now.limits.patience c.weight_at.ensures.most
    c.from-3.ensures c.requires.waited (sound-rows c.self.invariant c.self.view_is).most_patience

pub home_of-home-requires : goal.home_of-home-requires
home_of-home-requires g c = c.requires.machine_there

pub place_at-ran-requires : goal.place_at-ran-requires
place_at-ran-requires g c = record {
  there = subst (λ n. c.args.place < n) (sym (ap (λ (rows : TenantRows). length rows.tasks) c.self.view_is))
      c.requires.there;
}

pub job-requires : goal.job-requires
job-requires g c =
    subst (λ n. c.args.place < n) (sym (tasks-counted c.self.invariant c.self.view_is)) c.requires.there
