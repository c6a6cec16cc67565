use Rattle.std.proofs.Common.{◌≡◌, ◌≤◌, ℕ, List, length, map, sym, ap, subst, ◌∙◌, arith}
use Rattle.std.specs.List.{All}
use Rattle.std.proofs.lemmas.List.{length-map}
use Rattle.firm_rules.specs.Book.{TenantRows}
use Rattle.firm_rules.specs.Limits.{TenantLimits}
use Rattle.firm_rules.specs.Placement.{Case, Demand as RoundDemand}
use Rattle.firm_rules.specs.Round.{case_of, demand_of}
use Rattle.firm_rules.specs.Sound.{AreSound}
use Rattle.firm_rules.specs.inner.Demands.{seen, case_seen, Fits, CaseFits}
use Rattle.firm_rules.specs.declared.demands.Demand.{Demand}
use Rattle.firm_rules.specs.declared.book.Machine.{Machine}
use Rattle.firm_rules.proofs.cases.Case.of.Goals as goal

module _ (rows : TenantRows) (limits : TenantLimits) (jobs : ℕ) (slots : List ℕ) (demands : List Demand)
    (slots-are : slots ≡ map (λ machine. machine.slots) rows.machines)
    (tasks-are : map seen demands ≡ map (demand_of rows) rows.tasks) where
  made : limits ≡ rows.limits → jobs ≡ length rows.jobs → case_seen limits jobs slots demands ≡ case_of rows
  made limits-are jobs-are =
      ap (λ (l : TenantLimits). case_seen l jobs slots demands) limits-are
      ∙ ap (λ (n : ℕ). case_seen rows.limits n slots demands) jobs-are
      ∙ ap (λ (l : List ℕ). case_seen rows.limits (length rows.jobs) l demands) slots-are
      ∙ ap (λ (l : List RoundDemand). let k : Case = record (case_of rows) { tasks = l } in k) tasks-are

  fitting : AreSound rows → All (λ n. n ≤ 64) slots → All (Fits (length rows.machines)) (map seen demands)
      → CaseFits (case_seen limits jobs slots demands)
  fitting sound most fit =
      let machines : length slots ≡ length rows.machines =
      ap (λ (l : List ℕ). length l) slots-are ∙ length-map rows.machines (λ (m : Machine). m.slots) in
      let tasks : length (map seen demands) ≡ length rows.tasks =
      ap (λ (l : List RoundDemand). length l) tasks-are ∙ length-map rows.tasks (demand_of rows) in
      record {
        tasks = subst (λ (n : ℕ). All (Fits n) (map seen demands)) (sym machines) fit;
        slots = most;
        few_machines = omega (arith, machines, sound.fits.nodes, sound.most_nodes);
        few_tasks = omega (arith, tasks, sound.fits.nodes, sound.most_nodes);
      }

pub invariant_of-result : goal.invariant_of-result
invariant_of-result c =
    fitting c.args.rows.now c.limits.result c.job_count.result c.in_ok-slots.slots.items c.in_ok-demands.demands.items
    c.in_ok-slots.ensures.slots c.in_ok-demands.ensures.seen c.limits.ensures.sound c.in_ok-slots.ensures.most
    c.in_ok-demands.ensures.fit

pub returns : goal.returns
returns c =
    made c.args.rows.now c.limits.result c.job_count.result c.in_ok-slots.slots.items c.in_ok-demands.demands.items
    c.in_ok-slots.ensures.slots c.in_ok-demands.ensures.seen c.limits.ensures.limits c.job_count.ensures
