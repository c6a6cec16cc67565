use Rattle.std.proofs.Common.{◌≡◌, ◌<◌, ◌≤◌, ℕ, arith, true, IfSome, List, [], None, Some, length, map, sym, ap, subst}
use Rattle.std.proofs.Common.{◌∙◌}
use Rattle.std.specs.Prelude.{slice_get, slice_index_or}
use Rattle.std.proofs.lemmas.List.{map_push}
use Rattle.std.proofs.lemmas.List.Elements.{All-nil, All-push}
use Rattle.std.specs.List.{All}
use borrow.Author.Count.{falls}
use Rattle.firm_rules.specs.Book.{machine_names}
use Rattle.firm_rules.specs.Names.{is_among}
use Rattle.firm_rules.specs.Round.{demand_of}
use Rattle.firm_rules.specs.declared.book.Task.{Task}
use Rattle.firm_rules.specs.Placement.{Demand as RoundDemand}
use Rattle.firm_rules.specs.inner.Demands.{seen, Fits}
use Rattle.firm_rules.proofs.CaseLists.{known, grown_all, grown_by, read_below}
use Rattle.firm_rules.proofs.cases.demands_of.Goals as goal

abbrev none : Task
none = record { name = []; job = []; preferred = []; machine = None; waited = 0 }

-- the task of this number is there
stands : (tasks : List Task) (i n : ℕ) (task : Task) → i < n → n ≡ length tasks → task ≡ slice_index_or tasks i none
    → slice_get tasks i ≡ Some task
stands tasks i n task below all is = read_below tasks i n none below all ∙ ap Some (sym is)

pub task_row-requires : goal.task_row-requires
task_row-requires c =
    subst (λ n. c.loop-number.number < n) c.task_count-number-end.ensures c.loop-number-test.true

pub demand_of-requires-clause-machine : goal.demand_of-requires-clause-machine
demand_of-requires-clause-machine c =
    known (λ (task : Task). IfSome task.machine (λ name. is_among (machine_names c.args.rows.now) name ≡ true))
    c.args.rows.now.tasks c.loop-number.number c.task_row.result.now c.limits.ensures.sound.machines_there
    (stands c.args.rows.now.tasks c.loop-number.number c.task_count-number-end.result c.task_row.result.now
    c.loop-number-test.true c.task_count-number-end.ensures (c.task_row.ensures none))

pub demand_of-requires-clause-preferred : goal.demand_of-requires-clause-preferred
demand_of-requires-clause-preferred c =
    known (λ (task : Task). All (λ name. is_among (machine_names c.args.rows.now) name ≡ true) task.preferred)
    c.args.rows.now.tasks c.loop-number.number c.task_row.result.now c.limits.ensures.sound.preferred_there
    (stands c.args.rows.now.tasks c.loop-number.number c.task_count-number-end.result c.task_row.result.now
    c.loop-number-test.true c.task_count-number-end.ensures (c.task_row.ensures none))

few : (waited patience most : ℕ) → patience ≤ most → waited ≤ patience → waited ≤ most
few waited patience most less is = omega (arith, less, is)

pub demand_of-requires-clause-waited : goal.demand_of-requires-clause-waited
demand_of-requires-clause-waited c =
    few c.task_row.result.now.waited c.args.rows.now.limits.patience 1000000 c.limits.ensures.sound.most_patience
    (known (λ (task : Task). task.waited ≤ c.args.rows.now.limits.patience)
    c.args.rows.now.tasks c.loop-number.number c.task_row.result.now c.limits.ensures.sound.waited
    (stands c.args.rows.now.tasks c.loop-number.number c.task_count-number-end.result c.task_row.result.now
    c.loop-number-test.true c.task_count-number-end.ensures (c.task_row.ensures none)))

pub loop-number-preserved : goal.loop-number-preserved
loop-number-preserved c = record {
  made = grown_by (demand_of c.args.rows.now) c.args.rows.now.tasks c.loop-number.number c.task_row.result.now
      (map seen c.loop-number.demands.items) (map seen c.push.new.self.items) (seen c.demand_of.result)
      (stands c.args.rows.now.tasks c.loop-number.number c.task_count-number-end.result c.task_row.result.now
      c.loop-number-test.true c.task_count-number-end.ensures (c.task_row.ensures none)) c.loop-number.invariant.made
      (ap (map seen) c.in_ok-push.ensures.items ∙ map_push seen c.loop-number.demands.items c.demand_of.result)
      c.demand_of.ensures.seen;
  fit = subst (λ (xs : List RoundDemand). All (Fits (length c.args.rows.now.machines)) xs)
      (sym (ap (map seen) c.in_ok-push.ensures.items ∙ map_push seen c.loop-number.demands.items c.demand_of.result))
      (All-push (Fits (length c.args.rows.now.machines)) (map seen c.loop-number.demands.items)
      (seen c.demand_of.result) c.loop-number.invariant.fit c.demand_of.ensures.fits);
}

pub loop-number-init : goal.loop-number-init
loop-number-init c = record {
  made = ap (map seen) c.in_ok-demands.ensures.items;
  fit = subst (λ (xs : List RoundDemand). All (Fits (length c.args.rows.now.machines)) xs)
      (sym (ap (map seen) c.in_ok-demands.ensures.items)) (All-nil (Fits (length c.args.rows.now.machines)));
}

pub returns-clause-seen : goal.returns-clause-seen
returns-clause-seen c =
    grown_all (demand_of c.args.rows.now) c.args.rows.now.tasks (map seen c.loop-number.demands.items)
    c.loop-number.number c.task_count-number-end.result c.loop-number.invariant.made c.task_count-number-end.ensures
    c.loop-number-test.false

pub returns-clause-fit : goal.returns-clause-fit
returns-clause-fit c = c.loop-number.invariant.fit

pub loop-number-smaller : goal.loop-number-smaller
loop-number-smaller c = falls c.task_count-number-end.result c.loop-number.number c.loop-number-test.true
