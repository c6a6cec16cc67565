-- The highest bids for the machines, by place.
use Rattle.std.proofs.Common.{◌≡◌, ℕ, ◌+◌, ◌-◌, ◌<◌, ◌≤◌, Bool, true, false, cond, eqb, ltb, List, ◌++◌, map, length}
use Rattle.std.proofs.Common.{take, IfSome, Option, Some, None, sym, ap, ◌∙◌, arith}
use Rattle.std.specs.Prelude.{max, slice_get}
use Rattle.std.specs.List.{list_any}
use Rattle.std.specs.Option.{option_to_list}
use Rattle.std.proofs.lemmas.List.{get_or-map, length-map}
use Rattle.std.proofs.lemmas.Option.{slice_get_within, get_or_from_slice_get}
use Rattle.firm_rules.specs.Names.{is_among}
use Rattle.firm_rules.specs.Book.{TenantRows, machine_names, name_at}
use Rattle.firm_rules.specs.Sound.{AreSound}
use Rattle.firm_rules.specs.ChoiceCost.{near}
use Rattle.firm_rules.specs.Placement.{Demand, task_at}
use Rattle.firm_rules.specs.Round.{case_of, demand_of, machine_place, place_of}
use Rattle.firm_rules.specs.SoundBook.{AreInForm, bid, cost_of_wait, highest, last_slot_cost, slot_price}
use Rattle.firm_rules.specs.inner.Bids.{near_bid, wide_bid}
use Rattle.firm_rules.specs.declared.book.Machine.{Machine}
use Rattle.firm_rules.specs.declared.book.Task.{Task}
use Rattle.firm_rules.proofs.Bids.{highest-more, highest-parts}
use Rattle.firm_rules.proofs.Exchanges.{at-place}
use Rattle.firm_rules.proofs.Seating.{no_demand}
use Rattle.firm_rules.proofs.StandingTasks.{prefers-named}

-- a task bids by the places that are near to it what it bids by their names: one that runs bids nothing
near-named : (rows : TenantRows) → AreSound rows → (j : ℕ) → j < length (machine_names rows) → (task : Task)
    → IfSome task.machine (λ _. task.waited ≡ 0)
    → cond (list_any (λ k. eqb k j) (near (demand_of rows task))) (bid rows task) 0
    ≡ near_bid rows (name_at (machine_names rows) j) task
near-named rows sound j below task idle = by task.machine idle
  where
    nothing : (b : Bool) → cond b (bid rows task) 0 ≤ bid rows task
    nothing true = omega arith
    nothing false = omega arith

    by : (home : Option (List ℕ)) → IfSome home (λ _. task.waited ≡ 0)
        → cond (list_any (λ k. eqb k j)
        (option_to_list (machine_place rows home) ++ map (place_of rows) task.preferred)) (bid rows task) 0
        ≡ near_bid rows (name_at (machine_names rows) j) task
    by None idle =
        ap (λ (b : Bool). cond b (bid rows task) 0) (prefers-named rows sound j below task.preferred)
    by (Some own) idle =
        let none : bid rows task ≡ 0 =
        ap (λ (n : ℕ). cond (ltb 0 n) (cost_of_wait rows task (n - 1)) 0) idle in
        omega (
          arith,
          none,
          nothing (list_any (λ k. eqb k j)
              (option_to_list (machine_place rows (Some own)) ++ map (place_of rows) task.preferred)),
          nothing (is_among task.preferred (name_at (machine_names rows) j)),
        )

-- with one task more
pub next-near : (rows : TenantRows) → AreSound rows → AreInForm rows → (j : ℕ) → j < length rows.machines
    → (i : ℕ) (task : Task) → slice_get rows.tasks i ≡ Some task → (before : ℕ)
    → before ≡ highest (near_bid rows (name_at (machine_names rows) j)) (take i rows.tasks)
    → max before (cond (list_any (λ k. eqb k j) (near (task_at (case_of rows) i))) (bid rows task) 0)
    ≡ highest (near_bid rows (name_at (machine_names rows) j)) (take (i + 1) rows.tasks)
next-near rows sound form j below i task there before is =
    let bids : Task → ℕ = near_bid rows (name_at (machine_names rows) j) in
    let low : j < length (machine_names rows) =
    omega (arith, below, length-map rows.machines (λ (m : Machine). m.name)) in
    let its : task_at (case_of rows) i ≡ demand_of rows task =
    get_or-map (demand_of rows) rows.tasks i task no_demand (slice_get_within rows.tasks i task there)
    ∙ ap (demand_of rows) (get_or_from_slice_get rows.tasks i task task there) in
    ap (λ (d : Demand). max before (cond (list_any (λ k. eqb k j) (near d)) (bid rows task) 0)) its
    ∙ ap (max before) (near-named rows sound j low task
    (at-place (λ (t : Task). IfSome t.machine (λ _. t.waited ≡ 0)) rows.tasks i task form.running there))
    ∙ ap (λ (n : ℕ). max n (bids task)) is ∙ sym (highest-more bids rows.tasks i task there)

-- what a task must be worth on a machine, of its parts
pub priced : (rows : TenantRows) (machine : List ℕ) (load slot wide near : ℕ) → slot ≡ last_slot_cost rows load
    → wide ≡ highest (wide_bid rows) rows.tasks → near ≡ highest (near_bid rows machine) rows.tasks
    → max (max slot wide) near ≡ slot_price rows machine load
priced rows machine load slot wide near last most least =
    omega (arith, last, most, least, highest-parts rows machine rows.tasks)
