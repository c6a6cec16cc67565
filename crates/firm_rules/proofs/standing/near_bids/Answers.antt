use Rattle.std.proofs.Common.{ℕ, ◌≡◌, ◌<◌, ◌≤◌, ◌==◌, List, [], Some, None, All, length, max, slice_index, sym, ap}
use Rattle.std.proofs.Common.{subst, ◌∙◌, arith, if◌then◌else◌}
use Rattle.std.specs.Prelude.{slice_get}
use Rattle.std.specs.List.{list_any}
use Rattle.std.proofs.lemmas.List.{get_or-replicate, length-map, take_all}
use Rattle.std.proofs.lemmas.Option.{slice_get-get_or}
use borrow.Author.Count.{falls}
use Rattle.firm_rules.specs.Book.{machine_names, name_at}
use Rattle.firm_rules.specs.ChoiceCost.{near}
use Rattle.firm_rules.specs.SoundBook.{highest}
use Rattle.firm_rules.specs.inner.Bids.{near_bid}
use Rattle.firm_rules.specs.Placement.{Case, task_at}
use Rattle.firm_rules.specs.Round.{case_of, demand_of}
use Rattle.firm_rules.specs.declared.book.Machine.{Machine}
use Rattle.firm_rules.specs.declared.book.Task.{Task}
use Rattle.firm_rules.proofs.NearBids.{next-near}
use Rattle.firm_rules.proofs.standing.near_bids.Goals as goal

pub loop-number-init : goal.loop-number-init
loop-number-init c = λ j below.
    let sound = c.limits.ensures.sound in
    get_or-replicate 4096 j 0 0 (omega (arith, below, sound.fits.nodes, sound.most_nodes))

pub unreachable-requires : goal.unreachable-requires
unreachable-requires c =
    let tasks : List Task = c.args.rows.now.tasks in
    let any : Task = record { name = []; job = []; preferred = []; machine = None; waited = 0 } in
    c.in_default.not-Some _ (c.task_at.ensures ∙ slice_get-get_or tasks c.loop-number.number any
    (omega (arith, c.loop-number-test.true, c.task_count-number-end.ensures)))

pub raise-requires : goal.raise-requires
raise-requires c = λ k d l.
    let sound = c.limits.ensures.sound in
    let below = subst (All (λ (place : ℕ). place < length c.case-case.result.now.slots))
    (sym c.as_slice.ensures.value) c.near.ensures.below k d l in
    omega (
      arith,
      below,
      ap (λ (case : Case). length case.slots) c.case-case.ensures,
      length-map c.args.rows.now.machines (λ (m : Machine). m.slots),
      sound.fits.nodes,
      sound.most_nodes,
    )

pub loop-number-preserved : goal.loop-number-preserved
loop-number-preserved c = λ j below.
    let rows = c.args.rows.now in
    let sound = c.limits.ensures.sound in
    let task : Task = c.in-Some.task in
    let there : slice_get rows.tasks c.loop-number.number ≡ Some task = sym c.task_at.ensures ∙ c.in-Some.is in
    let old : ℕ = slice_index c.loop-number.bids j in
    c.raise.ensures j (omega (arith, below, sound.fits.nodes, sound.most_nodes))
    ∙ ap (λ (places : List ℕ). max old (if list_any (λ place. place == j) places then c.bid_of.result else 0))
    (c.as_slice.ensures.value ∙ c.near.ensures.places
    ∙ ap (λ (case : Case). near (task_at case c.loop-number.number)) c.case-case.ensures)
    ∙ ap (λ (n : ℕ). max old (if list_any (λ place. place == j) (near (task_at (case_of rows) c.loop-number.number))
    then n else 0))
    c.bid_of.ensures
    ∙ next-near rows sound c.limits.ensures.form j below c.loop-number.number task there old
    (c.loop-number.invariant j below)

pub loop-number-smaller : goal.loop-number-smaller
loop-number-smaller c = falls c.task_count-number-end.result c.loop-number.number c.loop-number-test.true

pub near-requires : goal.near-requires
near-requires c =
    let rows = c.args.rows.now in
    subst (λ n. c.loop-number.number < n)
    (c.task_count-number-end.ensures ∙ sym (length-map rows.tasks (demand_of rows))
    ∙ ap (λ (k : Case). length k.tasks) (sym c.case-case.ensures)) c.loop-number-test.true

pub returns : goal.returns
returns c = λ j below.
    let rows = c.args.rows.now in
    c.loop-number.invariant j below
    ∙ ap (highest (near_bid rows (name_at (machine_names rows) j)))
    (take_all c.loop-number.number rows.tasks
    (subst (λ n. n ≤ c.loop-number.number) c.task_count-number-end.ensures c.loop-number-test.false))
