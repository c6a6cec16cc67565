use Rattle.std.proofs.Common.{◌≡◌, ◌≤◌, ℕ, Bool, true, List, [], length, take, Option, Some, None, IfSome, refl}
use Rattle.std.proofs.Common.{ap}
use Rattle.std.proofs.Common.{sym, subst, ◌∙◌, arith}
use Rattle.std.specs.List.{list_all}
use Rattle.std.proofs.lemmas.List.{take_all}
use Rattle.firm_rules.specs.Book.{machine_names}
use Rattle.firm_rules.specs.Names.{is_among}
use Rattle.firm_rules.proofs.CaseLists.{known, read_below}
use Rattle.std.specs.Prelude.{slice_get}
use borrow.Author.Count.{falls}
use Rattle.firm_rules.specs.SoundBook.{may_pay, may_stand}
use Rattle.firm_rules.specs.declared.book.Task.{Task}
use Rattle.firm_rules.proofs.StandingTasks.{all-next, idle-stands, one-fails}
use Rattle.firm_rules.proofs.standing.may_stand.Goals.{in-Some-machine+else-not-may_pay, in_default-machine}
use Rattle.firm_rules.proofs.standing.may_stand.Goals as goal

pub returns-then-not-may_pay : goal.returns-then-not-may_pay
returns-then-not-may_pay c =
    let rows = c.args.rows.now in
    let rounds = c.args.rounds in
    let task : Task = c.in-Some.task in
    sym (one-fails (λ (t : Task). may_stand rows rounds t t.machine) rows.tasks c.loop-place.place task
    (sym c.task_at.ensures ∙ c.in-Some.is)
    (ap (may_stand rows rounds task) c.in-Some-machine.is
    ∙ ap (may_pay rows rounds task c.in-Some-machine.machine) (sym c.price_on-price.ensures)
    ∙ sym c.may_pay.ensures ∙ c.if-not-may_pay.true))

pub loop-place-preserved : goal.loop-place-preserved
loop-place-preserved c =
    let rows = c.args.rows.now in
    let rounds = c.args.rounds in
    let task : Task = c.in-Some.task in
    let there : slice_get rows.tasks c.loop-place.place ≡ Some task = sym c.task_at.ensures ∙ c.in-Some.is in
    elim c.match-task.branch [
      | in-Some-machine+else-not-may_pay w ↦
          all-next (λ (t : Task). may_stand rows rounds t t.machine) rows.tasks c.loop-place.place task there
          c.loop-place.invariant
          (ap (may_stand rows rounds task) w.in-Some-machine.is
          ∙ ap (may_pay rows rounds task w.in-Some-machine.machine) (sym w.price_on-price.ensures)
          ∙ sym w.may_pay.ensures ∙ w.if-not-may_pay.false)
      | in_default-machine w ↦
          all-next (λ (t : Task). may_stand rows rounds t t.machine) rows.tasks c.loop-place.place task there
          c.loop-place.invariant (idle-stands rows rounds task task.machine w.in_default-machine.not-Some)
    ]

pub loop-place-init : goal.loop-place-init
loop-place-init c = refl

pub unreachable-requires : goal.unreachable-requires
unreachable-requires c =
    let none : Task = record { name = []; job = []; preferred = []; machine = None; waited = 0 } in
    c.in_default.not-Some _ (c.task_at.ensures ∙ read_below c.args.rows.now.tasks c.loop-place.place
    c.task_count-place-end.result none c.loop-place-test.true c.task_count-place-end.ensures)

pub price_on-price-requires-clause-there : goal.price_on-price-requires-clause-there
price_on-price-requires-clause-there c =
    subst (λ (home : Option (List ℕ)). IfSome home
    (λ machine. is_among (machine_names c.args.rows.now) machine ≡ true)) c.in-Some-machine.is
    (known (λ (t : Task). IfSome t.machine (λ machine. is_among (machine_names c.args.rows.now) machine ≡ true))
    c.args.rows.now.tasks c.loop-place.place c.in-Some.task c.limits.ensures.sound.machines_there
    (sym c.task_at.ensures ∙ c.in-Some.is))

pub price_on-price-requires-clause-loads : goal.price_on-price-requires-clause-loads
price_on-price-requires-clause-loads c = c.loads_of-loads.ensures

pub price_on-price-requires-clause-near : goal.price_on-price-requires-clause-near
price_on-price-requires-clause-near c = c.near_bids-near.ensures

pub price_on-price-requires-clause-wide : goal.price_on-price-requires-clause-wide
price_on-price-requires-clause-wide c = c.wide_bid-wide.ensures

-- all have been tried
tried : {X : Type 0} (p : X → Bool) (xs : List X) (i n : ℕ) → n ≡ length xs → n ≤ i → list_all p (take i xs) ≡ true
    → true ≡ list_all p xs
tried p xs i n all past passed = sym passed ∙ ap (list_all p) (take_all i xs (omega (arith, all, past)))

pub returns : goal.returns
returns c =
    tried (λ (t : Task). may_stand c.args.rows.now c.args.rounds t t.machine) c.args.rows.now.tasks c.loop-place.place
    c.task_count-place-end.result c.task_count-place-end.ensures c.loop-place-test.false c.loop-place.invariant

pub loop-place-smaller : goal.loop-place-smaller
loop-place-smaller c = falls c.task_count-place-end.result c.loop-place.place c.loop-place-test.true
