use Rattle.std.proofs.Common.{◌<◌, length, arith, refl, ap, sym, subst, ◌∙◌}
use Rattle.std.specs.Prelude.{slice_index_or}
use Rattle.indexmap.specs.IndexMap.{keys, values}
use Rattle.std.proofs.lemmas.List.{take_all}
use borrow.Author.Count.{falls}
use Rattle.firm_rules.specs.Book.{running_count}
use Rattle.firm_rules.specs.Round.{settled, zipped}
use Rattle.firm_rules.proofs.SoundRows.{length-zipped}
use Rattle.firm_rules.specs.Placement.{task_at}
use Rattle.firm_rules.specs.declared.rounds.Choice.{Choice}
use Rattle.firm_rules.proofs.Stays.{stays-placed}
use Rattle.firm_rules.proofs.TaskWrites.{written-length, written-all, settled-next, kept-next, no_task, any_choice}
use Rattle.firm_rules.proofs.TaskWrites.{round}
use Rattle.firm_rules.proofs.tables.settle_all.Goals.{then-stays, else-stays}
use Rattle.firm_rules.proofs.tables.settle_all.Goals as goal

pub loop-place-init : goal.loop-place-init
loop-place-init g c = (refl, refl, refl)

pub settle_at-running-requires-clause-there : goal.settle_at-running-requires-clause-there
settle_at-running-requires-clause-there g c =
    let old = values c.args.tasks.now in
    let target = round c.args.patience (values c.args.machines.now) old c.args.choices.now c.requires.one_each in
    omega (
      arith,
      c.loop-place-test.true,
      c.requires.one_each,
      ap length c.loop-place.invariant.1,
      written-length target old c.loop-place.place
          (length-zipped (settled c.args.patience (values c.args.machines.now)) old c.args.choices.now
          c.requires.one_each),
    )

pub overflow_add-running : goal.overflow_add-running
overflow_add-running g c =
    let place = c.loop-place.place in
    let below : place < length c.args.choices.now = omega (arith, c.loop-place-test.true) in
    let inside : place < length (values c.args.tasks.now) = omega (arith, below, c.requires.one_each) in
    let choice : Choice = slice_index_or c.args.choices.now place any_choice in
    let stays = sym c.stays.ensures ∙ c.if-stays.true in
    let next =
    kept-next c.args.patience (values c.args.machines.now) (values c.args.tasks.now) c.args.choices.now
    c.requires.one_each (values c.loop-place.tasks) place c.loop-place.running c.loop-place.invariant.1 inside
    (c.requires.stay place choice no_task inside stays) c.loop-place.invariant.2
    (stays-placed (task_at c.args.case.now place).home choice stays) in
    omega (arith, next.2, c.requires.one_each)

pub loop-place-preserved : goal.loop-place-preserved
loop-place-preserved g c =
    let place = c.loop-place.place in
    let below : place < length c.args.choices.now = omega (arith, c.loop-place-test.true) in
    let inside : place < length (values c.args.tasks.now) = omega (arith, below, c.requires.one_each) in
    let choice : Choice = slice_index_or c.args.choices.now place any_choice in
    elim c.if-stays.branch [
      | then-stays w ↦
          let stays = sym c.stays.ensures ∙ w.if-stays.true in
          let next =
          kept-next c.args.patience (values c.args.machines.now) (values c.args.tasks.now) c.args.choices.now
          c.requires.one_each (values c.loop-place.tasks) place c.loop-place.running c.loop-place.invariant.1 inside
          (c.requires.stay place choice no_task inside stays) c.loop-place.invariant.2
          (stays-placed (task_at c.args.case.now place).home choice stays) in (
            ap (λ t. keys t) w.tasks-is ∙ c.loop-place.invariant.0,
            ap (λ t. values t) w.tasks-is ∙ next.0,
            w.running-is ∙ next.1,
          )
      | else-stays w ↦
          let next =
          settled-next c.args.patience (values c.args.machines.now) (values c.args.tasks.now) c.args.choices.now
          c.requires.one_each (values c.loop-place.tasks) (values w.settle_at-running.new.tasks) place
          c.loop-place.running w.settle_at-running.result c.loop-place.invariant.1 inside
          (w.settle_at-running.ensures.tasks no_task) c.loop-place.invariant.2 w.settle_at-running.ensures.running in (
            ap (λ t. keys t) w.tasks-is ∙ w.settle_at-running.ensures.names ∙ c.loop-place.invariant.0,
            ap (λ t. values t) w.tasks-is ∙ next.0,
            w.running-is ∙ next.1,
          )
    ]

pub returns-clause-names : goal.returns-clause-names
returns-clause-names g c = c.loop-place.invariant.0

pub returns-clause-tasks : goal.returns-clause-tasks
returns-clause-tasks g c =
    let old = values c.args.tasks.now in
    c.loop-place.invariant.1
    ∙ written-all (zipped (settled c.args.patience (values c.args.machines.now)) old c.args.choices.now) old
    c.loop-place.place (length-zipped (settled c.args.patience (values c.args.machines.now)) old c.args.choices.now
    c.requires.one_each) (omega (arith, c.loop-place-test.false, c.requires.one_each))

pub returns-clause-running : goal.returns-clause-running
returns-clause-running g c =
    let old = values c.args.tasks.now in
    let target = zipped (settled c.args.patience (values c.args.machines.now)) old c.args.choices.now in
    let long = length-zipped (settled c.args.patience (values c.args.machines.now)) old c.args.choices.now
    c.requires.one_each in
    c.loop-place.invariant.2
    ∙ ap running_count
    (take_all c.loop-place.place target (omega (arith, long, c.loop-place-test.false, c.requires.one_each)))
    ∙ ap running_count (sym (c.loop-place.invariant.1
    ∙ written-all target old c.loop-place.place long (omega (arith, c.loop-place-test.false, c.requires.one_each))))

pub bounds-choices-place : goal.bounds-choices-place
bounds-choices-place g c = c.loop-place-test.true

pub stays-requires : goal.stays-requires
stays-requires g c = subst (λ n. c.loop-place.place < n) c.requires.demands c.loop-place-test.true

pub settle_at-running-requires-clause-machine : goal.settle_at-running-requires-clause-machine
settle_at-running-requires-clause-machine g c = c.requires.places c.loop-place.place any_choice c.loop-place-test.true

pub settle_at-running-requires-clause-patience : goal.settle_at-running-requires-clause-patience
settle_at-running-requires-clause-patience g c = c.requires.patience

pub loop-place-smaller : goal.loop-place-smaller
loop-place-smaller g c = falls (length c.args.choices.now) c.loop-place.place c.loop-place-test.true
