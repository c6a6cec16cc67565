use Rattle.std.proofs.Common.{◌<◌, length, sym, ap, ◌∙◌, arith}
use Rattle.std.specs.Prelude.{slice_index_or}
use Rattle.indexmap.specs.IndexMap.{values}
use Rattle.firm_rules.specs.inner.Tables.{weight_in}
use Rattle.firm_rules.specs.Placement.{Demand, stays}
use Rattle.firm_rules.specs.declared.rounds.Choice.{Choice}
use Rattle.firm_rules.proofs.Seating.{seats-there, seats-here, seats-next, seats-kept, seats-all}
use Rattle.firm_rules.proofs.TaskWrites.{no_task, any_choice}
use Rattle.firm_rules.proofs.tables.settle_case.Goals.{then-not-stays, else-not-stays}
use Rattle.firm_rules.proofs.tables.settle_case.Goals as goal

pub settle_demand-requires-clause-there : goal.settle_demand-requires-clause-there
settle_demand-requires-clause-there g c =
    omega (
      arith,
      c.loop-number-test.true,
      c.requires.one_each,
      seats-there (weight_in (values c.args.jobs.now)) (values c.args.tasks.now) c.args.choices.now c.args.case.now
          c.requires.rows c.requires.one_each c.loop-number.case c.loop-number.number c.loop-number.invariant,
    )

pub stays-requires : goal.stays-requires
stays-requires g c =
    omega (
      arith,
      c.loop-number-test.true,
      c.requires.one_each,
      seats-there (weight_in (values c.args.jobs.now)) (values c.args.tasks.now) c.args.choices.now c.args.case.now
          c.requires.rows c.requires.one_each c.loop-number.case c.loop-number.number c.loop-number.invariant,
    )

pub loop-number-preserved : goal.loop-number-preserved
loop-number-preserved g c =
    let weight = weight_in (values c.args.jobs.now) in
    let rows = values c.args.tasks.now in
    let choices = c.args.choices.now in
    let case = c.args.case.now in
    let number = c.loop-number.number in
    let below : number < length choices = omega (arith, c.loop-number-test.true) in
    elim c.if-not-stays.branch [
      | then-not-stays w ↦
          w.case-is
          ∙ seats-next weight rows choices case c.requires.rows c.requires.one_each c.loop-number.case
          w.settle_demand.new.case number c.loop-number.invariant below (w.settle_demand.ensures no_task)
      | else-not-stays w ↦
          let choice : Choice = slice_index_or choices number any_choice in
          w.case-is
          ∙ seats-kept weight rows choices case c.requires.rows c.requires.one_each c.loop-number.case number
          c.loop-number.invariant below
          (c.requires.stay number no_task below
          (ap (λ (t : Demand). stays t.home choice)
          (sym (seats-here weight rows choices case c.requires.rows c.requires.one_each c.loop-number.case number
          c.loop-number.invariant below))
          ∙ sym c.stays.ensures ∙ w.if-not-stays.false))
    ]

pub returns : goal.returns
returns g c =
    seats-all (weight_in (values c.args.jobs.now)) (values c.args.tasks.now) c.args.choices.now c.args.case.now
    c.requires.rows c.requires.one_each c.loop-number.case c.loop-number.number c.loop-number.invariant
    c.loop-number-test.false
