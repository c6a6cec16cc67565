use Rattle.std.proofs.Common.{◌≡◌, ◌-◌, ◌<◌, length, ap, subst, ◌∙◌, arith}
use Rattle.std.specs.Prelude.{slice_index}
use Rattle.std.proofs.lemmas.List.{length-set}
use Rattle.firm_rules.specs.declared.rounds.Choice.TheVariants.{On}
use Rattle.firm_rules.specs.Placement.{IsPlace, task_cost}
use Rattle.firm_rents.specs.Rents.{rent, paid}
use Rattle.firm_rules.specs.Placement.{task_at}
use Rattle.firm_rents.proofs.Bounding.{set_within}
use Rattle.firm_rents.proofs.tables.lower_for.Goals as goal

pub returns-then-rents-place-clause-within : goal.returns-then-rents-place-clause-within
returns-then-rents-place-clause-within c = λ bounds less more fewer before each.
    (let task = task_at c.args.case.now c.args.task in
    let pays = c.pays_elsewhere-pays.ensures bounds less more (paid c.args.case.now bounds task c.args.choice) fewer
    before each in
    let cost : c.cost_of_choice.result ≡ task_cost c.args.case.now task (On c.in-On.machine) =
    c.cost_of_choice.ensures.cost in
    let same : task_cost c.args.case.now task c.args.choice ≡ task_cost c.args.case.now task (On c.in-On.machine) =
    ap (task_cost c.args.case.now task) c.in-On.is in
    let left : c.saturating_sub.result ≡ c.pays_elsewhere-pays.result - c.cost_of_choice.result =
    c.saturating_sub.ensures in
    let here : rent bounds c.args.choice ≡ slice_index bounds c.in-On.machine = ap (rent bounds) c.in-On.is in
    let below : c.in-On.machine < length c.args.case.now.slots =
    subst (IsPlace (length c.args.case.now.slots)) c.in-On.is c.requires.place in
    let l : c.in-On.machine < length c.args.rents.now = omega (arith, below, c.requires.one_each) in
    set_within bounds c.args.rents.now c.lower_to-fell.new.rents c.in-On.machine _ less more l c.lower_to-fell.ensures
    (ap length c.lower_to-fell.ensures ∙ length-set c.args.rents.now c.in-On.machine _)
    (omega (arith, pays, cost, same, left, here, before c.in-On.machine l)) before)

pub returns-else-rents-place-clause-within : goal.returns-else-rents-place-clause-within
returns-else-rents-place-clause-within c = λ bounds less more fewer before each.
    (let task = task_at c.args.case.now c.args.task in
    let pays = c.pays_elsewhere-pays.ensures bounds less more (paid c.args.case.now bounds task c.args.choice) fewer
    before each in
    let cost : c.cost_of_choice.result ≡ task_cost c.args.case.now task (On c.in-On.machine) =
    c.cost_of_choice.ensures.cost in
    let same : task_cost c.args.case.now task c.args.choice ≡ task_cost c.args.case.now task (On c.in-On.machine) =
    ap (task_cost c.args.case.now task) c.in-On.is in
    let left : c.saturating_sub.result ≡ c.pays_elsewhere-pays.result - c.cost_of_choice.result =
    c.saturating_sub.ensures in
    let here : rent bounds c.args.choice ≡ slice_index bounds c.in-On.machine = ap (rent bounds) c.in-On.is in
    let below : c.in-On.machine < length c.args.case.now.slots =
    subst (IsPlace (length c.args.case.now.slots)) c.in-On.is c.requires.place in
    let l : c.in-On.machine < length c.args.rents.now = omega (arith, below, c.requires.one_each) in
    set_within bounds c.args.rents.now c.lower_to-fell.new.rents c.in-On.machine _ less more l c.lower_to-fell.ensures
    (ap length c.lower_to-fell.ensures ∙ length-set c.args.rents.now c.in-On.machine _)
    (omega (arith, pays, cost, same, left, here, before c.in-On.machine l)) before)
