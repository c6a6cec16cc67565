use Rattle.std.proofs.lemmas.Grind.{common_steps}
use Rattle.std.proofs.Common.{◌≡◌, ℕ, ◌+◌, ◌<◌, ◌≤◌, List, get_or, length, drop, sym, ap, subst, ◌∙◌, arith}
use Rattle.std.specs.Prelude.{slice_index}
use Rattle.std.proofs.lemmas.List.{get_or_default}
use Rattle.firm_rules.specs.declared.rounds.Choice.{Choice}
use Rattle.firm_rules.specs.declared.rounds.Choice.TheVariants.{On, Wait}
use Rattle.firm_rules.specs.Placement.{IsPlace}
use Rattle.firm_rents.specs.Rents.{rent, AreRents}
use Rattle.firm_rules.specs.Placement.{choice_at}
use Rattle.firm_rents.specs.inner.Bounds.{IsWithin}
use Rattle.firm_rents.proofs.Bounding.{dearest_by, rent-le, written}
use Rattle.firm_rents.proofs.tables.rents_for.Goals as goal

pub capped-requires : goal.capped-requires
capped-requires c =
    let legal = (c.legality_is_judged.ensures c.args.case.now c.args.placement.now).yes c.requires.legal in
    let inside : c.args.task < length c.args.placement.now = omega (arith, legal.one_each, c.requires.task) in
    subst (λ (m : ℕ). IsPlace m (get_or c.args.placement.now c.args.task (On 0)))
    (sym c.in_ok-high.ensures.rents.one_each) (legal.places c.args.task (On 0) inside)

pub returns-clause-rents : goal.returns-clause-rents
returns-clause-rents c =
    subst (AreRents (length c.args.case.now.slots))
    (sym (c.of.ensures ∙ written c.in_ok-table.table.len c.lower_all.new.rents
    (drop (length c.lower_all.new.rents) c.in_ok-table.table.items)
    (omega (
      arith,
      c.deref_mut.ensures.len,
      ap length c.deref_mut.ensures.value,
      c.in_ok-table.ensures.one_each,
      c.in_ok-high.ensures.rents.one_each,
      c.lower_all.ensures.one_each,
    ))))
    (record {
      one_each = c.lower_all.ensures.one_each;
      small = λ j. omega (
        arith,
        c.lower_all.ensures.falls j,
        ap (λ (table : List ℕ). slice_index table j) c.deref_mut.ensures.value,
        c.in_ok-table.ensures.small j,
      );
    })

pub returns-clause-dearest : goal.returns-clause-dearest
returns-clause-dearest c = λ rents are show other place.
    (let case = c.args.case.now in
    let placement = c.args.placement.now in
    let legal = (c.legality_is_judged.ensures case placement).yes c.requires.legal in
    let suit = (c.rents_that_show_suit.ensures case rents placement legal).0 show in
    let inside : c.args.task < length placement = omega (arith, legal.one_each, c.requires.task) in
    let chosen : Choice = get_or placement c.args.task (On 0) in
    let most : ℕ = c.of_choice.result in
    let fits : most ≤ rent rents chosen =
    omega (
      arith,
      c.of_choice.ensures.rent,
      rent-le c.in_ok-low.low rents chosen (c.in_ok-low.ensures.lowest rents show),
    ) in
    let above = c.in_ok-high.ensures.highest rents are show in
    let started : IsWithin rents c.in_ok-table.table.items most (rent rents chosen) =
    c.in_ok-table.ensures.within rents fits (λ j l. omega (arith, above j)) in
    let settled = c.lower_all.ensures.within rents most (rent rents chosen) suit fits
    (subst (λ (table : List ℕ). IsWithin rents table most (rent rents chosen)) (sym c.deref_mut.ensures.value)
    started) in
    let same : rent c.deref_mut.result.now chosen ≡ rent c.in_ok-table.table.items chosen =
    ap (λ (table : List ℕ). rent table chosen) c.deref_mut.ensures.value in
    let low : rent c.lower_all.new.rents chosen ≤ most =
    omega (
      arith,
      rent-le c.lower_all.new.rents c.deref_mut.result.now chosen c.lower_all.ensures.falls,
      same,
      c.in_ok-table.ensures.capped,
    ) in
    subst (λ (own : List ℕ). rent rents other + rent own (choice_at placement c.args.task)
    ≤ rent own other + rent rents (choice_at placement c.args.task))
    (sym (c.of.ensures ∙ written c.in_ok-table.table.len c.lower_all.new.rents
    (drop (length c.lower_all.new.rents) c.in_ok-table.table.items)
    (omega (
      arith,
      c.deref_mut.ensures.len,
      ap length c.deref_mut.ensures.value,
      c.in_ok-table.ensures.one_each,
      c.in_ok-high.ensures.rents.one_each,
      c.lower_all.ensures.one_each,
    ))))
    (subst (λ (choice : Choice). rent rents other + rent c.lower_all.new.rents choice
    ≤ rent c.lower_all.new.rents other + rent rents choice)
    (get_or_default placement c.args.task (On 0) Wait inside)
    (dearest_by (length case.slots) rents c.lower_all.new.rents chosen other most c.lower_all.ensures.one_each place
    settled low fits)))

pub offset_bounds-placement-task : goal.offset_bounds-placement-task
offset_bounds-placement-task c = grind (arith, common_steps)

pub bounds-placement-task : goal.bounds-placement-task
bounds-placement-task c = grind (arith, common_steps)

pub of-requires-clause-small : goal.of-requires-clause-small
of-requires-clause-small c = grind (arith, common_steps)

pub of-requires-clause-few : goal.of-requires-clause-few
of-requires-clause-few c = grind (arith, common_steps)
