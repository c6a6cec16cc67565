use Rattle.std.proofs.lemmas.Grind.{common_steps}
use Rattle.std.proofs.Common.{ℕ, List, length, drop, sym, ap, subst, ◌∙◌, arith}
use Rattle.firm_rents.specs.Rents.{AreRents, IsBelow}
use Rattle.firm_rents.proofs.Bounding.{paid_below, written}
use Rattle.firm_rents.proofs.tables.low_rents.Goals as goal

pub returns-clause-rents : goal.returns-clause-rents
returns-clause-rents c =
    subst (AreRents (length c.args.case.now.slots))
    (sym (c.of.ensures ∙ written c.in_ok-table.table.len c.raise_all.new.rents
    (drop (length c.raise_all.new.rents) c.in_ok-table.table.items)
    (omega (
      arith,
      c.deref_mut.ensures.len,
      ap length c.deref_mut.ensures.value,
      c.in_ok-table.ensures.one_each,
      c.raise_all.ensures.one_each,
    ))))
    (record { one_each = c.raise_all.ensures.one_each; small = c.raise_all.ensures.small })

pub returns-clause-lowest : goal.returns-clause-lowest
returns-clause-lowest c = λ rents show.
    (let legal = (c.legality_is_judged.ensures c.args.case.now c.args.placement.now).yes c.requires.legal in
    let suit = (c.rents_that_show_suit.ensures c.args.case.now rents c.args.placement.now legal).0 show in
    subst (λ (low : List ℕ). IsBelow low rents)
    (sym (c.of.ensures ∙ written c.in_ok-table.table.len c.raise_all.new.rents
    (drop (length c.raise_all.new.rents) c.in_ok-table.table.items)
    (omega (
      arith,
      c.deref_mut.ensures.len,
      ap length c.deref_mut.ensures.value,
      c.in_ok-table.ensures.one_each,
      c.raise_all.ensures.one_each,
    ))))
    (c.raise_all.ensures.below rents suit
    (subst (λ (table : List ℕ). IsBelow table rents) (sym c.deref_mut.ensures.value)
    (paid_below c.args.case.now c.args.placement.now c.in_ok-table.table.items rents c.in_ok-table.ensures.one_each
    c.in_ok-table.ensures.rents suit))))

pub of-requires-clause-small : goal.of-requires-clause-small
of-requires-clause-small c = grind (arith, common_steps)

pub of-requires-clause-few : goal.of-requires-clause-few
of-requires-clause-few c = grind (arith, common_steps)
