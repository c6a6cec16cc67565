use Rattle.std.proofs.lemmas.Grind.{common_steps}
use Rattle.std.proofs.Common.{ℕ, List, length, drop, sym, ap, subst, ◌∙◌, arith}
use Rattle.std.specs.Prelude.{slice_index}
use Rattle.firm_rents.specs.Rents.{AreRents, IsBelow}
use Rattle.firm_rents.specs.inner.Bounds.{IsWithin}
use Rattle.firm_rents.proofs.Bounding.{below_all, free_within, written}
use Rattle.firm_rents.proofs.tables.high_rents.Goals as goal

pub returns-clause-rents : goal.returns-clause-rents
returns-clause-rents c =
    subst (AreRents (length c.args.case.now.slots))
    (sym (c.of.ensures ∙ written c.in_ok-table.table.len c.lower_all.new.rents
    (drop (length c.lower_all.new.rents) c.in_ok-table.table.items)
    (omega (
      arith,
      c.deref_mut.ensures.len,
      ap length c.deref_mut.ensures.value,
      c.in_ok-table.ensures.one_each,
      c.lower_all.ensures.one_each,
    ))))
    (record {
      one_each = c.lower_all.ensures.one_each;
      small = λ j. omega (
        arith,
        c.lower_all.ensures.falls j,
        ap (λ (table : List ℕ). slice_index table j) c.deref_mut.ensures.value,
        c.in_ok-table.ensures.small j,
      );
    })

pub returns-clause-highest : goal.returns-clause-highest
returns-clause-highest c = λ rents are show.
    (let legal = (c.legality_is_judged.ensures c.args.case.now c.args.placement.now).yes c.requires.legal in
    let suit = (c.rents_that_show_suit.ensures c.args.case.now rents c.args.placement.now legal).0 show in
    let start = free_within c.args.case.now c.args.placement.now c.in_ok-table.table.items rents
    c.in_ok-table.ensures.one_each c.in_ok-table.ensures.rents are suit in
    subst (λ (high : List ℕ). IsBelow rents high)
    (sym (c.of.ensures ∙ written c.in_ok-table.table.len c.lower_all.new.rents
    (drop (length c.lower_all.new.rents) c.in_ok-table.table.items)
    (omega (
      arith,
      c.deref_mut.ensures.len,
      ap length c.deref_mut.ensures.value,
      c.in_ok-table.ensures.one_each,
      c.lower_all.ensures.one_each,
    ))))
    (below_all rents c.lower_all.new.rents (are.one_each ∙ sym c.lower_all.ensures.one_each)
    (c.lower_all.ensures.within rents 0 0 suit (omega arith)
    (subst (λ (table : List ℕ). IsWithin rents table 0 0) (sym c.deref_mut.ensures.value) start))))

pub of-requires-clause-small : goal.of-requires-clause-small
of-requires-clause-small c = grind (arith, common_steps)

pub of-requires-clause-few : goal.of-requires-clause-few
of-requires-clause-few c = grind (arith, common_steps)
