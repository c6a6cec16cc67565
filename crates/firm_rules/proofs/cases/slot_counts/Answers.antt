use Rattle.std.proofs.Common.{◌≤◌, sym, subst, ◌∙◌, List, [], ℕ}
use Rattle.std.specs.List.{All}
use Rattle.std.proofs.lemmas.List.Elements.{All-nil, All-push}
use borrow.Author.Count.{falls}
use Rattle.firm_rules.specs.declared.book.Machine.{Machine}
use Rattle.firm_rules.proofs.CaseLists.{grown_all, grown_by, read_below}
use Rattle.firm_rules.proofs.cases.slot_counts.Goals as goal

pub loop-place-preserved : goal.loop-place-preserved
loop-place-preserved c = record {
  slots = grown_by (λ (machine : Machine). machine.slots) c.args.rows.now.machines c.loop-place.place
      c.in-Some.machine c.loop-place.slots.items c.push.new.self.items c.get.result
      (sym c.machine_at.ensures ∙ c.in-Some.is) c.loop-place.invariant.slots c.in_ok-push.ensures.items
      c.get.ensures.value;
  most = subst (λ (xs : List ℕ). All (λ n. n ≤ 64) xs) (sym c.in_ok-push.ensures.items)
      (All-push (λ (n : ℕ). n ≤ 64) c.loop-place.slots.items c.get.result c.loop-place.invariant.most
      c.get.ensures.most);
}

pub loop-place-init : goal.loop-place-init
loop-place-init c = record {
  slots = c.in_ok-slots.ensures.items;
  most = subst (λ (xs : List ℕ). All (λ n. n ≤ 64) xs) (sym c.in_ok-slots.ensures.items) (All-nil (λ (n : ℕ). n ≤ 64));
}

pub unreachable-requires : goal.unreachable-requires
unreachable-requires c =
    let none : Machine = record { name = []; slots = 0 } in
    c.in_default.not-Some _ (c.machine_at.ensures ∙ read_below c.args.rows.now.machines c.loop-place.place
    c.machine_count-place-end.result none c.loop-place-test.true c.machine_count-place-end.ensures)

pub returns-clause-slots : goal.returns-clause-slots
returns-clause-slots c =
    grown_all (λ (machine : Machine). machine.slots) c.args.rows.now.machines c.loop-place.slots.items
    c.loop-place.place c.machine_count-place-end.result c.loop-place.invariant.slots c.machine_count-place-end.ensures
    c.loop-place-test.false

pub returns-clause-most : goal.returns-clause-most
returns-clause-most c = c.loop-place.invariant.most

pub loop-place-smaller : goal.loop-place-smaller
loop-place-smaller c = falls c.machine_count-place-end.result c.loop-place.place c.loop-place-test.true
