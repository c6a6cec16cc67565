use Rattle.std.proofs.Common.{List, length, ap, sym, subst, ◌∙◌, arith}
use Rattle.std.specs.Prelude.{remove}
use Rattle.firm_sequence.specs.Items.{Items}
use Rattle.firm_sequence.specs.Kept.{AreGaps, kept}
use Rattle.std.proofs.Common.{ℕ}
use Rattle.firm_sequence.proofs.KeptItems.{inside, found, splits-few, kept-insert, gaps-insert}
use Rattle.firm_sequence.proofs.sequence.Sequence.remove.Goals as goal

pub gaps_before-before-requires-clause-few : goal.gaps_before-before-requires-clause-few
gaps_before-before-requires-clause-few g c =
    omega (
      arith,
      inside c.self.inside.slots.items c.self.inside.gaps.items c.args.self.now.items c.args.place c.self.invariant
          (ap (λ (v : Items g.row.T.Denot). v.items) c.self.view_is) c.requires,
      ap (λ (l : List ℕ). length l) c.deref.ensures.value,
      c.self.inside.slots.ok.0,
      c.self.inside.slots.ok.1,
      c.self.inside.slots.small,
    )

pub overflow_add-place : goal.overflow_add-place
overflow_add-place g c =
    omega (
      arith,
      (found c.self.inside.slots.items c.self.inside.gaps.items c.deref.result.now c.args.self.now.items c.args.place
          c.gaps_before-before.result c.self.invariant (ap (λ (v : Items g.row.T.Denot). v.items) c.self.view_is)
          c.requires
          c.deref.ensures.value c.gaps_before-before.ensures).1,
      c.self.inside.slots.ok.0,
      c.self.inside.slots.ok.1,
      c.self.inside.slots.small,
    )

pub insert-requires : goal.insert-requires
insert-requires g c =
    omega (
      arith,
      splits-few c.self.inside.gaps.items c.args.place c.gaps_before-before.result
          (found c.self.inside.slots.items c.self.inside.gaps.items c.deref.result.now
          c.args.self.now.items c.args.place
          c.gaps_before-before.result c.self.invariant (ap (λ (v : Items g.row.T.Denot). v.items) c.self.view_is)
          c.requires
          c.deref.ensures.value c.gaps_before-before.ensures).0,
      c.self.inside.gaps.ok.0,
    )

pub invariant_of-self : goal.invariant_of-self
invariant_of-self g c =
    let there = found c.self.inside.slots.items c.self.inside.gaps.items c.deref.result.now
    c.args.self.now.items c.args.place
    c.gaps_before-before.result c.self.invariant (ap (λ (v : Items g.row.T.Denot). v.items) c.self.view_is) c.requires
    c.deref.ensures.value c.gaps_before-before.ensures in
    subst (λ (l : List ℕ). AreGaps 0 (length c.self.inside.slots.items) l) (sym c.in-Ok.ensures.items)
    (gaps-insert c.self.inside.gaps.items 0 (length c.self.inside.slots.items) c.args.place
    c.gaps_before-before.result c.self.invariant there.0 (omega arith) there.1)

pub returns-in-Ok-clause-items : goal.returns-in-Ok-clause-items
returns-in-Ok-clause-items g c =
    let there = found c.self.inside.slots.items c.self.inside.gaps.items c.deref.result.now
    c.args.self.now.items c.args.place
    c.gaps_before-before.result c.self.invariant (ap (λ (v : Items g.row.T.Denot). v.items) c.self.view_is) c.requires
    c.deref.ensures.value c.gaps_before-before.ensures in
    ap (λ (l : List ℕ). kept c.self.inside.slots.items l) c.in-Ok.ensures.items
    ∙ kept-insert c.self.inside.slots.items c.self.inside.gaps.items c.args.place c.gaps_before-before.result there.0
    ∙ ap (λ (v : Items g.row.T.Denot). remove v.items c.args.place) c.self.view_is
