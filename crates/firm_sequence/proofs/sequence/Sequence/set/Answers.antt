use Rattle.std.proofs.Common.{List, length, ap, ◌∙◌, arith}
use Rattle.std.specs.Prelude.{slice_set as set}
use Rattle.firm_sequence.specs.Items.{Items}
use Rattle.std.proofs.Common.{ℕ}
use Rattle.firm_sequence.proofs.KeptItems.{inside, found, kept-set}
use Rattle.firm_sequence.proofs.sequence.Sequence.set.Goals as goal

pub gaps_before-before-requires-clause-few : goal.gaps_before-before-requires-clause-few
gaps_before-before-requires-clause-few g c =
    omega (
      arith,
      inside c.self.inside.slots.items c.self.inside.gaps.items c.args.self.now.items c.args.place c.self.invariant
          (ap (λ (v : Items g.row.T.Denot). v.items) c.self.view_is) c.requires,
      ap (λ (l : List ℕ). length l) c.deref.ensures.value,
      c.self.inside.slots.ok.0,
      c.self.inside.slots.ok.1,
      c.self.inside.slots.small,
    )

pub overflow_add-place : goal.overflow_add-place
overflow_add-place g c =
    omega (
      arith,
      (found c.self.inside.slots.items c.self.inside.gaps.items c.deref.result.now c.args.self.now.items c.args.place
          c.gaps_before-before.result c.self.invariant (ap (λ (v : Items g.row.T.Denot). v.items) c.self.view_is)
          c.requires
          c.deref.ensures.value c.gaps_before-before.ensures).1,
      c.self.inside.slots.ok.0,
      c.self.inside.slots.ok.1,
      c.self.inside.slots.small,
    )

pub index_mut-requires : goal.index_mut-requires
index_mut-requires g c = omega (
  arith,
  (found c.self.inside.slots.items c.self.inside.gaps.items c.deref.result.now c.args.self.now.items c.args.place
      c.gaps_before-before.result c.self.invariant (ap (λ (v : Items g.row.T.Denot). v.items) c.self.view_is) c.requires
      c.deref.ensures.value c.gaps_before-before.ensures).1,
  c.self.inside.slots.ok.0,
)

pub returns : goal.returns
returns g c = record {
  items =
      kept-set c.self.inside.slots.items c.self.inside.gaps.items c.args.place c.gaps_before-before.result c.args.item
      (found c.self.inside.slots.items c.self.inside.gaps.items c.deref.result.now c.args.self.now.items c.args.place
      c.gaps_before-before.result c.self.invariant (ap (λ (v : Items g.row.T.Denot). v.items) c.self.view_is) c.requires
      c.deref.ensures.value c.gaps_before-before.ensures).0
      ∙ ap (λ (v : Items g.row.T.Denot). set v.items c.args.place c.args.item) c.self.view_is;
}
