use Rattle.std.proofs.Common.{◌+◌, List, length, ap, sym, ◌∙◌, arith}
use Rattle.std.specs.Prelude.{slice_index_or}
use Rattle.firm_sequence.specs.Items.{Items}
use Rattle.std.proofs.Common.{ℕ}
use Rattle.firm_sequence.proofs.KeptItems.{inside, found, kept-at}
use Rattle.std.proofs.lemmas.List.{get_or_read}
use Rattle.firm_sequence.proofs.sequence.Sequence.at.Goals as goal

pub gaps_before-before-requires-clause-few : goal.gaps_before-before-requires-clause-few
gaps_before-before-requires-clause-few g c =
    omega (
      arith,
      inside c.self.inside.slots.items c.self.inside.gaps.items c.args.self.now.items c.args.place c.self.invariant
          (ap (λ (v : Items g.row.T.Denot). v.items) c.self.view_is) c.requires,
      ap (λ (l : List ℕ). length l) c.deref.ensures.value,
      c.self.inside.slots.ok.0,
      c.self.inside.slots.ok.1,
      c.self.inside.slots.small,
    )

pub overflow_add-place : goal.overflow_add-place
overflow_add-place g c =
    omega (
      arith,
      (found c.self.inside.slots.items c.self.inside.gaps.items c.deref.result.now c.args.self.now.items c.args.place
          c.gaps_before-before.result c.self.invariant (ap (λ (v : Items g.row.T.Denot). v.items) c.self.view_is)
          c.requires
          c.deref.ensures.value c.gaps_before-before.ensures).1,
      c.self.inside.slots.ok.0,
      c.self.inside.slots.ok.1,
      c.self.inside.slots.small,
    )

pub index-requires : goal.index-requires
index-requires g c = omega (
  arith,
  (found c.self.inside.slots.items c.self.inside.gaps.items c.deref.result.now c.args.self.now.items c.args.place
      c.gaps_before-before.result c.self.invariant (ap (λ (v : Items g.row.T.Denot). v.items) c.self.view_is) c.requires
      c.deref.ensures.value c.gaps_before-before.ensures).1,
  c.self.inside.slots.ok.0,
)

pub returns : goal.returns
returns g c =
    let d = c.index.result.now in
    let there = found c.self.inside.slots.items c.self.inside.gaps.items c.deref.result.now
    c.args.self.now.items c.args.place
    c.gaps_before-before.result c.self.invariant (ap (λ (v : Items g.row.T.Denot). v.items) c.self.view_is) c.requires
    c.deref.ensures.value c.gaps_before-before.ensures in
    get_or_read c.self.inside.slots.items (c.args.place + c.gaps_before-before.result) c.index.result.now there.1
    c.index.ensures d
    ∙ sym (kept-at c.self.inside.slots.items c.self.inside.gaps.items 0 c.args.place c.gaps_before-before.result d
    c.self.invariant there.0)
    ∙ ap (λ (v : Items g.row.T.Denot). slice_index_or v.items c.args.place d) c.self.view_is
