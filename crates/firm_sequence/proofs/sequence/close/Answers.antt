use Rattle.std.proofs.Common.{ℕ, ◌≤◌, ◌+◌, ◌-◌, length, ◌∙◌, arith}
use Rattle.firm_sequence.proofs.KeptItems.{gaps-few, gaps-read, moved-none, moved-more, moved-all}
use Rattle.firm_sequence.proofs.sequence.close.Goals as goal

pub overflow_sub-left : goal.overflow_sub-left
overflow_sub-left g c =
    omega (
      arith,
      c.len.ensures,
      c.len-end.ensures,
      c.args.gaps.now.ok.0,
      c.args.slots.now.ok.0,
      gaps-few c.args.gaps.now.items (length c.args.slots.now.items) c.requires,
    )

pub loop-count-init : goal.loop-count-init
loop-count-init g c = moved-none c.args.slots.now.items c.args.gaps.now.items c.requires

pub overflow_add-gap : goal.overflow_add-gap
overflow_add-gap g c = omega (
  arith,
  (gaps-read c.args.gaps.now.items c.deref.result.now (length c.args.slots.now.items) c.len-end.result
      c.loop-count.count c.index-gap.result.now c.gap_or_end-next.result c.requires
      (omega (arith, c.loop-count-test.true, c.len-count-end.ensures, c.args.gaps.now.ok.0)) c.index-gap.ensures
      c.deref.ensures.value (c.len-end.ensures ∙ c.args.slots.now.ok.0) c.gap_or_end-next.ensures).3,
  c.gap_or_end-next.type_inv,
)

pub overflow_sub-gap : goal.overflow_sub-gap
overflow_sub-gap g c =
    (gaps-read c.args.gaps.now.items c.deref.result.now (length c.args.slots.now.items) c.len-end.result
    c.loop-count.count c.index-gap.result.now c.gap_or_end-next.result c.requires
    (omega (arith, c.loop-count-test.true, c.len-count-end.ensures, c.args.gaps.now.ok.0)) c.index-gap.ensures
    c.deref.ensures.value (c.len-end.ensures ∙ c.args.slots.now.ok.0) c.gap_or_end-next.ensures).2

pub copy_within-requires-clause-start_le_end : goal.copy_within-requires-clause-start_le_end
copy_within-requires-clause-start_le_end g c =
    (gaps-read c.args.gaps.now.items c.deref.result.now (length c.args.slots.now.items) c.len-end.result
    c.loop-count.count c.index-gap.result.now c.gap_or_end-next.result c.requires
    (omega (arith, c.loop-count-test.true, c.len-count-end.ensures, c.args.gaps.now.ok.0)) c.index-gap.ensures
    c.deref.ensures.value (c.len-end.ensures ∙ c.args.slots.now.ok.0) c.gap_or_end-next.ensures).3

pub copy_within-requires-clause-in_bounds : goal.copy_within-requires-clause-in_bounds
copy_within-requires-clause-in_bounds g c =
    omega (
      arith,
      (gaps-read c.args.gaps.now.items c.deref.result.now (length c.args.slots.now.items) c.len-end.result
          c.loop-count.count c.index-gap.result.now c.gap_or_end-next.result c.requires
          (omega (arith, c.loop-count-test.true, c.len-count-end.ensures, c.args.gaps.now.ok.0)) c.index-gap.ensures
          c.deref.ensures.value (c.len-end.ensures ∙ c.args.slots.now.ok.0) c.gap_or_end-next.ensures).4,
      c.loop-count.invariant.0,
      c.loop-count.slots.ok.0,
    )

dest : (gap count to len : ℕ) → gap + 1 ≤ to → to ≤ len → gap - count + (to - (gap + 1)) ≤ len
dest gap count to len up within = omega (arith, up, within)

pub copy_within-requires-clause-dest_in_bounds : goal.copy_within-requires-clause-dest_in_bounds
copy_within-requires-clause-dest_in_bounds g c =
    let read = (gaps-read c.args.gaps.now.items c.deref.result.now (length c.args.slots.now.items) c.len-end.result
    c.loop-count.count c.index-gap.result.now c.gap_or_end-next.result c.requires
    (omega (arith, c.loop-count-test.true, c.len-count-end.ensures, c.args.gaps.now.ok.0)) c.index-gap.ensures
    c.deref.ensures.value (c.len-end.ensures ∙ c.args.slots.now.ok.0) c.gap_or_end-next.ensures) in
    dest c.index-gap.result.now c.loop-count.count c.gap_or_end-next.result c.loop-count.slots.len read.3
    (omega (arith, read.4, c.loop-count.invariant.0, c.loop-count.slots.ok.0))

pub loop-count-preserved : goal.loop-count-preserved
loop-count-preserved g c =
    let read = (gaps-read c.args.gaps.now.items c.deref.result.now (length c.args.slots.now.items) c.len-end.result
    c.loop-count.count c.index-gap.result.now c.gap_or_end-next.result c.requires
    (omega (arith, c.loop-count-test.true, c.len-count-end.ensures, c.args.gaps.now.ok.0)) c.index-gap.ensures
    c.deref.ensures.value (c.len-end.ensures ∙ c.args.slots.now.ok.0) c.gap_or_end-next.ensures) in
    moved-more c.args.slots.now.items c.args.gaps.now.items c.requires c.loop-count.slots.items
    c.copy_within.new.self.items c.loop-count.count c.index-gap.result.now c.gap_or_end-next.result
    c.loop-count.invariant (omega (arith, c.loop-count-test.true, c.len-count-end.ensures, c.args.gaps.now.ok.0))
    read.0 read.1 read.2 read.3
    (omega (
      arith,
      c.copy_within.ensures.len,
      c.copy_within.new.self.ok.0,
      c.loop-count.slots.ok.0,
    ))
    c.copy_within.ensures.by_index.0 c.copy_within.ensures.by_index.1 c.copy_within.ensures.by_index.2

pub returns-clause-slots : goal.returns-clause-slots
returns-clause-slots g c =
    c.truncate.ensures.items
    ∙ moved-all c.args.slots.now.items c.args.gaps.now.items c.requires c.loop-count.slots.items c.loop-count.count
    (c.len-end.result - c.len.result) c.loop-count.invariant
    (omega (arith, c.loop-count.auto.count-end, c.len-count-end.ensures, c.args.gaps.now.ok.0))
    (omega (arith, c.loop-count-test.false, c.len-count-end.ensures, c.args.gaps.now.ok.0))
    (omega (
      arith,
      c.len.ensures,
      c.len-end.ensures,
      c.args.gaps.now.ok.0,
      c.args.slots.now.ok.0,
    ))
