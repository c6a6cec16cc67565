use Rattle.std.proofs.Common.{◌<◌, length, map, count_by, arith, refl, sym, ap, ◌∙◌, ◌≡◌}
use Rattle.indexmap.specs.IndexMap.{values}
use Rattle.std.proofs.lemmas.List.{length-map, take_all}
use Rattle.firm_rules.specs.Book.{evicted}
use Rattle.firm_rules.specs.ArenaUse.{preference_count}
use Rattle.firm_rules.proofs.TaskWrites.{written-length, written-all, evicted-next, left-next, no_task, as-many-values}
use Rattle.firm_rules.proofs.TaskWrites.{ran}
use Rattle.firm_rules.proofs.tables.evict.Goals as goal

pub loop-place-init : goal.loop-place-init
loop-place-init g c = (refl, refl, refl, refl, omega arith)

pub evict_at-one-requires : goal.evict_at-one-requires
evict_at-one-requires g c =
    let old = values c.args.tasks.now in
    record {
      there = omega (
        arith,
        c.loop-place-test.true,
        c.len-place-end.ensures.len,
        as-many-values c.args.tasks.now.entries,
        ap length c.loop-place.invariant.1,
        written-length (map (evicted c.args.name) old) old c.loop-place.place (length-map old (evicted c.args.name)),
      );
    }

pub overflow_add-evicted : goal.overflow_add-evicted
overflow_add-evicted g c =
    let next =
    evicted-next c.args.name (values c.args.tasks.now) (values c.loop-place.tasks) (values c.evict_at-one.new.tasks)
    c.loop-place.place
    c.loop-place.evicted c.evict_at-one.result.evicted c.loop-place.invariant.1
    (omega (arith, c.loop-place-test.true, c.len-place-end.ensures.len, as-many-values c.args.tasks.now.entries))
    (c.evict_at-one.ensures.tasks no_task) c.loop-place.invariant.2 (c.evict_at-one.ensures.count no_task) in
    omega (arith, next.2, c.requires.few)

pub loop-place-preserved : goal.loop-place-preserved
loop-place-preserved g c =
    let below : c.loop-place.place < length (values c.args.tasks.now) =
    omega (arith, c.loop-place-test.true, c.len-place-end.ensures.len, as-many-values c.args.tasks.now.entries) in
    let next =
    evicted-next c.args.name (values c.args.tasks.now) (values c.loop-place.tasks) (values c.evict_at-one.new.tasks)
    c.loop-place.place
    c.loop-place.evicted c.evict_at-one.result.evicted c.loop-place.invariant.1 below
    (c.evict_at-one.ensures.tasks no_task) c.loop-place.invariant.2 (c.evict_at-one.ensures.count no_task) in (
      c.evict_at-one.ensures.names ∙ c.loop-place.invariant.0,
      next.0,
      next.1,
      left-next c.args.name (values c.args.tasks.now) (values c.loop-place.tasks) c.loop-place.place
          c.loop-place.preferences c.evict_at-one.result.preferences c.loop-place.invariant.1 below
          c.loop-place.invariant.3 (c.evict_at-one.ensures.preferences no_task),
      omega (arith, c.loop-place.invariant.4, c.evict_at-one.ensures.few),
    )

pub overflow_add-preferences : goal.overflow_add-preferences
overflow_add-preferences g c =
    omega (
      arith,
      c.loop-place.invariant.4,
      c.evict_at-one.ensures.few,
      c.loop-place-test.true,
      c.len-place-end.ensures.len,
      as-many-values c.args.tasks.now.entries,
      c.requires.few,
    )

pub returns-clause-names : goal.returns-clause-names
returns-clause-names g c = c.loop-place.invariant.0

pub returns-clause-tasks : goal.returns-clause-tasks
returns-clause-tasks g c =
    let old = values c.args.tasks.now in
    c.loop-place.invariant.1
    ∙ written-all (map (evicted c.args.name) old) old c.loop-place.place (length-map old (evicted c.args.name))
    (omega (arith, c.loop-place-test.false, c.len-place-end.ensures.len, as-many-values c.args.tasks.now.entries))

pub returns-clause-count : goal.returns-clause-count
returns-clause-count g c =
    c.loop-place.invariant.2
    ∙ ap (count_by (ran c.args.name (values c.args.tasks.now)))
    (take_all c.loop-place.place (values c.args.tasks.now)
    (omega (arith, c.loop-place-test.false, c.len-place-end.ensures.len, as-many-values c.args.tasks.now.entries)))

pub returns-clause-preferences : goal.returns-clause-preferences
returns-clause-preferences g c =
    let old = values c.args.tasks.now in
    c.loop-place.invariant.3
    ∙ ap preference_count
    (take_all c.loop-place.place (map (evicted c.args.name) old)
    (omega (
      arith,
      c.loop-place-test.false,
      c.len-place-end.ensures.len,
      as-many-values c.args.tasks.now.entries,
      length-map old (evicted c.args.name),
    ))
    ∙ (let all : values c.loop-place.tasks ≡ map (evicted c.args.name) old =
    c.loop-place.invariant.1
    ∙ written-all (map (evicted c.args.name) old) old c.loop-place.place (length-map old (evicted c.args.name))
    (omega (arith, c.loop-place-test.false, c.len-place-end.ensures.len, as-many-values c.args.tasks.now.entries)) in
    sym all))
