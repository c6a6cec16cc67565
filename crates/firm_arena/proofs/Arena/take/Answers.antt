use Rattle.std.proofs.Common.{IsSome}
use Rattle.std.proofs.lemmas.List.{set-set}
use Rattle.firm_arena.specs.Arena.{find}
use Rattle.firm_arena.specs.Laws.{some_of}
use Rattle.firm_arena.proofs.SlotLemmas.{copied_there, found_slot, sound_map, take_seen, take_sound}
use Rattle.firm_arena.proofs.Arena.take.Goals as goal

pub unhold-value-requires : goal.unhold-value-requires
unhold-value-requires g c =
    let there : IsSome (find c.args.self.now c.args.id) =
    rw (← c.get.ensures.value) (copied_there c.get.result (rw c.if-is_none.false at c.is_none.ensures)) in
    let found = some_of _ (rw (← c.self.view_is) at there) in (
      found.0,
      (
        c.args.id.stamp,
        found_slot c.self.inside.block c.self.inside.counter c.args.id.place c.args.id.stamp found.0 found.1,
      ),
    )

pub invariant_of-self : goal.invariant_of-self
invariant_of-self g c =
    rw (c.write.ensures, c.unhold-value.ensures.row, set-set)
    (take_sound _ _ _ _ _ c.args.id.place c.unhold-value.ensures.value.0 _ c.self.invariant
    c.unhold-value.ensures.value.1).1

pub returns-clause-map : goal.returns-clause-map
returns-clause-map g c = sound_map _ _ _ _ _ (invariant_of-self g c)

pub returns-clause-removes : goal.returns-clause-removes
returns-clause-removes g c =
    let there : IsSome (find c.args.self.now c.args.id) =
    rw (← c.get.ensures.value) (copied_there c.get.result (rw c.if-is_none.false at c.is_none.ensures)) in
    let taken =
    take_seen _ _ _ _ _ _ _ c.args.id _ c.self.invariant (rw (← c.self.view_is) at there) c.unhold-value.ensures.row
    c.write.ensures in
    rw (← c.self.view_is) taken.removes

pub returns-clause-gone : goal.returns-clause-gone
returns-clause-gone g c =
    let there : IsSome (find c.args.self.now c.args.id) =
    rw (← c.get.ensures.value) (copied_there c.get.result (rw c.if-is_none.false at c.is_none.ensures)) in
    let taken =
    take_seen _ _ _ _ _ _ _ c.args.id _ c.self.invariant (rw (← c.self.view_is) at there) c.unhold-value.ensures.row
    c.write.ensures in
    taken.gone

pub returns-clause-others : goal.returns-clause-others
returns-clause-others g c =
    let there : IsSome (find c.args.self.now c.args.id) =
    rw (← c.get.ensures.value) (copied_there c.get.result (rw c.if-is_none.false at c.is_none.ensures)) in
    let taken =
    take_seen _ _ _ _ _ _ _ c.args.id _ c.self.invariant (rw (← c.self.view_is) at there) c.unhold-value.ensures.row
    c.write.ensures in
    rw (← c.self.view_is) taken.others

pub returns-clause-len : goal.returns-clause-len
returns-clause-len g c =
    let there : IsSome (find c.args.self.now c.args.id) =
    rw (← c.get.ensures.value) (copied_there c.get.result (rw c.if-is_none.false at c.is_none.ensures)) in
    let taken =
    take_seen _ _ _ _ _ _ _ c.args.id _ c.self.invariant (rw (← c.self.view_is) at there) c.unhold-value.ensures.row
    c.write.ensures in
    rw (← c.self.view_is) taken.len

pub returns-clause-never_again : goal.returns-clause-never_again
returns-clause-never_again g c =
    let there : IsSome (find c.args.self.now c.args.id) =
    rw (← c.get.ensures.value) (copied_there c.get.result (rw c.if-is_none.false at c.is_none.ensures)) in
    let taken =
    take_seen _ _ _ _ _ _ _ c.args.id _ c.self.invariant (rw (← c.self.view_is) at there) c.unhold-value.ensures.row
    c.write.ensures in
    taken.never_again
