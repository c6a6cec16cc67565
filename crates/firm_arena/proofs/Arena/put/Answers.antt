use Rattle.std.proofs.Common.{◌<◌, ◌+◌, ◌^◌, length, arith}
use Rattle.firm_arena.proofs.SlotLemmas.{sound_map, len_within, put_seen, put_sound}
use Rattle.firm_arena.proofs.Arena.put.Goals as goal

pub returns-then-self-capacity-clause-map_before : goal.returns-then-self-capacity-clause-map_before
returns-then-self-capacity-clause-map_before g c = rw (← c.self.view_is) (sound_map _ _ _ _ _ c.self.invariant)

pub returns-then-self-capacity-clause-map : goal.returns-then-self-capacity-clause-map
returns-then-self-capacity-clause-map g c = rw (← c.self.view_is) (sound_map _ _ _ _ _ c.self.invariant)

pub returns-then-self-clause-map_before : goal.returns-then-self-clause-map_before
returns-then-self-clause-map_before g c = rw (← c.self.view_is) (sound_map _ _ _ _ _ c.self.invariant)

pub returns-then-self-clause-map : goal.returns-then-self-clause-map
returns-then-self-clause-map g c = rw (← c.self.view_is) (sound_map _ _ _ _ _ c.self.invariant)

pub returns-clause-map_before : goal.returns-clause-map_before
returns-clause-map_before g c = rw (← c.self.view_is) (sound_map _ _ _ _ _ c.self.invariant)

pub invariant_of-self : goal.invariant_of-self
invariant_of-self g c =
    let room : c.self.inside.len < length c.self.inside.block = omega (arith, len_within _ _ _ _ _ c.self.invariant) in
    let limit : c.self.inside.counter + 1 < 2 ^ 64 = omega (arith, c.self.invariant.limit) in
    rw c.write.ensures (put_sound _ _ _ _ _ _ _ _ _ c.args.value c.self.invariant room limit c.claim-place.ensures)

pub returns-clause-map : goal.returns-clause-map
returns-clause-map g c = sound_map _ _ _ _ _ (invariant_of-self g c)

pub returns-clause-place : goal.returns-clause-place
returns-clause-place g c =
    let room : c.self.inside.len < length c.self.inside.block = omega (arith, len_within _ _ _ _ _ c.self.invariant) in
    let put = put_seen _ _ _ _ _ _ _ _ _ _ c.args.value c.self.invariant room c.claim-place.ensures c.write.ensures in
    rw (← c.self.view_is) put.vacant

pub returns-clause-adds : goal.returns-clause-adds
returns-clause-adds g c =
    let room : c.self.inside.len < length c.self.inside.block = omega (arith, len_within _ _ _ _ _ c.self.invariant) in
    let put = put_seen _ _ _ _ _ _ _ _ _ _ c.args.value c.self.invariant room c.claim-place.ensures c.write.ensures in
    rw (← c.self.view_is) put.adds

pub returns-clause-found : goal.returns-clause-found
returns-clause-found g c =
    let room : c.self.inside.len < length c.self.inside.block = omega (arith, len_within _ _ _ _ _ c.self.invariant) in
    let put = put_seen _ _ _ _ _ _ _ _ _ _ c.args.value c.self.invariant room c.claim-place.ensures c.write.ensures in
    put.found

pub returns-clause-others : goal.returns-clause-others
returns-clause-others g c =
    let room : c.self.inside.len < length c.self.inside.block = omega (arith, len_within _ _ _ _ _ c.self.invariant) in
    let put = put_seen _ _ _ _ _ _ _ _ _ _ c.args.value c.self.invariant room c.claim-place.ensures c.write.ensures in
    rw (← c.self.view_is) put.others

pub returns-clause-kept : goal.returns-clause-kept
returns-clause-kept g c =
    let room : c.self.inside.len < length c.self.inside.block = omega (arith, len_within _ _ _ _ _ c.self.invariant) in
    let put = put_seen _ _ _ _ _ _ _ _ _ _ c.args.value c.self.invariant room c.claim-place.ensures c.write.ensures in
    rw (← c.self.view_is) put.kept

pub returns-clause-len : goal.returns-clause-len
returns-clause-len g c =
    let room : c.self.inside.len < length c.self.inside.block = omega (arith, len_within _ _ _ _ _ c.self.invariant) in
    let put = put_seen _ _ _ _ _ _ _ _ _ _ c.args.value c.self.invariant room c.claim-place.ensures c.write.ensures in
    rw (← c.self.view_is) put.len
