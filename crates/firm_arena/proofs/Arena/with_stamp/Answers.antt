use Rattle.firm_arena.proofs.SlotLemmas.{sound_map, new_sound, new_seen}
use Rattle.firm_arena.proofs.Arena.with_stamp.Goals as goal

pub invariant_of-result : goal.invariant_of-result
invariant_of-result g c =
    rw c.in_ok-new.ensures (new_sound c.args.capacity c.args.first c.ranges.capacity.fits c.ranges.first.fits)

pub returns-clause-empty : goal.returns-clause-empty
returns-clause-empty g c = new_seen _ c.args.capacity c.args.first c.in_ok-new.ensures

pub returns-clause-map : goal.returns-clause-map
returns-clause-map g c = sound_map _ _ _ _ _ (invariant_of-result g c)
