use Rattle.std.proofs.Common.{◌≡◌, take}
use Rattle.arrayvec.specs.ArrayVec.{array_vec_len}
use Rattle.firm_rules.proofs.demands.copied.Given as goal

abbrev pub invariant-loop-place : goal.invariant-loop-place
invariant-loop-place l = record {
  count : array_vec_len l.same ≡ l.place-index;
  items : l.same.items ≡ take l.place-index l.places;
}
