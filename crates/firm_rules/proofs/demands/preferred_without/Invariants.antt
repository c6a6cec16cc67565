use Rattle.std.proofs.Common.{◌≡◌, ◌≤◌, take}
use Rattle.arrayvec.specs.ArrayVec.{array_vec_len}
use Rattle.firm_rules.specs.inner.Demands.{preferred_without}
use Rattle.firm_rules.proofs.demands.preferred_without.Given as goal

abbrev pub invariant-loop-place : goal.invariant-loop-place
invariant-loop-place l = record {
  count : array_vec_len l.left ≤ l.place-index;
  items : l.left.items ≡ preferred_without l.gone (take l.place-index l.places);
}
