use Rattle.std.proofs.Common.{◌≡◌, take}
use Rattle.arrayvec.specs.ArrayVec.{array_vec_len}
use Rattle.firm_graph.specs.Ids.{view_of}
use Rattle.firm_graph.specs.Network.{demand}
use Rattle.firm_canon.proofs.reads.places_of.Given as goal

abbrev pub invariant-loop-number : goal.invariant-loop-number
invariant-loop-number l = record {
  count : array_vec_len l.places ≡ l.number;
  items : l.places.items ≡ take l.number (demand (view_of l.graph).case l.task).preferred;
}
