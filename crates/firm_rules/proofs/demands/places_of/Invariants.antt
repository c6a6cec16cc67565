use Rattle.std.proofs.Common.{◌≡◌, ◌<◌, map, take, length}
use Rattle.std.specs.List.{All}
use Rattle.arrayvec.specs.ArrayVec.{array_vec_len}
use Rattle.firm_rules.specs.Round.{place_of}
use Rattle.firm_rules.proofs.demands.places_of.Given as goal

abbrev pub invariant-loop-name : goal.invariant-loop-name
invariant-loop-name g l = record {
  count : array_vec_len l.places ≡ l.name-index;
  items : l.places.items ≡ map (place_of l.rows) (take l.name-index l.names);
  below : All (λ place. place < length l.rows.machines) l.places.items;
}
