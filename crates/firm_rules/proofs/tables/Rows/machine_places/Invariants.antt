use Rattle.std.proofs.Common.{◌≡◌, ◌<◌, true, map, take, length}
use Rattle.std.specs.List.{All}
use Rattle.arrayvec.specs.ArrayVec.{array_vec_len}
use Rattle.firm_rules.specs.Book.{machine_names}
use Rattle.firm_rules.specs.Names.{is_among}
use Rattle.firm_rules.specs.Round.{place_of}
use Rattle.firm_rules.proofs.tables.Rows.machine_places.Given as goal

-- the names before this one are machines', and stand at these places
abbrev pub invariant-loop-name : goal.invariant-loop-name
invariant-loop-name g l = record {
  count : array_vec_len l.places ≡ l.name-index;
  items : l.places.items ≡ map (place_of l.self) (take l.name-index l.names);
  below : All (λ place. place < length l.self.machines) l.places.items;
  there : All (λ name. is_among (machine_names l.self) name ≡ true) (take l.name-index l.names);
}
