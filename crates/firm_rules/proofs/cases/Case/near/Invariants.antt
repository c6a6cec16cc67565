use Rattle.std.proofs.Common.{◌≡◌, ◌+◌, ◌<◌, ◌++◌, take, length}
use Rattle.std.specs.List.{All}
use Rattle.std.specs.Option.{option_to_list}
use Rattle.arrayvec.specs.ArrayVec.{array_vec_len}
use Rattle.firm_rules.specs.Placement.{task_at}
use Rattle.firm_rules.proofs.cases.Case.near.Given as goal

abbrev pub invariant-loop-place : goal.invariant-loop-place
invariant-loop-place g l = record {
  count : array_vec_len l.near ≡ length (option_to_list (task_at l.self l.task).home) + l.place-index;
  items : l.near.items ≡ option_to_list (task_at l.self l.task).home ++ take l.place-index l.place-items;
  below : All (λ place. place < length l.self.slots) l.near.items;
}
