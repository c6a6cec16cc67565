use Rattle.std.proofs.Common.{◌≤◌, List, length}
use Rattle.firm_rounds.specs.Passes.{QueueId}
use Rattle.firm_text.specs.declared.registers.Entry.{Entry}
use Rattle.firm_hall.specs.inner.Serving.{Keeps, Stands, serving_is}
use Rattle.firm_hall.specs.declared.desk_states.DeskState.{DeskState}
use Rattle.firm_hall.proofs.serving.put_known.Given as goal

abbrev pub invariant-loop-held : goal.invariant-loop-held
invariant-loop-held l = record {
  stands : (queue : QueueId) (register : List Entry) (desk_states : List DeskState)
      → Stands (serving_is queue register desk_states l.initial.held)
      → Stands (serving_is queue register desk_states l.held);
  keeps : (queue : QueueId) (register : List Entry) (desk_states : List DeskState)
      → Keeps (serving_is queue register desk_states l.initial.held) (serving_is queue register desk_states l.held);
  fewer : length l.held.answers ≤ length l.initial.held.answers;
}

abbrev pub decreases-loop-held : goal.decreases-loop-held
decreases-loop-held l = length l.held.answers
