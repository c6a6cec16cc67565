use Rattle.std.proofs.Common.{◌≡◌, length, take}
use Rattle.firm_held.specs.Held.{NoneWaits}
use Rattle.firm_hall.specs.inner.Serving.{Follows, IsHomeAt, Keeps}
use Rattle.firm_hall.proofs.serving.Serving.visit.Given as goal

abbrev pub invariant-loop-at : goal.invariant-loop-at
invariant-loop-at g l = record {
  home : IsHomeAt l.place l.self.desk_states;
  count : length l.self.answers ≡ length l.initial.self.answers;
  none : NoneWaits l.place (take l.at l.self.answers);
  follows : Follows l.fn.self l.self;
  keeps : Keeps l.fn.self l.self;
}
