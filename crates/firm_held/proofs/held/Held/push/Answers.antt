use Rattle.std.proofs.Common.{[], ◌∷◌, ◌++◌, ◌≡◌, ◌+◌, ◌<◌, ◌≤◌, arith, deque_len, length}
use Rattle.firm_held.specs.Held.{bytes_in, most_answers_held}
use Rattle.firm_held.proofs.HeldBytes.{answer_few, bytes_few, bytes_push}
use Rattle.firm_held.proofs.held.Held.push.Goals as goal

pub overflow_add-self : goal.overflow_add-self
overflow_add-self c =
    let s = c.self.inside in
    omega (
      arith,
      c.bytes.ensures,
      c.self.invariant.0,
      c.self.invariant.2,
      s.answers.ok,
      answer_few c.args.answer,
      bytes_few s.answers.items,
    )

pub invariant_of-self : goal.invariant_of-self
invariant_of-self c =
    let s = c.self.inside in
    let pushed = c.push_back_reserved.ensures in
    let low : length s.answers.items < most_answers_held = rw (← c.self.view_is) at c.requires in
    let few : deque_len s.answers + 1 ≤ most_answers_held = omega (arith, low, s.answers.ok) in
    let sum : s.bytes + c.bytes.result ≡ bytes_in (s.answers.items ++ c.args.answer ∷ []) =
    omega (arith, bytes_push s.answers.items c.args.answer, c.bytes.ensures, c.self.invariant.2) in
    (omega (arith, few, pushed.len), rw pushed.capacity c.self.invariant.1, rw pushed.items sum)
