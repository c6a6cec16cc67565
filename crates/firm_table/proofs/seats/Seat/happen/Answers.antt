use Rattle.std.proofs.Common.{refl}
use Rattle.std.specs.Prelude.{false}
use Rattle.firm_table.proofs.seats.Seat.happen.Goals as goal

pub returns-in-Post : goal.returns-in-Post
returns-in-Post c = rw c.in-Post.is (c.post.ensures.0, (λ e. cc), c.post.ensures.1)

pub returns-in-Ask : goal.returns-in-Ask
returns-in-Ask c = rw c.in-Ask.is (false, (λ e. refl), c.ask.ensures)

pub returns-in-Answer : goal.returns-in-Answer
returns-in-Answer c = rw c.in-Answer.is (c.solve.ensures.0, (λ e. cc), c.solve.ensures.1)

pub returns-in-Collect : goal.returns-in-Collect
returns-in-Collect c = rw c.in-Collect.is (false, (λ e. refl), c.collect.ensures)

pub returns-in-Admit : goal.returns-in-Admit
returns-in-Admit c = rw c.in-Admit.is (c.admit.ensures.0, (λ e. cc), c.admit.ensures.1)

pub returns-in-Retire : goal.returns-in-Retire
returns-in-Retire c = rw c.in-Retire.is (false, (λ e. refl), c.retire.ensures)
