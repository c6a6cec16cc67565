use Rattle.std.proofs.Common.{rules, ◌≡◌, ◌+◌, ◌∙◌, ◌<◌, List, ap, arith, length, set, subst, sym}
use Rattle.firm_held.specs.Held.{FirstIsAt, IsWaiting, answered, bytes_in, bytes_of_reply, held_is}
use Rattle.firm_held.specs.declared.held.HeldAnswer.{HeldAnswer}
use Rattle.firm_held.proofs.HeldAnswers.{filled_at, first_waiting, first_within}
use Rattle.firm_held.proofs.HeldBytes.{bytes_few, bytes_filled, reply_few}
use Rattle.firm_held.proofs.held.Held.fill.Goals as goal

pub index_mut-requires : goal.index_mut-requires
index_mut-requires c =
    let s = c.self.inside in
    let first : FirstIsAt c.args.place c.requires.0 c.args.at s.answers.items = rw (← c.self.view_is) at c.requires.1 in
    let low : c.args.at < length s.answers.items =
    first_within c.args.place c.requires.0 c.args.at s.answers.items first in
    omega (arith, low)

pub answer-requires : goal.answer-requires
answer-requires c =
    let s = c.self.inside in
    let first : FirstIsAt c.args.place c.requires.0 c.args.at s.answers.items =
    rw (← c.self.view_is) at c.requires.1 in (
      c.args.place,
      c.requires.0,
      subst (IsWaiting c.args.place c.requires.0) (sym c.index_mut.ensures.value)
          (first_waiting c.args.place c.requires.0 c.args.at s.answers.items _ first),
    )

pub returns : goal.returns
returns c =
    let s = c.self.inside in
    let first : FirstIsAt c.args.place c.requires.0 c.args.at s.answers.items = rw (← c.self.view_is) at c.requires.1 in
    rw (← c.self.view_is)
    (ap (λ (xs : List HeldAnswer). held_is xs s.output.items)
    (ap (set s.answers.items c.args.at) (c.answer.ensures ∙ ap (answered c.args.reply) c.index_mut.ensures.value)
    ∙ filled_at c.args.place c.requires.0 c.args.reply c.args.at s.answers.items _ first))

pub overflow_add-self : goal.overflow_add-self
overflow_add-self c =
    let s = c.self.inside in
    omega (
      arith,
      c.bytes_of_reply.ensures,
      c.self.invariant.0,
      c.self.invariant.2,
      s.answers.ok,
      reply_few c.args.reply,
      bytes_few s.answers.items,
    )

pub invariant_of-self : goal.invariant_of-self
invariant_of-self c =
    let s = c.self.inside in
    let first : FirstIsAt c.args.place c.requires.0 c.args.at s.answers.items = rw (← c.self.view_is) at c.requires.1 in
    let sum : bytes_in (set s.answers.items c.args.at c.answer.new.self)
    ≡ bytes_in s.answers.items + bytes_of_reply c.args.reply =
    ap (λ (x : HeldAnswer). bytes_in (set s.answers.items c.args.at x))
    (c.answer.ensures ∙ ap (answered c.args.reply) c.index_mut.ensures.value)
    ∙ bytes_filled c.args.place c.requires.0 c.args.reply c.args.at s.answers.items _ first in
    (search rules, search rules, omega (arith, sum, c.bytes_of_reply.ensures, c.self.invariant.2))
