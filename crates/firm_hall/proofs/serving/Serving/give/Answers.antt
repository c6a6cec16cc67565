use Rattle.std.proofs.Common.{None, Some}
use Rattle.firm_held.specs.Held.{FirstIsAt}
use Rattle.firm_hall.specs.inner.DeskStates.{IsTakenAt}
use Rattle.firm_hall.proofs.Coming.{asked_moves, given_moves}
use Rattle.firm_held.specs.Laws.{first_at, length_filled, none_filled}
use Rattle.firm_hall.proofs.serving.Serving.give.Goals as goal

pub invariant_of-self : goal.invariant_of-self
invariant_of-self g c =
    let s = c.self.inside in
    let first : FirstIsAt c.args.place c.args.command c.args.at s.held.answers =
    rw (← c.self.view_is) at c.requires.first in
    let taken : IsTakenAt c.index_mut.result.now c.args.command c.take.new.self None =
    rw c.in_default.is at c.take.ensures.taken in
    let moved = asked_moves s.hall.value.id s.register s.desk_states.items s.held c.args.place _ c.args.command
    c.self.invariant c.requires.place (first_at c.args.place c.args.command c.args.at s.held.answers first)
    c.index_mut.result.now c.take.new.self c.index_mut.ensures.value taken in
    moved.stands

pub returns-in_default-clause-keeps : goal.returns-in_default-clause-keeps
returns-in_default-clause-keeps g c =
    let s = c.self.inside in
    let first : FirstIsAt c.args.place c.args.command c.args.at s.held.answers =
    rw (← c.self.view_is) at c.requires.first in
    let taken : IsTakenAt c.index_mut.result.now c.args.command c.take.new.self None =
    rw c.in_default.is at c.take.ensures.taken in
    let moved = asked_moves s.hall.value.id s.register s.desk_states.items s.held c.args.place _ c.args.command
    c.self.invariant c.requires.place (first_at c.args.place c.args.command c.args.at s.held.answers first)
    c.index_mut.result.now c.take.new.self c.index_mut.ensures.value taken in
    rw (← c.self.view_is) moved.keeps

pub invariant_of-self-2 : goal.invariant_of-self-2
invariant_of-self-2 g c =
    let s = c.self.inside in
    let first : FirstIsAt c.args.place c.args.command c.args.at s.held.answers =
    rw (← c.self.view_is) at c.requires.first in
    let taken : IsTakenAt c.index_mut.result.now c.args.command c.take.new.self (Some c.in-Some.reply) =
    rw c.in-Some.is at c.take.ensures.taken in
    let moved = given_moves s.hall.value.id s.register s.desk_states.items s.held c.args.place _ c.args.command
    c.self.invariant c.requires.place (first_at c.args.place c.args.command c.args.at s.held.answers first)
    c.index_mut.result.now c.take.new.self c.in-Some.reply c.index_mut.ensures.value taken in
    rw c.fill.ensures moved.stands

pub returns-clause-none : goal.returns-clause-none
returns-clause-none g c =
    let s = c.self.inside in
    let first : FirstIsAt c.args.place c.args.command c.args.at s.held.answers =
    rw (← c.self.view_is) at c.requires.first in
    rw c.fill.ensures
    (λ yes. none_filled c.args.place c.args.command c.in-Some.reply c.args.at s.held.answers first)

pub returns-clause-count : goal.returns-clause-count
returns-clause-count g c =
    let s = c.self.inside in
    rw (← c.self.view_is, c.fill.ensures) (length_filled c.args.place c.in-Some.reply s.held.answers)

pub returns-clause-follows : goal.returns-clause-follows
returns-clause-follows g c =
    let s = c.self.inside in
    let first : FirstIsAt c.args.place c.args.command c.args.at s.held.answers =
    rw (← c.self.view_is) at c.requires.first in
    let taken : IsTakenAt c.index_mut.result.now c.args.command c.take.new.self (Some c.in-Some.reply) =
    rw c.in-Some.is at c.take.ensures.taken in
    let moved = given_moves s.hall.value.id s.register s.desk_states.items s.held c.args.place _ c.args.command
    c.self.invariant c.requires.place (first_at c.args.place c.args.command c.args.at s.held.answers first)
    c.index_mut.result.now c.take.new.self c.in-Some.reply c.index_mut.ensures.value taken in
    rw (← c.self.view_is, c.fill.ensures) moved.follows

pub returns-clause-keeps : goal.returns-clause-keeps
returns-clause-keeps g c =
    let s = c.self.inside in
    let first : FirstIsAt c.args.place c.args.command c.args.at s.held.answers =
    rw (← c.self.view_is) at c.requires.first in
    let taken : IsTakenAt c.index_mut.result.now c.args.command c.take.new.self (Some c.in-Some.reply) =
    rw c.in-Some.is at c.take.ensures.taken in
    let moved = given_moves s.hall.value.id s.register s.desk_states.items s.held c.args.place _ c.args.command
    c.self.invariant c.requires.place (first_at c.args.place c.args.command c.args.at s.held.answers first)
    c.index_mut.result.now c.take.new.self c.in-Some.reply c.index_mut.ensures.value taken in
    rw (← c.self.view_is, c.fill.ensures) moved.keeps
