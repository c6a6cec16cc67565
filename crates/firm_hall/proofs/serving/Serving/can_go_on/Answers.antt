use Rattle.std.proofs.Common.{rules, ◌≡◌, ◌<◌, None, Some, arith, length, subst, true}
use Rattle.firm_rules.specs.declared.commands.Command.TheVariants.{Round}
use Rattle.firm_held.specs.Held.{FirstIs}
use Rattle.firm_hall.specs.inner.DeskStates.{IsAway, IsTurned}
use Rattle.firm_hall.proofs.Coming.{came_back, round_waits, stayed_away}
use Rattle.firm_hall.proofs.Fitting.{same_here}
use Rattle.firm_hall.proofs.serving.Serving.can_go_on.Goals as goal

pub returns-in_default-clause-keeps : goal.returns-in_default-clause-keeps
returns-in_default-clause-keeps c =
    let s = c.self.inside in
    let same : IsTurned c.index_mut.result.now c.look.new.self None = rw c.in_default.is at c.look.ensures.turned in
    rw (
      ← c.self.view_is,
      stayed_away s.desk_states.items c.args.place c.index_mut.result.now c.look.new.self _ c.index_mut.ensures.value
          same,
    )
    (λ opening text written now told. told)

pub first_of-at-requires : goal.first_of-at-requires
first_of-at-requires c =
    let s = c.self.inside in
    let low : c.args.place < length s.desk_states.items =
    omega (arith, c.requires, c.self.invariant.desk_states.long) in
    let is : c.is_away.result ≡ true = search rules in
    let away : IsAway c.index_mut.result.now =
    subst IsAway (same_here s.desk_states.items c.args.place _ _ _ _ low c.index.ensures c.index_mut.ensures.value)
    (c.is_away.ensures is) in
    let first : FirstIs c.args.place Round s.held.answers =
    round_waits s.hall.value.id s.register s.desk_states.items s.held c.args.place c.index_mut.result.now _
    c.self.invariant c.requires c.index_mut.ensures.value
    away in (Round, first)

pub fill-requires : goal.fill-requires
fill-requires c =
    let s = c.self.inside in
    let low : c.args.place < length s.desk_states.items =
    omega (arith, c.requires, c.self.invariant.desk_states.long) in
    let is : c.is_away.result ≡ true = search rules in
    let away : IsAway c.index_mut.result.now =
    subst IsAway (same_here s.desk_states.items c.args.place _ _ _ _ low c.index.ensures c.index_mut.ensures.value)
    (c.is_away.ensures is) in
    let first : FirstIs c.args.place Round s.held.answers =
    round_waits s.hall.value.id s.register s.desk_states.items s.held c.args.place c.index_mut.result.now _
    c.self.invariant c.requires c.index_mut.ensures.value
    away in (Round, c.first_of-at.ensures Round first)

pub invariant_of-self-2 : goal.invariant_of-self-2
invariant_of-self-2 c =
    let s = c.self.inside in
    let turn : IsTurned c.index_mut.result.now c.look.new.self (Some c.in-Some.reply) =
    rw c.in-Some.is at c.look.ensures.turned in
    let came = came_back s.hall.value.id s.register s.desk_states.items s.held c.args.place c.index_mut.result.now
    c.look.new.self _ c.in-Some.reply c.self.invariant c.requires c.index_mut.ensures.value turn in
    rw c.fill.ensures came.stands

pub returns-clause-follows : goal.returns-clause-follows
returns-clause-follows c =
    let s = c.self.inside in
    let turn : IsTurned c.index_mut.result.now c.look.new.self (Some c.in-Some.reply) =
    rw c.in-Some.is at c.look.ensures.turned in
    let came = came_back s.hall.value.id s.register s.desk_states.items s.held c.args.place c.index_mut.result.now
    c.look.new.self _ c.in-Some.reply c.self.invariant c.requires c.index_mut.ensures.value turn in
    rw (← c.self.view_is, c.fill.ensures) came.follows

pub returns-clause-keeps : goal.returns-clause-keeps
returns-clause-keeps c =
    let s = c.self.inside in
    let turn : IsTurned c.index_mut.result.now c.look.new.self (Some c.in-Some.reply) =
    rw c.in-Some.is at c.look.ensures.turned in
    let came = came_back s.hall.value.id s.register s.desk_states.items s.held c.args.place c.index_mut.result.now
    c.look.new.self _ c.in-Some.reply c.self.invariant c.requires c.index_mut.ensures.value turn in
    rw (← c.self.view_is, c.fill.ensures) came.keeps
