use Rattle.std.proofs.Common.{false, sym, true}
use Rattle.firm_hall.specs.inner.DeskStates.{IsAdmitted}
use Rattle.firm_hall.proofs.Fitting.{free_of}
use Rattle.firm_hall.proofs.Obeying.{admission_refused, admission_found_no_memory, admission_told, came, nobody_came}
use Rattle.firm_hall.proofs.serving.Serving.admit.Goals as goal

pub returns-in-Err-clause-obeys : goal.returns-in-Err-clause-obeys
returns-in-Err-clause-obeys c =
    let s = c.self.inside in
    rw (← c.self.view_is, c.in-Err.ensures.unchanged)
    (λ opening. admission_refused c.answers_add_up.ensures.one_more opening s.register s.desk_states.items
    s.held.answers s.held.output c.answers_add_up.ensures.not_admitted c.args.name c.args.limits c.in-Err.refusal
    (sym c.in-Err.ensures.place))

pub admit-requires-2 : goal.admit-requires-2
admit-requires-2 c =
    let s = c.self.inside in
    free_of s.hall.value.id s.register s.held.answers s.desk_states.items c.self.invariant.desk_states
    c.self.invariant.fits
    c.in-Ok.place c.index_mut.result.now _ c.in-Ok.ensures.within c.index_mut.ensures.value c.args.name
    (sym c.in-Ok.ensures.place)

pub returns-then-admit-clause-obeys : goal.returns-then-admit-clause-obeys
returns-then-admit-clause-obeys c =
    let s = c.self.inside in
    let before = c.index_mut.result.now in
    let last = c.admit-2.new.self in
    let admitted : IsAdmitted before c.args.limits true last = rw c.if-admit.true at c.admit-2.ensures in
    let change = came s.hall.value.id s.register s.held.answers s.desk_states.items c.self.invariant.desk_states
    c.self.invariant.fits c.in-Ok.place before _ c.in-Ok.ensures.within c.index_mut.ensures.value c.args.name
    c.args.limits last admitted in
    rw (← c.self.view_is, c.in-Ok.ensures.admitted)
    (λ opening. admission_told c.answers_add_up.ensures.one_more opening s.register s.desk_states.items s.held.answers
    s.held.output c.answers_add_up.ensures.admitted _ c.args.name c.args.limits c.in-Ok.place
    (sym c.in-Ok.ensures.place) change.none change.asked change.books)

pub invariant_of-self-then-admit : goal.invariant_of-self-then-admit
invariant_of-self-then-admit c =
    let s = c.self.inside in
    let before = c.index_mut.result.now in
    let last = c.admit-2.new.self in
    let admitted : IsAdmitted before c.args.limits true last = rw c.if-admit.true at c.admit-2.ensures in
    let change = came s.hall.value.id s.register s.held.answers s.desk_states.items c.self.invariant.desk_states
    c.self.invariant.fits c.in-Ok.place before _ c.in-Ok.ensures.within c.index_mut.ensures.value c.args.name
    c.args.limits last admitted in
    rw c.in-Ok.ensures.admitted
    (record { desk_states = change.desk_states_are; fits = change.fits; placed = c.self.invariant.placed })

pub returns-clause-obeys : goal.returns-clause-obeys
returns-clause-obeys c =
    let s = c.self.inside in
    let before = c.index_mut.result.now in
    let last = c.admit-2.new.self in
    let nobody : IsAdmitted before c.args.limits false last = rw c.if-admit.false at c.admit-2.ensures in
    let whole = nobody_came s.hall.value.id s.register s.held.answers s.desk_states.items c.self.invariant.desk_states
    c.self.invariant.fits c.in-Ok.place before _ c.in-Ok.ensures.within c.index_mut.ensures.value c.args.limits
    last nobody in
    let back = c.undo.ensures s.register c.args.name
    (record { given = sym c.in-Ok.ensures.place; led = c.in-Ok.ensures.admitted }) in
    rw (← c.self.view_is, whole, back)
    (λ opening. admission_found_no_memory c.answers_add_up.ensures.one_more opening s.register s.desk_states.items
    s.held.answers s.held.output c.answers_add_up.ensures.no_memory c.args.name c.args.limits c.in-Ok.place
    (sym c.in-Ok.ensures.place))

pub undo-requires : goal.undo-requires
undo-requires c =
    let s = c.self.inside in
    (s.register, c.args.name, record { given = sym c.in-Ok.ensures.place; led = c.in-Ok.ensures.admitted })
