use Rattle.std.proofs.Common.{◌≡◌, Some}
use Rattle.firm_text.specs.Registers.{place_in}
use Rattle.firm_hall.specs.inner.Serving.{IsBackAt}
use Rattle.firm_hall.proofs.Fitting.{back_here, home_of, is_home}
use Rattle.firm_hall.proofs.Obeying.{left, left_place, not_left, retirement_refused, retirement_told}
use Rattle.firm_hall.proofs.serving.Serving.retire.Goals as goal

pub returns-in-Err-clause-obeys : goal.returns-in-Err-clause-obeys
returns-in-Err-clause-obeys c =
    let s = c.self.inside in
    let none = not_left (place_in s.register c.args.name) c.in-Err.refusal c.in-Err.ensures.place in
    rw (← c.self.view_is, c.in-Err.ensures.unchanged, none.1)
    (λ opening. retirement_refused c.answers_add_up.ensures.one_more opening s.register s.desk_states.items
    s.held.answers s.held.output c.answers_add_up.ensures.not_retired c.args.name none.0)

pub retire-requires-2 : goal.retire-requires-2
retire-requires-2 c =
    let s = c.self.inside in
    let found : place_in s.register c.args.name ≡ Some c.in-Ok.place = left_place _ _ c.in-Ok.ensures.place in
    let back : IsBackAt c.in-Ok.place s.desk_states.items = rw (← c.self.view_is, found) at c.requires.back in
    is_home s.hall.value.id c.index_mut.result.now
    (home_of s.hall.value.id s.register s.held.answers s.desk_states.items c.self.invariant.desk_states
    c.self.invariant.fits c.in-Ok.place c.index_mut.result.now _ c.in-Ok.ensures.within c.index_mut.ensures.value
    c.args.name found back)

pub invariant_of-self-2 : goal.invariant_of-self-2
invariant_of-self-2 c =
    let s = c.self.inside in
    let found : place_in s.register c.args.name ≡ Some c.in-Ok.place = left_place _ _ c.in-Ok.ensures.place in
    let back : IsBackAt c.in-Ok.place s.desk_states.items = rw (← c.self.view_is, found) at c.requires.back in
    let change = left s.hall.value.id s.register s.held.answers s.desk_states.items c.self.invariant.desk_states
    c.self.invariant.fits c.in-Ok.place c.index_mut.result.now _ c.in-Ok.ensures.within c.index_mut.ensures.value
    c.retire-2.new.self (back_here c.in-Ok.place s.desk_states.items c.index_mut.result.now _ c.in-Ok.ensures.within
    c.index_mut.ensures.value back) c.retire-2.ensures in
    rw c.in-Ok.ensures.retired
    (record { desk_states = change.desk_states_are; fits = change.fits; placed = c.self.invariant.placed })

pub returns-clause-obeys : goal.returns-clause-obeys
returns-clause-obeys c =
    let s = c.self.inside in
    let found : place_in s.register c.args.name ≡ Some c.in-Ok.place = left_place _ _ c.in-Ok.ensures.place in
    let back : IsBackAt c.in-Ok.place s.desk_states.items = rw (← c.self.view_is, found) at c.requires.back in
    let change = left s.hall.value.id s.register s.held.answers s.desk_states.items c.self.invariant.desk_states
    c.self.invariant.fits c.in-Ok.place c.index_mut.result.now _ c.in-Ok.ensures.within c.index_mut.ensures.value
    c.retire-2.new.self (back_here c.in-Ok.place s.desk_states.items c.index_mut.result.now _ c.in-Ok.ensures.within
    c.index_mut.ensures.value back) c.retire-2.ensures in
    rw (← c.self.view_is, c.in-Ok.ensures.retired)
    (λ opening. retirement_told c.answers_add_up.ensures.one_more opening s.register s.desk_states.items s.held.answers
    s.held.output c.answers_add_up.ensures.retired _ c.args.name c.in-Ok.place c.in-Ok.ensures.sound found change.none
    change.asked change.books)
