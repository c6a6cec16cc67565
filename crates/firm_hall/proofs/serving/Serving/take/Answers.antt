use Rattle.std.proofs.Common.{◌≡◌, Some}
use Rattle.firm_text.specs.Registers.{IsRegister, place_in}
use Rattle.firm_hall.specs.inner.Serving.{IsBackAt}
use Rattle.firm_hall.proofs.Fitting.{back_here, home_of}
use Rattle.firm_hall.proofs.Taking.{take}
use Rattle.firm_hall.proofs.serving.Serving.take.Goals as goal

pub take-reply-requires-clause-home : goal.take-reply-requires-clause-home
take-reply-requires-clause-home g c =
    let s = c.self.inside in
    let found : place_in s.register c.args.name ≡ Some c.args.place = rw (← c.self.view_is) at c.requires.found in
    let back : IsBackAt c.args.place s.desk_states.items = rw (← c.self.view_is) at c.requires.back in
    let same = c.requires.open in
    rw (← same, ← c.self.view_is)
    (home_of s.hall.value.id s.register s.held.answers s.desk_states.items c.self.invariant.desk_states
    c.self.invariant.fits
    c.args.place c.index_mut.result.now _ c.requires.place c.index_mut.ensures.value c.args.name found back)

pub invariant_of-self : goal.invariant_of-self
invariant_of-self g c =
    let s = c.self.inside in
    let before = c.index_mut.result.now in
    let sound : IsRegister s.register = rw (← c.self.view_is) at c.requires.sound in
    let found : place_in s.register c.args.name ≡ Some c.args.place = rw (← c.self.view_is) at c.requires.found in
    let back : IsBackAt c.args.place s.desk_states.items = rw (← c.self.view_is) at c.requires.back in
    let taken = take c.answers_add_up.ensures.one_more c.answers_add_up.ensures.known
    c.replies_tell_their_marks.ensures s.hall.value.id s.register s.desk_states.items s.held c.args.place _ c.args.name
    c.args.command c.self.invariant c.requires.place sound found before c.take-reply.new.self c.take-reply.result
    c.index_mut.ensures.value
    (back_here c.args.place s.desk_states.items before _ c.requires.place c.index_mut.ensures.value back)
    c.take-reply.ensures.taken in
    rw (c.push.ensures, c.to.ensures) taken.stands

pub returns-clause-takes : goal.returns-clause-takes
returns-clause-takes g c =
    let s = c.self.inside in
    let before = c.index_mut.result.now in
    let sound : IsRegister s.register = rw (← c.self.view_is) at c.requires.sound in
    let found : place_in s.register c.args.name ≡ Some c.args.place = rw (← c.self.view_is) at c.requires.found in
    let back : IsBackAt c.args.place s.desk_states.items = rw (← c.self.view_is) at c.requires.back in
    let taken = take c.answers_add_up.ensures.one_more c.answers_add_up.ensures.known
    c.replies_tell_their_marks.ensures s.hall.value.id s.register s.desk_states.items s.held c.args.place _ c.args.name
    c.args.command c.self.invariant c.requires.place sound found before c.take-reply.new.self c.take-reply.result
    c.index_mut.ensures.value
    (back_here c.args.place s.desk_states.items before _ c.requires.place c.index_mut.ensures.value back)
    c.take-reply.ensures.taken in
    rw (← c.self.view_is, c.push.ensures, c.to.ensures) taken.takes
