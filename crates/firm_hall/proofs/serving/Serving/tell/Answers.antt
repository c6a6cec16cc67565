use Rattle.std.proofs.Common.{◌≡◌, Some}
use Rattle.firm_text.specs.Registers.{IsRegister, place_in}
use Rattle.firm_hall.specs.inner.Serving.{IsBackAt}
use Rattle.firm_hall.proofs.Fitting.{back_here, home_of, is_home}
use Rattle.firm_hall.proofs.Taking.{take}
use Rattle.firm_hall.proofs.serving.Serving.tell.Goals as goal

pub tell-reply-requires-clause-home : goal.tell-reply-requires-clause-home
tell-reply-requires-clause-home c =
    let s = c.self.inside in
    let found : place_in s.register c.args.name ≡ Some c.args.place = rw (← c.self.view_is) at c.requires.found in
    let back : IsBackAt c.args.place s.desk_states.items = rw (← c.self.view_is) at c.requires.back in
    is_home s.hall.value.id c.index_mut.result.now
    (home_of s.hall.value.id s.register s.held.answers s.desk_states.items c.self.invariant.desk_states
    c.self.invariant.fits
    c.args.place c.index_mut.result.now _ c.requires.place c.index_mut.ensures.value c.args.name found back)

pub invariant_of-self : goal.invariant_of-self
invariant_of-self c =
    let s = c.self.inside in
    let before = c.index_mut.result.now in
    let sound : IsRegister s.register = rw (← c.self.view_is) at c.requires.sound in
    let found : place_in s.register c.args.name ≡ Some c.args.place = rw (← c.self.view_is) at c.requires.found in
    let back : IsBackAt c.args.place s.desk_states.items = rw (← c.self.view_is) at c.requires.back in
    let taken = take c.answers_add_up.ensures.one_more c.answers_add_up.ensures.known
    c.replies_tell_their_marks.ensures s.hall.value.id s.register s.desk_states.items s.held c.args.place _ c.args.name
    c.args.command c.self.invariant c.requires.place sound found before c.tell-reply.new.self (Some c.tell-reply.result)
    c.index_mut.ensures.value
    (back_here c.args.place s.desk_states.items before _ c.requires.place c.index_mut.ensures.value back)
    c.tell-reply.ensures in
    rw (c.push.ensures) taken.stands

pub returns-clause-takes : goal.returns-clause-takes
returns-clause-takes c =
    let s = c.self.inside in
    let before = c.index_mut.result.now in
    let sound : IsRegister s.register = rw (← c.self.view_is) at c.requires.sound in
    let found : place_in s.register c.args.name ≡ Some c.args.place = rw (← c.self.view_is) at c.requires.found in
    let back : IsBackAt c.args.place s.desk_states.items = rw (← c.self.view_is) at c.requires.back in
    let taken = take c.answers_add_up.ensures.one_more c.answers_add_up.ensures.known
    c.replies_tell_their_marks.ensures s.hall.value.id s.register s.desk_states.items s.held c.args.place _ c.args.name
    c.args.command c.self.invariant c.requires.place sound found before c.tell-reply.new.self (Some c.tell-reply.result)
    c.index_mut.ensures.value
    (back_here c.args.place s.desk_states.items before _ c.requires.place c.index_mut.ensures.value back)
    c.tell-reply.ensures in
    rw (← c.self.view_is, c.push.ensures) taken.takes
