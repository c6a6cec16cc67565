use Rattle.std.proofs.Common.{◌≡◌, ◌<◌, Some, arith, length}
use Rattle.firm_text.specs.Registers.{IsRegister, place_in}
use Rattle.firm_hall.proofs.Fitting.{has_tenant}
use Rattle.firm_hall.proofs.Taking.{hold}
use Rattle.firm_hall.proofs.serving.Serving.hold.Goals as goal

pub invariant_of-self : goal.invariant_of-self
invariant_of-self c =
    let s = c.self.inside in
    let before = c.index_mut.result.now in
    let sound : IsRegister s.register = rw (← c.self.view_is) at c.requires.sound in
    let found : place_in s.register c.args.name ≡ Some c.args.place = rw (← c.self.view_is) at c.requires.found in
    let within : c.args.place < length s.desk_states.items =
    omega (arith, c.requires.place, c.self.invariant.desk_states.long) in
    let held = hold c.answers_add_up.ensures.one_more c.answers_add_up.ensures.known
    c.replies_tell_their_marks.ensures s.hall.value.id s.register s.desk_states.items s.held c.args.place _ c.args.name
    c.args.command c.self.invariant c.requires.place sound found before c.index_mut.ensures.value
    (has_tenant s.register s.desk_states.items c.self.invariant.fits c.args.place before _ within
    c.index_mut.ensures.value c.args.name found) in
    rw (c.push.ensures, c.set_waiting.ensures) held.stands

pub returns-clause-takes : goal.returns-clause-takes
returns-clause-takes c =
    let s = c.self.inside in
    let before = c.index_mut.result.now in
    let sound : IsRegister s.register = rw (← c.self.view_is) at c.requires.sound in
    let found : place_in s.register c.args.name ≡ Some c.args.place = rw (← c.self.view_is) at c.requires.found in
    let within : c.args.place < length s.desk_states.items =
    omega (arith, c.requires.place, c.self.invariant.desk_states.long) in
    let held = hold c.answers_add_up.ensures.one_more c.answers_add_up.ensures.known
    c.replies_tell_their_marks.ensures s.hall.value.id s.register s.desk_states.items s.held c.args.place _ c.args.name
    c.args.command c.self.invariant c.requires.place sound found before c.index_mut.ensures.value
    (has_tenant s.register s.desk_states.items c.self.invariant.fits c.args.place before _ within
    c.index_mut.ensures.value c.args.name found) in
    rw (← c.self.view_is, c.push.ensures, c.set_waiting.ensures) held.takes
