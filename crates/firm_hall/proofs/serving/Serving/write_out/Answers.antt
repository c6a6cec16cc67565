use Rattle.std.proofs.Common.{refl}
use Rattle.std.proofs.lemmas.Result.{on_ok_weaker}
use Rattle.firm_hall.proofs.Coming.{follows_then}
use Rattle.firm_hall.proofs.Giving.{nothing_written, wrote}
use Rattle.firm_hall.proofs.serving.Serving.write_out.Goals as goal

pub invariant_of-self : goal.invariant_of-self
invariant_of-self g c =
    let s = c.self.inside in
    c.put_known.ensures.stands s.hall.value.id s.register s.desk_states.items c.self.invariant

pub invariant_of-self-2 : goal.invariant_of-self-2
invariant_of-self-2 g c =
    let s = c.self.inside in
    let stands = c.put_known.ensures.stands s.hall.value.id s.register s.desk_states.items c.self.invariant in
    record {
      desk_states = rw c.write.ensures.answers stands.desk_states;
      fits = stands.fits;
      placed = rw c.write.ensures.answers stands.placed;
    }

pub returns-in_default-clause-begins : goal.returns-in_default-clause-begins
returns-in_default-clause-begins g c = nothing_written c.args.self.now _

pub returns-in_default-clause-follows : goal.returns-in_default-clause-follows
returns-in_default-clause-follows g c =
    follows_then {between = c.look.new.self} c.look.ensures.follows
    (rw (← c.self.view_is) (record { same_hall = refl; same_register = refl; fewer = c.put_known.ensures.fewer }))

pub returns-clause-told : goal.returns-clause-told
returns-clause-told g c =
    let s = c.self.inside in
    let e = c.write.ensures in
    on_ok_weaker c.write.result
    (λ passes. λ opening text written told. passes opening text written
    (c.in-Ok.ensures.keeps s.hall.value.id s.register s.desk_states.items opening text written _
    (rw (← c.self.view_is) at (c.look.ensures.keeps opening text written _ told))))
    (wrote c.write.result s.hall.value.id s.register s.desk_states.items c.put_known.new.held c.write.new.self _ _ e.ok
    e.empty e.answers e.err).passes

pub returns-clause-begins : goal.returns-clause-begins
returns-clause-begins g c opening text written told =
    let s = c.self.inside in
    let e = c.write.ensures in
    (wrote c.write.result s.hall.value.id s.register s.desk_states.items c.put_known.new.held c.write.new.self _ _ e.ok
    e.empty e.answers e.err).begins opening text written
    (c.in-Ok.ensures.keeps s.hall.value.id s.register s.desk_states.items opening text written _
    (rw (← c.self.view_is) at (c.look.ensures.keeps opening text written _ told)))

pub returns-clause-follows : goal.returns-clause-follows
returns-clause-follows g c =
    follows_then {between = c.look.new.self} c.look.ensures.follows
    (rw (← c.self.view_is)
    (record {
      same_hall = refl;
      same_register = refl;
      fewer = rw c.write.ensures.answers c.put_known.ensures.fewer;
    }))

pub returns-clause-written_out : goal.returns-clause-written_out
returns-clause-written_out g c =
    on_ok_weaker c.write.result
    (λ none. record { none = none; first = rw c.write.ensures.answers c.in-Ok.ensures.first })
    c.write.ensures.empty
