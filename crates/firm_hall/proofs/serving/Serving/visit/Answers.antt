use Rattle.std.proofs.Common.{rules, ◌≡◌, ◌∙◌, ◌≤◌, ap, arith, length, subst, true}
use Rattle.std.proofs.lemmas.List.{take_all}
use Rattle.firm_held.specs.Held.{NoneWaits}
use Rattle.firm_hall.specs.inner.Serving.{ServingIs}
use Rattle.firm_hall.proofs.Coming.{follows_then, settled_moves}
use Rattle.firm_hall.proofs.serving.Serving.visit.Goals as goal

pub returns-then-not-give-clause-keeps : goal.returns-then-not-give-clause-keeps
returns-then-not-give-clause-keeps g c opening text written now told =
    c.give.ensures.keeps opening text written now (c.loop-at.invariant.keeps opening text written now told)

pub loop-at-preserved : goal.loop-at-preserved
loop-at-preserved g c =
    let i = c.loop-at.invariant in
    let gave = c.give.ensures in
    let answered : c.give.result ≡ true = search rules in
    record {
      home = gave.home answered;
      count = gave.count ∙ i.count;
      none = gave.none answered;
      follows = follows_then i.follows gave.follows;
      keeps = λ opening text written now told.
          gave.keeps opening text written now (i.keeps opening text written now told);
    }

pub invariant_of-self : goal.invariant_of-self
invariant_of-self g c =
    let s = c.self-2.inside in
    let i = c.loop-at.invariant in
    let end : c.len-at-end.result ≤ c.loop-at.at = search rules in
    let long : length c.loop-at.self.answers ≤ c.loop-at.at = omega (
      arith,
      end,
      c.len-at-end.ensures,
      i.count,
      ap (λ (s : ServingIs). length s.answers) c.self.view_is,
    ) in
    let none : NoneWaits c.args.place c.loop-at.self.answers =
    subst (NoneWaits c.args.place) (take_all c.loop-at.at c.loop-at.self.answers long) i.none in
    let held : NoneWaits c.args.place s.held.answers = rw (← c.self-2.view_is) at none in
    let moved = settled_moves s.hall.value.id s.register s.desk_states.items s.held c.args.place
    c.index_mut.result.now _ c.self-2.invariant c.requires.place c.index_mut.ensures.value held in
    rw c.set_waiting.ensures moved.stands

pub returns-clause-keeps : goal.returns-clause-keeps
returns-clause-keeps g c =
    let s = c.self-2.inside in
    let i = c.loop-at.invariant in
    let end : c.len-at-end.result ≤ c.loop-at.at = search rules in
    let long : length c.loop-at.self.answers ≤ c.loop-at.at = omega (
      arith,
      end,
      c.len-at-end.ensures,
      i.count,
      ap (λ (s : ServingIs). length s.answers) c.self.view_is,
    ) in
    let none : NoneWaits c.args.place c.loop-at.self.answers =
    subst (NoneWaits c.args.place) (take_all c.loop-at.at c.loop-at.self.answers long) i.none in
    let held : NoneWaits c.args.place s.held.answers = rw (← c.self-2.view_is) at none in
    let moved = settled_moves s.hall.value.id s.register s.desk_states.items s.held c.args.place
    c.index_mut.result.now _ c.self-2.invariant c.requires.place c.index_mut.ensures.value held in
    rw c.set_waiting.ensures
    (λ opening text written now told.
    moved.keeps opening text written now
    (rw (← c.self-2.view_is) at (i.keeps opening text written now told)))
