use Rattle.std.proofs.Common.{◌≡◌, ◌<◌, ℕ, Bool, List, [], ◌∷◌, ◌++◌, length, arith, sym, ap, subst, ◌∙◌, ◌+◌}
use Rattle.std.specs.Prelude.{vec_len, vec_capacity}
use Rattle.firm_rules.specs.declared.rounds.Choice.{Choice}
use Rattle.firm_rules.specs.Placement.{Case}
use Rattle.firm_graph.specs.declared.network.Key.TheVariants.{Through}
use Rattle.firm_graph.specs.Ids.{view_of}
use Rattle.firm_graph.specs.Network.{demand}
use Rattle.firm_graph.specs.View.{View}
use Rattle.firm_canon.specs.inner.Choosing.{Keeps, IsChosen, IsSpent, best}
use Rattle.firm_canon.specs.inner.State.{IsReady, IsReadyFor, left, prefix, price, view}
use Rattle.firm_canon.specs.declared.choosing.Choosing.{Choosing}
use Rattle.firm_canon.specs.declared.reads.Wishes.{Wishes}
use Rattle.firm_canon.proofs.AsCheap.{spent_longer}
use Rattle.firm_canon.proofs.States.{ready_on}
use Rattle.firm_canon.proofs.Graphs.{same_on}
use Rattle.firm_canon.proofs.choosing.Choosing.choose_next.Goals as goal
use Rattle.firm_canon.proofs.choosing.Choosing.choose_next.Goals.{After-choose-choice}

-- what is read of the next task, at the count of the choices so far
read_next : (s : Choosing) (wishes : Wishes) (count : ℕ) → IsReady s → length (prefix s) < length (view s).case.tasks
    → count ≡ vec_len s.chosen.now → wishes.home ≡ (demand (view s).case count).home
    → wishes.places.items ≡ (demand (view s).case count).preferred → IsReadyFor s wishes
read_next s wishes count ready next is home places =
    let at : count ≡ length (prefix s) = omega (arith, is, s.chosen.now.ok.0) in
    record {
      ready = ready;
      next = next;
      home = home ∙ ap (λ (i : ℕ). (demand (view s).case i).home) at;
      places = places ∙ ap (λ (i : ℕ). (demand (view s).case i).preferred) at;
    }

pub choose-choice-requires : goal.choose-choice-requires
choose-choice-requires c = record {
  ready = read_next c.args.self.now c.wishes_of-wishes.result c.len.result c.requires.ready c.requires.next
      c.len.ensures c.wishes_of-wishes.ensures.home c.wishes_of-wishes.ensures.places;
}

-- and once it was chosen for
chosen : (c : After-choose-choice) → IsReadyFor c.choose-choice.new.self c.wishes_of-wishes.result
chosen c =
    ready_on c.args.self.now c.choose-choice.new.self 2 c.wishes_of-wishes.result c.choose-choice.ensures.goes_on
    (read_next c.args.self.now c.wishes_of-wishes.result c.len.result c.requires.ready c.requires.next c.len.ensures
    c.wishes_of-wishes.ensures.home c.wishes_of-wishes.ensures.places)

pub hold_choice-requires-clause-home : goal.hold_choice-requires-clause-home
hold_choice-requires-clause-home c =
    (chosen (goal.at.hold_choice-requires-clause-home c).After-choose-choice).home
    ∙ ap (λ (q : List Choice). (demand (view c.choose-choice.new.self).case (length q)).home)
    (sym c.deref.ensures.value)

pub hold_choice-requires-clause-places : goal.hold_choice-requires-clause-places
hold_choice-requires-clause-places c =
    (chosen (goal.at.hold_choice-requires-clause-places c).After-choose-choice).places
    ∙ ap (λ (q : List Choice). (demand (view c.choose-choice.new.self).case (length q)).preferred)
    (sym c.deref.ensures.value)

pub hold_choice-requires-clause-keeps : goal.hold_choice-requires-clause-keeps
hold_choice-requires-clause-keeps c =
    let mid : Choosing = c.choose-choice.new.self in
    subst (λ (b : List Choice). Keeps (view mid) (price mid) b) (sym c.deref.ensures.value)
    c.choose-choice.ensures.goes_on.ready.keeps

pub hold_choice-requires-clause-chosen : goal.hold_choice-requires-clause-chosen
hold_choice-requires-clause-chosen c =
    let mid : Choosing = c.choose-choice.new.self in
    subst (λ (b : List Choice). IsChosen (view mid) b c.choose-choice.result) (sym c.deref.ensures.value)
    c.choose-choice.ensures.chosen

pub returns-clause-searched : goal.returns-clause-searched
returns-clause-searched c =
    let goes = c.choose-choice.ensures.goes_on in
    record {
      made = goes.made;
      few = omega (arith, goes.few, ap (λ (b : Bool). left (record c.args.self.now { searched = b })) c.requires.idle);
      searched = goes.searched;
    }

pub returns-clause-ready : goal.returns-clause-ready
returns-clause-ready c =
    let mid : Choosing = c.choose-choice.new.self in
    let new : View = view_of c.hold_choice.new.graph in
    let o : Choice = c.choose-choice.result in
    let ready = c.choose-choice.ensures.goes_on.ready in
    let hold = c.hold_choice.ensures in
    record {
      prices_fit = ready.prices_fit ∙ sym hold.same.limits;
      scratch_fits = ready.scratch_fits ∙ sym hold.same.limits;
      keeps = subst (λ (q : List Choice). Keeps new (price mid) q)
          (ap (λ (q : List Choice). q ++ o ∷ []) c.deref.ensures.value ∙ sym c.push_reserved.ensures.items)
          hold.keeps;
      spent = λ j l.
          subst (λ (q : List Choice). IsSpent new.case q (best new q) (Through j)) (sym c.push_reserved.ensures.items)
          (subst (λ (d : Case). IsSpent d (prefix mid ++ o ∷ []) (best new (prefix mid ++ o ∷ [])) (Through j))
          (sym hold.same.case.case)
          (subst (λ (most : ℕ). IsSpent (view mid).case (prefix mid ++ o ∷ []) most (Through j))
          (sym (subst (λ (q : List Choice). best new (q ++ o ∷ []) ≡ best (view mid) q) c.deref.ensures.value
          hold.best))
          (spent_longer (view mid).case (prefix mid) o (best (view mid) (prefix mid)) (Through j)
          (chosen (goal.at.returns-clause-ready c).After-choose-choice).next (ready.spent j l))));
    }

pub hold_choice-requires-clause-next : goal.hold_choice-requires-clause-next
hold_choice-requires-clause-next c =
    subst (λ (q : List Choice). length q < length (view c.choose-choice.new.self).case.tasks)
    (sym c.deref.ensures.value)
    (chosen (goal.at.hold_choice-requires-clause-next c).After-choose-choice).next

pub push_reserved-requires : goal.push_reserved-requires
push_reserved-requires c =
    subst (λ z. vec_len z.now < vec_capacity z.now) (sym c.choose-choice.ensures.goes_on.chosen) c.requires.room

pub returns-clause-same : goal.returns-clause-same
returns-clause-same c =
    same_on c.args.self.now.graph.now c.choose-choice.new.self.graph.now c.hold_choice.new.graph
    c.choose-choice.ensures.goes_on.same c.hold_choice.ensures.same

pub returns-clause-capacity : goal.returns-clause-capacity
returns-clause-capacity c =
    omega (arith, c.push_reserved.ensures.capacity, ap (λ z. vec_capacity z.now) c.choose-choice.ensures.goes_on.chosen)

pub returns-clause-len : goal.returns-clause-len
returns-clause-len c =
    c.push_reserved.ensures.len ∙ ap (λ z. vec_len z.now + 1) c.choose-choice.ensures.goes_on.chosen
