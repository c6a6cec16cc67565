use Rattle.std.proofs.Common.{◌≡◌, ℕ, ◌<◌, ◌≤◌, ◌==◌, List, Option, Some, None, false, length, sym, ap, subst, ◌∙◌}
use Rattle.std.specs.List.{position}
use Rattle.std.proofs.lemmas.Bool.{both_ways}
use Rattle.firm_rules.specs.Placement.{Demand, runs_at, prefers}
use Rattle.firm_graph.specs.Network.{demand, preferred_at}
use Rattle.firm_graph.specs.View.{flows}
use Rattle.firm_graph.specs.declared.network.Key.TheVariants.{Through, Wide, Prefer}
use Rattle.firm_canon.specs.inner.Placed.{guests}
use Rattle.firm_canon.specs.inner.State.{IsReadyFor, prefix, price, view}
use Rattle.firm_canon.specs.declared.choosing.Choosing.{Choosing}
use Rattle.firm_canon.specs.declared.reads.Wishes.{Wishes}
use Rattle.firm_canon.proofs.Nears.{number_in, preferred_found, preferred_missed}
use Rattle.firm_canon.proofs.Choices.{room_far, room_near, shut_near}
use Rattle.firm_canon.proofs.Ends.{passed_far}
use Rattle.firm_canon.proofs.States.{case_on, kept_on, ready_on, goes_still}
use Rattle.firm_canon.proofs.choosing.Choosing.reach.Goals as goal

-- the machine is not the task's own
other_at : (s : Choosing) (wishes : Wishes) (j : ℕ) → IsReadyFor s wishes → runs_at wishes.home j ≡ false
    → runs_at (demand (view s).case (length (prefix s))).home j ≡ false
other_at s wishes j ready other = ap (λ (h : Option ℕ). runs_at h j) (sym ready.home) ∙ other

-- a machine that no preference is for
far_at : (s : Choosing) (wishes : Wishes) (places : List ℕ) (j : ℕ) → IsReadyFor s wishes
    → places ≡ wishes.places.items → position (λ z. z == j) places ≡ None
    → prefers (demand (view s).case (length (prefix s))) j ≡ false
far_at s wishes places j ready are missed =
    preferred_missed (demand (view s).case (length (prefix s))) places j (are ∙ ready.places) missed

pub returns-in-Some-clause-room : goal.returns-in-Some-clause-room
returns-in-Some-clause-room c e =
    let s : Choosing = c.args.self.now in
    let now : Choosing = c.take.new.self in
    let j : ℕ = c.args.machine in
    let taken = c.take.ensures in
    let ready = ready_on s now 0 c.args.wishes.now taken.goes_on c.requires.ready in
    let it = preferred_found (demand (view now).case (length (prefix now))) c.deref.result.now j c.in-Some.number
    (c.deref.ensures.0 ∙ ready.places) (sym c.in-Some.ensures) in
    room_near (view now) (price now) (prefix now) j ready.ready.keeps
    (other_at now c.args.wishes.now j ready c.requires.other) it.0
    (subst (λ (k : ℕ). 1 ≤ flows (view now) (Prefer (length (prefix now)) k)) it.1
    (kept_on (λ b. 1 ≤ flows (view now) (Prefer (length b) c.in-Some.number)) s now 0 taken.goes_on (taken.yes e)))

pub returns-in-Some-clause-passed : goal.returns-in-Some-clause-passed
returns-in-Some-clause-passed c e =
    let s : Choosing = c.args.self.now in
    let j : ℕ = c.args.machine in
    let n : ℕ = length (prefix s) in
    let ready = c.requires.ready in
    let task : Demand = demand (view s).case n in
    let it = preferred_found task c.deref.result.now j c.in-Some.number (c.deref.ensures.0 ∙ ready.places)
    (sym c.in-Some.ensures) in
    record {
      bare = c.take.ensures.bare e j
          (ap Some (ap (preferred_at (view s).case n) it.1 ∙ (number_in task.preferred j it.0).1));
      shut = shut_near (view s) (price s) (prefix s) ready.ready.keeps ready.next j c.in-Some.number
          (other_at s c.args.wishes.now j ready c.requires.other) it.0 it.1 (c.take.ensures.spent e);
    }

pub returns-then-at_hub-clause-room : goal.returns-then-at_hub-clause-room
returns-then-at_hub-clause-room c e =
    let s : Choosing = c.args.self.now in
    let now : Choosing = c.bring.new.self in
    let j : ℕ = c.args.machine in
    let brought = c.bring.ensures in
    let ready = ready_on s now 0 c.args.wishes.now brought.goes_on c.requires.ready in
    room_far (view now) (price now) (prefix now) j ready.ready.keeps
    (other_at now c.args.wishes.now j ready c.requires.other)
    (far_at now c.args.wishes.now c.deref.result.now j ready c.deref.ensures.0 (sym c.in-None.ensures))
    (kept_on (λ b. flows (view now) (Wide (length b)) ≡ 1) s now 0 brought.goes_on brought.hub)
    (case_on (λ d b. guests d b j < flows (view now) (Through j)) s now 0 brought.goes_on (brought.yes e))

pub returns-then-at_hub-clause-passed : goal.returns-then-at_hub-clause-passed
returns-then-at_hub-clause-passed c e =
    let s : Choosing = c.args.self.now in
    let ready = c.requires.ready in
    passed_far (view s) (price s) (prefix s) ready.ready.keeps ready.next c.args.at_hub c.args.machine
    (other_at s c.args.wishes.now c.args.machine ready c.requires.other)
    (far_at s c.args.wishes.now c.deref.result.now c.args.machine ready c.deref.ensures.0 (sym c.in-None.ensures))
    c.requires.apart (λ there. c.bring.ensures.spent e)

pub returns-else-at_hub-clause-passed : goal.returns-else-at_hub-clause-passed
returns-else-at_hub-clause-passed c e =
    let s : Choosing = c.args.self.now in
    let ready = c.requires.ready in
    passed_far (view s) (price s) (prefix s) ready.ready.keeps ready.next c.args.at_hub c.args.machine
    (other_at s c.args.wishes.now c.args.machine ready c.requires.other)
    (far_at s c.args.wishes.now c.deref.result.now c.args.machine ready c.deref.ensures.0 (sym c.in-None.ensures))
    c.requires.apart (λ there. absurd (both_ways c.args.at_hub c.if-at_hub.false there))

pub returns-else-at_hub-clause-goes_on : goal.returns-else-at_hub-clause-goes_on
returns-else-at_hub-clause-goes_on c = goes_still c.args.self.now c.requires.ready.ready

pub take-requires-clause-arc : goal.take-requires-clause-arc
take-requires-clause-arc c =
    let s : Choosing = c.args.self.now in
    let task = demand (view s).case (length (prefix s)) in
    let it = preferred_found task c.deref.result.now c.args.machine c.in-Some.number
    (c.deref.ensures.0 ∙ c.requires.ready.places) (sym c.in-Some.ensures) in
    subst (λ (k : ℕ). k < length task.preferred) (sym it.1) (number_in task.preferred c.args.machine it.0).0
