use Rattle.std.proofs.Common.{◌≡◌, ◌≤◌, false, length, arith, refl}
use Rattle.std.proofs.lemmas.Bool.{false≢true}
use Rattle.firm_rules.specs.declared.rounds.Choice.TheVariants.{Wait}
use Rattle.firm_graph.specs.View.{flows}
use Rattle.firm_graph.specs.declared.network.Key.TheVariants.{Wide, Stay}
use Rattle.firm_canon.specs.inner.Choosing.{IsChosen, IsPassed, IsSpent, best}
use Rattle.firm_canon.specs.inner.State.{GoesOn, IsReadyFor, prefix, price, view}
use Rattle.firm_canon.specs.declared.choosing.Choosing.{Choosing}
use Rattle.firm_canon.proofs.Choices.{sends_one}
use Rattle.firm_canon.proofs.Ends.{all_passed}
use Rattle.firm_canon.proofs.States.{goes_more, kept_on, ready_on, still_on, unsearched}
use Rattle.firm_canon.proofs.choosing.Choosing.choose_apart.Goals as goal
use Rattle.firm_canon.proofs.choosing.Choosing.choose_apart.Goals.{After-take}

-- the state is ready after the attempt to send the unit to the hub
ready : (c : After-take) → IsReadyFor c.take.new.self c.args.wishes.now
ready c =
    ready_on c.reach_own.new.self c.take.new.self 0 _ c.take.ensures.goes_on
    (ready_on c.begin.new.self c.reach_own.new.self 0 _ c.reach_own.ensures.goes_on
    (ready_on c.args.self.now c.begin.new.self 1 _ c.begin.ensures.goes_on c.requires.ready))

pub returns-then-take-clause-none : goal.returns-then-take-clause-none
returns-then-take-clause-none c =
    let now : Choosing = c.take.new.self in
    let taken = c.if-take.ensures in
    let is = ready (goal.at.returns-then-take-clause-none c).After-take in
    omega (
      arith,
      kept_on (λ b. 1 ≤ flows (view now) (Wide (length b))) c.reach_own.new.self now 0 taken.goes_on (taken.yes refl),
      sends_one (view now) (price now) (prefix now) (length (prefix now)) is.ready.keeps is.next,
    )

pub find_machine-requires-clause-apart : goal.find_machine-requires-clause-apart
find_machine-requires-clause-apart c off =
    let lost = c.if-take.ensures in
    still_on (λ v z b. IsSpent v.case b (best v b) (Wide (length b))) c.reach_own.new.self c.take.new.self 0
    lost.goes_on (lost.unchanged refl) (lost.spent refl)

pub find_machine-requires-clause-own : goal.find_machine-requires-clause-own
find_machine-requires-clause-own c j own =
    let none = c.in_default.ensures in
    let lost = c.if-take.ensures in
    still_on (λ v z b. IsPassed v b false j) c.reach_own.new.self c.take.new.self 0 lost.goes_on (lost.unchanged refl)
    (still_on (λ v z b. IsPassed v b false j) c.begin.new.self c.reach_own.new.self 0 none.goes_on none.unchanged
    (none.passed j own))

pub returns-in-Some-clause-goes_on : goal.returns-in-Some-clause-goes_on
returns-in-Some-clause-goes_on c =
    goes_more c.args.self.now c.begin.new.self c.reach_own.new.self 1 c.begin.ensures.goes_on
    c.reach_own.ensures.goes_on

-- with no search more than may be made
goes : (c : After-take) → GoesOn c.args.self.now c.take.new.self 1
goes c =
    goes_more c.args.self.now c.begin.new.self c.take.new.self 1 c.begin.ensures.goes_on
    (goes_more c.begin.new.self c.reach_own.new.self c.take.new.self 0 c.reach_own.ensures.goes_on
    c.take.ensures.goes_on)

pub returns-then-take-clause-goes_on : goal.returns-then-take-clause-goes_on
returns-then-take-clause-goes_on c = goes (goal.at.returns-then-take-clause-goes_on c).After-take

pub returns-in-Some-find_machine-clause-goes_on : goal.returns-in-Some-find_machine-clause-goes_on
returns-in-Some-find_machine-clause-goes_on c =
    goes_more c.args.self.now c.take.new.self c.find_machine.new.self 1
    (goes (goal.at.returns-in-Some-find_machine-clause-goes_on c).After-take) c.find_machine.ensures.goes_on

pub returns-in-None-clause-goes_on : goal.returns-in-None-clause-goes_on
returns-in-None-clause-goes_on c =
    goes_more c.args.self.now c.take.new.self c.find_machine.new.self 1
    (goes (goal.at.returns-in-None-clause-goes_on c).After-take) c.find_machine.ensures.goes_on

pub returns-in-None-clause-some : goal.returns-in-None-clause-some
returns-in-None-clause-some c =
    let one : Choosing = c.begin.new.self in
    let two : Choosing = c.reach_own.new.self in
    let three : Choosing = c.take.new.self in
    let none = c.in_default.ensures in
    let lost = c.if-take.ensures in
    let passed = c.in-None.ensures in
    let is = ready (goal.at.returns-in-None-clause-some c).After-take in
    still_on (λ v z b. IsChosen v b Wait) three c.find_machine.new.self 0 passed.goes_on passed.unchanged
    (all_passed (view three) (price three) (prefix three) is.ready.keeps is.next
    (still_on (λ v z b. flows v (Wide (length b)) ≡ 0) two three 0 lost.goes_on (lost.unchanged refl) (lost.none refl))
    (still_on (λ v z b. flows v (Stay (length b)) ≡ 0) two three 0 lost.goes_on (lost.unchanged refl)
    (still_on (λ v z b. flows v (Stay (length b)) ≡ 0) one two 0 none.goes_on none.unchanged none.idle))
    passed.none)

pub reach_own-requires-clause-ready : goal.reach_own-requires-clause-ready
reach_own-requires-clause-ready c =
    ready_on c.args.self.now c.begin.new.self 1 c.args.wishes.now c.begin.ensures.goes_on c.requires.ready

pub reach_own-requires-clause-ways : goal.reach_own-requires-clause-ways
reach_own-requires-clause-ways c = unsearched c.begin.new.self false c.begin.ensures.open (λ e. absurd (false≢true e))

pub take-requires-clause-next : goal.take-requires-clause-next
take-requires-clause-next c =
    (ready_on c.begin.new.self c.reach_own.new.self 0 c.args.wishes.now c.reach_own.ensures.goes_on
    (ready_on c.args.self.now c.begin.new.self 1 c.args.wishes.now c.begin.ensures.goes_on c.requires.ready)).next

pub find_machine-requires-clause-ready : goal.find_machine-requires-clause-ready
find_machine-requires-clause-ready c = ready (goal.at.find_machine-requires-clause-ready c).After-take
