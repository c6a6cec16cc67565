use Rattle.std.proofs.Common.{◌≡◌, length, arith, true}
use Rattle.firm_graph.specs.View.{flows}
use Rattle.firm_graph.specs.declared.network.Key.TheVariants.{Wide}
use Rattle.firm_canon.specs.inner.State.{prefix, price, view}
use Rattle.firm_canon.specs.inner.Choosing.{IsPassed}
use Rattle.firm_canon.specs.declared.choosing.Choosing.{Choosing}
use Rattle.firm_canon.proofs.Choices.{none_at_hub}
use Rattle.firm_canon.proofs.States.{goes_more, ready_on, still_on, unsearched}
use Rattle.firm_canon.proofs.choosing.Choosing.choose_at_hub.Goals as goal

pub unreachable-requires : goal.unreachable-requires
unreachable-requires c =
    let s : Choosing = c.args.self.now in
    let one : Choosing = c.begin.new.self in
    let two : Choosing = c.reach_own.new.self in
    let begun = c.begin.ensures in
    let none = c.in_default.ensures in
    let ready = ready_on one two 0 c.args.wishes.now none.goes_on
    (ready_on s one 1 c.args.wishes.now begun.goes_on c.requires.ready) in
    omega (
      arith,
      none_at_hub (view two) (price two) (prefix two) ready.ready.keeps ready.next
          (λ j l. (c.in_default-find_machine.ensures.none j l).bare),
      still_on (λ v z b. flows v (Wide (length b)) ≡ 1) one two 0 none.goes_on none.unchanged
          (still_on (λ v z b. flows v (Wide (length b)) ≡ 1) s one 1 begun.goes_on begun.unchanged c.requires.hub),
    )

pub returns-in-Some-clause-goes_on : goal.returns-in-Some-clause-goes_on
returns-in-Some-clause-goes_on c =
    goes_more c.args.self.now c.begin.new.self c.reach_own.new.self 1 c.begin.ensures.goes_on
    c.reach_own.ensures.goes_on

pub returns-clause-goes_on : goal.returns-clause-goes_on
returns-clause-goes_on c =
    goes_more c.args.self.now c.begin.new.self c.find_machine.new.self 1 c.begin.ensures.goes_on
    (goes_more c.begin.new.self c.reach_own.new.self c.find_machine.new.self 0 c.reach_own.ensures.goes_on
    c.find_machine.ensures.goes_on)

pub reach_own-requires-clause-ready : goal.reach_own-requires-clause-ready
reach_own-requires-clause-ready c =
    ready_on c.args.self.now c.begin.new.self 1 c.args.wishes.now c.begin.ensures.goes_on c.requires.ready

pub reach_own-requires-clause-ways : goal.reach_own-requires-clause-ways
reach_own-requires-clause-ways c =
    unsearched c.begin.new.self true c.begin.ensures.open
    (λ e. still_on (λ v z b. flows v (Wide (length b)) ≡ 1) c.args.self.now c.begin.new.self 1 c.begin.ensures.goes_on
    c.begin.ensures.unchanged c.requires.hub)

pub find_machine-requires-clause-ready : goal.find_machine-requires-clause-ready
find_machine-requires-clause-ready c =
    ready_on c.begin.new.self c.reach_own.new.self 0 c.args.wishes.now c.reach_own.ensures.goes_on
    (ready_on c.args.self.now c.begin.new.self 1 c.args.wishes.now c.begin.ensures.goes_on c.requires.ready)

pub find_machine-requires-clause-own : goal.find_machine-requires-clause-own
find_machine-requires-clause-own c j own =
    let none = c.in_default.ensures in
    still_on (λ v z b. IsPassed v b true j) c.begin.new.self c.reach_own.new.self 0 none.goes_on none.unchanged
    (none.passed j own)
