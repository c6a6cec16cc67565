use Rattle.std.proofs.Common.{◌≡◌, ℕ, ◌<◌, Option, true, false, length, arith, refl, sym, subst, ◌∙◌, ⊎_elim}
use Rattle.std.proofs.Common.{below_more}
use Rattle.std.proofs.lemmas.Bool.{cases_Bool, both_ways}
use Rattle.firm_rules.specs.declared.rounds.Choice.TheVariants.{On}
use Rattle.firm_rules.specs.Placement.{runs_at}
use Rattle.firm_graph.specs.View.{flows}
use Rattle.firm_graph.specs.declared.network.Key.TheVariants.{Wide}
use Rattle.firm_canon.specs.inner.Choosing.{HasRoom, IsChosen, IsPassed, IsSpent, best}
use Rattle.firm_canon.specs.inner.State.{GoesOn, HasWaysBack, IsUnchanged, prefix, view}
use Rattle.firm_canon.specs.declared.choosing.Choosing.{Choosing}
use Rattle.firm_canon.proofs.Ends.{first_found}
use Rattle.firm_canon.proofs.States.{case_on, goes_more, kept_back, kept_on, ready_on, still_back, still_on, goes_still}
use Rattle.firm_canon.proofs.choosing.Choosing.find_machine.Goals as goal
use Rattle.firm_canon.proofs.choosing.Choosing.find_machine.Goals.{else-not-is_home-via-else-not-is_home}
use Rattle.firm_canon.proofs.choosing.Choosing.find_machine.Goals.{else-not-is_home-via-then-not-is_home+else-reach}

pub reach-requires-clause-ready : goal.reach-requires-clause-ready
reach-requires-clause-ready c =
    ready_on c.args.self.now c.loop-machine.self 0 c.args.wishes.now c.loop-machine.invariant.goes c.requires.ready

pub reach-requires-clause-machine : goal.reach-requires-clause-machine
reach-requires-clause-machine c =
    case_on (λ d b. c.loop-machine.machine < length d.slots) c.args.self.now c.loop-machine.self 0
    c.loop-machine.invariant.goes (omega (arith, c.loop-machine-test.true, c.machine_count-machine-end.ensures.case))

pub reach-requires-clause-apart : goal.reach-requires-clause-apart
reach-requires-clause-apart c off =
    let inv = c.loop-machine.invariant in
    still_on (λ v z b. IsSpent v.case b (best v b) (Wide (length b))) c.args.self.now c.loop-machine.self 0 inv.goes
    inv.still (c.requires.apart off)

pub returns-then-reach-clause-goes_on : goal.returns-then-reach-clause-goes_on
returns-then-reach-clause-goes_on c =
    goes_more c.args.self.now c.loop-machine.self c.reach.new.self 0 c.loop-machine.invariant.goes
    c.if-reach.ensures.goes_on

pub returns-then-reach-clause-some : goal.returns-then-reach-clause-some
returns-then-reach-clause-some c =
    let s : Choosing = c.args.self.now in
    let now : Choosing = c.reach.new.self in
    let o : ℕ = c.loop-machine.machine in
    let inv = c.loop-machine.invariant in
    let done = c.if-reach.ensures in
    let goes : GoesOn s now 0 = returns-then-reach-clause-goes_on c in
    kept_on (λ b. IsChosen (view now) b (On o)) s now 0 goes
    (first_found (view s) (view now) (prefix s) c.args.at_hub c.args.wishes.now.home o c.requires.ready.home
    goes.same.case
    (kept_back (λ b. best (view now) b ≡ best (view s) (prefix s)) s now 0 goes goes.best)
    (omega (arith, c.loop-machine-test.true, c.machine_count-machine-end.ensures.case))
    (sym c.is_home.ensures ∙ c.if-not-is_home.true)
    (kept_back (λ b. HasRoom (view now).case b (On o) (flows (view now))) s now 0 goes (done.room refl))
    c.requires.own inv.passed)

pub returns-clause-none : goal.returns-clause-none
returns-clause-none c k l =
    ⊎_elim (λ (own : runs_at c.args.wishes.now.home k ≡ true). c.requires.own k own)
    (λ (other : runs_at c.args.wishes.now.home k ≡ false).
    c.loop-machine.invariant.passed k
    (omega (arith, l, c.loop-machine-test.false, c.machine_count-machine-end.ensures.case)) other)
    (cases_Bool (runs_at c.args.wishes.now.home k))

pub loop-machine-preserved : goal.loop-machine-preserved
loop-machine-preserved c =
    let s : Choosing = c.args.self.now in
    let t : Choosing = c.loop-machine.self in
    let home : Option ℕ = c.args.wishes.now.home in
    let o : ℕ = c.loop-machine.machine in
    let inv = c.loop-machine.invariant in
    elim c.else-not-is_home.branch [
      | else-not-is_home-via-then-not-is_home+else-reach w ↦ let lost = w.if-reach.ensures in
          record {
            goes = subst (λ (z : Choosing). GoesOn s z 0) (sym w.self-is)
                (goes_more s t w.reach.new.self 0 inv.goes lost.goes_on);
            still = subst (IsUnchanged s) (sym w.self-is) (lost.unchanged refl ∙ inv.still);
            ways = subst (λ (z : Choosing). HasWaysBack z c.args.at_hub) (sym w.self-is) (lost.ways refl);
            passed = below_more _ _ inv.passed
                (λ other. still_back (λ v z b. IsPassed v b c.args.at_hub o) s t 0 inv.goes inv.still
                (lost.passed refl));
          }
      | else-not-is_home-via-else-not-is_home w ↦ record {
        goes = subst (λ (z : Choosing). GoesOn s z 0) (sym w.self-is) inv.goes;
        still = subst (IsUnchanged s) (sym w.self-is) inv.still;
        ways = subst (λ (z : Choosing). HasWaysBack z c.args.at_hub) (sym w.self-is) inv.ways;
        passed = below_more _ _ inv.passed
            (λ other. absurd (both_ways (runs_at home o) other (sym c.is_home.ensures ∙ w.if-not-is_home.false)));
      }
    ]

pub loop-machine-init : goal.loop-machine-init
loop-machine-init c = record {
  goes = goes_still c.args.self.now c.requires.ready.ready;
  still = refl;
  ways = c.requires.ways;
  passed = λ k l. absurd (omega (arith, l));
}
