use Rattle.std.proofs.Common.{rules, ◌≡◌, true, false}
use Rattle.std.specs.Option.{is_some}
use Rattle.firm_held.proofs.HeldAnswers.{found_here, none_here, none_left}
use Rattle.firm_held.proofs.held.Held.first_of.Goals as goal

pub returns-then-is_some : goal.returns-then-is_some
returns-then-is_some c command first =
    let some : is_some c.waiting_at.result ≡ true = search rules in
    found_here c.args.place command c.loop-at.at c.args.self.now.answers c.waiting_at.result some
    (c.waiting_at.ensures c.loop-at.invariant.none) first

pub loop-at-preserved : goal.loop-at-preserved
loop-at-preserved c =
    let none : is_some c.waiting_at.result ≡ false = search rules in
    record {
      none = none_here c.args.place c.loop-at.at c.args.self.now.answers c.waiting_at.result none
          (c.waiting_at.ensures c.loop-at.invariant.none);
    }

pub unreachable-requires : goal.unreachable-requires
unreachable-requires c =
    none_left c.args.place c.requires.0 c.args.self.now.answers c.loop-at.at c.loop-at.invariant.none (search rules)
    c.requires.1
