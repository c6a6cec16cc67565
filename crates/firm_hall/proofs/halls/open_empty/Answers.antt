use Rattle.std.proofs.Common.{rules, ◌≡◌}
use Rattle.firm_rounds.specs.Passes.{PutIs}
use Rattle.firm_hall.proofs.Alls.{all_rest, one_turned}
use Rattle.firm_hall.proofs.Opening.{unused_of}
use Rattle.firm_hall.proofs.halls.open_empty.Goals as goal

pub loop-pass-preserved : goal.loop-pass-preserved
loop-pass-preserved c = record {
  both = one_turned unused_of _ _ _ _ _ _ _ c.in-Some.ensures.steps.0 c.given_before.ensures
      c.push_reserved.ensures.items c.loop-pass.invariant.both;
  count = search rules;
  room = search rules;
  unused = all_rest (λ (p : PutIs). p.put ≡ 0) _ _ _ c.in-Some.ensures.steps.0 c.loop-pass.invariant.unused;
}
