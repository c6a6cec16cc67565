use Rattle.std.proofs.Common.{arith}
use Rattle.std.proofs.lemmas.Grind.{common_steps}
use Rattle.firm_text.proofs.Prefixes.{Appends-more}
use Rattle.firm_text.proofs.devices.write_all.Goals as goal

pub loop-done-preserved : goal.loop-done-preserved
loop-done-preserved g c = record {
  within = grind (arith, common_steps);
  appended = Appends-more _ _ _ c.loop-done.done c.in_ok-done.field-0 c.args.bytes.now c.loop-done.invariant.appended
      c.in_ok-done.ensures.appended;
  failure = grind (arith, common_steps);
}
