use Rattle.std.proofs.Common.{◌<◌, ◌≤◌, arith, length, refl, subst, sym}
use Rattle.firm_program.specs.Files.{IsFrontOf, LongStateFile, longest_state}
use Rattle.firm_program.proofs.Refusals.{refuses_state}
use Rattle.firm_program.proofs.Whole.{long_state, whole_state}
use Rattle.firm_program.proofs.files.read_state.Goals as goal

pub returns-then-len-gt-LONGEST_STATE-clause-refused : goal.returns-then-len-gt-LONGEST_STATE-clause-refused
returns-then-len-gt-LONGEST_STATE-clause-refused g c =
    let file = g.R.FileSystem.bytes_at c.args.rt.now c.args.path.now in
    let beyond : longest_state < length c.in-Ok.text.items = grind arith in
    LongStateFile refl (long_state file c.in-Ok.text.items c.in-Ok.ensures beyond)

pub returns-in-Ok-read-clause-read : goal.returns-in-Ok-read-clause-read
returns-in-Ok-read-clause-read g c =
    let file = g.R.FileSystem.bytes_at c.args.rt.now c.args.path.now in
    let within : length c.deref.result.now ≤ longest_state = grind arith in
    record {
      text = c.deref.result.now;
      all = whole_state file c.deref.result.now
          (subst (IsFrontOf file 41943041) (sym c.deref.ensures.value) c.in-Ok.ensures) within;
      within = within;
      sound = c.in-Ok-read.ensures.found.0;
      told = c.in-Ok-read.ensures.found.1;
    }

pub returns-clause-refused : goal.returns-clause-refused
returns-clause-refused g c =
    let file = g.R.FileSystem.bytes_at c.args.rt.now c.args.path.now in
    let within : length c.deref.result.now ≤ longest_state = grind arith in
    let all = whole_state file c.deref.result.now
    (subst (IsFrontOf file 41943041) (sym c.deref.ensures.value) c.in-Ok.ensures) within in
    rw c.from.ensures (refuses_state file c.deref.result.now all within _ c.in-Err.ensures.refused)
