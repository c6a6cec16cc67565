use Rattle.std.proofs.Common.{subst, sym}
use Rattle.firm_program.specs.Files.{IsFrontOf}
use Rattle.firm_program.proofs.Refusals.{reads_roster, refuses_roster}
use Rattle.firm_program.proofs.files.read_roster.Goals as goal

pub returns-in-Ok-roster-clause-read : goal.returns-in-Ok-roster-clause-read
returns-in-Ok-roster-clause-read g c =
    let file = g.R.FileSystem.bytes_at c.args.rt.now c.args.path.now in
    reads_roster file c.deref.result.now
    (subst (IsFrontOf file 65537) (sym c.deref.ensures.value) c.in-Ok.ensures) c.in-Ok-roster.roster
    c.in-Ok-roster.ensures.admitted

pub returns-clause-refused : goal.returns-clause-refused
returns-clause-refused g c =
    let file = g.R.FileSystem.bytes_at c.args.rt.now c.args.path.now in
    rw c.from.ensures (refuses_roster file c.deref.result.now
    (subst (IsFrontOf file 65537) (sym c.deref.ensures.value) c.in-Ok.ensures) _ c.in-Err.ensures.refused)
