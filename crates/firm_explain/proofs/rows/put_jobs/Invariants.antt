use Rattle.std.proofs.Common.{◌≡◌, ◌++◌, map}
use Rattle.std.specs.List.{flat_map}
use Rattle.firm_saved.specs.declared.rows.Row.TheVariants as row
use Rattle.firm_explain.specs.RoundRows.{comment_text}
use Rattle.firm_explain.proofs.rows.put_jobs.Given as goal

-- what was added and what the jobs still to come add are the lines of all jobs
abbrev pub invariant-loop-job : goal.invariant-loop-job
invariant-loop-job l = record {
  added : l.text.items ++ flat_map comment_text (map row.Job l.job-iterator)
      ≡ l.initial.text.items ++ flat_map comment_text (map row.Job l.rows.jobs);
}
