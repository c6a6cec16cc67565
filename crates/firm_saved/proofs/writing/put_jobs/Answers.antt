use Rattle.std.proofs.Common.{map, refl, rules, ◌≡◌, ◌∷◌, []}
use Rattle.std.specs.List.{flat_map}
use Rattle.firm_saved.specs.StateText.{row_text}
use Rattle.firm_saved.specs.declared.rows.Row.TheVariants as row
use Rattle.firm_saved.proofs.Puts.{item_added, items_added, kept_trans}
use Rattle.firm_saved.proofs.writing.put_jobs.Goals as goal

pub loop-job-preserved : goal.loop-job-preserved
loop-job-preserved c =
    let next : c.loop-job.job-iterator ≡ c.in-Some.job.now ∷ c.next.new.self = search rules in
    record {
      kept = kept_trans _ _ _ c.put_row.ensures.kept c.loop-job.invariant.kept;
      added = item_added (λ jobs. flat_map row_text (map row.Job jobs)) (λ job. row_text (row.Job job)) (λ _ _. refl)
          c.loop-job.job-iterator c.next.new.self c.in-Some.job.now next _ _ _ c.in_ok-put_row.ensures.added
          c.loop-job.invariant.added;
    }

pub returns-in_err-put_row-clause-kept : goal.returns-in_err-put_row-clause-kept
returns-in_err-put_row-clause-kept c = kept_trans _ _ _ c.put_row.ensures.kept c.loop-job.invariant.kept

pub returns-clause-added : goal.returns-clause-added
returns-clause-added c =
    let none : c.loop-job.job-iterator ≡ [] = search rules in
    items_added (λ jobs. flat_map row_text (map row.Job jobs)) refl c.loop-job.job-iterator none _ _
    c.loop-job.invariant.added
