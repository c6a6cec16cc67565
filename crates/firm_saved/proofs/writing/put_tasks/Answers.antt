use Rattle.std.proofs.Common.{map, refl, rules, ◌≡◌, ◌∷◌, []}
use Rattle.std.specs.List.{flat_map}
use Rattle.firm_saved.specs.StateText.{row_text}
use Rattle.firm_saved.specs.declared.rows.Row.TheVariants as row
use Rattle.firm_saved.proofs.Puts.{item_added, items_added, kept_trans}
use Rattle.firm_saved.proofs.writing.put_tasks.Goals as goal

pub loop-task-preserved : goal.loop-task-preserved
loop-task-preserved c =
    let next : c.loop-task.task-iterator ≡ c.in-Some.task.now ∷ c.next.new.self = search rules in
    record {
      kept = kept_trans _ _ _ c.put_row.ensures.kept c.loop-task.invariant.kept;
      added = item_added (λ tasks. flat_map row_text (map row.Task tasks)) (λ task. row_text (row.Task task))
          (λ _ _. refl)
          c.loop-task.task-iterator c.next.new.self c.in-Some.task.now next _ _ _ c.in_ok-put_row.ensures.added
          c.loop-task.invariant.added;
    }

pub returns-in_err-put_row-clause-kept : goal.returns-in_err-put_row-clause-kept
returns-in_err-put_row-clause-kept c = kept_trans _ _ _ c.put_row.ensures.kept c.loop-task.invariant.kept

pub returns-clause-added : goal.returns-clause-added
returns-clause-added c =
    let none : c.loop-task.task-iterator ≡ [] = search rules in
    items_added (λ tasks. flat_map row_text (map row.Task tasks)) refl c.loop-task.task-iterator none _ _
    c.loop-task.invariant.added
