use Rattle.std.proofs.Common.{map, refl, rules, ◌≡◌, ◌∷◌, []}
use Rattle.std.specs.List.{flat_map}
use Rattle.firm_saved.specs.StateText.{row_text}
use Rattle.firm_saved.specs.declared.rows.Row.TheVariants as row
use Rattle.firm_saved.proofs.Puts.{item_added, items_added, kept_trans}
use Rattle.firm_saved.proofs.writing.put_machines.Goals as goal

pub loop-machine-preserved : goal.loop-machine-preserved
loop-machine-preserved c =
    let next : c.loop-machine.machine-iterator ≡ c.in-Some.machine.now ∷ c.next.new.self = search rules in
    record {
      kept = kept_trans _ _ _ c.put_row.ensures.kept c.loop-machine.invariant.kept;
      added = item_added (λ machines. flat_map row_text (map row.Machine machines))
          (λ machine. row_text (row.Machine machine)) (λ _ _. refl) c.loop-machine.machine-iterator c.next.new.self
          c.in-Some.machine.now next _ _ _ c.in_ok-put_row.ensures.added c.loop-machine.invariant.added;
    }

pub returns-in_err-put_row-clause-kept : goal.returns-in_err-put_row-clause-kept
returns-in_err-put_row-clause-kept c = kept_trans _ _ _ c.put_row.ensures.kept c.loop-machine.invariant.kept

pub returns-clause-added : goal.returns-clause-added
returns-clause-added c =
    let none : c.loop-machine.machine-iterator ≡ [] = search rules in
    items_added (λ machines. flat_map row_text (map row.Machine machines)) refl c.loop-machine.machine-iterator none _ _
    c.loop-machine.invariant.added
