use Rattle.std.proofs.Common.{◌≡◌, ◌∙◌, ap, arith, ℕ, List}
use Rattle.std.specs.Prelude.{set}
use Rattle.firm_text.specs.declared.registers.Entry.{Entry}
use Rattle.firm_saved.specs.Saved.{register_of}
use Rattle.firm_parts.proofs.Settling.{all_entered, entries_to, entry_found, next_entry, wide}
use Rattle.firm_parts.proofs.joining.register.Goals as goal

pub bounds-places-at : goal.bounds-places-at
bounds-places-at c = omega (arith, wide c.args.places.now c.requires)

pub loop-at-preserved : goal.loop-at-preserved
loop-at-preserved c =
    let places = c.args.places.now in
    let is = entry_found places c.loop-at.at _ (omega (arith, wide places c.requires)) c.index-places-at.is in
    ap (λ (entries : List Entry). set entries c.loop-at.at c.entry_of.result) c.loop-at.invariant
    ∙ ap (λ (entry : Entry). set (entries_to c.loop-at.at (register_of places)) c.loop-at.at entry)
    (c.entry_of.ensures ∙ is)
    ∙ next_entry (register_of places) c.loop-at.at c.requires.all (omega arith)

pub returns : goal.returns
returns c =
    let places = c.args.places.now in
    let end : c.loop-at.at ≡ 64 = omega arith in
    c.restored.ensures
    ∙ c.loop-at.invariant ∙ ap (λ (n : ℕ). entries_to n (register_of places)) end
    ∙ all_entered (register_of places) c.requires.all
