use Rattle.std.proofs.Common.{◌≡◌, ◌∙◌, ap, arith, length, subst, sym, ℕ, List}
use Rattle.std.specs.Prelude.{set}
use Rattle.firm_text.specs.Registers.{IsRegister}
use Rattle.firm_text.specs.declared.registers.Entry.{Entry}
use Rattle.firm_saved.specs.Saved.{AreGivenInOrder, register_of}
use Rattle.firm_saved.specs.declared.saved.SavedPlace.{SavedPlace}
use Rattle.firm_table.proofs.Saving.{all_entered, entries_to, next_entry, saved_entry, saved_wide}
use Rattle.firm_table.proofs.openings.restored_register.Goals as goal

pub bounds-places-at : goal.bounds-places-at
bounds-places-at c =
    let wide = saved_wide c.args.saved.now.places c.places-places.ensures.sound.places.register in
    let same = ap (λ (places : List SavedPlace). length places) c.places-places.ensures.places in
    omega (arith, wide, same)

pub loop-at-preserved : goal.loop-at-preserved
loop-at-preserved c =
    let saved = c.args.saved.now.places in
    let sound = c.places-places.ensures.sound.places.register in
    let at = c.loop-at.at in
    let is = saved_entry saved _ at _ c.places-places.ensures.places sound (omega arith) c.index-places-at.is in
    ap (λ (entries : List Entry). set entries at c.entry_of.result) c.loop-at.invariant
    ∙ ap (λ (entry : Entry). set (entries_to at (register_of saved)) at entry) (c.entry_of.ensures ∙ is)
    ∙ next_entry (register_of saved) at sound.all (omega arith)

-- once all entries are those of the state
entered : (saved : List SavedPlace) (entries : List Entry) (at : ℕ) → at ≡ 64 → IsRegister (register_of saved)
    → entries ≡ entries_to at (register_of saved) → entries ≡ register_of saved
entered saved entries at end sound is =
    is ∙ ap (λ (n : ℕ). entries_to n (register_of saved)) end ∙ all_entered (register_of saved) sound.all

pub restored-requires : goal.restored-requires
restored-requires c =
    let register = c.places-places.ensures.sound.places.register in
    subst IsRegister
    (sym (entered c.args.saved.now.places c.loop-at.entries c.loop-at.at (omega arith) register c.loop-at.invariant))
    register

pub returns : goal.returns
returns c =
    let sound = c.places-places.ensures.sound.places in
    let is : c.restored.result ≡ register_of c.args.saved.now.places = c.restored.ensures
    ∙ entered c.args.saved.now.places c.loop-at.entries c.loop-at.at (omega arith) sound.register c.loop-at.invariant in
    record { places = is; in_order = subst AreGivenInOrder (sym is) sound.in_order }
