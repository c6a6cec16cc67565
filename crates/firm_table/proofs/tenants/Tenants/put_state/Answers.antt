use Rattle.std.proofs.Common.{◌≡◌, ◌∙◌, ℕ, List, ◌++◌, ap, subst, sym, take}
use Rattle.std.specs.Prelude.{OnOk}
use Rattle.std.specs.List.{flat_map}
use Rattle.firm_text.specs.Registers.{IsRegister}
use Rattle.firm_saved.specs.declared.rows.Row.TheVariants as row
use Rattle.firm_saved.specs.declared.saved.SavedPlace.{SavedPlace}
use Rattle.firm_saved.specs.Saved.{AreGivenInOrder, register_of}
use Rattle.firm_saved.specs.StateText.{place_rows, row_text}
use Rattle.firm_table.specs.Ends.{tenants_state}
use Rattle.firm_table.proofs.Stating.{kept_trans, on_ok, state_added, state_register}
use Rattle.firm_table.proofs.tenants.Tenants.put_state.Goals as goal

abbrev register_is : (c : goal.After-put_row) → register_of (tenants_state c.args.self.now) ≡ c.entries.result.now
register_is c =
    rw (← c.self.view_is)
    (state_register c.self.inside.register c.self.inside.places.items c.self.invariant.books
    ∙ sym c.entries.ensures.entries)

pub returns-clause-text : goal.returns-clause-text
returns-clause-text c =
    let saved : List SavedPlace = tenants_state c.args.self.now in
    let given : List SavedPlace = take c.given_count-given.result saved in
    state_added c.args.heading c.put_row.result c.args.output.now.items c.put_row.new.output.items saved given
    c.in-Ok-put_places.count
    (c.given_count-given.ensures.count saved (register_is c)) c.in-Ok-put_places.ensures.count
    (subst (λ (text : List ℕ). OnOk c.put_row.result
    (c.put_row.new.output.items ≡ text ++ row_text (row.Rows c.in-Ok-put_places.count)))
    (c.in-Ok-put_places.ensures.added
    ∙ ap (λ (text : List ℕ). text ++ flat_map row_text (flat_map place_rows given)) c.in-Ok.ensures.added)
    c.put_row.ensures.added)

pub returns-clause-sound : goal.returns-clause-sound
returns-clause-sound c =
    let saved : List SavedPlace = tenants_state c.args.self.now in
    let register = register_is c in
    on_ok c.put_row.result
    (record {
      places = c.given_count-given.ensures.sound saved register
          (subst IsRegister (sym c.entries.ensures.entries) c.entries.ensures.sound)
          (subst AreGivenInOrder (sym c.entries.ensures.entries) c.self.invariant.in_order)
          c.in-Ok-put_places.ensures.sound;
      fit = c.requires;
    })

pub returns-clause-kept : goal.returns-clause-kept
returns-clause-kept c =
    kept_trans _ _ _ c.put_row.ensures.kept
    (kept_trans _ _ _ c.in-Ok-put_places.ensures.kept c.in-Ok.ensures.kept)

pub returns-in_default-put_places-clause-kept : goal.returns-in_default-put_places-clause-kept
returns-in_default-put_places-clause-kept c = kept_trans _ _ _ c.in_default-put_places.ensures.kept c.in-Ok.ensures.kept

pub returns-in_default-clause-text : goal.returns-in_default-clause-text
returns-in_default-clause-text c = tt

pub returns-in_default-clause-sound : goal.returns-in_default-clause-sound
returns-in_default-clause-sound c = tt

pub returns-in_default-put_places-clause-text : goal.returns-in_default-put_places-clause-text
returns-in_default-put_places-clause-text c = tt

pub returns-in_default-put_places-clause-sound : goal.returns-in_default-put_places-clause-sound
returns-in_default-put_places-clause-sound c = tt
