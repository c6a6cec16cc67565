-- The state in which a service ends.
use Rattle.std.proofs.Common.{◌≡◌, ℕ, List, [], ◌∷◌, ◌++◌, refl, sym, ap, subst, ◌∙◌, append-nil}
use Rattle.std.specs.Prelude.{Bool, true, Option, Some, None, option_map}
use Rattle.std.specs.Io.KnownBytes.{Appends}
use Rattle.std.proofs.KnownBytes.{Appends-kept}
use Rattle.firm_rules.specs.Book.{Book}
use Rattle.firm_text.specs.declared.registers.Entry.{Entry}
use Rattle.firm_saved.specs.declared.saved.SavedPlace.{SavedPlace}
use Rattle.firm_table.specs.Places.{Stay, Place, book_of, saved_place, saved_after, register_of, after_lines}
use Rattle.firm_table.specs.Opened.{Opened}
use Rattle.firm_table.specs.Output.{output_from}
use Rattle.firm_table.specs.Service.{Device, ServedFrom}
use Rattle.firm_table.specs.Telling.{ToldToTheEnd}
use Rattle.firm_table.specs.Ends.{named_book, state_with, tenants_state, ServedTo}
use Rattle.firm_table.specs.Tenants.{TenantsState}
use Rattle.firm_table.specs.Progress.{State, books_of}
use Rattle.firm_table.specs.inner.Granting.{ToldAs}

named_stay : (stay : Option Stay)
    → named_book (option_map (λ (s : Stay). s.name) stay) (option_map book_of stay)
    ≡ option_map (λ (s : Stay). (s.name, book_of s)) stay
named_stay None = refl
named_stay (Some stay) = refl

state_at : (places : List Place) → state_with (register_of places) (books_of places) ≡ saved_after places
state_at [] = refl
state_at (place ∷ rest) =
    ap (λ (tenant : Option (List ℕ × Book)). let first : SavedPlace =
    record { admissions = place.admissions; tenant = tenant } in first ∷ state_with (register_of rest) (books_of rest))
    (named_stay place.stay)
    ∙ ap (λ (saved : List SavedPlace). saved_place place ∷ saved) (state_at rest)

-- all was read, and nothing is still to be written
ends_with : (granted : Bool) (state : State) (most : ℕ) (reader writer : Device) (after : TenantsState)
    → granted ≡ true → after ≡ state.tenants → state.pending ≡ []
    → ToldToTheEnd (ToldAs granted state) most reader writer → ServedFrom state.opening most reader writer
    → ServedTo state.opening most reader writer after
ends_with granted state most reader writer after all is none end served =
    let t = end.told.told.told in
    let places : List Place = after_lines state.opening.places t.lines in
    let whole : t.sent ≡ output_from state.opening.places t.lines =
    sym (append-nil t.sent) ∙ ap (λ (l : List ℕ). t.sent ++ l) (sym none) ∙ t.whole in
    record {
      served = record {
        input = end.input;
        read = end.read;
        at_end = end.at_end;
        within = end.within;
        answers = record {
          lines = t.lines;
          are_lines = t.are_lines;
          wrote = Appends-kept writer.before end.told.until writer.after (output_from state.opening.places t.lines)
              (subst (Appends writer.before end.told.until) whole t.wrote) end.told.kept;
        };
        reads = served.reads;
        writes = served.writes;
      };
      granted = end.told.told.granted all;
      state =
          ap tenants_state is
          ∙ ap (λ (register : List Entry). state_with register state.tenants.books) (sym t.shows.register)
          ∙ ap (λ (books : List (Option Book)). state_with (register_of places) books) (sym t.shows.books)
          ∙ state_at places;
    }

-- the same of an opening that a body knows to be this
pub served_to : (opening : Opened) (granted : Bool) (state : State) (most : ℕ) (reader writer : Device)
    (after : TenantsState)
    → state.opening ≡ opening → granted ≡ true → after ≡ state.tenants → state.pending ≡ []
    → ToldToTheEnd (ToldAs granted state) most reader writer → ServedFrom opening most reader writer
    → ServedTo opening most reader writer after
served_to opening granted state most reader writer after same all is none end served =
    subst (λ (o : Opened). ServedTo o most reader writer after) same
    (ends_with granted state most reader writer after all is none end
    (subst (λ (o : Opened). ServedFrom o most reader writer) (sym same) served))
