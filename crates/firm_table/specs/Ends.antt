-- The state in which a service ends.
use Rattle.std.specs.Prelude.{◌≡◌, All, ℕ, List, [], ◌∷◌, Option, Some, None, map}
use Rattle.firm_rules.specs.Book.{Book}
use Rattle.firm_text.specs.Inputs.{input_lines}
use Rattle.firm_text.specs.declared.headings.Heading.{Heading}
use Rattle.firm_text.specs.declared.registers.Entry.{Entry}
use Rattle.firm_saved.specs.Saved.{PlaceFits}
use Rattle.firm_saved.specs.declared.saved.SavedPlace.{SavedPlace}
use Rattle.firm_table.specs.Output.{unmarked}
use Rattle.firm_table.specs.Opened.{Opened}
use Rattle.firm_table.specs.Places.{saved_after, after_lines}
use Rattle.firm_table.specs.Service.{Device, ServedFrom}
use Rattle.firm_table.specs.Tenants.{TenantsState}

-- the tenant of this name with this book, if any
abbrev pub named_book : Option (List ℕ) → Option Book → Option (List ℕ × Book)
named_book None book = None
named_book (Some name) None = None
named_book (Some name) (Some book) = Some (name, book)

-- the place of this entry of a register, with this book
abbrev pub place_with : Entry → Option Book → SavedPlace
place_with entry book = record { admissions = entry.admissions; tenant = named_book entry.tenant book }

-- the state of the places that this register and these books describe
abbrev pub state_with : List Entry → List (Option Book) → List SavedPlace
state_with [] books = []
state_with (entry ∷ rest) [] = []
state_with (entry ∷ rest) (book ∷ books) = place_with entry book ∷ state_with rest books

-- the state of these tenants
abbrev pub tenants_state : TenantsState → List SavedPlace
tenants_state tenants = state_with tenants.register tenants.books

-- the limits of these tenants are such as a row under this heading can give
abbrev pub TenantsFit : Heading → TenantsState → Type 0
TenantsFit heading tenants = All (PlaceFits heading) (tenants_state tenants)

-- everything left to read was read, what was written is the output for it, memory was refused to none of its lines, and
-- the tenants that are left have the state after them
pub record ServedTo (opened : Opened) (most : ℕ) (reader writer : Device) (after : TenantsState) : Type 0 where
  pub served : ServedFrom opened most reader writer
  pub granted : served.answers.lines ≡ map unmarked (input_lines opened.heading served.input)
  pub state : tenants_state after ≡ saved_after (after_lines opened.places served.answers.lines)
