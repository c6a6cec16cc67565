-- A service's records of its tenants.
use Rattle.std.specs.Prelude.{◌≡◌, List, Option, map}
use Rattle.std.specs.Option.{is_some}
use Rattle.firm_rules.specs.Book.{Book}
use Rattle.firm_text.specs.declared.registers.Entry.{Entry}
use Rattle.firm_saved.specs.Saved.{AreGivenInOrder}

-- which tenant has which place, and for each place the book of its tenant, if any
pub record TenantsState : Type 0 where
  pub register : List Entry
  pub books : List (Option Book)

-- the tenants of these parts
abbrev pub tenants_are : List Entry → List (Option Book) → TenantsState
tenants_are register books = record { register = register; books = books }

-- a place has a book exactly if the register has a tenant for it
abbrev pub BooksFit : TenantsState → Type 0
BooksFit tenants = map (λ place. is_some place.tenant) tenants.register ≡ map is_some tenants.books

-- what holds of the tenants at all times
pub record AreSoundTenants (tenants : TenantsState) : Type 0 where
  pub books : BooksFit tenants
  pub in_order : AreGivenInOrder tenants.register
