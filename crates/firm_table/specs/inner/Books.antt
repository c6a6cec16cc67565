-- The book of a tenant of a service, by its place or its name.
use Rattle.std.specs.Prelude.{ℕ, List, Option, Some, None, slice_index_or}
use Rattle.firm_rules.specs.Book.{Book}
use Rattle.firm_text.specs.Registers.{place_in}
use Rattle.firm_table.specs.Tenants.{TenantsState}

-- the book at a place, if any
abbrev pub book_at : List (Option Book) → Option ℕ → Option Book
book_at books None = None
book_at books (Some place) = slice_index_or books place None

-- the book of the tenant of this name, if any
abbrev pub book_named : TenantsState → List ℕ → Option Book
book_named tenants name = book_at tenants.books (place_in tenants.register name)
