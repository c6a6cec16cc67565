-- Whether a tenant stays somewhere.
use Rattle.std.specs.Prelude.{ℕ, Bool, List}
use Rattle.std.specs.List.{list_any}
use Rattle.firm_text.specs.Registers.{is_named}
use Rattle.firm_saved.specs.Saved.{tenant_name}
use Rattle.firm_saved.specs.declared.saved.SavedPlace.{SavedPlace}

-- whether a tenant of this name stays at one of the places
abbrev pub is_seated : List SavedPlace → List ℕ → Bool
is_seated places name = list_any (λ place. is_named name (tenant_name place)) places
