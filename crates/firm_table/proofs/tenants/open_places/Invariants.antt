use Rattle.std.proofs.Common.{◌≡◌, take}
use Rattle.firm_table.specs.Openings.{places_opened}
use Rattle.firm_table.specs.Progress.{books_of}
use Rattle.firm_table.proofs.tenants.open_places.Given as goal

abbrev pub invariant-loop-place : goal.invariant-loop-place
invariant-loop-place l = l.places.items ≡ take l.place (books_of (places_opened l.opening))
