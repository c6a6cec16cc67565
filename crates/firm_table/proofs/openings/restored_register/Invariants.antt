use Rattle.std.proofs.Common.{◌≡◌}
use Rattle.firm_saved.specs.Saved.{register_of}
use Rattle.firm_table.proofs.Saving.{entries_to}
use Rattle.firm_table.proofs.openings.restored_register.Given as goal

-- the first entries, `at` in number, are those of the state
abbrev pub invariant-loop-at : goal.invariant-loop-at
invariant-loop-at l = l.entries ≡ entries_to l.at (register_of l.saved.places)
