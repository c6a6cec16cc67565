use Rattle.std.proofs.Common.{ℕ, ◌≡◌, ◌<◌, length, slice_index, take}
use Rattle.firm_rules.specs.Book.{machine_names, name_at}
use Rattle.firm_rules.specs.SoundBook.{highest}
use Rattle.firm_rules.specs.inner.Bids.{near_bid}
use Rattle.firm_rules.proofs.standing.near_bids.Given as goal

abbrev pub invariant-loop-number : goal.invariant-loop-number
invariant-loop-number l =
    (j : ℕ) → j < length l.rows.machines
    → slice_index l.bids j ≡ highest (near_bid l.rows (name_at (machine_names l.rows) j)) (take l.number l.rows.tasks)
