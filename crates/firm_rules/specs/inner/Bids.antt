-- What waiting tasks would give for the slots of a machine: those that prefer it, and all of them.
use Rattle.std.specs.Prelude.{ℕ, ◌-◌, List, if◌then◌else◌}
use Rattle.firm_rules.specs.Names.{is_among}
use Rattle.firm_rules.specs.Book.{TenantRows}
use Rattle.firm_rules.specs.SoundBook.{bid}
use Rattle.firm_rules.specs.declared.book.Task.{Task}

-- the bid of a task that prefers the machine
abbrev pub near_bid : TenantRows → List ℕ → Task → ℕ
near_bid rows machine task = if is_among task.preferred machine then bid rows task else 0

-- the bid of a task for a machine that it does not prefer
abbrev pub wide_bid : TenantRows → Task → ℕ
wide_bid rows task = bid rows task - rows.limits.remote
