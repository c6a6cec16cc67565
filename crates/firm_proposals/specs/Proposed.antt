-- What a proposer keeps.
use Rattle.std.specs.Prelude.{◌≡◌, ℕ, ◌+◌, List, [], length, Option, None, IsSome}
use Rattle.firm_rules.specs.declared.rounds.Choice.{Choice}
use Rattle.firm_rules.specs.Limits.{TenantLimits}
use Rattle.firm_rules.specs.Placement.{Case}
use Rattle.firm_levels.specs.declared.Class.{Class}

-- the limits of the tenants that it is made for, and its last proposal: a placement, rents in levels (the amount of
-- each machine, the class of each place, all classes), the price at which tasks went to any machine, and how often a
-- round was to be proposed
pub record Proposed : Type 0 where
  pub limits : TenantLimits
  pub placement : List Choice
  pub amounts : List ℕ
  pub places : List ℕ
  pub classes : List Class
  pub hub_price : Option ℕ
  pub tries : ℕ

-- nothing was proposed yet
abbrev pub nothing_proposed : TenantLimits → Proposed
nothing_proposed limits =
    record { limits = limits; placement = []; amounts = []; places = []; classes = []; hub_price = None; tries = 0 }

-- a choice for each task, an amount for each machine, a class for each machine and for waiting, and a price
pub record IsInForm (case : Case) (proposed : Proposed) : Type 0 where
  pub choices : length proposed.placement ≡ length case.tasks
  pub amounts : length proposed.amounts ≡ length case.slots
  pub places : length proposed.places ≡ length case.slots + 1
  pub priced : IsSome proposed.hub_price
