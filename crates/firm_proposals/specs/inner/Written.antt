-- Promises of the functions that write a proposal.
use Rattle.std.specs.Prelude.{◌≡◌, ◌+◌, [], length, None, IsSome}
use Rattle.firm_rules.specs.Placement.{Case}
use Rattle.firm_proposals.specs.declared.proposal.Proposal.{Proposal}

-- a choice for each task of the case, an amount for each machine, a class for each machine and for waiting, a price
pub record IsWritten (case : Case) (proposal : Proposal) : Type 0 where
  pub choices : length proposal.placement.items ≡ length case.tasks
  pub amounts : length proposal.rents.amounts.items ≡ length case.slots
  pub places : length proposal.rents.places.items ≡ length case.slots + 1
  pub priced : IsSome proposal.hub_price

-- nothing proposed
pub record IsEmpty (proposal : Proposal) : Type 0 where
  pub placement : proposal.placement.items ≡ []
  pub amounts : proposal.rents.amounts.items ≡ []
  pub places : proposal.rents.places.items ≡ []
  pub classes : proposal.rents.classes.items ≡ []
  pub hub_price : proposal.hub_price ≡ None
