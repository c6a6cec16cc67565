-- The parts handed in to close a hall.
use Rattle.std.specs.Prelude.{◌≡◌, ℕ, ◌+◌, ◌≤◌, List, [], length}
use Rattle.firm_rules.specs.declared.tickets.Ticket.{Ticket}
use Rattle.firm_rounds.specs.declared.protocol.Share.{Share}
use Rattle.firm_rounds.specs.Rounds.{weigh, share, put_by, got_by, is_at}
use Rattle.firm_rounds.specs.Passes.{PopIs}
use Rattle.firm_rounds.specs.Closed.{got_weight}
use Rattle.firm_hall.specs.Desks.{DeskIs, PlaceIs}
use Rattle.firm_hall.specs.Closed.{asked_weight, left_weight}

-- how many of the desks are of the place
abbrev pub desks_at : ℕ → List DeskIs → ℕ
desks_at place desks = weigh (λ d. is_at place (share d.place d.put [])) desks

-- how many of these are the place
abbrev pub places_at : ℕ → List PlaceIs → ℕ
places_at place places = weigh (λ p. is_at place (share p.place p.put [])) places

-- what reports add to the shares that were handed in
pub record Gave (old new : List Share) (reports : List PopIs) : Type 0 where
  pub puts : (h : Ticket → ℕ) → weigh (put_by h) new ≡ weigh (put_by h) old
  pub gots : (h : Ticket → ℕ) → weigh (got_by h) new ≡ weigh (got_by h) old + got_weight h reports
  pub count : length new ≡ length old + length reports
  pub places : (p : ℕ) → weigh (is_at p) old ≤ weigh (is_at p) new

-- the shares that were handed in are these desks', these places' and these reports'
pub record IsGathered (shares : List Share) (desks : List DeskIs) (empty : List PlaceIs)
    (reports : List PopIs) : Type 0 where
  pub put : (h : Ticket → ℕ) → weigh (put_by h) shares ≡ asked_weight h desks + left_weight h empty
  pub got : (h : Ticket → ℕ) → weigh (got_by h) shares ≡ got_weight h reports
  pub count : length shares ≡ length desks + length empty + length reports
  pub places : (p : ℕ) → desks_at p desks + places_at p empty ≤ weigh (is_at p) shares
