-- A place of the table as the code keeps it.
use Rattle.std.specs.Prelude.{ℕ, ◌+◌, ◌*◌, ◌^◌, ◌≤◌, ◌≡◌, Option, Some, None}
use Rattle.firm_rules.specs.Book.{Book}
use Rattle.firm_text.specs.Registers.{most_admissions}
use Rattle.firm_table.specs.Interleaving.{Station, empty, home, queued, held, answered, Seat, seat_behind}
use Rattle.firm_table.specs.declared.events.Answer.{Answer as EventAnswer}
use Rattle.firm_table.specs.declared.occupants.Occupant.{Occupant}
use Rattle.firm_table.specs.declared.occupants.Part.{Part}
use Rattle.firm_table.specs.declared.occupants.Part.TheVariants.{Home, Queued, Held, Answered}

-- what stands at a place whose tenant has this book
abbrev pub station_with : Book → Part → Station
station_with book Home = home book
station_with book (Queued ticket) = queued book ticket
station_with book (Held ticket worker) = held book ticket worker
station_with book (Answered reply) = answered book reply

-- what stands at a place of this occupant
abbrev pub station_of : Occupant → Station
station_of occupant = station_with occupant.tenant occupant.part

-- what stands at a place
abbrev pub station_at : Option Occupant → Station
station_at None = empty
station_at (Some occupant) = station_of occupant

-- a place with this occupant and these counts
abbrev pub seat_of : Option Occupant → ℕ → ℕ → Seat
seat_of occupant rounds admissions = record { station = station_at occupant; rounds = rounds; admissions = admissions }

-- the most rounds that this many tenants can queue, since each is given at most 2^40 commands
abbrev pub rounds_of : ℕ → ℕ
rounds_of tenants = tenants * 2 ^ 40

-- a tenant was given no more commands than its life has, counting `more` rounds on their way; and its place has queued
-- no more rounds than that, apart from those that earlier tenants may have queued
pub record IsWithin (book : Book) (more rounds admissions : ℕ) : Type 0 where
  pub life : book.rows.limits.life ≤ 2 ^ 40
  pub given : book.given + more ≤ book.rows.limits.life
  pub queued : rounds + rounds_of 1 ≤ rounds_of admissions + book.given + more

-- what stands at a place: a round that is queued or held is on its way
abbrev pub StayFits : Station → ℕ → ℕ → Type 0
StayFits empty rounds admissions = Unit {0}
StayFits (home book) rounds admissions = IsWithin book 0 rounds admissions
StayFits (queued book ticket) rounds admissions = IsWithin book 1 rounds admissions
StayFits (held book ticket worker) rounds admissions = IsWithin book 1 rounds admissions
StayFits (answered book reply) rounds admissions = IsWithin book 0 rounds admissions

-- a place was given no more often than it may be, and has queued no more rounds than its tenants may have been given
-- commands
pub record CountsFit (seat : Seat) : Type 0 where
  pub admissions : seat.admissions ≤ most_admissions
  pub rounds : seat.rounds ≤ rounds_of seat.admissions
  pub stay : StayFits seat.station seat.rounds seat.admissions

-- a seat answers an event and changes with this outcome
pub record Becomes (seat : Seat) (outcome : EventAnswer × Station) (answer : EventAnswer) (after : Seat) : Type 0 where
  pub answers : answer ≡ outcome.0
  pub seat_is : after ≡ seat_behind seat outcome
