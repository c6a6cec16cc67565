-- A seat's steps.
use Rattle.std.proofs.Common.{◌≡◌, ℕ, ◌+◌, ◌<◌, refl, sym, ap, subst, ◌∙◌, arith}
use Rattle.std.specs.Prelude.{nat_lt, Bool, true, false, Option, Some, None}
use Rattle.std.specs.Option.{is_some}
use Rattle.std.proofs.lemmas.Bool.Decides.{nat_tests}
use Rattle.firm_rules.specs.Book.{Book, opening_book}
use Rattle.firm_rules.specs.Limits.{TenantLimits}
use Rattle.firm_rules.specs.declared.commands.Command.{Command}
use Rattle.firm_rules.specs.declared.commands.Command.TheVariants.{Round}
use Rattle.firm_rules.specs.declared.replies.Reply.{Reply}
use Rattle.firm_tenant.specs.Step.{step}
use Rattle.firm_text.specs.Registers.{most_admissions}
use Rattle.firm_table.specs.Interleaving.{is_round, Station, empty, home, queued, held, answered, is_home, Seat, posted}
use Rattle.firm_table.specs.Interleaving.{admitted, retired}
use Rattle.firm_table.specs.inner.Seats.{Becomes, station_with, station_of, station_at, seat_of}
use Rattle.firm_table.specs.declared.occupants.Occupant.{Occupant}
use Rattle.firm_table.specs.declared.occupants.Part.{Part}
use Rattle.firm_table.specs.declared.occupants.Part.TheVariants.{Home}
use Rattle.firm_table.specs.declared.events.Answer.{Answer as EventAnswer}
use Rattle.firm_table.specs.declared.events.Answer.TheVariants.{Replied, Admitted, Retired}

not_round : (command : Command) → (command ≡ Round → ⊥) → is_round command ≡ false
not_round Round other = absurd (other refl)
not_round _ other = refl

-- a tenant that is home replies to a command that is no round
posts_home : (book after : Book) (command : Command) (mark : Bool) (reply : Reply) → (command ≡ Round → ⊥)
    → (reply, after) ≡ step book command mark
    → let now : EventAnswer × Station = (Replied reply, home after) in now ≡ posted (home book) command mark
posts_home book after command mark reply other stepped =
    rw (not_round command other) (ap (λ (p : Reply × Book). let o : EventAnswer × Station =
    (Replied p.0, home p.1) in o) stepped)

-- and so where its part says that it is home
pub posts_part : (book after : Book) (part : Part) (command : Command) (mark : Bool) (reply : Reply) → part ≡ Home
    → (command ≡ Round → ⊥)
    → (reply, after) ≡ step book command mark
    → let now : EventAnswer × Station =
    (Replied reply, station_with after part) in now ≡ posted (station_with book part) command mark
posts_part book after part command mark reply is_home other stepped =
    subst (λ (p : Part). let now : EventAnswer × Station = (Replied reply, station_with after p) in now
    ≡ posted (station_with book p) command mark)
    (sym is_home) (posts_home book after command mark reply other stepped)

-- a place that is empty and has an admission left goes to a tenant that is home
pub admits_empty : (found : Option Occupant) (rounds admissions : ℕ) (limits : TenantLimits) (occupant : Occupant)
    → is_some found ≡ false
    → admissions < most_admissions → station_of occupant ≡ home (opening_book limits)
    → Becomes (seat_of found rounds admissions) (admitted (station_at found) admissions limits false) Admitted
    (seat_of (Some occupant) rounds (admissions + 1))
admits_empty (Some other) rounds admissions limits occupant none left is = cc
admits_empty None rounds admissions limits occupant none left is =
    let may : nat_lt admissions most_admissions ≡ true = grind (arith, nat_tests) in
    let same : rounds ≡ rounds + 0 = omega arith in
    let outcome : EventAnswer × Station = (Admitted, home (opening_book limits)) in
    let outcome_is : outcome ≡ admitted empty admissions limits false = rw may refl in
    let becomes : Becomes (seat_of None rounds admissions) outcome Admitted
    (seat_of (Some occupant) rounds (admissions + 1)) = record {
      answers = refl;
      seat_is =
          ap (λ (n : ℕ). seat_of (Some occupant) n (admissions + 1)) same
          ∙ ap (λ (station : Station). let seat : Seat =
          record { station = station; rounds = rounds + 0; admissions = admissions + 1 } in seat) is;
    } in
    subst (λ (o : EventAnswer × Station). Becomes (seat_of None rounds admissions) o Admitted
    (seat_of (Some occupant) rounds (admissions + 1))) outcome_is becomes

retires : (station : Station) (rounds admissions : ℕ) → is_home station ≡ true
    → Becomes (record { station = station; rounds = rounds; admissions = admissions }) (retired station) Retired
    (seat_of None rounds admissions)
retires empty rounds admissions e = cc
retires (home book) rounds admissions e =
    let same_rounds : rounds ≡ rounds + 0 = omega arith in
    let same_admissions : admissions ≡ admissions + 0 = omega arith in
    record {
      answers = refl;
      seat_is = ap (λ (n : ℕ). seat_of None n admissions) same_rounds
          ∙ ap (λ (n : ℕ). seat_of None (rounds + 0) n) same_admissions;
    }
retires (queued book ticket) rounds admissions e = cc
retires (held book ticket worker) rounds admissions e = cc
retires (answered book reply) rounds admissions e = cc

-- a tenant that is home leaves its place empty
pub retires_home : (found : Option Occupant) (rounds admissions : ℕ) (occupant : Occupant) → found ≡ Some occupant
    → is_home (station_of occupant) ≡ true
    → Becomes (seat_of found rounds admissions) (retired (station_at found)) Retired (seat_of None rounds admissions)
retires_home None rounds admissions occupant here e = cc
retires_home (Some other) rounds admissions occupant here e =
    let same : other ≡ occupant = cc in
    retires (station_of other) rounds admissions (ap (λ (o : Occupant). is_home (station_of o)) same ∙ e)
