use Rattle.std.proofs.Common.{◌≡◌, ◌-◌, List, All, length, sym, ap, subst, arith}
use Rattle.firm_rounds.specs.Passes.{PutIs}
use Rattle.firm_hall.specs.Desks.{DeskIs, PlaceIs}
use Rattle.firm_hall.specs.Opening.{opening_desks}
use Rattle.firm_hall.proofs.Opening.{puts_wide, desks_of, unused_are_of}
use Rattle.firm_hall.proofs.halls.open_hall.Goals as goal

pub open_places-requires-clause-count : goal.open_places-requires-clause-count
open_places-requires-clause-count c =
    let wide = ap (λ (ps : List PutIs). length ps) c.in_ok-hall.ensures.puts in
    omega (arith, wide, puts_wide c.in_ok-hall.hall.id c.args.places, c.requires.places.0)

pub returns-clause-desks : goal.returns-clause-desks
returns-clause-desks c =
    c.in_ok-desks.ensures.desks c.in_ok-hall.hall.id c.args.places c.requires.places.0 c.in_ok-hall.ensures.puts

pub returns-clause-empty : goal.returns-clause-empty
returns-clause-empty c =
    c.in_ok-desks.ensures.empty c.in_ok-hall.hall.id c.args.places c.requires.places.0 c.in_ok-hall.ensures.puts

pub returns-clause-of_this : goal.returns-clause-of_this
returns-clause-of_this c =
    let id = c.in_ok-hall.hall.id in
    let desks : c.in_ok-desks.desks.items ≡ opening_desks id 0 c.args.roster.now.rows =
    c.in_ok-desks.ensures.desks id c.args.places c.requires.places.0 c.in_ok-hall.ensures.puts in (
      subst (All (λ (d : DeskIs). d.queue ≡ id)) (sym desks) (desks_of id 0 c.args.roster.now.rows),
      c.in_ok-hall.ensures.of_this,
    )

pub returns-clause-empty_of_this : goal.returns-clause-empty_of_this
returns-clause-empty_of_this c =
    let id = c.in_ok-hall.hall.id in
    let rows = length c.args.roster.now.rows in
    let empty = c.in_ok-desks.ensures.empty id c.args.places c.requires.places.0 c.in_ok-hall.ensures.puts in
    subst (All (λ (p : PlaceIs). p.queue ≡ id)) (sym empty) (unused_are_of id rows (c.args.places - rows))
