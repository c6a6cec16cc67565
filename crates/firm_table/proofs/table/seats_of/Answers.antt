use Rattle.std.proofs.Common.{◌≡◌, ◌≤◌, ◌∙◌, ◌++◌, ◌∷◌, [], ℕ, List, length, refl, rules, sym, ap, take, arith}
use Rattle.std.specs.Prelude.{Option, Some, None, slice_get}
use Rattle.firm_text.specs.Rosters.{RosterRow, most_places}
use Rattle.firm_table.specs.Interleaving.{Seat, opening_seat, unused_seat, opening_seats}
use Rattle.firm_table.specs.inner.Tables.{first_seat}
use Rattle.firm_table.proofs.Opened.{opened_at, opened_length, opened_next, opened_all}
use Rattle.firm_table.proofs.table.seats_of.Goals as goal

first_is : (row : Option RosterRow) → opened_at opening_seat unused_seat row ≡ first_seat row
first_is None = refl
first_is (Some row) = refl

pub loop-place-preserved : goal.loop-place-preserved
loop-place-preserved c =
    let few : length c.args.roster.now.rows ≤ most_places = omega (arith, c.len.ensures.few, c.len.ensures.length) in
    let added : c.push.new.self.items
    ≡ c.loop-place.seats.items ++ first_seat (slice_get c.args.roster.now.rows c.loop-place.place) ∷ [] = search rules
    in
    added ∙ ap (λ (seats : List Seat). seats ++ first_seat
    (slice_get c.args.roster.now.rows c.loop-place.place) ∷ []) c.loop-place.invariant
    ∙ ap (λ (seat : Seat). take c.loop-place.place (opening_seats c.args.roster.now.rows) ++ seat ∷ [])
    (sym (first_is (slice_get c.args.roster.now.rows c.loop-place.place)))
    ∙ sym (opened_next opening_seat unused_seat c.args.roster.now.rows few c.loop-place.place c.loop-place-test.true)

pub returns : goal.returns
returns c =
    let few : length c.args.roster.now.rows ≤ most_places = omega (arith, c.len.ensures.few, c.len.ensures.length) in
    let end : c.loop-place.place ≡ most_places =
    omega (arith, c.loop-place.auto.place-end, c.loop-place-test.false) in
    let all : c.loop-place.seats.items ≡ opening_seats c.args.roster.now.rows =
    c.loop-place.invariant ∙ ap (λ (n : ℕ). take n (opening_seats c.args.roster.now.rows)) end
    ∙ opened_all opening_seat unused_seat c.args.roster.now.rows few in
    let long = ap length all ∙ opened_length opening_seat unused_seat c.args.roster.now.rows few in
    record { opening = all; few = omega (arith, long) }
