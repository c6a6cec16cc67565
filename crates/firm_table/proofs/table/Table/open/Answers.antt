use Rattle.std.proofs.Common.{◌≤◌, length, subst, arith}
use Rattle.std.specs.Prelude.{List}
use Rattle.firm_text.specs.Rosters.{most_places}
use Rattle.firm_table.specs.Interleaving.{Seat}
use Rattle.firm_table.proofs.Moves.{sound_opening}
use Rattle.firm_table.proofs.table.Table.open.Goals as goal

pub invariant_of-result : goal.invariant_of-result
invariant_of-result c =
    let few : length c.in_ok-seats_of.field-0.items ≤ most_places = c.in_ok-seats_of.ensures.few in
    let sound = sound_opening c.args.workers c.args.roster.now.rows
    (subst (λ (seats : List Seat). length seats ≤ most_places) c.in_ok-seats_of.ensures.opening few) in (
      rw (c.in_ok-seats_of.ensures.opening, c.in_ok-queue.ensures.items) sound,
      omega (arith, few, c.in_ok-queue.ensures.capacity),
    )
