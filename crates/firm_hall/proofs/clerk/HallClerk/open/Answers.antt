use Rattle.std.proofs.Common.{◌∙◌, [], List, ap, length, refl}
use Rattle.firm_rounds.specs.Passes.{PutIs}
use Rattle.firm_table.specs.Openings.{opened, places_opened}
use Rattle.firm_text.specs.Rosters.{most_places}
use Rattle.firm_hall.proofs.Opening.{puts_wide}
use Rattle.firm_hall.proofs.Starting.{desk_states_open, fits_open, tells_open}
use Rattle.firm_hall.proofs.clerk.HallClerk.open.Goals as goal

pub open_states-requires-clause-count : goal.open_states-requires-clause-count
open_states-requires-clause-count g c =
    ap (λ (ps : List PutIs). length ps) c.requires.passes ∙ puts_wide c.args.setting.hall.now.id most_places

pub invariant_of-serving : goal.invariant_of-serving
invariant_of-serving g c =
    let id = c.args.setting.hall.now.id in
    let opening = places_opened c.args.opening in
    let desk_states = c.in_ok-desk_states.ensures.opened id c.requires.passes in
    rw (c.of.ensures, c.register.ensures.places, c.in_ok-held.ensures)
    (record {
      desk_states = desk_states_open id opening c.in_ok-desk_states.desk_states.items []
          c.in_ok-desk_states.ensures.all desk_states refl;
      fits = rw desk_states (fits_open id opening);
      placed = tt;
    })

pub returns-clause-told : goal.returns-clause-told
returns-clause-told g c written =
    let id = c.args.setting.hall.now.id in
    let opening = opened c.args.opening in
    let desk_states = c.in_ok-desk_states.ensures.opened id c.requires.passes in
    rw (c.register.ensures.places, c.in_ok-held.ensures)
    (tells_open c.answers_add_up.ensures.opening id opening c.in_ok-desk_states.desk_states.items [] [] desk_states refl
    refl written)
