use Rattle.std.proofs.Common.{◌<◌, ◌≤◌, ◌^◌, ◌∙◌, rules, sym, arith}
use Rattle.firm_table.specs.Openings.{place_opened}
use Rattle.firm_hall.proofs.Starting.{some_stay}
use Rattle.firm_hall.proofs.seating.open_state.Goals as goal

pub at-requires : goal.at-requires
at-requires c =
    let place = place_opened c.args.opening c.args.at in
    let given : 0 < c.admissions_at.result =
    c.admissions_at.ensures.some
    (some_stay place.stay c.in-Some.tenant (sym c.in-Some.is ∙ c.in_ok-tenant.ensures)) in
    let left = c.life_left.ensures in
    let life : c.in-Some.tenant.rows.limits.life ≤ 2 ^ 40 = search rules in
    rw c.given_before-place.ensures
    (record { asked = omega (arith, given); given = omega (arith, left); life = life })
