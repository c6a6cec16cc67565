use Rattle.std.proofs.Common.{◌≡◌, ◌∙◌, ap, sym, subst, arith, length, get_or, ℕ, List}
use Rattle.std.specs.Prelude.{set}
use Rattle.std.proofs.lemmas.Option.{get_or_from_slice_get}
use Rattle.firm_text.specs.Rosters.{RosterRow}
use Rattle.firm_text.specs.Registers.{IsRegister, occupied}
use Rattle.firm_text.specs.declared.registers.Entry.{Entry}
use Rattle.firm_text.proofs.Places.{all_placed, next_place, places_to, sound_first}
use Rattle.firm_text.proofs.registers.Register.of.Goals as goal

pub loop-at-preserved : goal.loop-at-preserved
loop-at-preserved c =
    let tenants = c.args.roster.now.rows in
    let at = c.loop-at.at in
    let tenant = c.unwrap-name.result in
    let is : get_or tenants at tenant ≡ tenant =
    get_or_from_slice_get tenants at tenant tenant (sym c.get.ensures ∙ c.unwrap-name.ensures) in
    ap (λ (places : List Entry). set places at (occupied tenant.0 1)) c.loop-at.invariant
    ∙ ap (λ (t : RosterRow). set (places_to at tenants) at (occupied t.0 1)) (sym is)
    ∙ next_place tenants at tenant (omega arith) (omega arith)

pub returns : goal.returns
returns c =
    let end : c.loop-at.at ≡ length c.args.roster.now.rows = omega arith in
    c.loop-at.invariant ∙ ap (λ (n : ℕ). places_to n c.args.roster.now.rows) end ∙ all_placed c.args.roster.now.rows

pub invariant_of-result : goal.invariant_of-result
invariant_of-result c =
    let end : c.loop-at.at ≡ length c.args.roster.now.rows = omega arith in
    let all =
    c.loop-at.invariant ∙ ap (λ (n : ℕ). places_to n c.args.roster.now.rows) end ∙ all_placed c.args.roster.now.rows
    in
    subst IsRegister (sym all) (sound_first c.args.roster.now.rows c.len-at-end.ensures.differ (omega arith))
