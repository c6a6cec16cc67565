use Rattle.std.proofs.Common.{◌≡◌, ℕ, pos, to_z, w64, ap, ◌∙◌, arith}
use Rattle.std.proofs.lemmas.Int.{ints}
use Rattle.firm_rules.specs.Placement.{Case, placement_cost}
use Rattle.firm_rules.specs.Round.{case_of}
use Rattle.firm_rules.specs.SoundBook.{is_cost}
use Rattle.firm_rules.proofs.Costs.{placement-most}
use Rattle.firm_rules.proofs.Legals.{to_legal}
use Rattle.firm_rules.proofs.SoundBooks.{cost-up_to}
use Rattle.firm_rules.proofs.placements.cost_of.Goals as goal

pub returns-clause-within : goal.returns-clause-within
returns-clause-within g c =
    let rows = c.args.rows.now in
    let cost : ℕ = placement_cost (case_of rows) c.args.placement.now in
    let is : to_z w64 c.cost_of.result ≡ pos c.cost_of.result = omega (arith, ints, c.cost_of.ensures.most) in
    let same : c.cost_of.result ≡ cost =
    c.cost_of.ensures.cost ∙ ap (λ (k : Case). placement_cost k c.args.placement.now) c.case.ensures in
    ap is_cost (is ∙ ap pos same)
    ∙ cost-up_to cost
    (placement-most rows c.args.placement.now c.limits.ensures.sound
    (to_legal (case_of rows) c.args.placement.now c.requires))
