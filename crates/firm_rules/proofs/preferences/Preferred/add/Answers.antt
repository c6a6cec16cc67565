use Rattle.std.proofs.Common.{List, ℕ, length, ap, ◌∙◌, sym, arith}
use Rattle.firm_rules.specs.Names.{is_among}
use Rattle.firm_rules.proofs.PreferredNames.{added}
use Rattle.firm_rules.proofs.preferences.Preferred.add.Goals as goal

pub invariant_of-self : goal.invariant_of-self
invariant_of-self c =
    added c.self.inside.names c.self.inside.len c.args.name c.self.invariant
    (omega (arith, c.self.invariant.counted, ap (λ (l : List (List ℕ)). length l) c.self.view_is, c.requires))
    (ap (λ (l : List (List ℕ)). is_among l c.args.name) c.self.view_is ∙ sym c.contains.ensures ∙ c.if-contains.false)
