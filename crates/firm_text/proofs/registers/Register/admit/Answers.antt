use Rattle.std.proofs.Common.{◌≡◌, Ok, arith}
use Rattle.std.proofs.lemmas.Grind.{common_steps}
use Rattle.firm_text.specs.Registers.{place_for}
use Rattle.firm_text.proofs.Places.{sound_given}
use Rattle.firm_text.proofs.registers.Register.admit.Goals as goal

pub invariant_of-self : goal.invariant_of-self
invariant_of-self c =
    let given : place_for c.self.inside.places c.args.name ≡ Ok c.in-Some.at = grind (arith, common_steps) in
    sound_given c.self.inside.places c.args.name c.in-Some.at c.index-self-at.result c.self.invariant given

pub returns-clause-admitted : goal.returns-clause-admitted
returns-clause-admitted c = grind (arith, common_steps)
