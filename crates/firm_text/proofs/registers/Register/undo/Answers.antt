use Rattle.std.proofs.Common.{sym, subst, List}
use Rattle.firm_text.specs.Registers.{IsAdmission}
use Rattle.firm_text.specs.declared.registers.Entry.{Entry}
use Rattle.firm_text.proofs.Places.{taken_back}
use Rattle.firm_text.proofs.registers.Register.undo.Goals as goal

pub returns : goal.returns
returns c before name admission =
    taken_back before name c.args.place c.self.inside.places c.index-places-place.result
    (subst (λ (places : List Entry). IsAdmission before name c.args.place places) (sym c.self.view_is) admission)
