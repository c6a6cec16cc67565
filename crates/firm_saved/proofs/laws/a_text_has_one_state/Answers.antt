use Rattle.std.proofs.Common.{◌∙◌, sym, ap}
use Rattle.firm_saved.specs.declared.faults.StateFault.{StateFault}
use Rattle.firm_saved.specs.Reading.{state_of}
use Rattle.firm_saved.proofs.States.{state_back}
use Rattle.firm_saved.proofs.Steps.{ok_is}
use Rattle.firm_saved.proofs.laws.a_text_has_one_state.Goals as goal

pub returns : goal.returns
returns c first second sound other same =
    let rises = c.loads_are_sums_of_slots.ensures.rises in
    ok_is {E = StateFault} first second
    (sym (state_back rises first sound) ∙ ap state_of same ∙ state_back rises second other)
