use Rattle.std.proofs.Common.{◌≡◌, ap, ◌∙◌, arith}
use Rattle.firm_rents.specs.Rents.{gain}
use Rattle.firm_rents.proofs.slots.saved_by_machine.Goals as goal

pub returns-clause-saved : goal.returns-clause-saved
returns-clause-saved c = λ placement show other legal.
    (let most = c.one_more_machine_saves.ensures c.args.case.now c.args.rents.now placement show c.requires c.args.slots
    c.in_ok-rent.rent other legal in
    let gained : c.gain_of.result ≡ gain c.args.case.now.spread c.in_ok-rent.rent c.args.slots =
    c.gain_of.ensures.gain ∙ (ap (λ s. gain s c.in_ok-rent.rent c.from.result) c.spread-2.ensures.spread
    ∙ ap (λ n. gain c.args.case.now.spread c.in_ok-rent.rent n) (c.from.ensures ∙ c.get.ensures.value)) in
    omega (arith, most, gained, c.drawn_at.ensures.drawn))
