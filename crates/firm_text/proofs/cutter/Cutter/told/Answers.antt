use Rattle.std.proofs.Common.{◌∙◌, sym, ap, arith}
use Rattle.std.proofs.lemmas.List.{take_all}
use Rattle.std.specs.Str.Lines.{strip_carriage_return}
use Rattle.firm_text.specs.Cutters.{CutterIs}
use Rattle.firm_text.specs.Inputs.{line_under}
use Rattle.firm_text.proofs.Cutting.{tells_counted, tells_held}
use Rattle.firm_text.proofs.cutter.Cutter.told.Goals as goal

pub returns-then-self-eq-MOST_COUNTED : goal.returns-then-self-eq-MOST_COUNTED
returns-then-self-eq-MOST_COUNTED c heading text stands =
    let whole =
    take_all c.self.inside.count c.self.inside.bytes
    (let n = c.self.told in let m = c.if-self-eq-MOST_COUNTED.true in omega arith) in
    tells_counted heading c.args.self.now text c.self.inside.bytes stands
    (sym (ap (λ (k : CutterIs). k.count) c.self.view_is) ∙ c.if-self-eq-MOST_COUNTED.true)
    (sym whole ∙ ap (λ (k : CutterIs). k.held) c.self.view_is)

pub returns-else-self-eq-MOST_COUNTED : goal.returns-else-self-eq-MOST_COUNTED
returns-else-self-eq-MOST_COUNTED c heading text stands =
    let count = ap (λ (k : CutterIs). k.count) c.self.view_is in
    let held = ap (λ (k : CutterIs). k.held) c.self.view_is in
    let most = c.self.invariant in
    let all =
    tells_held c.args.self.now text stands (omega arith) (λ e. c.if-self-eq-MOST_COUNTED.false (omega arith)) in
    ap (line_under heading) (c.without_carriage_return.ensures ∙ ap strip_carriage_return (held ∙ all))
