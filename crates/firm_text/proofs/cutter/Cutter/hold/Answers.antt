use Rattle.std.proofs.Common.{◌∙◌, ap, rules, ◌++◌, take}
use Rattle.firm_text.specs.Cutters.{CutterIs, most_bytes_held}
use Rattle.firm_text.proofs.Cutting.{held_more}
use Rattle.firm_text.proofs.cutter.Cutter.hold.Goals as goal

pub returns-clause-held : goal.returns-clause-held
returns-clause-held c =
    held_more c.self.inside.bytes c.copy_from_slice.new.self c.args.bytes.now c.self.inside.count c.min-begin.result
    c.min-fits.result c.min-self-inside.result
    (search rules) c.self.invariant c.min-begin.ensures c.min-fits.ensures c.min-self-inside.ensures (search rules)
    ∙ ap (λ (k : CutterIs). take most_bytes_held (k.held ++ c.args.bytes.now)) c.self.view_is
