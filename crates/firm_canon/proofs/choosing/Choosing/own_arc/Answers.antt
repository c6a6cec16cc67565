use Rattle.std.proofs.Common.{◌≡◌, ◌∙◌, ℕ, length, arith, ap}
use Rattle.firm_canon.specs.inner.Keys.{key_of}
use Rattle.firm_canon.specs.inner.State.{prefix, price, view}
use Rattle.firm_canon.specs.declared.choosing.Choosing.{Choosing}
use Rattle.firm_canon.proofs.Tries.{there_at}
use Rattle.firm_canon.proofs.Ways.{own_key}
use Rattle.firm_canon.proofs.choosing.Choosing.own_arc.Goals as goal

pub returns-clause-there : goal.returns-clause-there
returns-clause-there c =
    let s : Choosing = c.args.self.now in
    let count : c.len.result ≡ length (prefix s) = omega (arith, c.len.ensures, s.chosen.now.ok.0) in
    there_at (view s) (price s) (prefix s) (key_of (length (prefix s)) c.args.arc) c.task_arc.result
    c.requires.ready.keeps
    (own_key (view s) (price s) (prefix s) c.requires.ready.keeps c.requires.next c.args.arc c.requires.arc)
    (c.task_arc.ensures ∙ ap (λ (i : ℕ). (view s).arc (key_of i c.args.arc)) count)
