use Rattle.std.proofs.Common.{length, arith}
use Rattle.std.proofs.lemmas.Bool.{ltb-true, ltb-false}
use Rattle.firm_canon.specs.inner.Keys.{key_of}
use Rattle.firm_canon.specs.inner.State.{prefix, price, view}
use Rattle.firm_canon.specs.declared.choosing.Choosing.{Choosing}
use Rattle.firm_canon.proofs.Tries.{flow_is}
use Rattle.firm_canon.proofs.Ways.{own_unit}
use Rattle.firm_canon.proofs.choosing.Choosing.carries.Goals as goal

pub returns-clause-yes : goal.returns-clause-yes
returns-clause-yes c e =
    let s : Choosing = c.args.self.now in
    omega (
      arith,
      ltb-true 0 c.flow_on.result e,
      own_unit (view s) (price s) (prefix s) c.requires.ready.keeps c.requires.next c.args.arc c.requires.arc,
      flow_is (view s) c.net.result.now c.own_arc-arc.result (key_of (length (prefix s)) c.args.arc) c.flow_on.result
          c.net.ensures.value c.own_arc-arc.ensures.value c.flow_on.ensures,
    )

pub returns-clause-no : goal.returns-clause-no
returns-clause-no c e =
    let s : Choosing = c.args.self.now in
    omega (
      arith,
      ltb-false 0 c.flow_on.result e,
      flow_is (view s) c.net.result.now c.own_arc-arc.result (key_of (length (prefix s)) c.args.arc) c.flow_on.result
          c.net.ensures.value c.own_arc-arc.ensures.value c.flow_on.ensures,
    )
