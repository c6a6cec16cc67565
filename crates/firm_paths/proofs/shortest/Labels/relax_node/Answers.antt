use Rattle.std.proofs.Common.{arith}
use Rattle.firm_net.specs.declared.row.Way.TheVariants.{Forward, Backward}
use Rattle.firm_paths.specs.inner.Search.{NodeFollowed}
use Rattle.firm_paths.proofs.Degrees.{arcs_few, degree_few}
use Rattle.firm_paths.proofs.Labels.{lowered_trans, followed_kept}
use Rattle.firm_paths.proofs.shortest.Labels.relax_node.Goals as goal

pub relax_arcs-requires-2-clause-count : goal.relax_arcs-requires-2-clause-count
relax_arcs-requires-2-clause-count c =
    omega (
      arith,
      c.requires.count,
      c.relax_arcs.ensures.counts,
      degree_few Forward c.args.net.now c.args.current.node c.relax_arcs.ensures.net,
      arcs_few c.args.net.now,
      c.relax_arcs.ensures.net.arc_limit,
    )

pub relax_arcs-requires-2-clause-stands : goal.relax_arcs-requires-2-clause-stands
relax_arcs-requires-2-clause-stands c =
    let at = c.requires.stands in
    rw c.relax_arcs.ensures.visits (at.0, at.1, (c.relax_arcs.ensures.looks at.0 at.1 at.2).0)

pub returns-clause-lowers : goal.returns-clause-lowers
returns-clause-lowers c =
    lowered_trans c.args.self.now.states.items c.relax_arcs.new.self.states.items c.relax_arcs-2.new.self.states.items
    c.relax_arcs.ensures.lowers c.relax_arcs-2.ensures.lowers

pub returns-clause-looks : goal.returns-clause-looks
returns-clause-looks c from near start =
    let net = c.args.net.now in
    let now = c.relax_arcs.new.self.states.items in
    let new = c.relax_arcs-2.new.self.states.items in
    let one = c.relax_arcs.ensures.looks from near start in
    let two = (rw c.relax_arcs.ensures.visits at c.relax_arcs-2.ensures.looks) from near one.0 in (
      two.0,
      λ way. elim way as (λ way. NodeFollowed net new c.args.current.place way) [
        | Forward ↦ λ id row is here.
            followed_kept now new Forward row c.relax_arcs-2.ensures.lowers (one.1 id row is here)
        | Backward ↦ two.1
      ],
    )
