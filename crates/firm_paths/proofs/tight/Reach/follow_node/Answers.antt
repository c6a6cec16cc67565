use Rattle.std.proofs.Common.{arith}
use Rattle.std.specs.Prelude.{slice_index}
use Rattle.firm_net.specs.declared.row.Way.TheVariants.{Forward}
use Rattle.firm_paths.proofs.Degrees.{arcs_few, degree_few}
use Rattle.firm_paths.proofs.Spreading.{grown_trans, spreads_both}
use Rattle.firm_paths.proofs.tight.Reach.follow_node.Goals as goal

pub follow_arcs-requires-2-clause-count : goal.follow_arcs-requires-2-clause-count
follow_arcs-requires-2-clause-count c =
    omega (
      arith,
      c.requires.count,
      c.follow_arcs.ensures.counts,
      degree_few Forward c.args.arcs.now.net.now c.args.current.node c.follow_arcs.ensures.net,
      arcs_few c.args.arcs.now.net.now,
      c.follow_arcs.ensures.net.arc_limit,
    )

pub returns-clause-grown : goal.returns-clause-grown
returns-clause-grown c =
    grown_trans c.args.self.now.seen.items c.args.self.now.visits.items c.follow_arcs.new.self.seen.items
    c.follow_arcs.new.self.visits.items c.follow_arcs-2.new.self.seen.items c.follow_arcs-2.new.self.visits.items
    c.follow_arcs.ensures.grown c.follow_arcs-2.ensures.grown

pub returns-clause-spreads : goal.returns-clause-spreads
returns-clause-spreads c =
    spreads_both c.args.arcs.now.net.now (slice_index c.args.arcs.now.prices.now.prices) c.args.arcs.now.barred.now
    c.args.current
    c.args.self.now.seen.items c.args.self.now.visits.items c.follow_arcs.new.self.seen.items
    c.follow_arcs.new.self.visits.items c.follow_arcs-2.new.self.seen.items c.follow_arcs-2.new.self.visits.items
    c.follow_arcs.ensures.grown c.follow_arcs.ensures.spreads c.follow_arcs-2.ensures.grown
    c.follow_arcs-2.ensures.spreads
