use Rattle.std.proofs.Common.{◌≡◌, length, arith, ℕ, ap, subst, sym, ◌∙◌}
use Rattle.std.proofs.lemmas.List.{length-map}
use Rattle.firm_paths.specs.Workspace.{HasSearched}
use Rattle.firm_rules.specs.Book.{TenantRows}
use Rattle.firm_rules.specs.ArenaUse.{arena_arcs}
use Rattle.firm_graph.specs.Graph.{Graph}
use Rattle.firm_paths.specs.PriceTable.{price_of}
use Rattle.firm_canon.proofs.Starts.{starts}
use Rattle.firm_graph.specs.Ids.{view_of}
use Rattle.firm_canon.proofs.Graphs.{same_on, same_renetted}
use Rattle.firm_canon.proofs.best.start.Goals as goal

pub returns-clause-keeps : goal.returns-clause-keeps
returns-clause-keeps c =
    let new : Graph = c.least.new.self in
    let tasks : length (view_of new).case.tasks ≡ length new.rows.tasks = length-map new.rows.tasks _ in
    starts (record {
      least = c.balanced_flows.ensures.least;
      same = c.balanced_flows.ensures.same;
      no_more = c.balanced_flows.ensures.no_more;
      rows = c.arcs_are_rows.ensures.arcs;
      listed = c.arcs_are_rows.ensures.rows;
      sums = c.loads_are_sums_of_slots.ensures.sums;
      rises = c.loads_are_sums_of_slots.ensures.rises;
    })
    c.conserved_where_balanced.ensures
    (view_of c.least.new.self) (price_of c.least.new.prices)
    c.least.ensures.shows
    (omega (arith, c.least.ensures.graph.sound.fits.nodes, tasks))
    c.least.ensures.lows c.least.ensures.least c.least.ensures.valid

pub least-requires : goal.least-requires
least-requires c = record {
  made_for = (
    c.requires.made_for.0 ∙ sym c.prepare.ensures.limits,
    c.requires.made_for.1 ∙ sym c.prepare.ensures.limits,
  );
}

pub returns-clause-same : goal.returns-clause-same
returns-clause-same c =
    let old : Graph = c.args.graph.now in
    let empty : Graph = c.prepare.new.self in
    same_on old empty c.least.new.self (same_renetted old empty _ c.prepare.ensures.net c.prepare.ensures.limits)
    (same_renetted empty c.least.new.self _ c.least.ensures.same c.least.ensures.limits)

pub returns-clause-searched : goal.returns-clause-searched
returns-clause-searched c =
    let empty : Graph = c.prepare.new.self in
    let rows : empty.rows ≡ c.args.graph.now.rows = ap (λ (g : Graph). g.rows) c.prepare.ensures.net in
    let tasks : length (view_of empty).case.tasks ≡ length empty.rows.tasks = length-map empty.rows.tasks _ in
    let made = c.least.ensures.counts in
    record {
      made = made.0;
      few = omega (arith, made.1, tasks, ap (λ (r : TenantRows). length r.tasks) rows);
      searched = subst (λ (arcs : ℕ). HasSearched c.args.scratch.now c.least.new.scratch made.0 arcs)
          (c.arcs_are_counted.ensures ∙ ap arena_arcs rows) made.2;
    }
