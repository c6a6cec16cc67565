use Rattle.std.proofs.Common.{◌≡◌, ◌∙◌, ℕ, Bool, true, None, length, arith, ap, subst}
use Rattle.firm_net.specs.Net.{Net, arc_count}
use Rattle.firm_paths.specs.Paths.{ArePaths, IsTightPath}
use Rattle.firm_paths.specs.Visits.{paths_of}
use Rattle.firm_paths.specs.Workspace.{HasSearched}
use Rattle.firm_canon.specs.inner.State.{left, prefix, price, root, view}
use Rattle.firm_canon.specs.declared.choosing.Choosing.{Choosing}
use Rattle.firm_canon.proofs.States.{goes_counted, goes_still}
use Rattle.firm_canon.proofs.choosing.Choosing.search_back.Goals as goal
use Rattle.firm_canon.proofs.choosing.Choosing.search_back.Goals.{After-tight_paths}

pub returns-then-self-clause-path : goal.returns-then-self-clause-path
returns-then-self-clause-path c steps found =
    (c.requires.ways.ways c.if-self.true).path c.args.node.id.place steps found

-- where the search found no path from the node, it found all
ways : (c : After-tight_paths) → paths_of c.tight_paths.new.scratch.visits c.args.node.id.place ≡ None
    → ArePaths c.args.self.now.graph.now.net (price c.args.self.now)
    (root (view c.args.self.now) (length (prefix c.args.self.now)) c.args.at_hub)
    (paths_of c.tight_paths.new.scratch.visits)
ways c none =
    let s : Choosing = c.args.self.now in
    subst (λ (to : ℕ). ArePaths s.graph.now.net (price s) to (paths_of c.tight_paths.new.scratch.visits))
    c.root-root.ensures.place
    (subst (λ (n : Net). ArePaths n (price s) c.root-root.result.id.place (paths_of c.tight_paths.new.scratch.visits))
    c.net.ensures.value (c.tight_paths.ensures.paths none))

pub returns-clause-goes_on : goal.returns-clause-goes_on
returns-clause-goes_on c =
    let s : Choosing = c.args.self.now in
    goes_counted s c.tight_paths.new.scratch true s.spent 1 0 c.requires.ready c.requires.ready.spent
    (omega (arith, ap (λ (b : Bool). left (record s { searched = b })) c.if-self.false))
    (subst (λ (arcs : ℕ). HasSearched s.scratch.now c.tight_paths.new.scratch 1 arcs)
    (ap arc_count c.net.ensures.value ∙ c.arcs_are_counted.ensures) c.tight_paths.ensures.searched)

pub returns-clause-path : goal.returns-clause-path
returns-clause-path c steps found =
    let s : Choosing = c.args.self.now in
    subst (λ (to : ℕ). IsTightPath s.graph.now.net (price s) c.args.node.id.place to steps) c.root-root.ensures.place
    (subst (λ (n : Net). IsTightPath n (price s) c.args.node.id.place c.root-root.result.id.place steps)
    c.net.ensures.value (c.tight_paths.ensures.path c.args.node.id.place steps found))

pub returns-clause-cut : goal.returns-clause-cut
returns-clause-cut c none = (ways (goal.at.returns-clause-cut c).After-tight_paths none).cut c.args.node.id.place none

pub returns-clause-ways : goal.returns-clause-ways
returns-clause-ways c none = record {
  ways = λ e. ways (goal.at.returns-clause-ways c).After-tight_paths none;
  hub = c.requires.ways.hub;
}

pub returns-then-self-clause-goes_on : goal.returns-then-self-clause-goes_on
returns-then-self-clause-goes_on c = goes_still c.args.self.now c.requires.ready
