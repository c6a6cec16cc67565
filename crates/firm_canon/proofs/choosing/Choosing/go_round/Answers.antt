use Rattle.std.proofs.Common.{◌≡◌, ◌∙◌, List, ◌++◌, Some, length, ap, refl, rules, sym, subst}
use Rattle.std.proofs.lemmas.Bool.{false≢true}
use Rattle.firm_net.specs.Row.{Row}
use Rattle.firm_net.specs.Net.{Net, row_at, IsNode}
use Rattle.firm_net.specs.declared.row.NodeId.{NodeId}
use Rattle.firm_paths.specs.Paths.{IsTightPath}
use Rattle.firm_paths.specs.declared.search.Step.{Step}
use Rattle.firm_paths.specs.NetArcs.{limits_of}
use Rattle.firm_canon.specs.inner.State.{prefix, price, root, view}
use Rattle.firm_canon.specs.inner.Turns.{IsIdle, IsOpen, Turned, IsClosedAt}
use Rattle.firm_canon.specs.declared.choosing.Choosing.{Choosing}
use Rattle.firm_canon.proofs.States.{goes_more, goes_turned, still_on, still_back, goes_still, goes_rested, ways_rested}
use Rattle.firm_canon.proofs.Heads.{has_row}
use Rattle.firm_canon.proofs.Ways.{closed_blocked, closed_cut}
use Rattle.firm_canon.proofs.choosing.Choosing.go_round.Goals as goal

pub turn-requires-clause-idle : goal.turn-requires-clause-idle
turn-requires-clause-idle c =
    still_on (λ v z b. IsIdle v.net c.args.arc) c.args.self.now c.search_back.new.self 0 c.search_back.ensures.goes_on
    c.search_back.ensures.unchanged c.requires.idle

pub returns-clause-won : goal.returns-clause-won
returns-clause-won c e =
    let s : Choosing = c.args.self.now in
    let t : Choosing = c.search_back.new.self in
    let steps = c.in-Some-path_from.steps.now in
    let row : Row = c.in-Some.row in
    let on = c.search_back.ensures in
    still_back (λ v z b. row_at v.net c.args.arc ≡ Some row → IsOpen v.net z c.args.arc
    → ((row : Row) (steps : List Step) → row_at v.net c.args.arc ≡ Some row
    → IsTightPath v.net z row.head.id.place (root v (length b) c.args.at_hub) steps
    → IsTightPath v.net z row.head.id.place row.tail.id.place (steps ++ c.args.back.now))
    → Turned v.net c.turn.new.graph.net z c.args.arc) s t 0 on.goes_on on.unchanged
    (λ there open_ round. c.turn.ensures.turned (price t) row there open_ (round row steps there
    (subst (λ (h : NodeId). IsTightPath t.graph.now.net (price t) h.id.place
    (root (view t) (length (prefix t)) c.args.at_hub) steps) c.head-head.ensures.value
    (on.path steps c.in-Some-path_from.ensures.path))))
    (ap (λ (n : Net). row_at n c.args.arc) (sym c.net.ensures.value) ∙ (sym c.arc.ensures.row ∙ c.in-Some.is))
    (c.if-not-is_open.ensures.open refl) c.requires.round

pub returns-clause-goes_on : goal.returns-clause-goes_on
returns-clause-goes_on c =
    let t : Choosing = c.search_back.new.self in
    let on = c.search_back.ensures in
    goes_more c.args.self.now t _ 0 on.goes_on
    (goes_turned t c.turn.new.graph _ c.args.arc on.goes_on.ready c.turn.ensures.same c.turn.ensures.shows
    (search rules)
    (still_on (λ v z b. Turned v.net c.turn.new.graph.net z c.args.arc) c.args.self.now t 0 on.goes_on on.unchanged
    (returns-clause-won c refl)))

pub returns-then-not-is_open-clause-goes_on : goal.returns-then-not-is_open-clause-goes_on
returns-then-not-is_open-clause-goes_on c = goes_still c.args.self.now c.requires.ready

pub returns-then-not-is_open-clause-lost : goal.returns-then-not-is_open-clause-lost
returns-then-not-is_open-clause-lost c e =
    let s : Choosing = c.args.self.now in
    closed_blocked s.graph.now.net (price s) (root (view s) (length (prefix s)) c.args.at_hub) c.args.arc
    (c.if-not-is_open.ensures.blocked refl)

pub path_from-requires-clause-made_for : goal.path_from-requires-clause-made_for
path_from-requires-clause-made_for c =
    c.search_back.ensures.goes_on.ready.scratch_fits ∙ ap limits_of (sym c.net-2.ensures.value)

pub unreachable-requires : goal.unreachable-requires
unreachable-requires c =
    has_row c.args.self.now.graph.now.net c.net.result.now c.args.arc c.arc.result c.net.ensures.value c.arc.ensures.row
    c.requires.there
    c.in_default.is

pub search_back-requires-clause-node : goal.search_back-requires-clause-node
search_back-requires-clause-node c =
    subst (λ (n : Net). IsNode n c.head-head.result) c.net.ensures.value
    (subst (λ (n : NodeId). IsNode c.net.result.now n) (sym c.head-head.ensures.value) c.in-Some.ensures.in_range.2)

pub path_from-requires-clause-node : goal.path_from-requires-clause-node
path_from-requires-clause-node c =
    subst (λ (n : Net). IsNode n c.head-head.result)
    (c.net.ensures.value ∙ sym (c.net-2.ensures.value ∙ ap (λ g. g.net) c.search_back.ensures.unchanged))
    (subst (λ (n : NodeId). IsNode c.net.result.now n) (sym c.head-head.ensures.value) c.in-Some.ensures.in_range.2)

pub returns-in_default-path_from-clause-goes_on : goal.returns-in_default-path_from-clause-goes_on
returns-in_default-path_from-clause-goes_on c =
    let on = c.search_back.ensures in
    goes_more c.args.self.now c.search_back.new.self _ 0 on.goes_on
    (goes_rested c.search_back.new.self _ on.goes_on.ready (search rules))

pub returns-in_default-path_from-clause-lost : goal.returns-in_default-path_from-clause-lost
returns-in_default-path_from-clause-lost c e =
    let s : Choosing = c.args.self.now in
    let t : Choosing = c.search_back.new.self in
    let row : Row = c.in-Some.row in
    let on = c.search_back.ensures in
    still_back (λ v z b. row_at v.net c.args.arc ≡ Some row
    → IsClosedAt v.net z (root v (length b) c.args.at_hub) c.args.arc) s t 0 on.goes_on on.unchanged
    (λ there. closed_cut t.graph.now.net (price t) (root (view t) (length (prefix t)) c.args.at_hub) c.args.arc row _ _
    there (cc) (on.cut c.in_default-path_from.ensures.none).1)
    (ap (λ (n : Net). row_at n c.args.arc) (sym c.net.ensures.value) ∙ (sym c.arc.ensures.row ∙ c.in-Some.is))

pub returns-in_default-path_from-clause-ways : goal.returns-in_default-path_from-clause-ways
returns-in_default-path_from-clause-ways c e =
    ways_rested c.search_back.new.self _ c.args.at_hub (search rules)
    (c.search_back.ensures.ways c.in_default-path_from.ensures.none)

pub returns-then-not-is_open-clause-won : goal.returns-then-not-is_open-clause-won
returns-then-not-is_open-clause-won c e = absurd (false≢true e)

pub returns-in_default-path_from-clause-won : goal.returns-in_default-path_from-clause-won
returns-in_default-path_from-clause-won c e = absurd (false≢true e)

pub returns-clause-lost : goal.returns-clause-lost
returns-clause-lost c e = absurd (false≢true (sym e))
