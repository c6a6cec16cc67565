use Rattle.std.proofs.Common.{◌≡◌, ◌∙◌, refl, sym, ap, arith, subst, ℕ}
use Rattle.std.specs.Prelude.{slice_index}
use Rattle.std.proofs.lemmas.List.{get_or_default}
use Rattle.firm_net.specs.Net.{lists_at}
use Rattle.firm_paths.specs.inner.Search.{label, Gives, HasRoom}
use Rattle.firm_paths.specs.declared.search.NodeState.{NodeState}
use Rattle.firm_paths.proofs.Labels.{offer_lowers}
use Rattle.firm_paths.proofs.Looks.{look_step, has_room, place_value}
use Rattle.firm_paths.proofs.shortest.Labels.relax_arc.Goals as goal

pub label_after-label-requires : goal.label_after-label-requires
label_after-label-requires c =
    let ms = c.args.self.now.states.items in
    let here : label ms c.args.current.place ≡ c.index.result.now.label =
    ap (λ (m : NodeState). m.label)
    (sym (c.index.ensures ∙ get_or_default ms c.args.current.place _ _ c.requires.place)) in
    subst (λ (z : ℕ). HasRoom c.args.step.way z c.cost.result) here
    (subst (λ (z : ℕ). HasRoom c.args.step.way (label ms c.args.current.place) z) (sym c.cost.ensures.value)
    (has_room c.args.step.way c.args.net.now (slice_index c.args.prices.now.prices) c.args.current
    c.args.self.now.visits.items ms c.args.step.arc c.args.row c.requires.net c.requires.valid c.requires.row
    (c.if-not-is_residual.ensures.0 refl) c.requires.start c.requires.stands))

pub returns-clause-lowers : goal.returns-clause-lowers
returns-clause-lowers c =
    rw c.relax.ensures.states (offer_lowers c.args.self.now.states.items c.in-Some.place _
    (omega (arith, c.in-Some.ensures.below, c.requires.length)) refl refl)

pub returns-clause-looks : goal.returns-clause-looks
returns-clause-looks c from near at =
    let ms = c.args.self.now.states.items in
    let way = c.args.step.way in
    let row = c.args.row in
    let there =
    place_value c.entered-node.result (lists_at c.args.net.now c.entered-node.result) c.in-Some.place
    c.in-Some.ensures.value in
    let here : c.index.result.now.label ≡ label ms c.args.current.place =
    ap (λ (m : NodeState). m.label) (c.index.ensures ∙ get_or_default ms c.args.current.place _ _ c.requires.place) in
    let gives : Gives way (label ms c.args.current.place) row.cost c.label_after-label.result =
    subst (λ (z : ℕ). Gives way z row.cost c.label_after-label.result) here
    (subst (λ (z : ℕ). Gives way c.index.result.now.label z c.label_after-label.result) c.cost.ensures.value
    c.label_after-label.ensures.given) in
    rw c.relax.ensures.states
    (look_step c.args.net.now (slice_index c.args.prices.now.prices) from near c.args.current
    c.args.self.now.visits.items ms c.args.step.arc row way c.label_after-label.result c.entered-node.result
    c.in-Some.place c.requires.net c.requires.valid c.requires.row (c.if-not-is_residual.ensures.0 refl)
    c.requires.start c.entered-node.ensures there.0 there.1
    (omega (arith, c.in-Some.ensures.below, c.requires.length)) gives at)
