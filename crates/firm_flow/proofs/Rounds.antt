-- A unit goes round a cycle of residual arcs of reduced cost 0.
use Rattle.std.proofs.Common.{◌≡◌, ℕ, true, List, [], ◌∷◌, arith, sym, ap, subst, ◌∙◌}
use Rattle.std.specs.Prelude.{map, Contains}
use Rattle.std.specs.List.{All}
use Rattle.std.proofs.lemmas.List.Elements.{All-head, All-tail, All-nil, All-cons}
use Rattle.firm_net.specs.Net.{Net, row_at}
use Rattle.firm_net.specs.Laws.{row_listed}
use Rattle.firm_net.specs.declared.row.ArcId.{ArcId}
use Rattle.firm_net.specs.declared.row.Way.TheVariants.{Forward}
use Rattle.firm_paths.specs.Network.{Residual, IsResidual}
use Rattle.firm_paths.specs.NetArcs.{arc_of, arcs_of, residual_of}
use Rattle.firm_paths.specs.Paths.{Avoids}
use Rattle.firm_paths.specs.declared.search.Step.{Step}
use Rattle.firm_flow.specs.Laws.{SetsOut, StepsOn, ComesRound}
use Rattle.firm_flow.proofs.Pushed.{IsPushed, path_kept, one_step, carries_on, valid_on, within_on, cost_on}
use Rattle.firm_flow.proofs.Rows.{keys_differ, net_pushed, step_row, arc_or_key}

avoided : (net : Net) (arc : ArcId) (steps : List Step) → Avoids (arc ∷ []) steps
    → All (λ (t : Residual ℕ ArcId). t.arc.key ≡ arc → ⊥) (map (residual_of net) steps)
avoided net arc [] h = All-nil (λ (t : Residual ℕ ArcId). t.arc.key ≡ arc → ⊥)
avoided net arc (s ∷ steps) h =
    All-cons (λ (t : Residual ℕ ArcId). t.arc.key ≡ arc → ⊥) (residual_of net s) (map (residual_of net) steps)
    (λ e. All-head (λ (s : Step). Contains (arc ∷ []) s.arc → ⊥) s steps h
    (0, omega arith, sym e ∙ arc_or_key s.arc (row_at net s.arc)))
    (avoided net arc steps (All-tail (λ (s : Step). Contains (arc ∷ []) s.arc → ⊥) s steps h))

pub sets_out : SetsOut
sets_out net new arc row price sources sink steps valid within balanced there room tight path avoids is others =
    let r : Residual ℕ ArcId = record { arc = arc_of arc row; forward = true } in
    let pushed : IsPushed (arcs_of net) r (arcs_of new) = net_pushed net new arc row Forward there is others in
    let residual : IsResidual (arcs_of net) r = record {
      listed = row_listed arc_of net arc row there;
      has_room =
          λ e. room;
      may_fall = λ e. absurd cc;
    } in
    record {
      path = path_kept (arcs_of net) r (arcs_of new) row.head.id.place row.tail.id.place
          (map (residual_of net) steps) pushed path.path (avoided net arc steps avoids);
      tight = path.tight;
      carries = carries_on (arcs_of net) r (arcs_of new) residual pushed sources sink row.tail.id.place
          (λ w. omega (arith, balanced w));
      valid = valid_on (arcs_of net) r (arcs_of new) residual pushed price tight valid;
      within = within_on (arcs_of net) r (arcs_of new) residual pushed within;
      cost = cost_on (arcs_of net) r (arcs_of new) residual pushed price tight;
    }

pub steps_on : StepsOn
steps_on found now step rest price sources sink origin at to before way =
    let x = step_row found now step way.path.0 in (
      x.can,
      λ new is others. one_step (arcs_of now) price sources sink origin at to before (residual_of found step)
          (map (residual_of found) rest) (arcs_of new) (keys_differ now)
          (subst (λ (r : Residual ℕ ArcId). IsPushed (arcs_of now) r (arcs_of new)) (sym x.is)
          (net_pushed now new step.arc x.row step.way x.there is others))
          way,
    )

pub comes_round : ComesRound
comes_round arcs price sources sink origin at before way = (
  λ w. omega (arith, way.carries w, ap w way.path),
  omega (arith, way.cost, ap price way.path),
)
