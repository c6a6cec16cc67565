use Rattle.std.proofs.Common.{◌≡◌, ◌+◌, ◌<◌, ℕ, Bool, cond, ltb, is_some, Some, List, [], ◌∷◌, length, set, bytes_eq}
use Rattle.std.proofs.Common.{arith, ap, ap₂, sym, ◌∙◌, subst}
use Rattle.std.specs.List.{IsDistinct, position, remove}
use Rattle.std.proofs.lemmas.Option.{get_or_from_slice_get}
use Rattle.firm_net.specs.Net.{Net, row_at}
use Rattle.firm_net.specs.Row.{Row}
use Rattle.firm_net.specs.Edits.{IsEdit, span_of}
use Rattle.firm_net.specs.declared.row.ArcId.{ArcId}
use Rattle.firm_rules.specs.Limits.{TenantLimits}
use Rattle.firm_rules.specs.declared.book.Task.{Task}
use Rattle.firm_graph.specs.declared.ids.TaskParts.{TaskParts}
use Rattle.firm_graph.specs.Network.{away}
use Rattle.firm_graph.specs.Graph.{Mirrors}
use Rattle.firm_graph.specs.inner.Steps.{refitted, with_forgetting_at, task_at, no_task}
use Rattle.firm_graph.proofs.Lookups.{position-is}
use Rattle.firm_graph.proofs.Forgets.{forgot, forgot-holds, not-preferred}
use Rattle.firm_graph.proofs.moves.forget_at.Goals as goal

pub returns-in_default-place_among-clause-step : goal.returns-in_default-place_among-clause-step
returns-in_default-place_among-clause-step c =
    λ g fit.
    let row : task_at g.rows c.args.place ≡ c.in-Some.task =
    fit.its_row
    ∙ get_or_from_slice_get c.args.rows.now.tasks c.args.place c.in-Some.task no_task (sym c.in-Some.ensures) in
    not-preferred g c.args.place c.args.parts c.args.name c.args.net.now fit.mirrors fit.over fit.below fit.its_parts
    (ap (λ (t : Task). position (bytes_eq c.args.name) t.preferred) row
    ∙ sym (ap (position (bytes_eq c.args.name)) c.as_slice.ensures.names)
    ∙ sym c.place_among.ensures ∙ c.in_default-place_among.is)

-- the place of the preference, in the row and among the arcs
its-place : (c : goal.After-at-arg-1)
    → (position (bytes_eq c.args.name) c.in-Some.task.preferred ≡ Some c.in-Some-place_among.preference)
    × (c.in-Some-place_among.preference < length c.args.parts.arcs.preferred)
its-place c =
    let named : position (bytes_eq c.args.name) c.in-Some.task.preferred ≡ Some c.in-Some-place_among.preference =
    sym (ap (position (bytes_eq c.args.name)) c.as_slice.ensures.names) ∙ sym c.place_among.ensures
    ∙ c.in-Some-place_among.is in
    let row : task_at c.args.rows.now c.args.place ≡ c.in-Some.task =
    get_or_from_slice_get c.args.rows.now.tasks c.args.place c.in-Some.task no_task (sym c.in-Some.ensures) in (
      named,
      omega (
        arith,
        (position-is (bytes_eq c.args.name) c.in-Some.task.preferred c.in-Some-place_among.preference named).1,
        ap (λ (t : Task). length t.preferred) row,
      ),
    )

pub at-requires : goal.at-requires
at-requires c = (its-place c).1

pub returns-clause-step : goal.returns-clause-step
returns-clause-step c =
    λ g fit.
    let place : ℕ = c.args.place in
    let parts : TaskParts = c.args.parts in
    let k : ℕ = c.in-Some-place_among.preference in
    let leaving : ℕ = c.where_runs.result in
    let far : ℕ = c.away_cost-away.result in
    let row : task_at g.rows place ≡ c.in-Some.task =
    fit.its_row ∙ get_or_from_slice_get c.args.rows.now.tasks place c.in-Some.task no_task (sym c.in-Some.ensures) in
    let named : position (bytes_eq c.args.name) (task_at g.rows place).preferred ≡ Some k =
    ap (λ (t : Task). position (bytes_eq c.args.name) t.preferred) row
    ∙ sym (ap (position (bytes_eq c.args.name)) c.as_slice.ensures.names) ∙ sym c.place_among.ensures
    ∙ c.in-Some-place_among.is in
    let apart : IsDistinct bytes_eq (task_at g.rows place).preferred =
    subst (λ (t : Task). IsDistinct bytes_eq t.preferred) (sym row) c.as_slice.ensures.differ in
    let limits : c.limits-limits.result ≡ g.rows.limits = c.limits-limits.ensures.limits ∙ sym fit.limits in
    let churn : c.churn.result ≡ g.rows.limits.churn = c.churn.ensures.value ∙ ap (λ (l : TenantLimits). l.churn) limits
    in
    let runs : c.is_some.result ≡ is_some (task_at g.rows place).machine =
    c.is_some.ensures ∙ sym (ap (λ (t : Task). is_some t.machine) row) in
    let leaving_is : leaving ≡ cond (is_some (task_at g.rows place).machine) g.rows.limits.churn 0 =
    c.where_runs.ensures ∙ ap₂ (λ (b : Bool) (n : ℕ). cond b n 0) runs churn in
    let count : c.len.result ≡ length (remove parts.arcs.preferred k) =
    c.len.ensures.value ∙ ap (λ (l : List ArcId). length l) c.remove.ensures in
    let far_is : far ≡ away g.rows.limits.remote (remove parts.arcs.preferred k) =
    c.away_cost-away.ensures.value ∙ ap₂ (λ (n : ℕ) (l : TenantLimits). cond (ltb 0 n) l.remote 0) count limits in
    let G : Net → Type 0 = λ (n : Net). (r : Row) → row_at n c.at.result ≡ Some r
    → IsEdit n c.unlink.new.net [] [] (span_of c.at.result r ∷ []) [] in
    let held = forgot-holds g place parts c.args.name k fit.mirrors fit.below fit.its_parts named apart
    c.unlink.new.net c.rate.new.net c.at.result (leaving + far) c.at.ensures
    (subst G (sym fit.over) c.unlink.ensures.edit) c.rate.ensures.edit c.rate.ensures.added in
    let P : List ArcId → Type 0 = λ (ids : List ArcId). Mirrors
    (refitted g (with_forgetting_at g.rows place c.args.name) c.rate.new.net (set g.tasks place (record parts {
      arcs = record parts.arcs { preferred = ids };
    }))) in
    subst P (sym c.remove.ensures)
    (forgot g place parts c.args.name k fit.mirrors fit.below fit.its_parts named apart c.rate.new.net leaving far held
    leaving_is far_is)
