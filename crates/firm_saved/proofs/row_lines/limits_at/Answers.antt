use Rattle.std.proofs.Common.{◌≡◌, ◌∙◌, ℕ, List, Bor, Result, ap, refl, rules}
use Rattle.firm_text.specs.Commands.{◌>>=◌}
use Rattle.firm_saved.specs.Lines.{words_behind}
use Rattle.firm_saved.specs.declared.faults.FaultKind.{FaultKind}
use Rattle.firm_saved.proofs.Numbers.{ends, six_read, told}
use Rattle.firm_saved.proofs.row_lines.limits_at.Goals as goal

-- the words from here on
abbrev words : Bor (List ℕ) → List (List ℕ)
words rest = words_behind rest.now

pub returns-in-Err : goal.returns-in-Err
returns-in-Err c =
    six_read c.args.heading words c.args.behind c.number_in-nodes.result.1 c.number_in-arcs.result.1
    c.number_in-life.result.1
    c.number_in-spread.result.1 c.number_in-churn.result.1 c.number_in-remote.result.1 c.number_in-nodes.result.0
    c.number_in-arcs.result.0 c.number_in-life.result.0 c.number_in-spread.result.0 c.number_in-churn.result.0
    c.number_in-remote.result.0 c.number_in-nodes.ensures c.number_in-arcs.ensures c.number_in-life.ensures
    c.number_in-spread.ensures c.number_in-churn.ensures c.number_in-remote.ensures
    ∙ ap (λ (r : Result (Bor (List ℕ)) FaultKind). told words r
    >>= λ w. ends c.args.heading c.number_in-nodes.result.0 c.number_in-arcs.result.0 c.number_in-life.result.0
    c.number_in-spread.result.0 c.number_in-churn.result.0 c.number_in-remote.result.0 w) c.in-Err.is

pub returns-in-Err-patience_at : goal.returns-in-Err-patience_at
returns-in-Err-patience_at c =
    six_read c.args.heading words c.args.behind c.number_in-nodes.result.1 c.number_in-arcs.result.1
    c.number_in-life.result.1
    c.number_in-spread.result.1 c.number_in-churn.result.1 c.number_in-remote.result.1 c.number_in-nodes.result.0
    c.number_in-arcs.result.0 c.number_in-life.result.0 c.number_in-spread.result.0 c.number_in-churn.result.0
    c.number_in-remote.result.0 c.number_in-nodes.ensures c.number_in-arcs.ensures c.number_in-life.ensures
    c.number_in-spread.ensures c.number_in-churn.ensures c.number_in-remote.ensures
    ∙ ap (λ (r : Result (Bor (List ℕ)) FaultKind). told words r
    >>= λ w. ends c.args.heading c.number_in-nodes.result.0 c.number_in-arcs.result.0 c.number_in-life.result.0
    c.number_in-spread.result.0 c.number_in-churn.result.0 c.number_in-remote.result.0 w) c.in-Ok.is
    ∙ rw c.in-Err-patience_at.ensures refl

pub returns-in_default : goal.returns-in_default
returns-in_default c =
    six_read c.args.heading words c.args.behind c.number_in-nodes.result.1 c.number_in-arcs.result.1
    c.number_in-life.result.1
    c.number_in-spread.result.1 c.number_in-churn.result.1 c.number_in-remote.result.1 c.number_in-nodes.result.0
    c.number_in-arcs.result.0 c.number_in-life.result.0 c.number_in-spread.result.0 c.number_in-churn.result.0
    c.number_in-remote.result.0 c.number_in-nodes.ensures c.number_in-arcs.ensures c.number_in-life.ensures
    c.number_in-spread.ensures c.number_in-churn.ensures c.number_in-remote.ensures
    ∙ ap (λ (r : Result (Bor (List ℕ)) FaultKind). told words r
    >>= λ w. ends c.args.heading c.number_in-nodes.result.0 c.number_in-arcs.result.0 c.number_in-life.result.0
    c.number_in-spread.result.0 c.number_in-churn.result.0 c.number_in-remote.result.0 w) c.in-Ok.is
    ∙ rw c.in-Ok-patience_at.ensures (search rules)

pub returns-in_default-with_patience : goal.returns-in_default-with_patience
returns-in_default-with_patience c =
    six_read c.args.heading words c.args.behind c.number_in-nodes.result.1 c.number_in-arcs.result.1
    c.number_in-life.result.1
    c.number_in-spread.result.1 c.number_in-churn.result.1 c.number_in-remote.result.1 c.number_in-nodes.result.0
    c.number_in-arcs.result.0 c.number_in-life.result.0 c.number_in-spread.result.0 c.number_in-churn.result.0
    c.number_in-remote.result.0 c.number_in-nodes.ensures c.number_in-arcs.ensures c.number_in-life.ensures
    c.number_in-spread.ensures c.number_in-churn.ensures c.number_in-remote.ensures
    ∙ ap (λ (r : Result (Bor (List ℕ)) FaultKind). told words r
    >>= λ w. ends c.args.heading c.number_in-nodes.result.0 c.number_in-arcs.result.0 c.number_in-life.result.0
    c.number_in-spread.result.0 c.number_in-churn.result.0 c.number_in-remote.result.0 w) c.in-Ok.is
    ∙ rw c.in-Ok-patience_at.ensures (search rules)

pub returns : goal.returns
returns c =
    six_read c.args.heading words c.args.behind c.number_in-nodes.result.1 c.number_in-arcs.result.1
    c.number_in-life.result.1
    c.number_in-spread.result.1 c.number_in-churn.result.1 c.number_in-remote.result.1 c.number_in-nodes.result.0
    c.number_in-arcs.result.0 c.number_in-life.result.0 c.number_in-spread.result.0 c.number_in-churn.result.0
    c.number_in-remote.result.0 c.number_in-nodes.ensures c.number_in-arcs.ensures c.number_in-life.ensures
    c.number_in-spread.ensures c.number_in-churn.ensures c.number_in-remote.ensures
    ∙ ap (λ (r : Result (Bor (List ℕ)) FaultKind). told words r
    >>= λ w. ends c.args.heading c.number_in-nodes.result.0 c.number_in-arcs.result.0 c.number_in-life.result.0
    c.number_in-spread.result.0 c.number_in-churn.result.0 c.number_in-remote.result.0 w) c.in-Ok.is
    ∙ rw c.in-Ok-patience_at.ensures (search rules)
