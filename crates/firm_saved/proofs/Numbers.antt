-- Numbers read one after the other, with the first fault.
use Rattle.std.proofs.Common.{◌≡◌, ◌∙◌, ℕ, List, Result, Ok, Err, sym, ap}
use Rattle.std.specs.Prelude.{MatchResult}
use Rattle.std.specs.Option.{ok_or}
use Rattle.firm_rules.specs.Limits.{TenantLimits, limits_of, with_patience}
use Rattle.firm_text.specs.Commands.{◌>>=◌}
use Rattle.firm_text.specs.declared.headings.Heading.{Heading}
use Rattle.firm_saved.specs.Lines.{labelled_at, limits_at, patience_at}
use Rattle.firm_saved.specs.declared.faults.FaultKind.{FaultKind}
use Rattle.firm_saved.specs.declared.faults.FaultKind.TheVariants as fault

-- what is left to read, as words, or the fault
abbrev pub told : {X : Type 0} → (X → List (List ℕ)) → Result X FaultKind → Result (List (List ℕ)) FaultKind
told words (Ok rest) = Ok (words rest)
told words (Err kind) = Err kind

-- this number was read next, and this is left
abbrev pub Passed : {X : Type 0} → (X → List (List ℕ)) → Result X FaultKind → ℕ → Result X FaultKind → Type 0
Passed words read n next =
    MatchResult read (λ was. MatchResult next (λ rest. labelled_at (words was) ≡ Ok (n, words rest))
    (λ kind. labelled_at (words was) ≡ Err kind)) (λ first. MatchResult next (λ _. ⊥) (λ kind. kind ≡ first))

pass : {X B : Type 0} (words : X → List (List ℕ)) (read next : Result X FaultKind) (n : ℕ)
    (then : ℕ × List (List ℕ) → Result B FaultKind) → Passed words read n next
    → (told words read >>= λ w. labelled_at w >>= then) ≡ (told words next >>= λ w. then (n, w))
pass words (Ok was) (Ok rest) n then e = ap (λ (r : Result (ℕ × List (List ℕ)) FaultKind). r >>= then) e
pass words (Ok was) (Err kind) n then e = ap (λ (r : Result (ℕ × List (List ℕ)) FaultKind). r >>= then) e
pass words (Err first) (Ok rest) n then e = absurd e
pass {X} {B} words (Err first) (Err kind) n then e =
    ap (λ (k : FaultKind). let r : Result B FaultKind = Err k in r) (sym e)

-- the limits of these six numbers, followed by the patience
abbrev pub ends : Heading → ℕ → ℕ → ℕ → ℕ → ℕ → ℕ → List (List ℕ) → Result (TenantLimits × List (List ℕ)) FaultKind
ends heading nodes arcs life spread churn remote words = do
  patience ← patience_at heading words
  limits ← ok_or (limits_of nodes arcs life spread churn remote) fault.BadNumber
  patient ← ok_or (with_patience limits patience.0) fault.BadNumber
  Ok (patient, patience.1)

-- the limits are what follows the six numbers
pub six_read : {X : Type 0} (heading : Heading) (words : X → List (List ℕ)) (start : X)
    (r1 r2 r3 r4 r5 r6 : Result X FaultKind)
    (n1 n2 n3 n4 n5 n6 : ℕ) → Passed words (Ok start) n1 r1 → Passed words r1 n2 r2 → Passed words r2 n3 r3
    → Passed words r3 n4 r4 → Passed words r4 n5 r5 → Passed words r5 n6 r6
    → limits_at heading (words start) ≡ (told words r6 >>= λ w. ends heading n1 n2 n3 n4 n5 n6 w)
six_read heading words start r1 r2 r3 r4 r5 r6 n1 n2 n3 n4 n5 n6 p1 p2 p3 p4 p5 p6 =
    pass words (Ok start) r1 n1
    (λ a. labelled_at a.1 >>= λ b. labelled_at b.1 >>= λ d. labelled_at d.1 >>= λ e. labelled_at e.1
    >>= λ f. labelled_at f.1 >>= λ g. ends heading a.0 b.0 d.0 e.0 f.0 g.0 g.1) p1
    ∙ pass words r1 r2 n2
    (λ b. labelled_at b.1 >>= λ d. labelled_at d.1 >>= λ e. labelled_at e.1 >>= λ f. labelled_at f.1
    >>= λ g. ends heading n1 b.0 d.0 e.0 f.0 g.0 g.1) p2
    ∙ pass words r2 r3 n3
    (λ d. labelled_at d.1 >>= λ e. labelled_at e.1 >>= λ f. labelled_at f.1
    >>= λ g. ends heading n1 n2 d.0 e.0 f.0 g.0 g.1) p3
    ∙ pass words r3 r4 n4
    (λ e. labelled_at e.1 >>= λ f. labelled_at f.1 >>= λ g. ends heading n1 n2 n3 e.0 f.0 g.0 g.1) p4
    ∙ pass words r4 r5 n5
    (λ f. labelled_at f.1 >>= λ g. ends heading n1 n2 n3 n4 f.0 g.0 g.1) p5
    ∙ pass words r5 r6 n6
    (λ g. ends heading n1 n2 n3 n4 n5 g.0 g.1) p6
