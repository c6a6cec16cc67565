-- Laws of a line by itself: an operator's refusals and limits, and that tenants' lines read no heading.
use Rattle.std.specs.Prelude.{◌≡◌, ◌≤◌, ℕ, List}
use Rattle.firm_rules.specs.Limits.{TenantLimits}
use Rattle.firm_text.specs.Inputs.{command_to, line_under}
use Rattle.firm_text.specs.OperatorRefusals.{operator_code}
use Rattle.firm_text.specs.Rosters.{FitsHeading}
use Rattle.firm_text.specs.declared.headings.Heading.{Heading}
use Rattle.firm_text.specs.declared.inputs.Line.TheVariants.{Operator}
use Rattle.firm_text.specs.declared.operator.OperatorLine.TheVariants.{Admit, Faulty}
use Rattle.firm_text.specs.declared.operator.OperatorRefusal.{OperatorRefusal}

-- a line by itself is refused for its form alone: for its words, its row, a name or a number
abbrev pub RefusesForTheForm : Type 0
RefusesForTheForm =
    (heading : Heading) (bytes : List ℕ) (refusal : OperatorRefusal)
    → line_under heading bytes ≡ Operator (Faulty refusal) → operator_code refusal ≤ 24

-- a tenant is admitted with limits that a row under the heading can give
abbrev pub AdmitsWhatFits : Type 0
AdmitsWhatFits =
    (heading : Heading) (bytes : List ℕ) (name : List ℕ) (limits : TenantLimits)
    → line_under heading bytes ≡ Operator (Admit name limits) → FitsHeading heading limits

-- a line gives a tenant the same command under each heading, which decides about the operator's lines alone
abbrev pub TenantsReadNoHeading : Type 0
TenantsReadNoHeading =
    (heading other : Heading) (bytes name : List ℕ)
    → command_to name (line_under heading bytes) ≡ command_to name (line_under other bytes)
