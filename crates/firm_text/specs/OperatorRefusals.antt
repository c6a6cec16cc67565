-- The code and the printed name of each refusal of an operator's line.
use Rattle.std.specs.Prelude.{ℕ, List, codes}
use Rattle.firm_text.specs.declared.operator.OperatorRefusal.{OperatorRefusal}
use Rattle.firm_text.specs.declared.operator.OperatorRefusal.TheVariants.{BadCommand, BadRow, BadName, BadNumber}
use Rattle.firm_text.specs.declared.operator.OperatorRefusal.TheVariants.{TenantExists, NoSuchTenant, Full, Memory}

-- the number of a refusal; they go on from the refusals of a tenant
abbrev pub operator_code : OperatorRefusal → ℕ
operator_code BadCommand = 21
operator_code BadRow = 22
operator_code BadName = 23
operator_code BadNumber = 24
operator_code TenantExists = 25
operator_code NoSuchTenant = 26
operator_code Full = 27
operator_code Memory = 28

-- the name of a refusal, as a reply to the operator prints it
abbrev pub operator_name : OperatorRefusal → List ℕ
operator_name BadCommand = codes "operator-command"
operator_name BadRow = codes "operator-row"
operator_name BadName = codes "operator-name"
operator_name BadNumber = codes "operator-number"
operator_name TenantExists = codes "tenant-exists"
operator_name NoSuchTenant = codes "no-such-tenant"
operator_name Full = codes "operator-full"
operator_name Memory = codes "operator-memory"
