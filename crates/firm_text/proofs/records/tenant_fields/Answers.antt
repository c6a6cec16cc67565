use Rattle.std.proofs.Common.{◌≡◌, true, rules}
use Rattle.csv.specs.Records.{fields_of}
use Rattle.firm_text.specs.inner.Fields.{are_fields, seen}
use Rattle.firm_text.proofs.Fields.{field_at-all}
use Rattle.firm_text.proofs.records.tenant_fields.Goals as goal

pub returns : goal.returns
returns c =
    let all : are_fields (fields_of c.args.row.now) ≡ true = search rules in
    field_at-all (fields_of c.args.row.now) c.field.result.now c.field-2.result.now c.field-3.result.now
    c.field-4.result.now c.field-5.result.now c.field-6.result.now
    (seen c.get.result) (seen c.get-2.result) all c.field.ensures c.field-2.ensures c.field-3.ensures c.field-4.ensures
    c.field-5.ensures c.field-6.ensures c.get.ensures.value c.get-2.ensures.value
