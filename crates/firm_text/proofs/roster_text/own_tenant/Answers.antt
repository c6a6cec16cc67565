use Rattle.std.proofs.lemmas.Grind.{common_steps}
use Rattle.std.proofs.Common.{◌≡◌, arith}
use Rattle.csv.specs.Records.{fields_of}
use Rattle.firm_text.specs.Rosters.{own_tenant}
use Rattle.firm_text.proofs.Fitting.{own_result_fits}
use Rattle.firm_text.proofs.roster_text.own_tenant.Goals as goal

pub returns : goal.returns
returns c =
    let read : c.told_tenant.result
    ≡ own_tenant c.args.width (fields_of c.args.row.now) = grind (arith, common_steps) in
    record { value = read; fits = own_result_fits c.args.width (fields_of c.args.row.now) c.told_tenant.result read }
