use Rattle.std.proofs.Common.{arith, rules, ◌<◌, get_or, Ok, Err, inr, [], ◌≡◌, ◌∙◌, ◌+◌, ◌∷◌, false, length}
use Rattle.std.proofs.Common.{All, map, ap, sym, subst, drop}
use Rattle.std.proofs.lemmas.List.Elements.{All-push}
use Rattle.std.proofs.lemmas.List.{at_drop_all, at_drop_more, length_push}
use Rattle.csv.specs.Records.{fields_of}
use Rattle.firm_text.specs.Rosters.{FitsHeading, NamesDiffer, RosterRow, heading_of, is_taken, records_roster}
use Rattle.firm_text.specs.Rosters.{roster_with, tenants_of}
use Rattle.firm_text.proofs.Differ.{names_differ_push}
use Rattle.firm_text.proofs.Judged.{none_counted, recorded, recorded_fault, some_counted, tenants_of_fault}
use Rattle.firm_text.proofs.Judged.{tenants_of_next}
use Rattle.firm_text.proofs.roster_text.tenants_in.Goals as goal

pub loop-row-preserved : goal.loop-row-preserved
loop-row-preserved c =
    let earlier = c.loop-row.tenants.items in
    let tenant = c.in_ok-tenant.tenant in
    let seen = c.deref.ensures.value in
    let is : get_or c.args.rows.now c.loop-row.row-index c.row-item.result ≡ c.row-item.result = search rules in
    let pushed = c.in_ok-push.ensures.items in
    let grown = length_push earlier tenant in
    let room = c.in_ok-tenant.ensures.room in
    let new = subst (λ list. is_taken list tenant.0 ≡ false) seen c.in_ok-tenant.ensures.new in
    record {
      same =
          c.loop-row.invariant.same
          ∙ at_drop_more (λ rows. tenants_of c.args.width (map fields_of rows) earlier) c.args.rows.now
          c.loop-row.row-index c.row-item.result c.loop-row-test.true
          ∙ ap (λ row.
          tenants_of c.args.width (fields_of row ∷ map fields_of (drop (c.loop-row.row-index + 1) c.args.rows.now))
          earlier)
          is
          ∙ tenants_of_next c.args.width (fields_of c.row-item.result)
          (map fields_of (drop (c.loop-row.row-index + 1) c.args.rows.now)) c.deref.result.now earlier
          c.push.new.self.items tenant seen (sym c.in_ok-tenant.ensures.value) pushed;
      few = let same_length = ap length pushed in let seen_length = ap length seen in omega arith;
      differ = subst NamesDiffer (sym pushed) (names_differ_push earlier tenant c.loop-row.invariant.differ new);
      fit = subst (All (λ (row : RosterRow). FitsHeading (heading_of c.args.width) row.1)) (sym pushed)
          (All-push (λ (row : RosterRow). FitsHeading (heading_of c.args.width) row.1) earlier tenant
          c.loop-row.invariant.fit c.in_ok-tenant.ensures.fits);
    }

pub returns-in_err-tenant-clause-refused : goal.returns-in_err-tenant-clause-refused
returns-in_err-tenant-clause-refused c =
    let earlier = c.loop-row.tenants.items in
    let is : get_or c.args.rows.now c.loop-row.row-index c.row-item.result ≡ c.row-item.result = search rules in
    let told : tenants_of c.args.width (map fields_of c.args.rows.now) [] ≡ Err c.in_err-tenant.field-0.0 =
    c.loop-row.invariant.same
    ∙ at_drop_more (λ rows. tenants_of c.args.width (map fields_of rows) earlier) c.args.rows.now
    c.loop-row.row-index c.row-item.result c.loop-row-test.true
    ∙ ap (λ row.
    tenants_of c.args.width (fields_of row ∷ map fields_of (drop (c.loop-row.row-index + 1) c.args.rows.now))
    earlier)
    is
    ∙ tenants_of_fault c.args.width (fields_of c.row-item.result)
    (map fields_of (drop (c.loop-row.row-index + 1) c.args.rows.now)) c.deref.result.now earlier
    c.in_err-tenant.field-0.0 c.deref.ensures.value c.in_err-tenant.ensures.value in
    let given : records_roster c.args.width (map fields_of c.args.rows.now) ≡ Err c.in_err-tenant.field-0.0 =
    recorded_fault c.args.width (map fields_of c.args.rows.now) c.in_err-tenant.field-0.0 told in
    search rules

pub returns-then-is_empty-clause-refused : goal.returns-then-is_empty-clause-refused
returns-then-is_empty-clause-refused c =
    let earlier = c.loop-row.tenants.items in
    let none : length earlier ≡ 0 = search rules in
    inr
    (recorded_fault c.args.width (map fields_of c.args.rows.now) _
    (c.loop-row.invariant.same
    ∙ at_drop_all (λ rows. tenants_of c.args.width (map fields_of rows) earlier) c.args.rows.now c.loop-row.row-index
    c.loop-row-test.false
    ∙ none_counted earlier none))

pub returns-clause-admitted : goal.returns-clause-admitted
returns-clause-admitted c =
    let earlier = c.loop-row.tenants.items in
    let some : 0 < length earlier = search rules in
    recorded c.args.width (map fields_of c.args.rows.now) earlier
    (c.loop-row.invariant.same
    ∙ at_drop_all (λ rows. tenants_of c.args.width (map fields_of rows) earlier) c.args.rows.now c.loop-row.row-index
    c.loop-row-test.false
    ∙ some_counted earlier some)
    ∙ ap (λ h. Ok (roster_with h earlier)) (sym c.heading_of.ensures)
    ∙ ap Ok (sym c.of.ensures)
