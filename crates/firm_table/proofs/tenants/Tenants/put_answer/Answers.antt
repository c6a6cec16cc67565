use Rattle.std.proofs.Common.{◌≡◌, ◌∙◌, sym, subst}
use Rattle.std.specs.Prelude.{true, false}
use Rattle.std.proofs.lemmas.Result.{on_ok_weaker}
use Rattle.firm_table.specs.Answers.{tells_memory}
use Rattle.firm_table.specs.Progress.{IsRight}
use Rattle.firm_table.specs.Tenants.{TenantsState}
use Rattle.firm_table.proofs.tenants.Tenants.put_answer.Goals.{else-all_granted-via-then-all_granted+else-tells_memory}
use Rattle.firm_table.proofs.tenants.Tenants.put_answer.Goals.{else-all_granted-via-else-all_granted}
use Rattle.firm_table.proofs.tenants.Tenants.put_answer.Goals as goal

pub returns-clause-answered : goal.returns-clause-answered
returns-clause-answered c =
    let granted : c.args.all_granted ≡ true → tells_memory c.answer-answer.result ≡ false =
    elim c.else-all_granted.branch [
      | else-all_granted-via-then-all_granted+else-tells_memory w ↦ λ all.
          sym w.tells_memory.ensures ∙ w.if-tells_memory.false
      | else-all_granted-via-else-all_granted w ↦ λ all.
          absurd (let both : true ≡ false = sym all ∙ w.if-all_granted.false in cc)
    ] in
    let right = subst (λ (after : TenantsState). IsRight c.args.self.now after c.args.line c.answer-answer.result)
    (sym c.self.view_is) c.answer-answer.ensures in
    on_ok_weaker c.put.result
    (λ added. record {
      answered = record { answer = c.answer-answer.result; right = right; text = added };
      granted = granted;
    }) c.put.ensures.added
