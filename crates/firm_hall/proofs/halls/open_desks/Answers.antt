use Rattle.std.proofs.Common.{rules, ◌≡◌, ℕ, ◌+◌, ◌<◌, Some, length, vec_len, sym, ◌∙◌, ap, drop}
use Rattle.std.specs.Prelude.{slice_get}
use Rattle.firm_rules.specs.Book.{opening_book}
use Rattle.firm_rounds.specs.Passes.{PutIs}
use Rattle.firm_hall.proofs.Alls.{all_rest}
use Rattle.firm_hall.proofs.Opening.{rest_behind, next_desk, opens_next}
use Rattle.firm_hall.proofs.halls.open_desks.Goals as goal

pub loop-pass-preserved : goal.loop-pass-preserved
loop-pass-preserved c =
    let inv = c.loop-pass.invariant in
    let st = c.in-Some.ensures.steps in
    let roster = c.args.roster.now.rows in
    let at = vec_len c.loop-pass.desks in
    let tenant = c.unwrap-limits.result in
    let low : at < length roster = search rules in
    let row : slice_get roster at ≡ Some tenant = search rules in
    let here = sym inv.rest ∙ st.0 in
    let more : vec_len c.push_reserved.new.self ≡ at + 1 = search rules in
    record {
      rest = sym (rest_behind at c.args.passes.items _ c.in-Some.pass here)
          ∙ sym (ap (λ (n : ℕ). drop n c.args.passes.items) more);
      count = search rules;
      room = search rules;
      unused = all_rest (λ (p : PutIs). p.put ≡ 0) _ _ _ st.0 inv.unused;
      desks = λ id e.
          rw more (opens_next id at roster tenant _ _ _ c.in_ok-open.field-0 row c.push_reserved.ensures.items
          (next_desk id _ _ at _ c.in-Some.pass c.in_ok-open.field-0 (opening_book tenant.1) e low here
          c.in_ok-open.ensures)
          (inv.desks id e));
    }
