use Rattle.std.proofs.Common.{rules, ◌≡◌, ◌∙◌, true, List, IfOk, ap, arith, sym, subst}
use Rattle.firm_rules.specs.declared.rounds.Choice.{Choice}
use Rattle.firm_rules.specs.Placement.{Case, is_legal}
use Rattle.firm_rules.specs.Round.{case_of, round_placement, IsRound}
use Rattle.std.proofs.lemmas.Result.{IfOk-weaker}
use Rattle.firm_tenant.specs.inner.Pools.{Pool, HasBegunOnce}
use Rattle.firm_tenant.proofs.Counted.{begun_once, entries_of}
use Rattle.firm_tenant.proofs.pools.Pool.choose.Goals as goal

pub returns-in-Some-clause-legal : goal.returns-in-Some-clause-legal
returns-in-Some-clause-legal c =
    let case : Case = case_of c.args.self.now.rows in
    let round : IsRound case c.in-Some.placement.items = search rules in
    (c.legality_is_judged.ensures case c.in-Some.placement.items).only round.legal

pub returns-clause-legal : goal.returns-clause-legal
returns-clause-legal c =
    let case : Case = case_of c.args.self.now.rows in
    let right : is_legal case (round_placement case) ≡ true =
    (c.legality_is_judged.ensures case (round_placement case)).only (c.the_round_is_the_first.ensures case).is.legal in
    let round : IfOk c.first_best.result (λ placement. placement.items ≡ round_placement case) = search rules in
    IfOk-weaker c.first_best.result (λ placement. placement.items ≡ round_placement case)
    (λ placement. is_legal case placement.items ≡ true)
    (λ placement e. subst (λ (p : List Choice). is_legal case p ≡ true) (sym e) right) round

pub returns-clause-counts : goal.returns-clause-counts
returns-clause-counts c =
    let inside : Pool = record {
      rows = c.self.inside.graph.rows;
      costs = c.self.inside.costs.items;
      asked = c.self.inside.graph.asked;
      workspace = record {
        net = c.self.inside.scratch;
        proposed = record {
          tries = c.self.inside.proposals.proposer.value.tries;
          looks = c.self.inside.proposals.work.looks;
          allowed = c.self.inside.proposals.allowed;
        };
      };
    } in
    let after : Pool = record {
      rows = c.first_best.new.graph.rows;
      costs = c.self.inside.costs.items;
      asked = c.first_best.new.graph.asked;
      workspace = record {
        net = c.first_best.new.scratch;
        proposed = record {
          tries = c.first.new.self.proposer.value.tries;
          looks = c.first.new.self.work.looks;
          allowed = c.first.new.self.allowed;
        };
      };
    } in
    let same = entries_of c.self.inside.graph.rows c.case-case.result.now
    (c.case-case.ensures ∙ ap case_of c.rows.ensures.value) in
    subst (λ (old : Pool). HasBegunOnce old after) c.self.view_is
    (begun_once inside after _ c.first_best.ensures.searched (search rules) (search rules) (search rules)
    (search rules) (search rules) (search rules)
    (λ fits. omega (arith, same, c.first.ensures.looks (omega (arith, same, fits)))))
