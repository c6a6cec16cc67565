use Rattle.std.proofs.Common.{◌≡◌, ◌^◌, ◌≤◌, ◌&&◌, ℕ, Bool, true, Some, None, sym, ◌∙◌, arith}
use Rattle.std.specs.Prelude.{nat_le}
use Rattle.std.proofs.Math.Bool.{and-true}
use Rattle.std.proofs.lemmas.Bool.{cond-true, cond-false, le-leb}
use Rattle.firm_rules.specs.Limits.{TenantLimits, are_limits, is_within, longest_patience}
use Rattle.firm_rules.proofs.bounds.Limits.check.Goals as goal

least : (n : ℕ) → 0 ≤ n
least n = omega arith

module _ (nodes arcs life spread churn remote : ℕ) where
  abbrev these : TenantLimits
  these = record {
    nodes = nodes;
    arcs = arcs;
    life = life;
    spread = spread;
    churn = churn;
    remote = remote;
    patience = longest_patience;
  }

  -- the longest patience is within its range, so the others decide
  judged : (n l : Bool) → n ≡ is_within 2 4096 nodes → l ≡ is_within 1 (2 ^ 40) life
      → are_limits these
      ≡ (n && nat_le arcs 65536 && l && nat_le spread 1000 && nat_le churn 1000000 && nat_le remote 1000000)
  judged n l n-is l-is =
      rw (
        n-is,
        l-is,
        le-leb 0 arcs (least arcs),
        le-leb 0 spread (least spread),
        le-leb 0 churn (least churn),
        le-leb 0 remote (least remote),
      )
      (and-true
      (is_within 2 4096 nodes && nat_le arcs 65536 && is_within 1 (2 ^ 40) life && nat_le spread 1000
      && nat_le churn 1000000 && nat_le remote 1000000))

pub returns-then-not-in_ranges : goal.returns-then-not-in_ranges
returns-then-not-in_ranges c =
    let a = c.args in
    let it : TenantLimits = these a.nodes a.arcs a.life a.spread a.churn a.remote in
    sym (cond-false (are_limits it) (Some it) None
    (judged a.nodes a.arcs a.life a.spread a.churn a.remote c.is_within.result c.is_within-2.result
    c.is_within.ensures c.is_within-2.ensures ∙ c.if-not-in_ranges.true))

pub returns : goal.returns
returns c =
    let a = c.args in
    let it : TenantLimits = these a.nodes a.arcs a.life a.spread a.churn a.remote in
    sym (cond-true (are_limits it) (Some it) None
    (judged a.nodes a.arcs a.life a.spread a.churn a.remote c.is_within.result c.is_within-2.result
    c.is_within.ensures c.is_within-2.ensures ∙ c.if-not-in_ranges.false))

pub invariant_of-result : goal.invariant_of-result
invariant_of-result c =
    let a = c.args in
    judged a.nodes a.arcs a.life a.spread a.churn a.remote c.is_within.result c.is_within-2.result
    c.is_within.ensures c.is_within-2.ensures ∙ c.if-not-in_ranges.false
