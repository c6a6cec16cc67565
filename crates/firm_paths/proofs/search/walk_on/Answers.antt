use Rattle.std.proofs.Common.{◌≡◌, ◌<◌, ◌∙◌, ◌∷◌, ◌++◌, [], List, Option, Some, arith, ap, sym, subst}
use Rattle.std.specs.Prelude.{IfSome}
use Rattle.std.proofs.lemmas.List.{append-nil, append_assoc, get_or_default}
use Rattle.firm_paths.specs.Visits.{visit, steps_on}
use Rattle.firm_paths.specs.declared.search.Predecessor.{Predecessor}
use Rattle.firm_paths.specs.declared.search.Step.{Step}
use Rattle.firm_paths.specs.declared.search.Visit.{Visit}
use Rattle.firm_paths.proofs.Trees.{steps_next, steps_none}
use Rattle.firm_paths.proofs.search.walk_on.Goals as goal

pub loop-at-preserved : goal.loop-at-preserved
loop-at-preserved c =
    let vs = c.args.visits.now in
    let at = c.loop-at.at in
    let h = c.in-Some.predecessor in
    let is : (visit vs at).predecessor ≡ Some h =
    ap (λ (v : Visit). v.predecessor) (get_or_default vs at _ _ c.loop-at.invariant.listed) ∙ c.in-Some.is in
    let before : h.after < at =
    subst (λ (o : Option Predecessor). IfSome o (λ k. k.after < at)) is
    (c.requires.order at c.loop-at.invariant.listed) in
    record {
      listed = omega (arith, before, c.loop-at.invariant.listed);
      within = omega (arith, before, c.loop-at.invariant.within, c.push_reserved.ensures.len);
      capacity = omega (arith, c.push_reserved.ensures.capacity, c.loop-at.invariant.capacity);
      walked = ap (λ (z : List Step). z ++ steps_on vs h.after) c.push_reserved.ensures.items
          ∙ (append_assoc c.loop-at.steps.items (h.step ∷ []) (steps_on vs h.after)
          ∙ (ap (λ (z : List Step). c.loop-at.steps.items ++ z)
          (sym (steps_next vs c.requires.order at h c.loop-at.invariant.listed is before))
          ∙ c.loop-at.invariant.walked));
    }

pub returns-clause-path : goal.returns-clause-path
returns-clause-path c =
    let vs = c.args.visits.now in
    let at = c.loop-at.at in
    sym (append-nil c.loop-at.steps.items)
    ∙ (ap (λ (z : List Step). c.loop-at.steps.items ++ z)
    (sym (steps_none vs c.requires.order at
    (ap (λ (v : Visit). v.predecessor) (get_or_default vs at _ _ c.loop-at.invariant.listed) ∙ c.in_default.is)))
    ∙ c.loop-at.invariant.walked)
