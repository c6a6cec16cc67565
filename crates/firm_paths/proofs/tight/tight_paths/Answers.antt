use Rattle.std.proofs.Common.{◌≡◌, ◌∙◌, ℕ, ◌<◌, List, Option, Some, None, [], length, sym}
use Rattle.std.specs.Prelude.{slice_index, IfSome, IfNone}
use Rattle.firm_net.specs.declared.row.NodeId.{NodeId}
use Rattle.firm_paths.specs.Visits.{number_of, paths_of, visit}
use Rattle.firm_paths.specs.inner.Spread.{IsFoundBy}
use Rattle.firm_paths.specs.declared.search.Visit.{Visit}
use Rattle.firm_paths.proofs.Spreading.{none_of, number_none, spent_paths, tree_paths}
use Rattle.firm_paths.proofs.tight.tight_paths.Goals as goal

pub returns-clause-path : goal.returns-clause-path
returns-clause-path c =
    let vs = c.find.new.self.visits.items in
    let price = slice_index c.args.prices.now.prices in
    tree_paths c.args.net.now price c.args.to.id.place vs
    (tree c.find.result _ (λ number f. f.tree) (λ f. f.spread.tree) c.find.ensures.found c.find.ensures.none)
  where
    tree : {P : ℕ → Type 0} {Q : Type 0} (o : Option ℕ) (R : Type 0) → ((n : ℕ) → P n → R) → (Q → R) → IfSome o P
        → IfNone o Q → R
    tree None R some none found spent = none spent
    tree (Some n) R some none found spent = some n found

-- where there is no path from the goal, the search came to its end
at_end : (vs : List Visit) (P : ℕ → Type 0) (Q : Type 0) → ((k : ℕ) → P k → k < length vs)
    → (found : Option ℕ) (goal : Option NodeId) (place : Option ℕ) → IfSome found P → IfNone found Q
    → IfSome found (λ k. place ≡ Some (visit vs k).place) → IfSome goal (λ n. place ≡ Some n.id.place)
    → IfNone goal (place ≡ None) → IfSome goal (λ n. paths_of vs n.id.place ≡ None) → Q
at_end vs P Q listed None goal place found spent at some none missed = spent
at_end vs P Q listed (Some k) None place found spent at some none missed = absurd cc
at_end vs P Q listed (Some k) (Some n) place found spent at some none missed =
    absurd (number_none vs n.id.place k (none_of vs (number_of vs n.id.place) missed) (listed k found)
    (same (visit vs k).place n.id.place (sym at ∙ some)))
  where
    same : (a b : ℕ) → Some a ≡ Some b → a ≡ b
    same a b e = cc

pub returns-clause-paths : goal.returns-clause-paths
returns-clause-paths c missed =
    let net = c.args.net.now in
    let vs = c.find.new.self.visits.items in
    let price = slice_index c.args.prices.now.prices in
    spent_paths net price c.args.to.id.place c.find.new.self.seen.items vs
    (at_end vs (IsFoundBy net price [] c.args.to.id.place vs) _ (λ k f. f.listed) c.find.result c.args.goal
    c.place_of-goal.result c.find.ensures.found c.find.ensures.none c.find.ensures.goal c.place_of-goal.ensures.some
    c.place_of-goal.ensures.none missed)
