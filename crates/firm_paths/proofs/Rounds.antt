-- The search by labels: its start, one round of it, and its two ends.
use Rattle.std.proofs.Common.{◌≡◌, ℕ, ◌+◌, ◌-◌, ◌^◌, ◌<◌, ◌≤◌, true, false, Option, Some, None, List, [], ◌∷◌}
use Rattle.std.proofs.Common.{◌++◌, length, set, arith, refl, sym, ap, subst, ◌∙◌, inl, inr, ⊎_elim}
use Rattle.std.specs.Prelude.{MatchOption, is_some}
use Rattle.std.proofs.lemmas.List.{get_or-set_same}
use Rattle.std.proofs.lemmas.Bool.{cases_eq, cases_Bool, both_ways}
use Rattle.firm_net.specs.Net.{Net, IsNode}
use Rattle.firm_net.specs.declared.row.NodeId.{NodeId}
use Rattle.firm_paths.specs.Visits.{visit}
use Rattle.firm_paths.specs.inner.Search.{IsPredecessor, state, known, settled, label, with_settled, IsNearBy}
use Rattle.firm_paths.specs.inner.Search.{IsLabelled, IsLowered, highest_label, IsAt, AllFollowed, LooksBoth, IsNearest}
use Rattle.firm_paths.specs.inner.Search.{IsReached, IsEnd, start_of}
use Rattle.firm_paths.specs.declared.search.Current.{Current}
use Rattle.firm_paths.specs.declared.search.NodeState.{NodeState}
use Rattle.firm_paths.specs.declared.search.Visit.{Visit}
use Rattle.firm_paths.proofs.Labels.{followed_kept, set_cases}
use Rattle.firm_paths.proofs.Settles.{visit_before, visit_last, length_push, known_listed, settled_label, settled_known}
use Rattle.firm_paths.proofs.Settles.{settled_other, tree_with, settle_labelled, settle_followed, not_full}
use Rattle.firm_paths.proofs.Settles.{none_settled}

-- what the loop keeps
pub record IsSearching (net : Net) (price : ℕ → ℕ) (from goal : ℕ) (ms : List NodeState) (vs : List Visit) : Type
    0 where
  pub near : ℕ
  pub labelled : IsLabelled net price from near (highest_label price from vs) vs ms
  pub followed : AllFollowed net ms
  pub start_known : known ms from ≡ true
  pub goal_open : settled ms goal ≡ false

pub search_start : (net : Net) (price : ℕ → ℕ) (from goal : ℕ) (ms : List NodeState) (node : NodeId) → from < length ms
    → IsNode net node → node.id.place ≡ from
    → ((v : ℕ) → (known ms v ≡ false) × (settled ms v ≡ false))
    → IsSearching net price from goal
    (set ms from (record { node = Some node; label = price from; settled = false; predecessor = None })) []
search_start net price from goal ms node listed there at none =
    let first : NodeState = record { node = Some node; label = price from; settled = false; predecessor = None } in
    let ms1 : List NodeState = set ms from first in
    let unknown : (v : ℕ) → known ms v ≡ true → ⊥ = λ v. both_ways (known ms v) (none v).0 in
    let free : (v : ℕ) → settled ms1 v ≡ false =
    set_cases ms from first (λ v m. m.settled ≡ false) listed refl (λ v ne. (none v).1) in
    record {
      near = 0;
      labelled = record {
        near_by = set_cases ms from first (IsNearBy net price 0 (highest_label price from [])) listed
            (record {
              named = λ k. (there, at);
              within = λ s. absurd (both_ways false refl s);
              beyond = λ k s. omega arith;
              below = λ k. omega arith;
            })
            (λ v ne. record {
              named = λ k. absurd (unknown v k);
              within = λ s. absurd (both_ways (settled ms v) (none v).1 s);
              beyond = λ k s. absurd (unknown v k);
              below = λ k. absurd (unknown v k);
            });
        predecessors = set_cases ms from first
            (λ v m. is_some m.node ≡ true
            → MatchOption m.predecessor (v ≡ from) (IsPredecessor net (label ms1) [] [] v)) listed
            (λ k. refl) (λ v ne k. absurd (unknown v k));
        tree = record { predecessors = λ i l. absurd (omega arith); apart = λ i j b l e. absurd (omega arith) };
        visited = λ i l. absurd (omega arith);
        count = none_settled ms1 free;
      };
      followed =
          λ way id row is s o.
          absurd (both_ways (settled ms1 (start_of way row).id.place) (free (start_of way row).id.place) s);
      start_known = ap (λ (m : NodeState). is_some m.node) (get_or-set_same ms from first _ listed);
      goal_open = free goal;
    }

-- no more nodes are settled than there are but the goal
pub few_visits : {net : Net} {price : ℕ → ℕ} {from goal : ℕ} {ms : List NodeState} {vs : List Visit}
    → IsSearching net price from goal ms vs → goal < length ms → length vs < length ms
few_visits {goal = goal} {ms = ms} s l = omega (arith, not_full ms goal l s.goal_open, s.labelled.count)

pub search_reached : (net : Net) (price : ℕ → ℕ) (from goal : ℕ) (ms : List NodeState) (vs : List Visit) (x : Visit)
    → length ms ≤ 4096
    → IsSearching net price from goal ms vs → IsNearest price ms goal → x.place ≡ goal
    → x.predecessor ≡ (state ms goal).predecessor
    → IsReached net price from goal ms (vs ++ x ∷ []) (length vs)
search_reached net price from goal ms vs x small s nearest at came =
    let old = s.labelled in
    let few : length vs < length ms =
    few_visits s (known_listed ms goal nearest.is_known) in
    let far : price goal + s.near ≤ label ms goal = (old.near_by goal).beyond nearest.is_known nearest.is_open in
    record {
      near_by = λ v.
          let o = old.near_by v in
          record {
            named = o.named;
            within = λ t. let w = o.within t in (w.0, w.1, omega (arith, w.2, far));
            beyond = λ k t. omega (arith, far, o.beyond k t, nearest.nearest v k t);
            below = λ k. omega (arith, o.below k, few, small);
          };
      followed = s.followed;
      is_known = nearest.is_known;
      is_open = nearest.is_open;
      tree = tree_with x old nearest at came;
      visited = λ i l. ⊎_elim
          (λ (e : i ≡ length vs). inr (ap (λ (z : ℕ). (visit (vs ++ x ∷ []) z).place) e
          ∙ (ap (λ (y : Visit). y.place) (visit_last vs x) ∙ at)))
          (λ (ne : i ≡ length vs → ⊥).
          let in_old : i < length vs = omega (arith, l, length_push vs x, ne) in
          inl (ap (λ (y : Visit). settled ms y.place) (visit_before vs x i in_old) ∙ old.visited i in_old))
          (cases_eq i (length vs));
      few = omega (arith, few, length_push vs x);
      last = (omega (arith, length_push vs x), ap (λ (y : Visit). y.place) (visit_last vs x) ∙ at);
    }

pub search_ended : (net : Net) (price : ℕ → ℕ) (from goal : ℕ) (ms : List NodeState) (vs : List Visit)
    → IsSearching net price from goal ms vs → ((v : ℕ) → known ms v ≡ true → settled ms v ≡ true)
    → IsEnd net from goal ms
search_ended net price from goal ms vs s all = record {
  followed = λ way id row is k o. (s.followed way id row is (all (start_of way row).id.place k) o).0;
  from_in = s.start_known;
  goal_out =
      ⊎_elim (λ (k : known ms goal ≡ true). absurd (both_ways (settled ms goal) s.goal_open (all goal k)))
      (λ (k : known ms goal ≡ false). k) (cases_Bool (known ms goal));
}

-- a state that is known names the node at its place
pub named_at : (net : Net) (ms : List NodeState) (v : ℕ) (node : NodeId) → Some node ≡ (state ms v).node
    → MatchOption (state ms v).node ⊥ (λ n. IsNode net n × (n.id.place ≡ v)) → IsNode net node × (node.id.place ≡ v)
named_at net ms v node is named =
    subst (λ (o : Option NodeId). MatchOption o ⊥ (λ n. IsNode net n × (n.id.place ≡ v))) (sym is) named

-- a round: the nearest open node `u` is not the goal; it is settled, and all is followed from there
module _ {net : Net} {price : ℕ → ℕ} {from goal : ℕ} {ms : List NodeState} {vs : List Visit} {u : ℕ} (x : Visit)
    (current : Current)
    (s : IsSearching net price from goal ms vs) (nearest : IsNearest price ms u) (at : x.place ≡ u)
    (came : x.predecessor ≡ (state ms u).predecessor)
    (place : current.place ≡ u) (number : current.number ≡ length vs)
    (few : length vs < length ms) (small : length ms ≤ 4096) (low : price from ≤ 2 ^ 60) where
  abbrev after : List NodeState
  after = with_settled ms u

  listed : u < length ms
  listed = known_listed ms u nearest.is_known

  pub round_start : IsAt net price from (label ms u - price u) current (vs ++ x ∷ []) after
  round_start =
      let here : label after current.place ≡ label ms u = ap (label after) place ∙ settled_label ms u listed u in
      let old = s.labelled.near_by u in
      record {
        labelled = settle_labelled x s.labelled nearest at came (highest_label price from (vs ++ x ∷ []))
            (omega (arith, length_push vs x));
        number = omega (arith, number, length_push vs x);
        place = ap (λ (z : ℕ). (visit (vs ++ x ∷ []) z).place) number
            ∙ (ap (λ (y : Visit). y.place) (visit_last vs x) ∙ (at ∙ sym place));
        distance = omega (arith, here, old.beyond nearest.is_known nearest.is_open, ap price place);
        room = omega (arith, here, old.below nearest.is_known, length_push vs x);
        small = omega (arith, few, small, low, length_push vs x);
      }

  pub round_done : (m2 : List NodeState) → (u ≡ goal → ⊥) → IsLowered after m2
      → LooksBoth net price current (vs ++ x ∷ []) after m2 → IsSearching net price from goal m2 (vs ++ x ∷ [])
  round_done m2 ne lowers looks =
      let now = looks from (label ms u - price u) round_start in
      record {
        near = label ms u - price u;
        labelled = now.0.labelled;
        followed = λ way id row is. ⊎_elim
            (λ (e : (start_of way row).id.place ≡ u). now.1 way id row is (e ∙ sym place))
            (λ (apart : (start_of way row).id.place ≡ u → ⊥).
            followed_kept after m2 way row lowers
            (settle_followed ms u listed way row apart (s.followed way id row is)))
            (cases_eq (start_of way row).id.place u);
        start_known = lowers.kept from (settled_known ms u listed from ∙ s.start_known);
        goal_open = lowers.settled goal ∙ (settled_other ms u listed goal (λ e. ne (sym e)) ∙ s.goal_open);
      }
