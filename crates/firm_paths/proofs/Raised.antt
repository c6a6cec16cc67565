-- The result of the search by labels: valid prices, and a path or a set that shows that there is none.
use Rattle.std.proofs.Common.{◌≡◌, ℕ, ◌+◌, ◌*◌, ◌-◌, ◌<◌, ◌≤◌, ◌^◌, true, false, Option, Some, None, List, [], length}
use Rattle.std.proofs.Common.{arith, sym, ap, ◌∙◌, ⊎_elim}
use Rattle.std.specs.Prelude.{slice_index, MatchOption}
use Rattle.std.proofs.lemmas.Bool.{cases_lt, cases_Bool, both_ways}
use Rattle.firm_arena.specs.Arena.{capacity_of}
use Rattle.firm_net.specs.Row.{Row}
use Rattle.firm_net.specs.Net.{Net, IsNet, IsNode, row_at, IsResidual as IsOpen}
use Rattle.firm_net.specs.declared.row.NodeId.{NodeId}
use Rattle.firm_net.specs.declared.row.ArcId.{ArcId}
use Rattle.firm_net.specs.declared.row.Way.{Way}
use Rattle.firm_net.specs.declared.row.Way.TheVariants.{Forward, Backward}
use Rattle.firm_paths.specs.Network.{AreValid, IsValidAt, StaysInside}
use Rattle.firm_paths.specs.NetArcs.{arc_of, arcs_of}
use Rattle.firm_paths.specs.Paths.{IsHighest, IsCut}
use Rattle.firm_paths.specs.Visits.{visit}
use Rattle.firm_paths.specs.inner.Search.{state, known, settled, label, IsReached, IsEnd, AreRaised, IsRaised}
use Rattle.firm_paths.specs.inner.Search.{IsNotNegative, start_of, end_of, IsReachedBy}
use Rattle.firm_paths.specs.declared.search.NodeState.{NodeState}
use Rattle.firm_paths.specs.declared.search.Visit.{Visit}
use Rattle.firm_paths.specs.Laws.{all_arcs, at_row}
use Rattle.firm_paths.proofs.Listed.{node_listed}
use Rattle.firm_paths.proofs.Labels.{tree_kept, not_negative_kept}
use Rattle.firm_paths.proofs.Settles.{known_listed}

module _ (net : Net) (old new : List ℕ) (from goal : ℕ) (ms : List NodeState) (vs : List Visit) (number : ℕ)
    (net_is : IsNet net) (lengths : (length old ≡ capacity_of net.nodes) × (length ms ≡ capacity_of net.nodes))
    (reached : IsReached net (slice_index old) from goal ms vs number)
    (lifted : AreRaised old ms goal (label ms goal - slice_index old goal) new)
    (start : slice_index old from ≤ slice_index old goal) (goal_listed : goal < capacity_of net.nodes)
    (highest : IsHighest net (slice_index old) goal) (room : slice_index old goal ≤ 2 ^ 60) where
  abbrev distance : ℕ
  distance = label ms goal - slice_index old goal

  far_small : distance ≤ 4095 * 3000000
  far_small = omega (arith, (reached.near_by goal).below reached.is_known, start)

  goal_ahead : slice_index old goal + distance ≤ label ms goal
  goal_ahead = (reached.near_by goal).beyond reached.is_known reached.is_open

  -- a settled place is that of a node, and so no higher than the goal
  low : (v : ℕ) → settled ms v ≡ true → slice_index old v ≤ slice_index old goal
  low v s = go (state ms v).node ((reached.near_by v).named ((reached.near_by v).within s).0)
    where
      go : (o : Option NodeId) → MatchOption o ⊥ (λ n. IsNode net n × (n.id.place ≡ v))
          → slice_index old v ≤ slice_index old goal
      go None h = absurd h
      go (Some n) h = omega (arith, highest n h.0, ap (slice_index old) h.1)

  at_settled : (n : NodeId) → IsNode net n → settled ms n.id.place ≡ true
      → slice_index new n.id.place ≡ label ms n.id.place
  at_settled n there s =
      lifted.at_settled n.id.place (omega (arith, node_listed net n there, lengths.0)) s
      (omega (arith, ((reached.near_by n.id.place).within s).2, highest n there))

  at_open : (n : NodeId) → IsNode net n → settled ms n.id.place ≡ false
      → slice_index new n.id.place ≡ slice_index old n.id.place + distance
  at_open n there s =
      lifted.at_others n.id.place (omega (arith, node_listed net n there, lengths.0)) s (highest n there)

  at_goal : slice_index new goal ≡ slice_index old goal + distance
  at_goal = lifted.at_others goal (omega (arith, goal_listed, lengths.0)) reached.is_open (omega arith)

  raised_bound : slice_index new goal ≤ slice_index old goal + 4095 * 3000000
  raised_bound = omega (arith, at_goal, far_small)

  -- no price rose by more than the goal's
  at_most : (n : NodeId) → IsNode net n → slice_index new n.id.place ≤ slice_index old n.id.place + distance
  at_most n there = ⊎_elim
      (λ (s : settled ms n.id.place ≡ true).
      omega (arith, at_settled n there s, ((reached.near_by n.id.place).within s).2))
      (λ (s : settled ms n.id.place ≡ false). omega (arith, at_open n there s))
      (cases_Bool (settled ms n.id.place))

  ends_there : (way : Way) (id : ArcId) (row : Row) → row_at net id ≡ Some row
      → IsNode net (start_of way row) × IsNode net (end_of way row)
  ends_there Forward id row is = (net_is.tails id row is, net_is.heads id row is)
  ends_there Backward id row is = (net_is.heads id row is, net_is.tails id row is)

  -- the reduced cost of a residual step stays not negative
  step_kept : (way : Way) (id : ArcId) (row : Row) → row_at net id ≡ Some row → IsOpen way row
      → IsNotNegative way (slice_index old) row → IsNotNegative way (slice_index new) row
  step_kept way id row is open_ valid =
      let a : NodeId = start_of way row in
      let b : NodeId = end_of way row in
      let there = ends_there way id row is in
      ⊎_elim
      (λ (sa : settled ms a.id.place ≡ true).
      let new_a = at_settled a there.0 sa in
      let f = reached.followed way id row is sa open_ in
      not_negative_kept way row (label ms) (slice_index new)
      (⊎_elim
      (λ (sb : settled ms b.id.place ≡ true). omega (arith, new_a, at_settled b there.1 sb))
      (λ (sb : settled ms b.id.place ≡ false).
      omega (arith, new_a, at_open b there.1 sb, (reached.near_by b.id.place).beyond f.0 sb))
      (cases_Bool (settled ms b.id.place)))
      f.1)
      (λ (sa : settled ms a.id.place ≡ false).
      not_negative_kept way row (slice_index old) (slice_index new)
      (omega (arith, at_open a there.0 sa, at_most b there.1)) valid)
      (cases_Bool (settled ms a.id.place))

  raised_valid : AreValid (arcs_of net) (slice_index old) → AreValid (arcs_of net) (slice_index new)
  raised_valid valid =
      all_arcs net (IsValidAt (slice_index new)) (λ id row is.
      let v : IsValidAt (slice_index old) (arc_of id row) = at_row net (IsValidAt (slice_index old)) id row is valid in
      ((λ o. step_kept Forward id row is o (v.0 o)), (λ o. step_kept Backward id row is o (v.1 o))))

  raised_highest : IsHighest net (slice_index new) goal
  raised_highest n there = omega (arith, at_goal, at_most n there, highest n there)

  raised_rises : (n : NodeId) → IsNode net n → slice_index old n.id.place ≤ slice_index new n.id.place
  raised_rises n there = ⊎_elim
      (λ (s : settled ms n.id.place ≡ true).
      omega (arith, at_settled n there s, ((reached.near_by n.id.place).within s).1))
      (λ (s : settled ms n.id.place ≡ false). omega (arith, at_open n there s))
      (cases_Bool (settled ms n.id.place))

  raised_reached : IsReachedBy net (slice_index new) [] from goal vs number
  raised_reached = record {
    tree = tree_kept net (label ms) (slice_index new) [] vs from (λ i l. ⊎_elim
        (λ (s : settled ms (visit vs i).place ≡ true).
        lifted.at_settled (visit vs i).place
        (omega (
          arith,
          known_listed ms (visit vs i).place ((reached.near_by (visit vs i).place).within s).0,
          lengths.0,
          lengths.1,
        ))
        s
        (omega (arith, ((reached.near_by (visit vs i).place).within s).2, low (visit vs i).place s)))
        (λ (e : (visit vs i).place ≡ goal). ap (slice_index new) e
        ∙ (let at : slice_index new goal ≡ label ms goal =
        omega (arith, at_goal, goal_ahead) in at ∙ ap (label ms) (sym e)))
        (reached.visited i l)) reached.tree;
    last = reached.last;
  }

  pub raise_found : AreValid (arcs_of net) (slice_index old)
      → IsRaised net old new goal × IsReachedBy net (slice_index new) [] from goal vs number
  raise_found valid = (
    record { valid = raised_valid valid; highest = raised_highest; rises = raised_rises; bound = raised_bound },
    raised_reached,
  )

-- the known nodes are a cut
pub end_cut : (net : Net) (from goal : ℕ) (ms : List NodeState) → IsEnd net from goal ms
    → IsCut net from goal (known ms)
end_cut net from goal ms end = record {
  start = end.from_in;
  end = end.goal_out;
  closed = all_arcs net (StaysInside (known ms)) (λ id row is. (
    (λ i o. ⊎_elim (λ (l : row.flow < row.cap).
        absurd (both_ways (known ms row.head.id.place) o (end.followed Forward id row is i l)))
        (λ (g : row.cap ≤ row.flow). g) (cases_lt row.flow row.cap)),
    (λ i o. ⊎_elim (λ (l : row.low < row.flow).
        absurd (both_ways (known ms row.tail.id.place) o (end.followed Backward id row is i l)))
        (λ (g : row.flow ≤ row.low). g) (cases_lt row.low row.flow)),
  ));
}
