-- What has weight in a net is there.
use Rattle.std.proofs.Common.{◌≡◌, ◌≢◌, ℕ, suc, ◌+◌, ◌<◌, ◌≤◌, ◌==◌, ◌&&◌, Bool, true, false, cond, inl, inr, Option}
use Rattle.std.proofs.Common.{Some, None, IsSome, List, [], ◌∷◌, ◌++◌, length, get_or, arith, refl, sym, ap, ap₂, ◌∙◌}
use Rattle.std.proofs.Common.{subst}
use Rattle.std.specs.List.{sum_by, All, Contains}
use Rattle.std.proofs.lemmas.List.Sums.{get_or-le-sum_by}
use Rattle.std.proofs.lemmas.Bool.{and_from, and_parts, cases_eq, eqb-true, eq-eqb}
use Rattle.std.proofs.lemmas.List.Elements.{Contains-append_left, Contains-append_right}
use Rattle.firm_arena.specs.Arena.{Arena, entries_from, entries, find}
use Rattle.firm_arena.specs.declared.Id.{Id}
use Rattle.firm_net.specs.Row.{Row}
use Rattle.firm_net.specs.Net.{Net, Lists, IsNet, IsNode, row_at, lists_at}
use Rattle.firm_net.specs.declared.row.NodeId.{NodeId}
use Rattle.firm_net.specs.declared.row.ArcId.{ArcId}
use Rattle.firm_arena.specs.Changes.{find-held_own}
use Rattle.firm_net.specs.Edits.{Span, span_of, nodes_of, spans_of, AsOften}
use Rattle.firm_graph.specs.Graph.{Graph, Mirrors, graph_nodes, machine_nodes, job_nodes, task_nodes}
use Rattle.firm_graph.specs.declared.ids.JobParts.{JobParts}
use Rattle.std.proofs.lemmas.List.{get_or-map, get_or_default, length-map}
use Rattle.firm_arena.specs.Sums.{sum-slot}
use Rattle.firm_net.specs.Laws.{node_weight, span_weight, nodes-sum, spans-sum}

module _ {X : Type 0} where
  -- an entry that has weight, and the place where it lies
  pub record Heavy (f : Id × X → ℕ) (p : ℕ) (held : List (Option (ℕ × X))) : Type 0 where
    pub index : ℕ
    pub own : ℕ × X
    pub there : get_or held index None ≡ Some own
    pub place : ℕ
    pub at : place ≡ p + index
    pub heavy : 0 < f (record { place = place; stamp = own.0 }, own.1)

  heavy-later : (f : Id × X → ℕ) (p : ℕ) (o : Option (ℕ × X)) (held : List (Option (ℕ × X))) → Heavy f (p + 1) held →
      Heavy f p (o ∷ held)
  heavy-later f p o held h =
      record {
        index = suc h.index;
        own = h.own;
        there = h.there;
        place = h.place;
        at = omega (arith, h.at);
        heavy = h.heavy;
      }

  heavy-from : (f : Id × X → ℕ) (p : ℕ) (held : List (Option (ℕ × X))) → 0 < sum_by f (entries_from p held) → Heavy f p
      held
  heavy-from f p [] some = absurd (omega arith)
  heavy-from f p (None ∷ held) some = heavy-later f p None held (heavy-from f (p + 1) held some)
  heavy-from f p (Some own ∷ held) some =
      let w : ℕ = f (record { place = p; stamp = own.0 }, own.1) in
      elim (cases_eq w 0) [
        | inl none ↦
            heavy-later f p (Some own) held (heavy-from f (p + 1) held
            (omega (arith, some, none, sum-slot f p (Some own) held)))
        | inr some_here ↦
            record {
              index = 0;
              own = own;
              there = refl;
              place = p;
              at = omega arith;
              heavy = omega (arith, some_here);
            }
      ]

  pub record Found (f : Id × X → ℕ) (a : Arena X) : Type 0 where
    pub id : Id
    pub value : X
    pub there : find a id ≡ Some value
    pub heavy : 0 < f (id, value)

  -- where the entries weigh something, one of them does
  pub found : (f : Id × X → ℕ) (a : Arena X) → 0 < sum_by f (entries a) → Found f a
  found f a some =
      let h = heavy-from f 0 a.held some in
      let e : h.place ≡ h.index = omega (arith, h.at) in
      record {
        id = record { place = h.index; stamp = h.own.0 };
        value = h.own.1;
        there = find-held_own a h.index h.own h.there;
        heavy = subst (λ (q : ℕ). 0 < f (record { place = q; stamp = h.own.0 }, h.own.1)) e h.heavy;
      }

-- tests of equality
abbrev pub same_id : Id → Id → Bool
same_id a b = (a.place == b.place) && (a.stamp == b.stamp)

pub same_id-true : (a b : Id) → same_id a b ≡ true → a ≡ b
same_id-true a b h =
    let p = and_parts (a.place == b.place) (a.stamp == b.stamp) h in
    ap₂ (λ (x y : ℕ). let i : Id = record { place = x; stamp = y } in i) (eqb-true a.place b.place p.0)
    (eqb-true a.stamp b.stamp p.1)

pub same_id-refl : (a : Id) → same_id a a ≡ true
same_id-refl a =
    and_from (a.place == a.place) (a.stamp == a.stamp) (eq-eqb a.place a.place refl) (eq-eqb a.stamp a.stamp refl)

abbrev pub same_span : Span → Span → Bool
same_span s t =
    same_id s.arc.id t.arc.id && (same_id s.tail.id t.tail.id &&
    (same_id s.head.id t.head.id && ((s.cap == t.cap) && (s.cost == t.cost))))

pub same_span-true : (s t : Span) → same_span s t ≡ true → s ≡ t
same_span-true s t h =
    let a = and_parts (same_id s.arc.id t.arc.id)
    (same_id s.tail.id t.tail.id && (same_id s.head.id t.head.id && ((s.cap == t.cap) && (s.cost == t.cost)))) h in
    let b = and_parts (same_id s.tail.id t.tail.id)
    (same_id s.head.id t.head.id && ((s.cap == t.cap) && (s.cost == t.cost))) a.1 in
    let d = and_parts (same_id s.head.id t.head.id) ((s.cap == t.cap) && (s.cost == t.cost)) b.1 in
    let e = and_parts (s.cap == t.cap) (s.cost == t.cost) d.1 in
    let arc : s.arc.id ≡ t.arc.id = same_id-true s.arc.id t.arc.id a.0 in
    let tail : s.tail.id ≡ t.tail.id = same_id-true s.tail.id t.tail.id b.0 in
    let head : s.head.id ≡ t.head.id = same_id-true s.head.id t.head.id d.0 in
    let cap : s.cap ≡ t.cap = eqb-true s.cap t.cap e.0 in
    let cost : s.cost ≡ t.cost = eqb-true s.cost t.cost e.1 in
    ap (λ (i : Id). let x : Span = record s { arc = record { id = i } } in x) arc
    ∙ ap (λ (i : Id). let x : Span = record s { arc = t.arc; tail = record { id = i } } in x) tail
    ∙ ap (λ (i : Id). let x : Span = record t { head = record { id = i }; cap = s.cap; cost = s.cost } in x) head
    ∙ ap (λ (n : ℕ). let x : Span = record t { cap = n; cost = s.cost } in x) cap
    ∙ ap (λ (n : ℕ). let x : Span = record t { cost = n } in x) cost

pub same_span-refl : (s : Span) → same_span s s ≡ true
same_span-refl s =
    and_from (same_id s.arc.id s.arc.id) (same_id s.tail.id s.tail.id &&
    (same_id s.head.id s.head.id && ((s.cap == s.cap) && (s.cost == s.cost)))) (same_id-refl s.arc.id)
    (and_from (same_id s.tail.id s.tail.id) (same_id s.head.id s.head.id && ((s.cap == s.cap) && (s.cost == s.cost)))
    (same_id-refl s.tail.id)
    (and_from (same_id s.head.id s.head.id) ((s.cap == s.cap) && (s.cost == s.cost)) (same_id-refl s.head.id)
    (and_from (s.cap == s.cap) (s.cost == s.cost) (eq-eqb s.cap s.cap refl) (eq-eqb s.cost s.cost refl))))

abbrev pub ones : Bool → ℕ
ones b = cond b 1 0

pub ones-true : (b : Bool) → 0 < ones b → b ≡ true
ones-true b h = grind arith

-- an element of a list weighs in its sum
pub weighs-in : {X : Type 0} (w : X → ℕ) (xs : List X) (x : X) → Contains xs x → w x ≤ sum_by w xs
weighs-in w xs x c = omega (arith, get_or-le-sum_by w xs c.0 x c.1, ap w c.2)

-- the nodes that a net is said to hold are there
pub node-there : (net : Net) (ns : List NodeId) (n : NodeId) → AsOften (nodes_of net) ns → Contains ns n → IsNode net n
node-there net ns n often c =
    let w : NodeId → ℕ = λ (m : NodeId). ones (same_id m.id n.id) in
    let own : w n ≡ ones true = ap ones (same_id-refl n.id) in
    let some : 0 < sum_by (node_weight w) (entries net.nodes) = omega
    (arith, often.weighs w, nodes-sum w net, weighs-in w ns n c, own) in
    let f = found (node_weight w) net.nodes some in
    let e : f.id ≡ n.id = same_id-true f.id n.id (ones-true (same_id f.id n.id) f.heavy) in
    let P : Option Lists → Type 0 = λ (o : Option Lists). IsSome o in
    subst P (sym (ap (find net.nodes) (sym e) ∙ f.there)) refl

-- a node that is there weighs among the net's nodes
pub node-weighs : (net : Net) (n : NodeId) → IsNet net → IsNode net n
    → 0 < sum_by (λ m. ones (same_id m.id n.id)) (nodes_of net)
node-weighs net n sound there =
    let w : NodeId → ℕ = λ (m : NodeId). ones (same_id m.id n.id) in
    let held = lists (lists_at net n) there in
    let entry : Id × Lists = (n.id, held.0) in
    let own : w n ≡ ones true = ap ones (same_id-refl n.id) in
    omega (
      arith,
      own,
      nodes-sum w net,
      weighs-in (node_weight w) (entries net.nodes) entry ((sound.node_map.listed n.id held.0).1 held.1),
    )
  where
    lists : (o : Option Lists) → IsSome o → (l : Lists) × (o ≡ Some l)
    lists None h = let clash : false ≡ true = h in absurd cc
    lists (Some l) h = (l, refl)

-- an arc with its row
pub record HasRow (net : Net) (s : Span) : Type 0 where
  pub row : Row
  pub there : row_at net s.arc ≡ Some row
  pub is : span_of s.arc row ≡ s

pub span-there : (net : Net) (ss : List Span) (s : Span) → AsOften (spans_of net) ss → Contains ss s → HasRow net s
span-there net ss s often c =
    let w : Span → ℕ = λ (t : Span). ones (same_span t s) in
    let own : w s ≡ ones true = ap ones (same_span-refl s) in
    let some : 0 < sum_by (span_weight w) (entries net.arcs) = omega
    (arith, often.weighs w, spans-sum w net, weighs-in w ss s c, own) in
    let f = found (span_weight w) net.arcs some in
    let arc : ArcId = record { id = f.id } in
    let e : span_of arc f.value ≡ s = same_span-true (span_of arc f.value) s
    (ones-true (same_span (span_of arc f.value) s) f.heavy) in
    let a : arc ≡ s.arc = ap (λ (t : Span). t.arc) e in
    record {
      row = f.value;
      there = ap (row_at net) (sym a) ∙ f.there;
      is = ap (λ (b : ArcId). span_of b f.value) (sym a) ∙ e;
    }

-- a node that is not there is not one that is
pub fresh-other : (net : Net) (n m : NodeId) → lists_at net n ≡ None → IsNode net m → n ≢ m
fresh-other net n m none there e =
    let P : Option Lists → Type 0 = λ (o : Option Lists). IsSome o in
    let clash : false ≡ true = subst P (ap (lists_at net) (sym e) ∙ none) there in
    absurd cc

-- the hub and the sink of a graph are there
pub hub-there : (g : Graph) → Mirrors g → IsNode g.net g.hub
hub-there g is = node-there g.net (graph_nodes g) g.hub is.nodes (0, omega arith, refl)

pub sink-there : (g : Graph) → Mirrors g → IsNode g.net g.sink
sink-there g is = node-there g.net (graph_nodes g) g.sink is.nodes (1, omega arith, refl)

-- the node of a job is there
pub job-there : (g : Graph) (place : ℕ) (d : JobParts) → Mirrors g → place < length g.jobs
    → IsNode g.net (get_or g.jobs place d).node
job-there g place d is below =
    let n : NodeId = (get_or g.jobs place d).node in
    let own : get_or (job_nodes g) place n ≡ n = get_or-map (λ (p : JobParts). p.node) g.jobs place d n below in
    let listed : place < length (job_nodes g) = omega (arith, below, length-map g.jobs (λ (p : JobParts). p.node)) in
    node-there g.net (graph_nodes g) n is.nodes
    (Contains-append_right (g.hub ∷ g.sink ∷ machine_nodes g) (job_nodes g ++ task_nodes g) n
    (Contains-append_left (job_nodes g) (task_nodes g) n (place, listed, own)))

-- the nodes of the machines are there
pub machines-there : (g : Graph) → Mirrors g → All (IsNode g.net) (machine_nodes g)
machines-there g is k d below =
    let n : NodeId = get_or (machine_nodes g) k d in
    node-there g.net (graph_nodes g) n is.nodes
    (Contains-append_right (g.hub ∷ g.sink ∷ []) (machine_nodes g ++ (job_nodes g ++ task_nodes g)) n
    (Contains-append_left (machine_nodes g) (job_nodes g ++ task_nodes g) n
    (k, below, get_or_default (machine_nodes g) k n d below)))
