-- What a graph is once a task prefers a machine no longer.
use Rattle.std.proofs.Common.{◌≡◌, ℕ, zero, suc, ◌+◌, ◌<◌, ◌≤◌, Bool, true, false, not, cond, Option, Some, None, List}
use Rattle.std.proofs.Common.{[], ◌∷◌, ◌++◌, map, length, get_or, set, bytes_eq, arith, refl, sym, ap, ap₂, ◌∙◌, ltb}
use Rattle.std.proofs.Common.{subst}
use Rattle.std.specs.List.{sum_by, AllZip, AllByRecursion, IsDistinct, remove, position, position_or_len}
use Rattle.std.proofs.lemmas.Bool.{cond_both, ltb-false, not-false}
use Rattle.std.proofs.lemmas.List.{length-set, set-get_or}
use Rattle.std.proofs.lemmas.List.Edits.{length-remove}
use Rattle.std.proofs.lemmas.List.Sums.{sum_by-cons, sum_by-set}
use Rattle.std.proofs.lemmas.Map.Keys.{IsDistinct-head, IsDistinct-tail}
use Rattle.std.proofs.lemmas.Slice.Eq.{bytes_eq-Decides}
use Rattle.indexmap.proofs.SetLemmas.{map-remove}
use Rattle.firm_net.specs.Row.{Row}
use Rattle.firm_net.specs.Net.{Net, row_at, added_of}
use Rattle.firm_net.specs.Edits.{Span, span_of, IsEdit}
use Rattle.firm_net.specs.declared.row.NodeId.{NodeId}
use Rattle.firm_net.specs.declared.row.ArcId.{ArcId}
use Rattle.firm_rules.specs.Book.{TenantRows, machine_names, forgetting}
use Rattle.firm_rules.specs.Preferences.{without_preference}
use Rattle.firm_rules.specs.declared.book.Task.{Task}
use Rattle.firm_graph.specs.declared.ids.TaskParts.{TaskParts}
use Rattle.firm_graph.specs.Network.{away}
use Rattle.firm_graph.specs.Graph.{Graph, Mirrors, preferred_spans, task_spans, target_of, node_under, graph_nodes}
use Rattle.firm_graph.specs.Graph.{graph_spans, machine_nodes}
use Rattle.firm_graph.specs.inner.Steps.{Holds, near, update_at, refitted, with_forgetting_at, IsFitting, no_task}
use Rattle.firm_graph.specs.inner.Steps.{task_at, forgetting_first, forgetting_rows}
use Rattle.firm_graph.proofs.Totals.{nodes-total, spans-total}
use Rattle.firm_graph.proofs.Lookups.{position-is}
use Rattle.firm_graph.proofs.Drops.{holds-unlinked, task_dropped, task-start, wide_of, stay_of, wait_of, preferred_of}
use Rattle.firm_graph.proofs.Drops.{leaving_of, four-sum, preferred-paired, heads-counted}
use Rattle.firm_graph.proofs.Places.{flat_sum-both, Rates, rated, holds-same, holds-rated, length-updated}
use Rattle.firm_graph.proofs.Firsts.{first-read, first-more, first-all}

-- names of which one is forgotten
keep-first : (name n : List ℕ) (names : List (List ℕ)) → bytes_eq name n ≡ false
    → without_preference name (n ∷ names) ≡ n ∷ without_preference name names
keep-first name n names f =
    ap (λ (b : Bool). cond (not b) (n ∷ without_preference name names) (without_preference name names)) f

keep-all : (name n : List ℕ) (names : List (List ℕ)) → bytes_eq name n ≡ true
    → AllByRecursion (λ other. bytes_eq n other ≡ false) names → without_preference name names ≡ names
keep-all name n [] t apart = refl
keep-all name n (m ∷ names) t apart =
    let same : name ≡ n = (bytes_eq-Decides name n).0 t in
    let other : bytes_eq name m ≡ false = ap (λ (x : List ℕ). bytes_eq x m) same ∙ apart.0 in
    keep-first name m names other ∙ ap (λ (l : List (List ℕ)). m ∷ l) (keep-all name n names t apart.1)

forget-place : (name : List ℕ) (names : List (List ℕ)) (k : ℕ) → IsDistinct bytes_eq names
    → position_or_len (bytes_eq name) names ≡ k → k < length names → without_preference name names ≡ remove names k
forget-place name [] k apart e below = absurd (omega arith)
forget-place name (n ∷ names) k apart e below =
    let later : ℕ = position_or_len (bytes_eq name) names in
    let rest : List (List ℕ) = without_preference name names in
    cond_both (not (bytes_eq name n)) (n ∷ rest) rest (λ (l : List (List ℕ)). l ≡ remove (n ∷ names) k)
    (λ t.
    let own : suc later ≡ k = omega (arith, e, ap (λ (b : Bool). cond b (1 + later) 0) t) in
    ap (λ (l : List (List ℕ)). n ∷ l)
    (forget-place name names later (IsDistinct-tail bytes_eq n names apart) refl (omega (arith, own, below)))
    ∙ ap (λ (i : ℕ). remove (n ∷ names) i) own)
    (λ f.
    let first : 0 ≡ k = omega (arith, e, ap (λ (b : Bool). cond b (1 + later) 0) f) in
    keep-all name n names (not-false (bytes_eq name n) f) (IsDistinct-head bytes_eq n names apart)
    ∙ ap (λ (i : ℕ). remove (n ∷ names) i) first)

forget-none : (name : List ℕ) (names : List (List ℕ)) → length names ≤ position_or_len (bytes_eq name) names
    → without_preference name names ≡ names
forget-none name [] none = refl
forget-none name (n ∷ names) none =
    let later : ℕ = position_or_len (bytes_eq name) names in
    let rest : List (List ℕ) = without_preference name names in
    cond_both (not (bytes_eq name n)) (n ∷ rest) rest (λ (l : List (List ℕ)). l ≡ n ∷ names)
    (λ t. ap (λ (l : List (List ℕ)). n ∷ l)
    (forget-none name names (omega (arith, none, ap (λ (b : Bool). cond b (1 + later) 0) t))))
    (λ f. absurd (omega (arith, none, ap (λ (b : Bool). cond b (1 + later) 0) f)))

nowhere : (name : List ℕ) (names : List (List ℕ)) → position (bytes_eq name) names ≡ None
    → length names ≤ position_or_len (bytes_eq name) names
nowhere name names e =
    let at : ℕ = position_or_len (bytes_eq name) names in
    cond_both (ltb at (length names)) (Some at) None (λ (o : Option ℕ). o ≡ None → length names ≤ at)
    (λ _ clash. absurd cc) (λ f _. ltb-false at (length names) f) e

-- an arc less to the machines that a task prefers
near-out : (w : Span → ℕ) (node : NodeId) (cost k : ℕ) (heads : List NodeId) (arcs : List ArcId) (h : NodeId)
    (a : ArcId)
    → length heads ≡ length arcs → k < length arcs
    → sum_by w (preferred_spans node cost heads arcs)
    ≡ w (near node (get_or heads k h) cost (get_or arcs k a)) + sum_by w
    (preferred_spans node cost (remove heads k) (remove arcs k))
near-out w node cost k [] [] h a e below = absurd (omega arith)
near-out w node cost k [] (arc ∷ arcs) h a e below = absurd (omega arith)
near-out w node cost k (head ∷ heads) [] h a e below = absurd (omega arith)
near-out w node cost zero (head ∷ heads) (arc ∷ arcs) h a e below =
    sum_by-cons w (near node head cost arc) (preferred_spans node cost heads arcs)
near-out w node cost (suc k) (head ∷ heads) (arc ∷ arcs) h a e below =
    omega (
      arith,
      sum_by-cons w (near node head cost arc) (preferred_spans node cost heads arcs),
      sum_by-cons w (near node head cost arc) (preferred_spans node cost (remove heads k) (remove arcs k)),
      near-out w node cost k heads arcs h a (omega arith) (omega arith),
    )

AllZip-both : {A B : Type 0} (R : A → B → Type 0) (xs : List A) (ys : List B) (i : ℕ) (h : A → A) (d : A) (y : B)
    → AllZip R xs ys → R (h (get_or xs i d)) y → AllZip R (update_at xs i h) (set ys i y)
AllZip-both R [] [] i h d y all own = all
AllZip-both R [] (z ∷ ys) i h d y all own = absurd all
AllZip-both R (x ∷ xs) [] i h d y all own = absurd all
AllZip-both R (x ∷ xs) (z ∷ ys) zero h d y all own = (own, all.1)
AllZip-both R (x ∷ xs) (z ∷ ys) (suc i) h d y all own = (all.0, AllZip-both R xs ys i h d y all.1 own)

-- the parts of a task without the arc to one of the machines that it prefers
abbrev pub fewer : TaskParts → ℕ → TaskParts
fewer parts k = record parts { arcs = record parts.arcs { preferred = remove parts.arcs.preferred k } }

module _ (g : Graph) (place : ℕ) (parts : TaskParts) (name : List ℕ) (k : ℕ) (is : Mirrors g)
    (below : place < length g.tasks) (at : parts ≡ get_or g.tasks place parts)
    (named : position (bytes_eq name) (task_at g.rows place).preferred ≡ Some k)
    (apart : IsDistinct bytes_eq (task_at g.rows place).preferred) where
  abbrev task : Task
  task = task_at g.rows place

  abbrev under : List ℕ → NodeId
  under = node_under (machine_names g.rows) (machine_nodes g) g.hub

  abbrev rest : List Span
  rest = graph_spans (task_dropped g g.net place)

  its-place : (without_preference name task.preferred ≡ remove task.preferred k) × (k < length task.preferred)
  its-place =
      let p = position-is (bytes_eq name) task.preferred k named in
      (forget-place name task.preferred k apart p.0 p.1, p.1)

  left-heads : map under (forgetting name task).preferred ≡ remove (map under task.preferred) k
  left-heads = ap (map under) its-place.0 ∙ map-remove under task.preferred k

  pub left-paired : length (remove parts.arcs.preferred k) ≡ length (forgetting name task).preferred
  left-paired =
      let whole = preferred-paired g place parts is below at in
      omega (
        arith,
        its-place.1,
        length-remove parts.arcs.preferred k (omega (arith, whole, its-place.1)),
        length-remove task.preferred k its-place.1,
        ap (λ (l : List (List ℕ)). length l) its-place.0,
      )

  abbrev left_spans : List Span
  left_spans =
      preferred_spans parts.node (leaving_of g place) (remove (map under task.preferred) k)
      (remove parts.arcs.preferred k)

  -- the net once the arc was removed, and the way by the hub has its new cost
  pub forgot-holds : (n1 n2 : Net) (arc : ArcId) (cost : ℕ) → arc ≡ get_or parts.arcs.preferred k arc
      → ((row : Row) → row_at g.net arc ≡ Some row → IsEdit g.net n1 [] [] (span_of arc row ∷ []) [])
      → Rates n1 n2 parts.arcs.wide 1 cost → added_of n2 ≤ added_of n1
      → Holds g.net n2 (graph_nodes g) (rated 1 cost (wide_of g place parts) ∷ stay_of g place parts ∷ wait_of g place
      parts ∷ left_spans ++ rest)
  forgot-holds n1 n2 arc cost arc_is gone edit none =
      let s1 : Span = wide_of g place parts in
      let s2 : Span = stay_of g place parts in
      let s3 : Span = wait_of g place parts in
      let ss : List Span = preferred_of g place parts in
      let heads : List NodeId = map under task.preferred in
      let head : NodeId = get_or heads k g.hub in
      let s : Span = near parts.node head (leaving_of g place) arc in
      let whole = preferred-paired g place parts is below at in
      let started : Holds g.net g.net (graph_nodes g) (s ∷ s1 ∷ s2 ∷ s3 ∷ left_spans ++ rest) =
      holds-same g.net g.net (graph_nodes g) (s1 ∷ s2 ∷ s3 ∷ ss ++ rest) (s ∷ s1 ∷ s2 ∷ s3 ∷ left_spans ++ rest)
      (task-start g g.net place parts is below at)
      (λ w. omega (
        arith,
        four-sum w s1 s2 s3 ss rest,
        sum_by-cons w s (s1 ∷ s2 ∷ s3 ∷ left_spans ++ rest),
        four-sum w s1 s2 s3 left_spans rest,
        near-out w parts.node (leaving_of g place) k heads parts.arcs.preferred g.hub arc
            (heads-counted g place parts is below at) (omega (arith, whole, its-place.1)),
        ap (λ (a : ArcId). w (near parts.node head (leaving_of g place) a)) arc_is,
      )) in
      holds-rated g.net n1 n2 (graph_nodes g) s1 (s2 ∷ s3 ∷ left_spans ++ rest) 1 cost
      (holds-unlinked g.net g.net n1 (graph_nodes g) s (s1 ∷ s2 ∷ s3 ∷ left_spans ++ rest) started gone) edit none

  pub forgot : (n2 : Net) (leaving far : ℕ)
      → Holds g.net n2 (graph_nodes g) (rated 1 (leaving + far) (wide_of g place parts) ∷ stay_of g place parts ∷
      wait_of g place parts ∷ left_spans ++ rest)
      → leaving ≡ leaving_of g place → far ≡ away g.rows.limits.remote (remove parts.arcs.preferred k)
      → Mirrors (refitted g (with_forgetting_at g.rows place name) n2 (set g.tasks place (fewer parts k)))
  forgot n2 leaving far h leaving_is far_is =
      let after : TaskParts = fewer parts k in
      let new : Graph = refitted g (with_forgetting_at g.rows place name) n2 (set g.tasks place after) in
      let f = task_spans g.hub g.rows.limits.churn g.rows.limits.remote (target_of g) in
      let here : place < length g.rows.tasks = omega (arith, below, is.tasks) in
      let remote : ℕ = g.rows.limits.remote in
      let way : far ≡ away remote (forgetting name task).preferred =
      far_is ∙ ap (λ (n : ℕ). cond (ltb 0 n) remote 0) left-paired in
      let s1 : Span = rated 1 (leaving + far) (wide_of g place parts) in
      let t1 : Span = rated 1 (leaving_of g place + away remote (forgetting name task).preferred)
      (wide_of g place parts) in
      let s2 : Span = stay_of g place parts in
      let s3 : Span = wait_of g place parts in
      let ts : List Span = preferred_spans parts.node (leaving_of g place) (map under (forgetting name task).preferred)
      (remove parts.arcs.preferred k) in
      let e1 : s1 ≡ t1 = ap₂ (λ (a b : ℕ). rated 1 (a + b) (wide_of g place parts)) leaving_is way in
      let es : ts ≡ left_spans = ap (λ (l : List NodeId). preferred_spans parts.node (leaving_of g place) l
      (remove parts.arcs.preferred k)) left-heads in
      let R : Task → TaskParts → Type 0 = λ (t : Task) (p : TaskParts). length p.arcs.preferred ≡ length t.preferred in
      record {
        net = h.net;
        nodes = record {
          weighs = λ w. omega (
            arith,
            h.nodes.weighs w,
            nodes-total w g,
            nodes-total w new,
            sum_by-set (λ (p : TaskParts). w p.node) g.tasks place after parts below,
            ap (λ (p : TaskParts). w p.node) at,
          );
        };
        spans = record {
          weighs = λ w. omega (
            arith,
            h.spans.weighs w,
            four-sum w s1 s2 s3 left_spans rest,
            ap w e1,
            ap (λ (l : List Span). sum_by w l) es,
            sum_by-cons {X = Span},
            spans-total w new,
            spans-total w (task_dropped g g.net place),
            flat_sum-both w f (forgetting name) g.rows.tasks g.tasks place no_task after here is.tasks,
          );
        };
        slots = is.slots;
        preferred = AllZip-both R g.rows.tasks g.tasks place (forgetting name) no_task after is.preferred left-paired;
        machines = is.machines;
        jobs = is.jobs;
        tasks = omega (arith, length-updated g.rows.tasks place (forgetting name), length-set g.tasks place after);
        node_room = h.node_room ∙ is.node_room;
        arc_room = h.arc_room ∙ is.arc_room;
        added = omega (arith, h.added, is.added);
        asked = is.asked;
      }

-- a task that does not prefer the machine is as it was
update-same : {X : Type 0} (xs : List X) (i : ℕ) (f : X → X) (d : X) → i < length xs → f (get_or xs i d) ≡ get_or xs i d
    → update_at xs i f ≡ xs
update-same [] i f d below e = absurd (omega arith)
update-same {X} (x ∷ xs) zero f d below e = ap (λ (y : X). y ∷ xs) e
update-same {X} (x ∷ xs) (suc i) f d below e = ap (λ (l : List X). x ∷ l) (update-same xs i f d (omega arith) e)

set-same : {X : Type 0} (xs : List X) (i : ℕ) (y : X) → y ≡ get_or xs i y → set xs i y ≡ xs
set-same {X} xs i y e = ap (λ (z : X). set xs i z) e ∙ set-get_or xs i y

pub not-preferred : (g : Graph) (place : ℕ) (parts : TaskParts) (name : List ℕ) (net : Net) → Mirrors g → g.net ≡ net
    → place < length g.tasks → parts ≡ get_or g.tasks place parts
    → position (bytes_eq name) (task_at g.rows place).preferred ≡ None
    → Mirrors (refitted g (with_forgetting_at g.rows place name) net (set g.tasks place parts))
not-preferred g place parts name net is over below at none =
    let task : Task = task_at g.rows place in
    let same : forgetting name task ≡ task =
    ap (λ (l : List (List ℕ)). let t : Task = record task { preferred = l } in t)
    (forget-none name task.preferred (nowhere name task.preferred none)) in
    let P : Net → List Task → List TaskParts → Type 0 = λ (n : Net) (ts : List Task) (ps : List TaskParts).
    Mirrors (refitted g (record g.rows { tasks = ts }) n ps) in
    subst (λ (n : Net). P n (update_at g.rows.tasks place (forgetting name)) (set g.tasks place parts)) over
    (subst (λ (ts : List Task). P g.net ts (set g.tasks place parts))
    (sym (update-same g.rows.tasks place (forgetting name) no_task (omega (arith, below, is.tasks)) same))
    (subst (λ (ps : List TaskParts). P g.net g.rows.tasks ps) (sym (set-same g.tasks place parts at)) is))

-- a step of the loop over the tasks
pub forget-next : (g : Graph) (rows : TenantRows) (name : List ℕ) (place : ℕ) (parts after : TaskParts)
    (tasks : List TaskParts) (before now : Net) → g.rows ≡ rows → place < length rows.tasks → place < length tasks
    → parts ≡ get_or tasks place parts
    → Mirrors (refitted g (forgetting_first g.rows name place) before tasks)
    → ((h : Graph) → IsFitting h before rows parts place
    → Mirrors (refitted h (with_forgetting_at h.rows place name) now (set h.tasks place after)))
    → Mirrors (refitted g (forgetting_first g.rows name (place + 1)) now (set tasks place after))
forget-next g rows name place parts after tasks before now rows_is here below at mirrors step =
    let old : Graph = refitted g (forgetting_first g.rows name place) before tasks in
    let there : place < length g.rows.tasks = omega (arith, here, ap (λ (r : TenantRows). length r.tasks) rows_is) in
    let made = step old (record {
      mirrors = mirrors;
      over = refl;
      below = below;
      its_parts = at;
      its_row = first-read (λ (_ : ℕ). forgetting name) 0 place g.rows.tasks no_task
          ∙ ap (λ (r : TenantRows). task_at r place) rows_is;
      limits = ap (λ (r : TenantRows). r.limits) rows_is;
    }) in
    subst (λ (l : List Task). Mirrors (refitted g (record g.rows { tasks = l }) now (set tasks place after)))
    (first-more (λ (_ : ℕ). forgetting name) place g.rows.tasks no_task (forgetting name) there refl) made

pub forget-end : (rows : TenantRows) (name : List ℕ) (n : ℕ) → length rows.tasks ≤ n
    → forgetting_first rows name n ≡ forgetting_rows rows name
forget-end rows name n all =
    ap (λ (l : List Task). let r : TenantRows = record rows { tasks = l } in r)
    (first-all (forgetting name) 0 n rows.tasks all)
