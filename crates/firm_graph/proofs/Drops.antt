-- What a graph is once a row was removed from it, and what its net holds on the way.
use Rattle.std.proofs.Common.{◌≡◌, ℕ, zero, suc, ◌+◌, ◌*◌, ◌<◌, ◌≤◌, Bool, true, false, cond, is_some, ◌⊎◌, inl, inr}
use Rattle.std.proofs.Common.{Option, Some, None, List, [], ◌∷◌, ◌++◌, map, length, get_or, drop, bytes_eq, arith, refl}
use Rattle.std.proofs.Common.{sym, ap, ◌∙◌, subst, drop-cons}
use Rattle.std.specs.List.{sum_by, AllZip, Contains, remove}
use Rattle.std.proofs.lemmas.Bool.{cond_both}
use Rattle.std.proofs.lemmas.List.Sums.{sum_by-cons, sum_by-append, sum_by-remove}
use Rattle.std.proofs.lemmas.List.Edits.{length-remove}
use Rattle.std.proofs.lemmas.List.{drop_all, length-map}
use Rattle.std.proofs.lemmas.List.Elements.{Contains-append_right}
use Rattle.firm_arena.specs.Changes.{find-held}
use Rattle.firm_arena.specs.Arena.{entries_from}
use Rattle.firm_arena.specs.declared.Id.{Id}
use Rattle.firm_net.specs.Row.{Row}
use Rattle.firm_net.specs.Net.{Net, IsNet, IsNode, IsListed, arcs_on, end_of, out_list, in_list, row_at}
use Rattle.firm_net.specs.declared.row.NodeId.{NodeId}
use Rattle.firm_net.specs.declared.row.ArcId.{ArcId}
use Rattle.firm_net.specs.declared.links.Side.{Side}
use Rattle.firm_net.specs.declared.links.Side.TheVariants.{Out, In}
use Rattle.firm_rules.specs.Book.{machine_names, job_names}
use Rattle.firm_rules.specs.Placement.{slot_cost}
use Rattle.firm_graph.specs.inner.Steps.{task_gone, no_task, Holds}
use Rattle.firm_rules.specs.declared.book.Machine.{Machine}
use Rattle.firm_rules.specs.declared.book.Job.{Job}
use Rattle.firm_rules.specs.declared.book.Task.{Task}
use Rattle.firm_net.specs.Edits.{Span, span_of, nodes_of, spans_of, AsOften, IsEdit}
use Rattle.firm_graph.specs.Parts.{MachineParts}
use Rattle.firm_graph.specs.declared.ids.JobParts.{JobParts}
use Rattle.firm_graph.specs.declared.ids.TaskParts.{TaskParts}
use Rattle.firm_graph.specs.Graph.{Graph, Mirrors, flat_zip, machine_spans, slot_spans, job_spans, task_spans, Target}
use Rattle.firm_graph.specs.Graph.{target_of, home_node, node_under, graph_nodes, graph_spans, machine_nodes, job_nodes}
use Rattle.firm_graph.specs.Graph.{preferred_spans, task_nodes}
use Rattle.firm_graph.specs.Network.{away}
use Rattle.firm_arena.specs.Sums.{sum-slot, sum-without}
use Rattle.firm_net.specs.Laws.{nodes-sum, spans-sum, span_weight, sum-map, row-below, contains-mapped}
use Rattle.firm_graph.proofs.Found.{node-there, span-there, HasRow, ones, same_id, same_id-true, same_id-refl}
use Rattle.firm_graph.proofs.Said.{shrunk}
use Rattle.firm_graph.proofs.Totals.{nodes-total, spans-total, sum-one}

pub holds-start : (g : Graph) → Mirrors g → (ss : List Span) → AsOften (graph_spans g) ss
    → Holds g.net g.net (graph_nodes g) ss
holds-start g is ss same =
    record {
      net = is.net;
      nodes = is.nodes;
      spans = record { weighs = λ w. is.spans.weighs w ∙ same.weighs w };
      node_room = refl;
      arc_room = refl;
      added = omega arith;
    }

-- the first arc is there, and what is left once it is removed
pub holds-row : (base net : Net) (ns : List NodeId) (s : Span) (ss : List Span) → Holds base net ns (s ∷ ss)
    → HasRow net s
holds-row base net ns s ss h = span-there net (s ∷ ss) s h.spans (0, omega arith, refl)

pub holds-unlinked : (base old new : Net) (ns : List NodeId) (s : Span) (ss : List Span) → Holds base old ns (s ∷ ss)
    → ((row : Row) → row_at old s.arc ≡ Some row → IsEdit old new [] [] (span_of s.arc row ∷ []) [])
    → Holds base new ns ss
holds-unlinked base old new ns s ss h edits =
    let r = holds-row base old ns s ss h in
    let P : Span → Type 0 = λ (t : Span). IsEdit old new [] [] (t ∷ []) [] in
    let edit : IsEdit old new [] [] (s ∷ []) [] = subst P r.is (edits r.row r.there) in
    record {
      net = edit.net;
      nodes = record { weighs = λ w. omega (arith, edit.nodes w, h.nodes.weighs w) };
      spans = record { weighs = λ w. omega (arith, edit.spans w, h.spans.weighs w, sum-one w s, sum_by-cons w s ss) };
      node_room = edit.node_room ∙ h.node_room;
      arc_room = edit.arc_room ∙ h.arc_room;
      added = omega (arith, edit.added, h.added);
    }

-- what an edit makes of a net that holds so much, wherever the net came from
pub holds-through : (base old new : Net) (ns : List NodeId) (ss ts : List Span) → Holds base old ns ss
    → (Holds old old ns ss → Holds old new ns ts) → Holds base new ns ts
holds-through base old new ns ss ts h edit =
    let after = edit (record {
      net = h.net;
      nodes = h.nodes;
      spans = h.spans;
      node_room = refl;
      arc_room = refl;
      added = omega arith;
    }) in
    record {
      net = after.net;
      nodes = after.nodes;
      spans = after.spans;
      node_room = after.node_room ∙ h.node_room;
      arc_room = after.arc_room ∙ h.arc_room;
      added = omega (arith, after.added, h.added);
    }

-- where a test passes at one place alone, it passes for one entry at most
once-more : (b : Bool) (p place rest sum : ℕ) → (b ≡ true → p ≡ place) → sum ≡ ones b + rest
    → (place < p + 1 → rest ≡ 0) → rest ≤ 1 → (place < p → sum ≡ 0) × (sum ≤ 1)
once-more true p place rest sum only e none few =
    let own : p ≡ place = only refl in
    (λ h. absurd (omega (arith, own, h)), omega (arith, e, none (omega (arith, own))))
once-more false p place rest sum only e none few =
    (λ h. omega (arith, e, none (omega (arith, h))), omega (arith, e, few))

pub once-from : {X : Type 0} (test : Id → Bool) (place : ℕ) → ((i : Id) → test i ≡ true → i.place ≡ place)
    → (p : ℕ) (held : List (Option (ℕ × X))) → (place < p → sum_by (λ e. ones (test e.0)) (entries_from p held) ≡ 0) ×
    (sum_by (λ e. ones (test e.0)) (entries_from p held) ≤ 1)
once-from test place only p [] = (λ _. refl, omega arith)
once-from test place only p (None ∷ held) =
    let rest = once-from test place only (p + 1) held in
    (λ h. rest.0 (omega (arith, h)), rest.1)
once-from {X} test place only p (Some own ∷ held) =
    let w : Id × X → ℕ = λ (e : Id × X). ones (test e.0) in
    let here : Id = record { place = p; stamp = own.0 } in
    let rest = once-from test place only (p + 1) held in
    once-more (test here) p place (sum_by w (entries_from (p + 1) held)) (sum_by w (entries_from p (Some own ∷ held)))
    (only here) (sum-slot w p (Some own) held) rest.0 rest.1

-- an id is that of one entry at most
pub id-once : {X : Type 0} (id : Id) (held : List (Option (ℕ × X)))
    → sum_by (λ e. ones (same_id e.0 id)) (entries_from 0 held) ≤ 1
id-once id held =
    (once-from (λ (i : Id). same_id i id) id.place (λ i t. ap (λ (j : Id). j.place) (same_id-true i id t)) 0 held).1

-- a node stands once at most among those that a net holds
abbrev pub is_node : NodeId → NodeId → ℕ
is_node n m = ones (same_id m.id n.id)

pub node-once : (net : Net) (ns : List NodeId) (n : NodeId) → AsOften (nodes_of net) ns → sum_by (is_node n) ns ≤ 1
node-once net ns n often =
    omega (arith, often.weighs (is_node n), nodes-sum (is_node n) net, id-once n.id net.nodes.held)

-- the ends of a graph's arcs are among its nodes: where these weigh nothing, those do neither
abbrev pub end_weight : (NodeId → ℕ) → Span → ℕ
end_weight w s = w s.tail + w s.head

under-weight : (w : NodeId → ℕ) (names : List (List ℕ)) (nodes : List NodeId) (other : NodeId) (name : List ℕ)
    → w (node_under names nodes other name) ≤ w other + sum_by w nodes
under-weight w [] nodes other name = omega arith
under-weight w (n ∷ names) [] other name = omega arith
under-weight w (n ∷ names) (node ∷ nodes) other name =
    cond_both (bytes_eq name n) node (node_under names nodes other name)
    (λ (m : NodeId). w m ≤ w other + sum_by w (node ∷ nodes)) (λ _. omega (arith, sum_by-cons w node nodes))
    (λ _. omega (arith, sum_by-cons w node nodes, under-weight w names nodes other name))

pub home-weight : (w : NodeId → ℕ) (names : List (List ℕ)) (nodes : List NodeId) (hub : NodeId) (home : Option (List ℕ))
    → w (home_node names nodes hub home) ≤ w hub + sum_by w nodes
home-weight w names nodes hub None = omega arith
home-weight w names nodes hub (Some name) = under-weight w names nodes hub name

slots-weight : (w : NodeId → ℕ) (node sink : NodeId) (spread k : ℕ) (slots : List ArcId) → w node ≡ 0 → w sink ≡ 0
    → sum_by (end_weight w) (slot_spans node sink spread k slots) ≡ 0
slots-weight w node sink spread k [] a b = refl
slots-weight w node sink spread k (arc ∷ slots) a b =
    omega (
      arith,
      sum_by-cons (end_weight w) (record { arc = arc; tail = node; head = sink; cap = 1; cost = slot_cost spread k })
          (slot_spans node sink spread (k + 1) slots),
      slots-weight w node sink spread (k + 1) slots a b,
    )

machines-weight : (w : NodeId → ℕ) (hub sink : NodeId) (spread : ℕ) (ms : List Machine) (ps : List MachineParts)
    → w hub ≡ 0 → w sink ≡ 0
    → sum_by (λ p. w p.node) ps ≡ 0 → sum_by (end_weight w) (flat_zip (machine_spans hub sink spread) ms ps) ≡ 0
machines-weight w hub sink spread [] ps a b c = refl
machines-weight w hub sink spread (m ∷ ms) [] a b c = refl
machines-weight w hub sink spread (m ∷ ms) (p ∷ ps) a b c =
    let v : MachineParts → ℕ = λ (q : MachineParts). w q.node in
    let own : w p.node ≡ 0 = omega (arith, c, sum_by-cons v p ps) in
    let rest : sum_by v ps ≡ 0 = omega (arith, c, sum_by-cons v p ps) in
    omega (
      arith,
      sum_by-append (end_weight w) (machine_spans hub sink spread m p) (flat_zip (machine_spans hub sink spread) ms ps),
      sum_by-cons (end_weight w) (record { arc = p.through; tail = hub; head = p.node; cap = m.slots; cost = 0 })
          (slot_spans p.node sink spread 0 p.slots),
      slots-weight w p.node sink spread 0 p.slots own b,
      machines-weight w hub sink spread ms ps a b rest,
    )

jobs-weight : (w : NodeId → ℕ) (sink : NodeId) (limit : ℕ) (js : List Job) (ps : List JobParts) → w sink ≡ 0
    → sum_by (λ p. w p.node) ps ≡ 0 → sum_by (end_weight w) (flat_zip (job_spans sink limit) js ps) ≡ 0
jobs-weight w sink limit [] ps b c = refl
jobs-weight w sink limit (j ∷ js) [] b c = refl
jobs-weight w sink limit (j ∷ js) (p ∷ ps) b c =
    let v : JobParts → ℕ = λ (q : JobParts). w q.node in
    let own : w p.node ≡ 0 = omega (arith, c, sum_by-cons v p ps) in
    let rest : sum_by v ps ≡ 0 = omega (arith, c, sum_by-cons v p ps) in
    omega (
      arith,
      sum_by-cons (end_weight w) (record { arc = p.exit; tail = p.node; head = sink; cap = limit; cost = 0 })
          (flat_zip (job_spans sink limit) js ps),
      jobs-weight w sink limit js ps b rest,
    )

-- three arcs and further ones
pub four-sum : (w : Span → ℕ) (s1 s2 s3 : Span) (ss rest : List Span)
    → sum_by w (s1 ∷ s2 ∷ s3 ∷ ss ++ rest) ≡ w s1 + (w s2 + (w s3 + (sum_by w ss + sum_by w rest)))
four-sum w s1 s2 s3 ss rest = omega (arith, sum_by-cons {X = Span}, sum_by-append {X = Span})

-- a task's arc to the hub, its arc home, and the arc by which it waits
abbrev pub wide_arc : NodeId → ℕ → TaskParts → Span
wide_arc hub cost p = record { arc = p.arcs.wide; tail = p.node; head = hub; cap = 1; cost = cost }

abbrev pub stay_arc : NodeId → Bool → TaskParts → Span
stay_arc home runs p = record { arc = p.arcs.stay; tail = p.node; head = home; cap = cond runs 1 0; cost = 0 }

abbrev pub wait_arc : NodeId → ℕ → TaskParts → Span
wait_arc owner cost p = record { arc = p.arcs.wait; tail = p.node; head = owner; cap = 1; cost = cost }

-- names that are looked up weigh nothing where the nodes don't
under-none : (w : NodeId → ℕ) (names : List (List ℕ)) (nodes : List NodeId) (other : NodeId) (asked : List (List ℕ))
    → w other ≡ 0 → sum_by w nodes ≡ 0 → sum_by w (map (node_under names nodes other) asked) ≡ 0
under-none w names nodes other [] a b = refl
under-none w names nodes other (name ∷ asked) a b =
    omega (
      arith,
      sum_by-cons w (node_under names nodes other name) (map (node_under names nodes other) asked),
      under-weight w names nodes other name,
      under-none w names nodes other asked a b,
    )

preferred-weight : (w : NodeId → ℕ) (node : NodeId) (cost : ℕ) (heads : List NodeId) (arcs : List ArcId) → w node ≡ 0
    → sum_by w heads ≡ 0 → sum_by (end_weight w) (preferred_spans node cost heads arcs) ≡ 0
preferred-weight w node cost [] arcs a b = refl
preferred-weight w node cost (head ∷ heads) [] a b = refl
preferred-weight w node cost (head ∷ heads) (arc ∷ arcs) a b =
    let own : w head ≡ 0 = omega (arith, b, sum_by-cons w head heads) in
    let rest : sum_by w heads ≡ 0 = omega (arith, b, sum_by-cons w head heads) in
    omega (
      arith,
      sum_by-cons (end_weight w) (record { arc = arc; tail = node; head = head; cap = 1; cost = cost })
          (preferred_spans node cost heads arcs),
      preferred-weight w node cost heads arcs a rest,
    )

-- no end of a task's arcs weighs anything beside its own node
record IsLight (w : NodeId → ℕ) (target : Target) : Type 0 where
  home : w target.home ≡ 0
  owner : w target.owner ≡ 0
  preferred : sum_by w target.preferred ≡ 0

tasks-weight : (w : NodeId → ℕ) (hub : NodeId) (churn remote : ℕ) (target : Task → Target) (ts : List Task)
    (ps : List TaskParts) → w hub ≡ 0
    → ((t : Task) → IsLight w (target t))
    → sum_by (λ p. w p.node) ps ≡ 0 → sum_by (end_weight w) (flat_zip (task_spans hub churn remote target) ts ps) ≡ 0
tasks-weight w hub churn remote target [] ps a t c = refl
tasks-weight w hub churn remote target (x ∷ ts) [] a t c = refl
tasks-weight w hub churn remote target (x ∷ ts) (p ∷ ps) a t c =
    let v : TaskParts → ℕ = λ (q : TaskParts). w q.node in
    let own : w p.node ≡ 0 = omega (arith, c, sum_by-cons v p ps) in
    let rest : sum_by v ps ≡ 0 = omega (arith, c, sum_by-cons v p ps) in
    let more : List Span = flat_zip (task_spans hub churn remote target) ts ps in
    let leaving : ℕ = cond (is_some x.machine) churn 0 in
    let s1 : Span = wide_arc hub (leaving + away remote x.preferred) p in
    let s2 : Span = stay_arc (target x).home (is_some x.machine) p in
    let s3 : Span = wait_arc (target x).owner ((target x).delay + leaving) p in
    let ss : List Span = preferred_spans p.node leaving (target x).preferred p.arcs.preferred in
    omega (
      arith,
      four-sum (end_weight w) s1 s2 s3 ss more,
      preferred-weight w p.node leaving (target x).preferred p.arcs.preferred own (t x).preferred,
      tasks-weight w hub churn remote target ts ps a t rest,
      (t x).home,
      (t x).owner,
    )

pub ends-free : (w : NodeId → ℕ) (g : Graph) → sum_by w (graph_nodes g) ≡ 0 → sum_by (end_weight w) (graph_spans g) ≡ 0
ends-free w g none =
    let parts = nodes-total w g in
    let hub : w g.hub ≡ 0 = omega (arith, none, parts) in
    let sink : w g.sink ≡ 0 = omega (arith, none, parts) in
    let machines : sum_by (λ p. w p.node) g.machines ≡ 0 = omega (arith, none, parts) in
    let jobs : sum_by (λ p. w p.node) g.jobs ≡ 0 = omega (arith, none, parts) in
    let tasks : sum_by (λ p. w p.node) g.tasks ≡ 0 = omega (arith, none, parts) in
    let machines_free : sum_by w (machine_nodes g) ≡ 0 = omega
    (arith, machines, sum-map w (λ (p : MachineParts). p.node) g.machines) in
    let targets : (t : Task) → IsLight w (target_of g t) =
    λ t. record {
      home = omega (arith, home-weight w (machine_names g.rows) (machine_nodes g) g.hub t.machine);
      owner = omega (
        arith,
        under-weight w (job_names g.rows) (job_nodes g) g.hub t.job,
        sum-map w (λ (p : JobParts). p.node) g.jobs,
      );
      preferred = under-none w (machine_names g.rows) (machine_nodes g) g.hub t.preferred hub machines_free;
    } in
    omega (
      arith,
      spans-total (end_weight w) g,
      machines-weight w g.hub g.sink g.rows.limits.spread g.rows.machines g.machines hub sink machines,
      jobs-weight w g.sink g.rows.limits.nodes g.rows.jobs g.jobs sink jobs,
      tasks-weight w g.hub g.rows.limits.churn g.rows.limits.remote (target_of g) g.rows.tasks g.tasks hub targets
          tasks,
    )

-- a net whose arcs have no end at a node lists none there
listed-weight : (net : Net) (a : ArcId) (row : Row) (w : Span → ℕ) → IsNet net → row_at net a ≡ Some row
    → w (span_of a row) ≤ sum_by w (spans_of net)
listed-weight net a row w sound there =
    omega (
      arith,
      spans-sum w net,
      sum-without (span_weight w) net.arcs a.id.place a.id.stamp row (row-below net a row there)
          (find-held net.arcs a.id row there),
    )

none-or-some : (xs : List ArcId) → (xs ≡ []) ⊎ ((a : ArcId) × Contains xs a)
none-or-some [] = inl refl
none-or-some (a ∷ xs) = inr (a, (0, omega arith, refl))

end-heavy : (n : NodeId) (side : Side) (row : Row) (a : ArcId) → end_of side row ≡ n
    → 0 < end_weight (is_node n) (span_of a row)
end-heavy n Out row a e =
    let own : is_node n row.tail ≡ ones true = ap (is_node n) e ∙ ap ones (same_id-refl n.id) in
    omega (arith, own)
end-heavy n In row a e =
    let own : is_node n row.head ≡ ones true = ap (is_node n) e ∙ ap ones (same_id-refl n.id) in
    omega (arith, own)

no-list : (net : Net) (n : NodeId) (side : Side) → IsNet net → IsListed side net
    → sum_by (end_weight (is_node n)) (spans_of net) ≡ 0 → arcs_on side net n ≡ []
no-list net n side sound listed none =
    elim (none-or-some (arcs_on side net n)) [
      | inl empty ↦ empty
      | inr some ↦
          let at = listed.arcs n some.0 some.1 in
          let heavy = end-heavy n side at.0 some.0 at.2 in
          absurd (omega (arith, none, heavy, listed-weight net some.0 at.0 (end_weight (is_node n)) sound at.1))
    ]

-- once the arcs of a node that leaves are removed, it has none: those that are left lead between the others
pub record IsFree (net : Net) (n : NodeId) : Type 0 where
  pub there : IsNode net n
  pub out : out_list net n ≡ []
  pub into : in_list net n ≡ []

pub free : (base now : Net) (n : NodeId) (ns : List NodeId) (g : Graph) → Holds base now ns (graph_spans g)
    → ((w : NodeId → ℕ) → sum_by w ns ≡ w n + sum_by w (graph_nodes g)) → Contains ns n → IsFree now n
free base now n ns g h parts listed =
    let own : is_node n n ≡ ones true = ap ones (same_id-refl n.id) in
    let others : sum_by (is_node n) (graph_nodes g) ≡ 0 = omega
    (arith, node-once now ns n h.nodes, parts (is_node n), own) in
    let none : sum_by (end_weight (is_node n)) (spans_of now) ≡ 0 = h.spans.weighs (end_weight (is_node n)) ∙ ends-free
    (is_node n) g others in
    record {
      there = node-there now ns n h.nodes listed;
      out = no-list now n Out h.net h.net.outgoing none;
      into = no-list now n In h.net h.net.incoming none;
    }

-- what one pair weighs in two lists of one length
pub flat_sum-remove : {A B C : Type 0} (w : C → ℕ) (f : A → B → List C) (xs : List A) (ys : List B) (i : ℕ) (d : A)
    (e : B) → i < length xs → length ys ≡ length xs
    → sum_by w (flat_zip f (remove xs i) (remove ys i)) + sum_by w (f (get_or xs i d) (get_or ys i e)) ≡ sum_by w
    (flat_zip f xs ys)
flat_sum-remove w f [] ys i d e below same = absurd (omega arith)
flat_sum-remove w f (x ∷ xs) [] i d e below same = absurd (omega arith)
flat_sum-remove w f (x ∷ xs) (y ∷ ys) zero d e below same = omega (arith, sum_by-append w (f x y) (flat_zip f xs ys))
flat_sum-remove {A} {B} {C} w f (x ∷ xs) (y ∷ ys) (suc i) d e below same =
    omega (arith, sum_by-append {X = C}, flat_sum-remove w f xs ys i d e (omega arith) (omega arith))

pub AllZip-remove : {A B : Type 0} (R : A → B → Type 0) (xs : List A) (ys : List B) (i : ℕ) → AllZip R xs ys
    → AllZip R (remove xs i) (remove ys i)
AllZip-remove R [] [] zero h = h
AllZip-remove R [] [] (suc i) h = h
AllZip-remove R [] (y ∷ ys) i h = absurd h
AllZip-remove R (x ∷ xs) [] i h = absurd h
AllZip-remove R (x ∷ xs) (y ∷ ys) zero h = h.1
AllZip-remove R (x ∷ xs) (y ∷ ys) (suc i) h = (h.0, AllZip-remove R xs ys i h.1)

pub AllZip-at : {A B : Type 0} (R : A → B → Type 0) (xs : List A) (ys : List B) (i : ℕ) (d : A) (e : B) → AllZip R xs ys
    → i < length ys → R (get_or xs i d) (get_or ys i e)
AllZip-at R [] [] i d e h below = absurd (omega arith)
AllZip-at R [] (y ∷ ys) i d e h below = absurd h
AllZip-at R (x ∷ xs) [] i d e h below = absurd h
AllZip-at R (x ∷ xs) (y ∷ ys) zero d e h below = h.0
AllZip-at R (x ∷ xs) (y ∷ ys) (suc i) d e h below = AllZip-at R xs ys i d e h.1 (omega arith)

-- the graph without the task at a place
abbrev pub task_dropped : Graph → Net → ℕ → Graph
task_dropped g net place =
    record g { rows = task_gone g.rows place; net = net; tasks = remove g.tasks place }

abbrev pub task_at : Graph → ℕ → Task
task_at g place = get_or g.rows.tasks place no_task

-- what it costs to take a task from its machine
abbrev pub leaving_of : Graph → ℕ → ℕ
leaving_of g place = cond (is_some (task_at g place).machine) g.rows.limits.churn 0

abbrev pub wide_of : Graph → ℕ → TaskParts → Span
wide_of g place parts =
    wide_arc g.hub (leaving_of g place + away g.rows.limits.remote (task_at g place).preferred) parts

abbrev pub stay_of : Graph → ℕ → TaskParts → Span
stay_of g place parts = stay_arc (target_of g (task_at g place)).home (is_some (task_at g place).machine) parts

abbrev pub wait_of : Graph → ℕ → TaskParts → Span
wait_of g place parts =
    let to : Target = target_of g (task_at g place) in
    wait_arc to.owner (to.delay + leaving_of g place) parts

abbrev pub preferred_of : Graph → ℕ → TaskParts → List Span
preferred_of g place parts =
    preferred_spans parts.node (leaving_of g place) (target_of g (task_at g place)).preferred parts.arcs.preferred

-- a task's arcs, one by one
pub task-sum : (g : Graph) (w : Span → ℕ) (place : ℕ) (parts : TaskParts)
    → sum_by w (task_spans g.hub g.rows.limits.churn g.rows.limits.remote (target_of g) (task_at g place) parts)
    ≡ w (wide_of g place parts) + (w (stay_of g place parts) + (w (wait_of g place parts) + sum_by w
    (preferred_of g place parts)))
task-sum g w place parts =
    omega (arith, sum_by-cons {X = Span})

pub task-start : (g : Graph) (net : Net) (place : ℕ) (parts : TaskParts) → Mirrors g → place < length g.tasks
    → parts ≡ get_or g.tasks place parts
    → Holds g.net g.net (graph_nodes g) (wide_of g place parts ∷ stay_of g place parts ∷ wait_of g place parts ∷
    preferred_of g place parts ++ graph_spans (task_dropped g net place))
task-start g net place parts is below at =
    let f = task_spans g.hub g.rows.limits.churn g.rows.limits.remote (target_of g) in
    let rest : List Span = graph_spans (task_dropped g net place) in
    let s1 : Span = wide_of g place parts in
    let s2 : Span = stay_of g place parts in
    let s3 : Span = wait_of g place parts in
    let ss : List Span = preferred_of g place parts in
    let here : place < length g.rows.tasks = omega (arith, below, is.tasks) in
    holds-start g is (s1 ∷ s2 ∷ s3 ∷ ss ++ rest)
    (record {
      weighs = λ w. omega (
        arith,
        four-sum w s1 s2 s3 ss rest,
        task-sum g w place parts,
        spans-total w g,
        spans-total w (task_dropped g net place),
        flat_sum-remove w f g.rows.tasks g.tasks place no_task parts here is.tasks,
        ap (λ (p : TaskParts). sum_by w (f (task_at g place) p)) at,
      );
    })

pub task-nodes : (g : Graph) (net : Net) (place : ℕ) (parts : TaskParts) → place < length g.tasks
    → parts ≡ get_or g.tasks place parts
    → (w : NodeId → ℕ) → sum_by w (graph_nodes g) ≡ w parts.node + sum_by w (graph_nodes (task_dropped g net place))
task-nodes g net place parts below at w =
    omega (
      arith,
      nodes-total w g,
      nodes-total w (task_dropped g net place),
      sum_by-remove (λ (p : TaskParts). w p.node) g.tasks place parts below,
      ap (λ (p : TaskParts). w p.node) at,
    )

pub task-dropped : (g : Graph) (before after : Net) (place : ℕ) (parts : TaskParts) → Mirrors g
    → place < length g.tasks → parts ≡ get_or g.tasks place parts
    → Holds g.net before (graph_nodes g) (graph_spans (task_dropped g after place))
    → IsEdit before after (parts.node ∷ []) [] [] []
    → Mirrors (task_dropped g after place)
task-dropped g before after place parts is below at h edit =
    let here : place < length g.rows.tasks = omega (arith, below, is.tasks) in
    shrunk g (task_dropped g after place) before parts.node is h edit (task-nodes g after place parts below at)
    refl refl
    (record {
      slots = is.slots;
      preferred = AllZip-remove (λ (t : Task) (p : TaskParts). length p.arcs.preferred ≡ length t.preferred)
          g.rows.tasks g.tasks place is.preferred;
      machines = is.machines;
      jobs = is.jobs;
      tasks = omega (arith, is.tasks, length-remove g.tasks place below, length-remove g.rows.tasks place here);
    })

-- the node of a task is among the graph's
pub task-listed : (g : Graph) (place : ℕ) (parts : TaskParts) → place < length g.tasks
    → parts ≡ get_or g.tasks place parts → Contains (graph_nodes g) parts.node
task-listed g place parts below at =
    Contains-append_right (g.hub ∷ g.sink ∷ machine_nodes g) (job_nodes g ++ task_nodes g) parts.node
    (Contains-append_right (job_nodes g) (task_nodes g) parts.node
    (contains-mapped (λ (p : TaskParts). p.node) g.tasks parts (place, below, sym at)))

-- what an edit leaves of a net that holds a task's arcs to the machines that it prefers
abbrev pub LeavesRest : Net → Net → List ArcId → Type 0
LeavesRest old new arcs = (ns : List NodeId) (ss : List Span) (node : NodeId) (cost : ℕ) (heads : List NodeId)
    → length heads ≡ length arcs → Holds old old ns (preferred_spans node cost heads arcs ++ ss) → Holds old new ns ss

-- a task has an arc for each machine that it prefers
pub preferred-paired : (g : Graph) (place : ℕ) (parts : TaskParts) → Mirrors g → place < length g.tasks
    → parts ≡ get_or g.tasks place parts
    → length parts.arcs.preferred ≡ length (task_at g place).preferred
preferred-paired g place parts is below at =
    let R : Task → TaskParts → Type 0 = λ (t : Task) (p : TaskParts). length p.arcs.preferred ≡ length t.preferred in
    ap (λ (p : TaskParts). length p.arcs.preferred) at
    ∙ AllZip-at R g.rows.tasks g.tasks place no_task parts is.preferred below

pub heads-counted : (g : Graph) (place : ℕ) (parts : TaskParts) → Mirrors g → place < length g.tasks
    → parts ≡ get_or g.tasks place parts
    → length (target_of g (task_at g place)).preferred ≡ length parts.arcs.preferred
heads-counted g place parts is below at =
    length-map (task_at g place).preferred (node_under (machine_names g.rows) (machine_nodes g) g.hub)
    ∙ sym (preferred-paired g place parts is below at)

-- what the net holds once the arcs of a task were removed
pub task-unlinked : (g : Graph) (n1 n2 n3 n4 : Net) (place : ℕ) (parts : TaskParts) → Mirrors g
    → place < length g.tasks → parts ≡ get_or g.tasks place parts
    → ((row : Row) → row_at g.net parts.arcs.wide ≡ Some row → IsEdit g.net n1 [] [] (span_of parts.arcs.wide row ∷ [])
    [])
    → ((row : Row) → row_at n1 parts.arcs.stay ≡ Some row → IsEdit n1 n2 [] [] (span_of parts.arcs.stay row ∷ []) [])
    → ((row : Row) → row_at n2 parts.arcs.wait ≡ Some row → IsEdit n2 n3 [] [] (span_of parts.arcs.wait row ∷ []) [])
    → LeavesRest n3 n4 parts.arcs.preferred
    → Holds g.net n4 (graph_nodes g) (graph_spans (task_dropped g g.net place))
task-unlinked g n1 n2 n3 n4 place parts is below at one two three four =
    let ns : List NodeId = graph_nodes g in
    let rest : List Span = graph_spans (task_dropped g g.net place) in
    let ss : List Span = preferred_of g place parts in
    let heads : List NodeId = (target_of g (task_at g place)).preferred in
    holds-through g.net n3 n4 ns (ss ++ rest) rest
    (holds-unlinked g.net n2 n3 ns (wait_of g place parts) (ss ++ rest)
    (holds-unlinked g.net n1 n2 ns (stay_of g place parts) (wait_of g place parts ∷ ss ++ rest)
    (holds-unlinked g.net g.net n1 ns (wide_of g place parts) (stay_of g place parts ∷ wait_of g place parts ∷ ss ++
    rest) (task-start g g.net place parts is below at) one) two) three)
    (four ns rest parts.node (leaving_of g place) heads (heads-counted g place parts is below at))

pub task-free : (g : Graph) (now : Net) (place : ℕ) (parts : TaskParts) → place < length g.tasks
    → parts ≡ get_or g.tasks place parts
    → Holds g.net now (graph_nodes g) (graph_spans (task_dropped g g.net place)) → IsFree now parts.node
task-free g now place parts below at h =
    free g.net now parts.node (graph_nodes g) (task_dropped g g.net place) h (task-nodes g g.net place parts below at)
    (task-listed g place parts below at)

-- a step of the loop that removes the arcs of slots
pub slots-step : (base old new : Net) (ns : List NodeId) (ss : List Span) (node sink : NodeId) (spread i : ℕ)
    (slots : List ArcId) (d : ArcId) → i < length slots
    → Holds base old ns (slot_spans node sink spread i (drop i slots) ++ ss)
    → ((row : Row) → row_at old (get_or slots i d) ≡ Some row → IsEdit old new [] []
    (span_of (get_or slots i d) row ∷ []) [])
    → Holds base new ns (slot_spans node sink spread (i + 1) (drop (i + 1) slots) ++ ss)
slots-step base old new ns ss node sink spread i slots d below h edits =
    let s : Span = record { arc = get_or slots i d; tail = node; head = sink; cap = 1; cost = slot_cost spread i } in
    let front : drop i slots ≡ get_or slots i d ∷ drop (suc i) slots = drop-cons slots i d below in
    let next : suc i ≡ i + 1 = omega arith in
    let was : Holds base old ns (s ∷ slot_spans node sink spread (i + 1) (drop (i + 1) slots) ++ ss) =
    subst (λ (k : ℕ). Holds base old ns (s ∷ slot_spans node sink spread (i + 1) (drop k slots) ++ ss)) next
    (subst (λ (l : List ArcId). Holds base old ns (slot_spans node sink spread i l ++ ss)) front h) in
    holds-unlinked base old new ns s (slot_spans node sink spread (i + 1) (drop (i + 1) slots) ++ ss) was edits

pub slots-end : (base now : Net) (ns : List NodeId) (ss : List Span) (node sink : NodeId) (spread i : ℕ)
    (slots : List ArcId) → length slots ≤ i
    → Holds base now ns (slot_spans node sink spread i (drop i slots) ++ ss) → Holds base now ns ss
slots-end base now ns ss node sink spread i slots all h =
    subst (λ (l : List ArcId). Holds base now ns (slot_spans node sink spread i l ++ ss)) (drop_all i slots all) h
