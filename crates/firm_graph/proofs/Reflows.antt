-- What a graph is once its net carries another flow.
use Rattle.std.proofs.Common.{◌≡◌, ℕ, Bool, true, false, Option, Some, None, List, [], ◌∷◌, map, length, arith, refl}
use Rattle.std.proofs.Common.{sym, ap, ap₂, ◌∙◌}
use Rattle.std.specs.List.{sum_by}
use Rattle.std.proofs.lemmas.List.{length-map}
use Rattle.std.proofs.Math.Seq.{map-set_same}
use Rattle.firm_arena.specs.Arena.{held_at, capacity_of}
use Rattle.firm_net.specs.Row.{Row}
use Rattle.firm_net.specs.Net.{Net, IsNet, row_at, added_of, with_row, without_flow, slot_changed, with_numbers}
use Rattle.firm_net.specs.declared.row.ArcId.{ArcId}
use Rattle.firm_arena.specs.Changes.{find-held}
use Rattle.firm_net.specs.Edits.{Span, nodes_of, spans_of}
use Rattle.firm_graph.specs.Graph.{Graph, Mirrors, IsGraph}
use Rattle.firm_arena.specs.Sums.{sum-changed_all}
use Rattle.firm_net.specs.Laws.{spans-sum, span_weight}

abbrev pub cleared : Row → Row
cleared old = record old { low = 0; flow = 0 }

-- the arcs apart from their flow
cleared-spans : (w : Span → ℕ) (net : Net) → sum_by w (spans_of (without_flow net)) ≡ sum_by w (spans_of net)
cleared-spans w net =
    spans-sum w (without_flow net) ∙ sum-changed_all (span_weight w) net.arcs cleared (λ id x. refl) ∙ sym
    (spans-sum w net)

-- two nets that are the same without flow
pub reflowed : (g : Graph) (net : Net) → Mirrors g → IsNet net → without_flow net ≡ without_flow g.net
    → Mirrors (record g { net = net })
reflowed g net is sound same =
    let old_room : length (map (slot_changed cleared) g.net.arcs.held) ≡ length g.net.arcs.held = length-map
    g.net.arcs.held (slot_changed cleared) in
    let new_room : length (map (slot_changed cleared) net.arcs.held) ≡ length net.arcs.held = length-map net.arcs.held
    (slot_changed cleared) in
    record {
      net = sound;
      nodes = record { weighs = λ w. ap (λ (n : Net). sum_by w (nodes_of n)) same ∙ is.nodes.weighs w };
      spans = record {
        weighs = λ w. sym (cleared-spans w net) ∙ ap (λ (n : Net). sum_by w (spans_of n)) same ∙
            cleared-spans w g.net ∙ is.spans.weighs w;
      };
      slots = is.slots;
      preferred = is.preferred;
      machines = is.machines;
      jobs = is.jobs;
      tasks = is.tasks;
      node_room = ap (λ (n : Net). capacity_of n.nodes) same ∙ is.node_room;
      arc_room = sym new_room ∙ ap (λ (n : Net). capacity_of n.arcs) same ∙ old_room ∙ is.arc_room;
      added = omega (arith, ap added_of same, is.added);
      asked = is.asked;
    }

-- a change of one row's flow or lower bound
pub row-reflowed : (net : Net) (a : ArcId) (row : Row) (f : Row → Row) → row_at net a ≡ Some row
    → cleared (f row) ≡ cleared row
    → without_flow (with_row net a f) ≡ without_flow net
row-reflowed net a row f there e =
    let at : held_at net.arcs a.id.place ≡ Some (a.id.stamp, row) = find-held net.arcs a.id row there in
    let slot : slot_changed cleared (slot_changed f (held_at net.arcs a.id.place)) ≡ slot_changed cleared
    (held_at net.arcs a.id.place) =
    ap (λ (o : Option (ℕ × Row)). slot_changed cleared (slot_changed f o)) at
    ∙ ap (λ (r : Row). let o : Option (ℕ × Row) = Some (a.id.stamp, r) in o) e
    ∙ sym (ap (λ (o : Option (ℕ × Row)). slot_changed cleared o) at) in
    ap (λ (h : List (Option (ℕ × Row))). let n : Net = record
    { nodes = net.nodes; arcs = record { held = h; counter = net.arcs.counter } } in n)
    (map-set_same (slot_changed cleared) net.arcs.held a.id.place (slot_changed f (held_at net.arcs a.id.place)) None
    slot)

cleared-twice : (held : List (Option (ℕ × Row)))
    → map (slot_changed cleared) (map (slot_changed cleared) held) ≡ map (slot_changed cleared) held
cleared-twice [] = refl
cleared-twice (None ∷ held) = ap (λ (l : List (Option (ℕ × Row))). None ∷ l) (cleared-twice held)
cleared-twice (Some own ∷ held) =
    ap (λ (l : List (Option (ℕ × Row))). Some (own.0, cleared own.1) ∷ l) (cleared-twice held)

pub clear-same : (old new : Net) → new ≡ without_flow old → without_flow new ≡ without_flow old
clear-same old new is =
    ap without_flow is
    ∙ ap (λ (h : List (Option (ℕ × Row))). let n : Net = record
    { nodes = old.nodes; arcs = record { held = h; counter = old.arcs.counter } } in n) (cleared-twice old.arcs.held)

pub set-same : (old new : Net) (a : ArcId) (row : Row) (low cap cost flow : ℕ) (done : Bool) → Some row ≡ row_at old a
    → cap ≡ row.cap → cost ≡ row.cost
    → (done ≡ true → new ≡ with_row old a (with_numbers low cap cost flow)) → (done ≡ false → new ≡ old)
    → without_flow new ≡ without_flow old
set-same old new a row low cap cost flow true there cap_is cost_is sets stays =
    ap without_flow (sets refl)
    ∙ row-reflowed old a row (with_numbers low cap cost flow) (sym there)
    (ap₂ (λ (c d : ℕ). let r : Row = record { tail = row.tail; head = row.head; low = 0; cap = c; cost = d; flow = 0 }
    in r) cap_is cost_is)
set-same old new a row low cap cost flow false there cap_is cost_is sets stays = ap without_flow (stays refl)

-- a graph over another flow is one
pub reflowed_graph : (g : Graph) (net : Net) → IsGraph g → IsNet net → without_flow net ≡ without_flow g.net
    → IsGraph (record g { net = net })
reflowed_graph g net is sound same = record { sound = is.sound; mirrors = reflowed g net is.mirrors sound same }
