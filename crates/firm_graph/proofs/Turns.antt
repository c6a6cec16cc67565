-- What a net holds once the arcs of a task were changed.
use Rattle.std.proofs.Common.{◌≡◌, ◌≢◌, ℕ, ◌+◌, ◌<◌, Bool, true, false, Option, Some, None, is_some, List, [], ◌∷◌}
use Rattle.std.proofs.Common.{map, length, get_or, bytes_eq, arith, refl, sym, ap, ◌∙◌, subst}
use Rattle.std.specs.List.{All, IsDistinct}
use Rattle.std.proofs.lemmas.List.{get_or-map, length-map}
use Rattle.std.proofs.lemmas.List.Sums.{position_or_len_is}
use Rattle.std.proofs.lemmas.Map.Keys.{apart_from_distinct}
use Rattle.std.proofs.lemmas.Slice.Eq.{bytes_eq-Decides}
use Rattle.firm_net.specs.Row.{Row}
use Rattle.firm_net.specs.Net.{Net, IsNode, row_at}
use Rattle.firm_net.specs.declared.row.NodeId.{NodeId}
use Rattle.firm_rules.specs.Book.{TenantRows, machine_names, is_on}
use Rattle.firm_rules.specs.Placement.{Case, Demand, task_at as demand_at, home_choice, IsPlace, stays}
use Rattle.firm_rules.specs.Round.{case_of, demand_of, machine_place, task_after}
use Rattle.firm_rules.specs.SoundBook.{AreInForm}
use Rattle.firm_rules.specs.declared.book.Task.{Task}
use Rattle.firm_rules.specs.declared.book.Machine.{Machine}
use Rattle.firm_rules.specs.declared.rounds.Choice.{Choice}
use Rattle.firm_rules.specs.declared.rounds.Choice.TheVariants.{On, Wait}
use Rattle.firm_net.specs.Edits.{Span}
use Rattle.firm_graph.specs.Parts.{MachineParts}
use Rattle.firm_graph.specs.declared.ids.TaskParts.{TaskParts}
use Rattle.firm_graph.specs.declared.ids.Stand.{Stand}
use Rattle.firm_graph.specs.Graph.{Graph, Mirrors, graph_nodes, home_node, node_under, machine_nodes}
use Rattle.firm_graph.specs.inner.Steps.{IsPlacing, Stands, Holds, moved, with_task_at, thrown_out, thrown_out_first}
use Rattle.firm_graph.specs.inner.Steps.{forgetting_rows, settled_first, no_task, task_at}
use Rattle.firm_graph.proofs.Lookups.{node_under-at}
use Rattle.firm_graph.proofs.Machines.{bytes_eq-swap}
use Rattle.firm_graph.proofs.Drops.{holds-row}
use Rattle.firm_graph.proofs.Places.{home-there, home-other}
use Rattle.firm_graph.proofs.Firsts.{first-read, forgotten-at, throw-yes, settle-step, settle-same, settled-same}

-- the home of a task is there, and is not the tail of the arc that is led to it
pub leads-home : (g : Graph) (place : ℕ) (parts : TaskParts) (home : Option (List ℕ)) (net : Net) (head : NodeId)
    (s : Span) (ss : List Span) → Mirrors g
    → place < length g.tasks → parts ≡ get_or g.tasks place parts
    → head ≡ home_node (machine_names g.rows) (machine_nodes g) g.hub home
    → s.tail ≡ parts.node → Holds g.net net (graph_nodes g) (s ∷ ss) → (row : Row) → row_at net s.arc ≡ Some row
    → IsNode net head × (row.tail ≢ head)
leads-home g place parts home net head s ss is below at head_is tail_is h row there =
    let r = holds-row g.net net (graph_nodes g) s ss h in
    let same : Some r.row ≡ Some row = sym r.there ∙ there in
    let own : r.row ≡ row = cc in
    let tail : row.tail ≡ parts.node =
    sym (ap (λ (x : Row). x.tail) own) ∙ ap (λ (t : Span). t.tail) r.is ∙ tail_is in (
      subst (λ (n : NodeId). IsNode net n) (sym head_is) (home-there g net home h.nodes),
      λ e. home-other g place parts home is below at (sym tail ∙ e ∙ head_is),
    )

-- the step of a loop that throws a task out
pub evict-next : (g : Graph) (rows : TenantRows) (name : List ℕ) (place : ℕ) (parts : TaskParts) (stand : Stand)
    (before after : Net)
    → g.rows ≡ forgetting_rows rows name → g.hub ≡ stand.node → stand.runs ≡ false → stand.waited ≡ 0
    → place < length rows.tasks → place < length g.tasks
    → parts ≡ get_or g.tasks place parts → is_on name (task_at rows place).machine ≡ true
    → Mirrors (moved g (thrown_out_first g.rows name place) before)
    → ((h : Graph) (home : Option (List ℕ)) → IsPlacing h before rows parts place stand home → Mirrors
    (moved h (with_task_at h.rows place home stand.waited) after))
    → Mirrors (moved g (thrown_out_first g.rows name (place + 1)) after)
evict-next g rows name place parts stand before after rows_is hub_is runs_is waited_is here below at on mirrors step =
    let old : Graph = moved g (thrown_out_first g.rows name place) before in
    let h = forgotten-at g.rows rows name place rows_is here in
    let read : task_at old.rows place ≡ task_at g.rows place = first-read (λ (_ : ℕ). thrown_out name) 0 place
    g.rows.tasks no_task in
    let made = step old None (record {
      mirrors = mirrors;
      over = refl;
      below = below;
      its_parts = at;
      its_job = ap (λ (t : Task). t.job) read ∙ h.job_is;
      jobs = h.jobs;
      limits = h.limits;
      node = sym hub_is;
      runs = runs_is;
    }) in
    let zero_waited : Mirrors (moved g (with_task_at (thrown_out_first g.rows name place) place None 0) after) =
    subst (λ (n : ℕ). Mirrors (moved g (with_task_at (thrown_out_first g.rows name place) place None n) after))
    waited_is
    made in
    subst (λ (r : TenantRows). Mirrors (moved g r after))
    (throw-yes g.rows name place h.below (h.machine_is name ∙ on))
    zero_waited

-- the step of a loop that settles a task
pub settle-next : (g : Graph) (rows : TenantRows) (machines : List MachineParts) (hub : NodeId) (choices : List Choice)
    (place : ℕ) (choice : Choice) (parts : TaskParts) (stand : Stand) (before after : Net)
    → g.rows ≡ rows → g.machines ≡ machines → g.hub ≡ hub → place < length rows.tasks → place < length g.tasks
    → parts ≡ get_or g.tasks place parts → get_or choices place Wait ≡ choice
    → Stands rows (map (λ p. p.node) machines) hub (task_at rows place) choice stand
    → Mirrors (moved g (settled_first g.rows choices place) before)
    → ((h : Graph) (home : Option (List ℕ)) → IsPlacing h before rows parts place stand home
    → task_at h.rows place ≡ task_at rows place → Mirrors (moved h (with_task_at h.rows place home stand.waited) after))
    → Mirrors (moved g (settled_first g.rows choices (place + 1)) after)
settle-next g rows machines hub choices place choice parts stand before after rows_is machines_is hub_is here below at
    choice_is stands mirrors step =
    let old : Graph = moved g (settled_first g.rows choices place) before in
    let there : place < length g.rows.tasks = omega (arith, here, ap (λ (r : TenantRows). length r.tasks) rows_is) in
    let S : TenantRows → List MachineParts → NodeId → Type 0 =
    λ (r : TenantRows) (m : List MachineParts) (n : NodeId). Stands r (map (λ (p : MachineParts). p.node) m) n
    (task_at r place) choice stand in
    let its : S g.rows g.machines g.hub =
    subst (λ (r : TenantRows). S r g.machines g.hub) (sym rows_is)
    (subst (λ (m : List MachineParts). S rows m g.hub) (sym machines_is)
    (subst (λ (n : NodeId). S rows machines n) (sym hub_is) stands)) in
    let home : Option (List ℕ) = (task_after g.rows (task_at g.rows place) choice).machine in
    let read : task_at old.rows place ≡ task_at rows place =
    first-read (λ (i : ℕ) (t : Task). task_after g.rows t (get_or choices i Wait)) 0 place g.rows.tasks no_task ∙ ap
    (λ (r : TenantRows). task_at r place) rows_is in
    let made = step old home (record {
      mirrors = mirrors;
      over = refl;
      below = below;
      its_parts = at;
      its_job = ap (λ (t : Task). t.job) read;
      jobs = ap (λ (r : TenantRows). r.jobs) rows_is;
      limits = ap (λ (r : TenantRows). r.limits) rows_is;
      node = its.node;
      runs = its.runs;
    }) read in
    subst (λ (r : TenantRows). Mirrors (moved g r after))
    (settle-step g.rows choices place choice home stand.waited there choice_is refl its.waited) made

-- where a task runs, as a round has it
home-at : (rows : TenantRows) (case : Case) (place : ℕ) → case ≡ case_of rows → place < length rows.tasks
    → (demand_at case place).home ≡ machine_place rows (task_at rows place).machine
home-at rows case place is below =
    let none : Demand = record { home = None; preferred = []; delay = 0; job = 0 } in
    ap (λ (k : Case). (demand_at k place).home) is
    ∙ ap (λ (d : Demand). d.home) (get_or-map (demand_of rows) rows.tasks place no_task none below)

-- the step of a loop that passes by a task that stays where it runs
pub stay-next : (g : Graph) (rows : TenantRows) (case : Case) (choices : List Choice) (place : ℕ) (choice : Choice)
    (net : Net) → g.rows ≡ rows → case ≡ case_of rows → AreInForm rows → All (IsPlace (length rows.machines)) choices
    → length choices ≡ length rows.tasks → place < length rows.tasks → get_or choices place Wait ≡ choice
    → stays (demand_at case place).home choice ≡ true → Mirrors (moved g (settled_first g.rows choices place) net)
    → Mirrors (moved g (settled_first g.rows choices (place + 1)) net)
stay-next g rows case choices place choice net rows_is case_is form places each here choice_is on mirrors =
    let task : Task = task_at rows place in
    let there : IsPlace (length rows.machines) choice =
    subst (IsPlace (length rows.machines)) choice_is (places place Wait (omega (arith, here, each))) in
    let home : stays (machine_place rows task.machine) choice ≡ true =
    ap (λ (o : Option ℕ). stays o choice) (sym (home-at rows case place case_is here)) ∙ on in
    let same : task_after rows task (get_or choices place Wait) ≡ task =
    ap (task_after rows task) choice_is
    ∙ settled-same rows task task.machine choice refl (form.running place no_task here) there home in
    let S : TenantRows → Type 0 =
    λ (r : TenantRows). settled_first r choices place ≡ settled_first r choices (place + 1) in
    subst (λ (r : TenantRows). Mirrors (moved g r net))
    (subst S (sym rows_is) (sym (settle-same rows choices place here same))) mirrors

-- whether a choice is a machine
abbrev pub is_machine : Choice → Bool
is_machine (On j) = true
is_machine Wait = false

-- a task runs whose home, as a choice, is a machine
pub runs-home : (rows : TenantRows) (case : Case) (place : ℕ) (home choice : Choice) → case ≡ case_of rows
    → place < length rows.tasks → home ≡ home_choice (demand_at case place).home → home ≡ choice
    → is_machine choice ≡ is_some (task_at rows place).machine
runs-home rows case place home choice is below home_is choice_is =
    ap is_machine (sym choice_is ∙ home_is ∙ ap home_choice (home-at rows case place is below))
    ∙ same rows (task_at rows place).machine
  where
    same : (rows : TenantRows) (machine : Option (List ℕ))
        → is_machine (home_choice (machine_place rows machine)) ≡ is_some machine
    same rows None = refl
    same rows (Some name) = refl

-- where names differ, the name at a place is looked up at that place
pub node_under-own : (names : List (List ℕ)) (nodes : List NodeId) (other : NodeId) (place : ℕ)
    → IsDistinct bytes_eq names → length nodes ≡ length names
    → place < length names → node_under names nodes other (get_or names place []) ≡ get_or nodes place other
node_under-own names nodes other place d e below =
    let name : List ℕ = get_or names place [] in
    node_under-at names nodes other name e
    ∙ ap (λ (k : ℕ). get_or nodes k other)
    (position_or_len_is (bytes_eq name) names place [] (omega (arith, below))
    (λ k before. bytes_eq-swap (get_or names k []) name (apart_from_distinct bytes_eq names k place [] d before below))
    (λ _. (bytes_eq-Decides name name).1 refl))

-- the node of the machine at a place, by its name
pub stand-node : (rows : TenantRows) (machines : List MachineParts) (hub node : NodeId) (place : ℕ)
    (read : MachineParts) → IsDistinct bytes_eq (machine_names rows)
    → length machines ≡ length rows.machines → place < length rows.machines → read ≡ get_or machines place read
    → node ≡ read.node
    → node ≡ node_under (machine_names rows) (map (λ p. p.node) machines) hub (get_or (machine_names rows) place [])
stand-node rows machines hub node place read differ lengths below at is =
    let names : length (machine_names rows) ≡ length rows.machines = length-map rows.machines (λ (m : Machine). m.name)
    in
    let nodes : length (map (λ (p : MachineParts). p.node) machines) ≡ length machines = length-map machines
    (λ (p : MachineParts). p.node) in
    is ∙ ap (λ (p : MachineParts). p.node) at
    ∙ sym (get_or-map (λ (p : MachineParts). p.node) machines place read hub (omega (arith, below, lengths)))
    ∙ sym (node_under-own (machine_names rows) (map (λ (p : MachineParts). p.node) machines) hub place differ
    (omega (arith, nodes, lengths, names)) (omega (arith, below, names)))
