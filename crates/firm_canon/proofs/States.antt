-- Steps of the choice, one after another.
use Rattle.std.proofs.Common.{◌≡◌, ℕ, ◌+◌, ◌<◌, ◌≤◌, Bool, List, length, arith, refl, sym, ap, subst, false, true}
use Rattle.std.proofs.Common.{◌∙◌}
use Rattle.std.proofs.lemmas.Bool.{false≢true}
use Rattle.firm_net.specs.declared.row.ArcId.{ArcId}
use Rattle.firm_rules.specs.declared.rounds.Choice.{Choice}
use Rattle.firm_rules.specs.ArenaUse.{arena_arcs}
use Rattle.firm_rules.specs.Book.{TenantRows}
use Rattle.firm_rules.specs.Placement.{Case}
use Rattle.firm_paths.specs.PriceTable.{PriceTable, price_of}
use Rattle.firm_paths.specs.Workspace.{Workspace, HasSearched}
use Rattle.firm_graph.specs.Graph.{Graph}
use Rattle.firm_graph.specs.Ids.{view_of}
use Rattle.firm_graph.specs.Network.{demand}
use Rattle.firm_graph.specs.View.{View, Shows, flows}
use Rattle.firm_graph.specs.declared.network.Key.TheVariants.{Through, Wide}
use Rattle.firm_canon.specs.inner.Graphs.{IsSameGraph}
use Rattle.firm_canon.specs.inner.Turns.{Turned}
use Rattle.firm_canon.specs.inner.Choosing.{Keeps, IsSpent, best}
use Rattle.firm_canon.specs.inner.State.{GoesOn, HasWaysBack, IsReady, IsReadyFor, IsUnchanged, left, prefix, price}
use Rattle.firm_canon.specs.inner.State.{view}
use Rattle.firm_canon.specs.declared.choosing.Choosing.{Choosing}
use Rattle.firm_canon.specs.declared.reads.Wishes.{Wishes}
use Rattle.firm_canon.proofs.Tries.{turned_keeps}
use Rattle.firm_canon.proofs.Counts.{made_both, nothing_made}
use Rattle.firm_canon.proofs.Graphs.{same_self, same_on, same_rows}

-- ONE STEP AND THEN ANOTHER
pub goes_both : (old now new : Choosing) (first then most : ℕ) → GoesOn old now first → GoesOn now new then
    → first + then ≤ most → GoesOn old new most
goes_both old now new first then most one two fits = record {
  same = same_on old.graph.now now.graph.now new.graph.now one.same two.same;
  graph = two.graph ∙ one.graph;
  scratch = two.scratch ∙ one.scratch;
  prices = two.prices ∙ one.prices;
  chosen = two.chosen ∙ one.chosen;
  best = two.best ∙ one.best;
  made = one.made + two.made;
  few = omega (arith, one.few, two.few, fits);
  searched = made_both old.scratch.now now.scratch.now new.scratch.now one.made two.made
      (arena_arcs old.graph.now.rows) one.searched
      (subst (λ (rows : TenantRows). HasSearched now.scratch.now new.scratch.now two.made (arena_arcs rows))
      (same_rows old.graph.now now.graph.now one.same) two.searched);
  ready = two.ready;
}

pub goes_more : (old now new : Choosing) (most : ℕ) → GoesOn old now most → GoesOn now new 0 → GoesOn old new most
goes_more old now new most one two = goes_both old now new most 0 most one two (omega arith)

-- a bound on searches may be raised
pub goes_within : (old new : Choosing) (less most : ℕ) → GoesOn old new less → less ≤ most → GoesOn old new most
goes_within old new less most goes fits = record {
  same = goes.same;
  graph = goes.graph;
  scratch = goes.scratch;
  prices = goes.prices;
  chosen = goes.chosen;
  best = goes.best;
  made = goes.made;
  few = omega (arith, goes.few, fits);
  searched = goes.searched;
  ready = goes.ready;
}

-- the same, with another graph and scratch, before or after a search
abbrev pub moved : Choosing → Graph → Workspace → Bool → Choosing
moved s g w b = record s { graph = record s.graph { now = g }; scratch = record s.scratch { now = w }; searched = b }

-- SEARCHES, or none
pub goes_counted : (s : Choosing) (w : Workspace) (b : Bool) (spent made most : ℕ) → IsReady s
    → ((j : ℕ) → j < spent → IsSpent (view s).case (prefix s) (best (view s) (prefix s)) (Through j))
    → made + left (moved s s.graph.now w b) ≤ most + left s
    → HasSearched s.scratch.now w made (arena_arcs s.graph.now.rows)
    → GoesOn s (record (moved s s.graph.now w b) { spent = spent }) most
goes_counted s w b spent made most ready passed few searched = record {
  same = same_self s.graph.now;
  graph = refl;
  scratch = refl;
  prices = refl;
  chosen = refl;
  best = refl;
  made = made;
  few = few;
  searched = searched;
  ready = record {
    prices_fit = ready.prices_fit;
    scratch_fits = searched.limits ∙ ready.scratch_fits;
    keeps = ready.keeps;
    spent = passed;
  };
}

pub goes_still : (s : Choosing) → IsReady s → GoesOn s s 0
goes_still s ready =
    goes_counted s s.scratch.now s.searched s.spent 0 0 ready ready.spent (omega arith) (nothing_made s.scratch.now _)

-- where the scratch was borrowed, and is as it was
pub goes_rested : (s : Choosing) (w : Workspace) → IsReady s → w ≡ s.scratch.now
    → GoesOn s (moved s s.graph.now w s.searched) 0
goes_rested s w ready same =
    subst (λ (z : Workspace). GoesOn s (moved s s.graph.now z s.searched) 0) (sym same) (goes_still s ready)

pub ways_rested : (s : Choosing) (w : Workspace) (at_hub : Bool) → w ≡ s.scratch.now → HasWaysBack s at_hub
    → HasWaysBack (moved s s.graph.now w s.searched) at_hub
ways_rested s w at_hub same ways =
    subst (λ (z : Workspace). HasWaysBack (moved s s.graph.now z s.searched) at_hub) (sym same) ways

-- before the first search of a choice
pub unsearched : (s : Choosing) (at_hub : Bool) → s.searched ≡ false
    → (at_hub ≡ true → flows (view s) (Wide (length (prefix s))) ≡ 1) → HasWaysBack s at_hub
unsearched s at_hub none hub = record { ways = λ e. absurd (false≢true (sym none ∙ e)); hub = hub }

-- A TURN of the flow
pub goes_turned : (s : Choosing) (g : Graph) (w : Workspace) (arc : ArcId) → IsReady s → IsSameGraph s.graph.now g
    → Shows (view_of g) → w ≡ s.scratch.now → Turned s.graph.now.net g.net (price s) arc
    → GoesOn s (moved s g w s.searched) 0
goes_turned s g w arc ready same shows still turn =
    let kept : Keeps (view_of g) (price s) (prefix s) × (best (view_of g) (prefix s) ≡ best (view s) (prefix s)) =
    turned_keeps (view s) (view_of g) (price s) (prefix s) arc ready.keeps shows same.case turn in
    record {
      same = same;
      graph = refl;
      scratch = refl;
      prices = refl;
      chosen = refl;
      best = kept.1;
      made = 0;
      few = omega arith;
      searched = subst (λ (z : Workspace). HasSearched s.scratch.now z 0 (arena_arcs s.graph.now.rows)) (sym still)
          (nothing_made s.scratch.now _);
      ready = record {
        prices_fit = ready.prices_fit ∙ sym same.limits;
        scratch_fits = ap (λ (z : Workspace). z.limits) still ∙ (ready.scratch_fits ∙ sym same.limits);
        keeps = kept.0;
        spent = λ j l. subst (λ (c : Case). IsSpent c (prefix s) (best (view_of g) (prefix s)) (Through j))
            (sym same.case.case)
            (subst (λ (m : ℕ). IsSpent (view s).case (prefix s) m (Through j)) (sym kept.1) (ready.spent j l));
      };
    }

-- THE CHOICES SO FAR are what they were
pub kept_on : (F : List Choice → Type 0) (old new : Choosing) (most : ℕ) → GoesOn old new most
    → F (prefix old) → F (prefix new)
kept_on F old new most goes h = subst F (sym (ap (λ z. z.now.items) goes.chosen)) h

pub kept_back : (F : List Choice → Type 0) (old new : Choosing) (most : ℕ) → GoesOn old new most
    → F (prefix new) → F (prefix old)
kept_back F old new most goes h = subst F (ap (λ z. z.now.items) goes.chosen) h

-- and so is the case
pub case_on : (F : Case → List Choice → Type 0) (old new : Choosing) (most : ℕ) → GoesOn old new most
    → F (view old).case (prefix old) → F (view new).case (prefix new)
case_on F old new most goes h =
    kept_on (F (view new).case) old new most goes
    (subst (λ (c : Case). F c (prefix old)) (sym goes.same.case.case) h)

pub ready_on : (old new : Choosing) (most : ℕ) (wishes : Wishes) → GoesOn old new most → IsReadyFor old wishes
    → IsReadyFor new wishes
ready_on old new most wishes goes ready = record {
  ready = goes.ready;
  next = case_on (λ c b. length b < length c.tasks) old new most goes ready.next;
  home = case_on (λ c b. wishes.home ≡ (demand c (length b)).home) old new most goes ready.home;
  places = case_on (λ c b. wishes.places.items ≡ (demand c (length b)).preferred) old new most goes ready.places;
}

-- WHERE NO UNIT WAS SENT
abbrev Core : Type 0
Core = Graph × PriceTable × List Choice

abbrev core : Choosing → Core
core s = (s.graph.now, s.prices.now, prefix s)

still : (old new : Choosing) (most : ℕ) → GoesOn old new most → IsUnchanged old new → core new ≡ core old
still old new most goes same =
    ap (λ (g : Graph). let z : Core = (g, new.prices.now, prefix new) in z) same
    ∙ (ap (λ (t : PriceTable). let z : Core = (old.graph.now, t, prefix new) in z) (ap (λ z. z.now) goes.prices)
    ∙ ap (λ (b : List Choice). let z : Core = (old.graph.now, old.prices.now, b) in z)
    (ap (λ z. z.now.items) goes.chosen))

pub still_on : (F : View → (ℕ → ℕ) → List Choice → Type 0) (old new : Choosing) (most : ℕ) → GoesOn old new most
    → IsUnchanged old new → F (view old) (price old) (prefix old) → F (view new) (price new) (prefix new)
still_on F old new most goes same h =
    subst (λ (z : Core). F (view_of z.0) (price_of z.1) z.2) (sym (still old new most goes same)) h

pub still_back : (F : View → (ℕ → ℕ) → List Choice → Type 0) (old new : Choosing) (most : ℕ) → GoesOn old new most
    → IsUnchanged old new → F (view new) (price new) (prefix new) → F (view old) (price old) (prefix old)
still_back F old new most goes same h =
    subst (λ (z : Core). F (view_of z.0) (price_of z.1) z.2) (still old new most goes same) h
