-- The choices left for the next task: those that each refusal of the search rules out.
use Rattle.std.proofs.Common.{◌≡◌, ℕ, suc, ◌<◌, ◌≤◌, Bool, true, false, cond, List, length, arith, refl}
use Rattle.std.proofs.Common.{sym, ap, ◌∙◌, ◌⊎◌, Option}
use Rattle.firm_rules.specs.declared.rounds.Choice.{Choice}
use Rattle.firm_rules.specs.declared.rounds.Choice.TheVariants.{On, Wait}
use Rattle.firm_paths.specs.Network.{Arc}
use Rattle.firm_rules.specs.Placement.{Case, total, rank, runs_at, IsPlace}
use Rattle.firm_graph.specs.declared.network.Node.{Node}
use Rattle.firm_graph.specs.declared.network.Key.{Key}
use Rattle.firm_graph.specs.declared.network.Key.TheVariants.{Through, Wide}
use Rattle.firm_graph.specs.Network.{demand}
use Rattle.firm_canon.proofs.Totals.{total-le, total_tight}
use Rattle.firm_canon.specs.inner.Placed.{wide, wide_at, guests}
use Rattle.firm_canon.proofs.Placed.{guests_in_all}
use Rattle.firm_canon.proofs.Parts.{parts}
use Rattle.firm_canon.proofs.Read.{hub_passes}
use Rattle.firm_canon.specs.inner.Choosing.{low_of, Stands}
use Rattle.firm_canon.proofs.First.{pick_past, wide_none}

waits-last : (own : Bool) (m o : ℕ) → o < m → suc m < cond own 0 (suc o) → ⊥
waits-last own m o l h = grind arith

own-or-before : (own other : Bool) (j o : ℕ) → cond other 0 (suc j) < cond own 0 (suc o)
    → (other ≡ true) ⊎ ((other ≡ false) × (j < o))
own-or-before own other j o h = grind arith

-- before `On o` rank the task's own machine and the machines that stand before; before `Wait` every machine
pub ranks_before_on : (m : ℕ) (home : Option ℕ) (o : ℕ) (b : Choice) → IsPlace m b → o < m
    → rank m home b < rank m home (On o)
    → (j : ℕ) × (b ≡ On j) × ((runs_at home j ≡ true) ⊎ ((runs_at home j ≡ false) × (j < o)))
ranks_before_on m home o Wait place l h = absurd (waits-last (runs_at home o) m o l h)
ranks_before_on m home o (On j) place l h = (j, refl, own-or-before (runs_at home o) (runs_at home j) j o h)

-- where the hub sends no machine more than the chosen guests, the next task does not come by the hub
pub no_guest : (c : Case) (p : List Choice) (x : Key → ℕ) (price : Node → ℕ) → Stands c p x price
    → length p < length c.tasks
    → ((j : ℕ) → j < length c.slots → x (Through j) ≤ guests c p j) → x (Wide (length p)) ≡ 0
no_guest c p x price stands l none =
    let m : ℕ = length c.slots in
    let t : ℕ = length c.tasks in
    let n : ℕ = length p in
    let bounds = parts (λ (a : Arc Node Key). (a.low ≤ a.flow) × (a.flow ≤ a.cap)) c (low_of c p) x stands.within in
    let fewer : total (λ j. x (Through j)) m ≤ total (guests c p) m =
    total-le (λ (j : ℕ). x (Through j)) (guests c p) m none in
    let tight : wide_at c p n ≡ x (Wide n) =
    total_tight (wide_at c p) (λ (i : ℕ). x (Wide i)) t (λ i h. (bounds.wides i h).0)
    (omega (arith, guests_in_all c p stands.places, hub_passes c (low_of c p) x stands.within stands.balanced)) n l in
    sym tight ∙ (ap (wide (demand c n)) (pick_past p) ∙ wide_none (demand c n))
