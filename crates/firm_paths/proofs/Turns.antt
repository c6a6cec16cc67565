-- The arcs of the nodes that had their turn in the order of the visits, counted.
use Rattle.std.proofs.Common.{◌≡◌, ℕ, zero, suc, ◌+◌, ◌*◌, ◌<◌, ◌≤◌, Bool, false, cond, eqb, List, length, arith}
use Rattle.std.proofs.Common.{refl, sym, ap, ◌∙◌, ⊎_elim}
use Rattle.std.specs.Prelude.{◌||◌}
use Rattle.std.specs.List.{count_by}
use Rattle.std.proofs.lemmas.Bool.{cases_eq, or_from, or_left, cond-true, cond-false, eq-eqb, ne_eqb}
use Rattle.std.proofs.lemmas.List.Sums.{count_by-le-length}
use Rattle.firm_net.specs.Net.{Net, IsNet, rows_of, arcs_on}
use Rattle.firm_net.specs.declared.links.Side.TheVariants.{Out, In}
use Rattle.firm_net.specs.declared.row.NodeId.{NodeId}
use Rattle.firm_net.specs.declared.row.ArcId.{ArcId}
use Rattle.firm_net.specs.declared.row.Way.{Way}
use Rattle.firm_net.specs.declared.row.Way.TheVariants.{Forward, Backward}
use Rattle.firm_paths.specs.Network.{Arc}
use Rattle.firm_paths.specs.NetArcs.{arcs_of}
use Rattle.firm_paths.specs.Visits.{visit}
use Rattle.firm_paths.specs.declared.search.Visit.{Visit}
use Rattle.firm_paths.proofs.Degrees.{start_place, degree, count_sum}

-- one of the first visits was to this place
abbrev pub turned : List Visit → ℕ → ℕ → Bool
turned vs zero v = false
turned vs (suc n) v = eqb (visit vs n).place v || turned vs n v

turned_not : (vs : List Visit) (n v : ℕ) → ((i : ℕ) → i < n → (visit vs i).place ≡ v → ⊥) → turned vs n v ≡ false
turned_not vs zero v h = refl
turned_not vs (suc n) v h =
    or_from (eqb (visit vs n).place v) (turned vs n v) (ne_eqb (visit vs n).place v (h n (omega arith)))
    (turned_not vs n v (λ i l. h i (omega (arith, l))))

turned_kept : (old new : List Visit) (n v : ℕ) → ((i : ℕ) → i < n → (visit new i).place ≡ (visit old i).place)
    → turned new n v ≡ turned old n v
turned_kept old new zero v h = refl
turned_kept old new (suc n) v h =
    ap (λ (p : ℕ). eqb p v || turned new n v) (h n (omega arith))
    ∙ ap (λ (b : Bool). eqb (visit old n).place v || b) (turned_kept old new n v (λ i l. h i (omega (arith, l))))

abbrev pub turned_from : Way → Net → List Visit → ℕ → ℕ
turned_from way net vs n = count_by (λ (a : Arc ℕ ArcId). turned vs n (start_place way a)) (arcs_of net)

turned_more : (way : Way) (net : Net) (old new : List Visit) (n u : ℕ) → (visit new n).place ≡ u
    → ((i : ℕ) → i < n → (visit old i).place ≡ u → ⊥)
    → ((i : ℕ) → i < n → (visit new i).place ≡ (visit old i).place)
    → turned_from way net old n + count_by (λ (a : Arc ℕ ArcId). eqb (start_place way a) u) (arcs_of net)
    ≤ turned_from way net new (suc n)
turned_more way net old new n u at apart same =
    count_sum (λ (a : Arc ℕ ArcId). turned old n (start_place way a)) (λ (a : Arc ℕ ArcId). eqb (start_place way a) u)
    (λ (a : Arc ℕ ArcId). turned new (suc n) (start_place way a)) (arcs_of net)
    (λ x. let v : ℕ = start_place way x in
    ⊎_elim
    (λ (e : v ≡ u).
    omega (
      arith,
      cond-true {A = ℕ} (turned new (suc n) v) 1 0
          (or_left (eqb (visit new n).place v) (turned new n v) (eq-eqb (visit new n).place v (at ∙ sym e))),
      cond-false {A = ℕ} (turned old n v) 1 0 (turned_not old n v (λ i l f. apart i l (f ∙ e))),
      cond-true {A = ℕ} (eqb v u) 1 0 (eq-eqb v u e),
    ))
    (λ (ne : v ≡ u → ⊥).
    omega (
      arith,
      ap (λ (b : Bool). cond {A = ℕ} (b || turned new n v) 1 0)
          (ne_eqb (visit new n).place v (λ e. ne (sym e ∙ at))),
      ap (λ (b : Bool). cond {A = ℕ} b 1 0) (turned_kept old new n v same),
      cond-false {A = ℕ} (eqb v u) 1 0 (ne_eqb v u ne),
    ))
    (cases_eq v u))

-- a turn counts no more looks than its node has arcs
pub turn_counted : (net : Net) (old new : List Visit) (n next u : ℕ) (node : NodeId) (looks : ℕ) → IsNet net
    → node.id.place ≡ u → next ≡ n + 1 → (visit new n).place ≡ u
    → ((i : ℕ) → i < n → (visit old i).place ≡ u → ⊥)
    → ((i : ℕ) → i < n → (visit new i).place ≡ (visit old i).place)
    → looks ≤ turned_from Forward net old n + turned_from Backward net old n
    → looks + length (rows_of net (arcs_on Out net node)) + length (rows_of net (arcs_on In net node))
    ≤ turned_from Forward net new next + turned_from Backward net new next
turn_counted net old new n next u node looks net_is at step now apart same few =
    let is_suc : next ≡ suc n = omega (arith, step) in
    omega (
      arith,
      few,
      turned_more Forward net old new n u now apart same,
      turned_more Backward net old new n u now apart same,
      ap (turned_from Forward net new) is_suc,
      ap (turned_from Backward net new) is_suc,
      degree Forward net node u net_is at,
      degree Backward net node u net_is at,
    )

pub turns_counted : (net : Net) (vs : List Visit) (n looks : ℕ)
    → looks ≤ turned_from Forward net vs n + turned_from Backward net vs n → looks ≤ 2 * length (arcs_of net)
turns_counted net vs n looks few =
    omega (
      arith,
      few,
      count_by-le-length (λ (a : Arc ℕ ArcId). turned vs n (start_place Forward a)) (arcs_of net),
      count_by-le-length (λ (a : Arc ℕ ArcId). turned vs n (start_place Backward a)) (arcs_of net),
    )
