-- The place of a name in a list of names.
use Rattle.std.proofs.Common.{◌≡◌, ℕ, ◌<◌, ◌≤◌, Bool, not, ltb, ◌||◌, ◌&&◌, List, [], ◌∷◌, length, map, get_or}
use Rattle.std.proofs.Common.{bytes_eq, Option, Some, None}
use Rattle.std.proofs.Common.{refl, sym, ap, ◌∙◌, arith, ⊎_elim}
use Rattle.std.specs.Prelude.{position, slice_get, nat_lt, ◌==◌}
use Rattle.std.specs.List.{position_or_len, list_any, IsDistinct}
use Rattle.std.specs.Option.{unwrap_or, option_map}
use Rattle.std.proofs.lemmas.List.{length-map, get_or-map}
use Rattle.firm_rules.specs.Book.{TenantRows, machine_names, job_names}
use Rattle.firm_rules.specs.Placement.{is_remote, runs_at}
use Rattle.firm_rules.specs.Round.{weight_at, place_of, machine_place, demand_of}
use Rattle.firm_rules.specs.declared.book.Task.{Task}
use Rattle.firm_rules.specs.declared.book.Job.{Job}
use Rattle.firm_rules.specs.declared.book.Machine.{Machine}
use Rattle.std.proofs.lemmas.Bool.{cases_lt, cond-true, cond-false, lt-ltb, le-ltb}
use Rattle.std.proofs.lemmas.List.Sums.{prefix_len-le-length}
use Rattle.std.proofs.lemmas.Option.{slice_get-map, unwrap_or-slice_get, slice_get_within, get_or_from_slice_get}
use Rattle.firm_rules.proofs.NamedRows.{stands-at}

module _ {X : Type 0} (p : X → Bool) (xs : List X) where
  abbrev first : ℕ
  first = position_or_len p xs

  pub position_or_all : (n : ℕ) → n ≡ length xs → unwrap_or (position p xs) n ≡ position_or_len p xs
  position_or_all n e =
      ⊎_elim
      (λ (l : first < length xs).
      ap (λ r. unwrap_or r n) (cond-true (ltb first (length xs)) (Some first) None (lt-ltb first (length xs) l)))
      (λ (l : length xs ≤ first).
      ap (λ r. unwrap_or r n) (cond-false (ltb first (length xs)) (Some first) None (le-ltb first (length xs) l))
      ∙ (let all : n ≡ first = omega (arith, e, prefix_len-le-length (λ (x : X). not (p x)) xs) in all))
      (cases_lt first (length xs))

-- a test of what `f` makes of each element
pub list_any-map : {X Y : Type 0} (p : Y → Bool) (f : X → Y) (xs : List X)
    → list_any p (map f xs) ≡ list_any (λ x. p (f x)) xs
list_any-map p f [] = refl
list_any-map p f (x ∷ xs) = ap (λ b. p (f x) || b) (list_any-map p f xs)

-- whether a machine is remote for a task, from its parts
pub remote-by : (rows : TenantRows) (task : Task) (place : ℕ) (some prefers runs : Bool)
    → nat_lt 0 (length task.preferred) ≡ some
    → list_any (λ name. place_of rows name == place) task.preferred ≡ prefers
    → runs_at (machine_place rows task.machine) place ≡ runs
    → is_remote (demand_of rows task) place ≡ (some && not prefers && not runs)
remote-by rows task place some prefers runs some-is prefers-is runs-is =
    ap (λ b. b && not (list_any (λ k. k == place) (map (place_of rows) task.preferred))
    && not (runs_at (machine_place rows task.machine) place))
    (ap (λ n. nat_lt 0 n) (length-map task.preferred (place_of rows)) ∙ some-is)
    ∙ ap (λ b. some && not b && not (runs_at (machine_place rows task.machine) place))
    (list_any-map (λ k. k == place) (place_of rows) task.preferred ∙ prefers-is)
    ∙ ap (λ b. some && not prefers && not b) runs-is

-- a number of each row, read at a place, and past the end 0
pub read_at : {X : Type 0} (f : X → ℕ) (xs : List X) (i : ℕ) (r : Option X) → r ≡ slice_get xs i
    → unwrap_or (option_map f r) 0 ≡ get_or (map f xs) i 0
read_at f xs i r e =
    ap (λ r. unwrap_or (option_map f r) 0) e ∙ ap (λ r. unwrap_or r 0) (sym (slice_get-map f xs i))
    ∙ unwrap_or-slice_get (map f xs) i 0

-- a job's place, looked up, and its weight, read there
pub weight_read : (rows : TenantRows) (name : List ℕ) (found : Option ℕ) (count place : ℕ) (row : Option Job)
    → found ≡ position (bytes_eq name) (job_names rows) → count ≡ length rows.jobs → place ≡ unwrap_or found count
    → row ≡ slice_get rows.jobs place
    → unwrap_or (option_map (λ (job : Job). job.weight) row) 0
    ≡ weight_at rows (position_or_len (bytes_eq name) (job_names rows))
weight_read rows name found count place row f n p r =
    read_at (λ (job : Job). job.weight) rows.jobs place row r
    ∙ ap (weight_at rows)
    (p ∙ ap (λ r. unwrap_or r count) f
    ∙ position_or_all (bytes_eq name) (job_names rows) count (n ∙ sym (length-map rows.jobs (λ (job : Job). job.name))))

-- a machine that was read at a place has the name exactly if the name's place is this one
pub stands-read : (rows : TenantRows) (name : List ℕ) (place : ℕ) (machine : Machine)
    → IsDistinct bytes_eq (machine_names rows) → slice_get rows.machines place ≡ Some machine
    → bytes_eq name machine.name ≡ (place_of rows name == place)
stands-read rows name place machine differ read =
    let below : place < length rows.machines = slice_get_within rows.machines place machine read in
    ap (bytes_eq name)
    (sym (get_or-map (λ (m : Machine). m.name) rows.machines place machine [] below
    ∙ ap (λ (m : Machine). m.name) (get_or_from_slice_get rows.machines place machine machine read)))
    ∙ sym (stands-at (machine_names rows) name place differ
    (omega (arith, below, length-map rows.machines (λ (m : Machine). m.name))))
