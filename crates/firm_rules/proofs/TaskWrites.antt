-- Tasks written one after the other.
use Rattle.std.proofs.Common.{◌≡◌, ℕ, zero, suc, ◌+◌, ◌<◌, ◌≤◌, Bool, cond, List, [], ◌∷◌, ◌++◌, map, take}
use Rattle.std.proofs.Common.{drop, set, length, count_by, Option, None, Some, is_some, slice_get, slice_index_or}
use Rattle.std.proofs.Common.{if◌then◌else◌, true, true≢false, refl, sym, ap, ◌∙◌, arith}
use Rattle.std.specs.Map.{values_of}
use Rattle.indexmap.specs.IndexMap.{set_value_at}
use Rattle.std.proofs.lemmas.Bool.{cond_both}
use Rattle.std.proofs.lemmas.List.{length-map, get_or-map, set-get_or}
use Rattle.std.proofs.lemmas.List.Sums.{sum_by-cons, sum_by_more, sum_by-take-le}
use Rattle.firm_rules.specs.Book.{is_on, evicted, running_count}
use Rattle.firm_rules.specs.ArenaUse.{preference_count}
use Rattle.firm_rules.specs.Round.{settled, zipped}
use Rattle.firm_rules.specs.declared.rounds.Choice.TheVariants.{On, Wait}
use Rattle.firm_rules.specs.declared.book.Task.{Task}
use Rattle.firm_rules.specs.inner.Tables.{is_placed}
use Rattle.firm_rules.specs.declared.book.Machine.{Machine}
use Rattle.firm_rules.specs.declared.rounds.Choice.{Choice}
use Rattle.firm_rules.proofs.SoundRows.{one_if, length-zipped}

-- a value written at a place is that value among the values
pub values-written : {Row : Type 0} (entries : List (List ℕ × Row)) (place : ℕ) (row : Row)
    → values_of (set_value_at entries place row) ≡ set (values_of entries) place row
values-written [] place row = refl
values-written (e ∷ entries) zero row = refl
values-written (e ∷ entries) (suc place) row = ap (λ l. e.1 ∷ l) (values-written entries place row)

-- what was read at a place
pub read-at : {X : Type 0} (xs : List X) (place : ℕ) (x : X) → Some x ≡ slice_get xs place → (d : X)
    → slice_index_or xs place d ≡ x
read-at [] place x read d = absurd (true≢false (ap is_some read))
read-at {X} (y ∷ xs) zero x read d = let out : Option X → X = λ o. elim o [ None ↦ x | Some z ↦ z ] in sym (ap out read)
read-at (y ∷ xs) (suc place) x read d = read-at xs place x read d

module _ (name : List ℕ) (entries : List (List ℕ × Task)) (place : ℕ) (task : Task)
    (read : Some task ≡ slice_get (values_of entries) place) where
  -- the task that is written there once the machine is gone, and what it counts for
  pub evicted-written : (after : Task) → after ≡ evicted name task → (d : Task)
      → (values_of (set_value_at entries place after)
      ≡ set (values_of entries) place (evicted name (slice_index_or (values_of entries) place d)))
      × (one_if (is_on name task.machine)
      ≡ (if is_on name (slice_index_or (values_of entries) place d).machine then 1 else 0))
      × (length after.preferred ≡ length (evicted name (slice_index_or (values_of entries) place d)).preferred)
  evicted-written after is d =
      let same : task ≡ slice_index_or (values_of entries) place d =
      sym (read-at (values_of entries) place task read d) in (
        values-written entries place after ∙ ap (set (values_of entries) place) (is ∙ ap (evicted name) same),
        ap (λ (t : Task). one_if (is_on name t.machine)) same,
        ap (λ (t : Task). length t.preferred) is ∙ ap (λ (t : Task). length (evicted name t).preferred) same,
      )

-- a list written so far: the first places anew, the others as they were
abbrev pub written : {X : Type 0} → List X → List X → ℕ → List X
written new old place = take place new ++ drop place old

pub written-none : {X : Type 0} (new old : List X) → written new old 0 ≡ old
written-none new old = refl

-- the next place, as it was
pub written-next : {X : Type 0} (new old : List X) (place : ℕ) → length new ≡ length old → place < length old → (d : X)
    → slice_index_or (written new old place) place d ≡ slice_index_or old place d
written-next new [] place same below d = absurd (omega arith)
written-next [] (y ∷ old) place same below d = absurd (omega arith)
written-next (x ∷ new) (y ∷ old) zero same below d = refl
written-next (x ∷ new) (y ∷ old) (suc place) same below d = written-next new old place (omega arith) (omega arith) d

-- and once it is written
written-suc : {X : Type 0} (new old : List X) (place : ℕ) (d x : X) → length new ≡ length old → place < length old
    → slice_index_or new place d ≡ x → set (written new old place) place x ≡ written new old (suc place)
written-suc new [] place d x same below is = absurd (omega arith)
written-suc [] (y ∷ old) place d x same below is = absurd (omega arith)
written-suc (z ∷ new) (y ∷ old) zero d x same below is = ap (λ l. l ∷ old) (sym is)
written-suc (z ∷ new) (y ∷ old) (suc place) d x same below is =
    ap (λ l. z ∷ l) (written-suc new old place d x (omega arith) (omega arith) is)

pub written-more : {X : Type 0} (new old : List X) (place : ℕ) (d x : X) → length new ≡ length old → place < length old
    → slice_index_or new place d ≡ x → set (written new old place) place x ≡ written new old (place + 1)
written-more new old place d x same below is =
    let next : suc place ≡ place + 1 = omega arith in
    written-suc new old place d x same below is ∙ ap (written new old) next

pub written-length : {X : Type 0} (new old : List X) (place : ℕ) → length new ≡ length old
    → length (written new old place) ≡ length old
written-length [] [] zero same = refl
written-length [] [] (suc place) same = refl
written-length (x ∷ new) [] place same = absurd (omega arith)
written-length [] (y ∷ old) place same = absurd (omega arith)
written-length (x ∷ new) (y ∷ old) zero same = refl
written-length (x ∷ new) (y ∷ old) (suc place) same = omega (arith, written-length new old place (omega arith))

pub written-all : {X : Type 0} (new old : List X) (place : ℕ) → length new ≡ length old → length old ≤ place
    → written new old place ≡ new
written-all [] [] zero same all = refl
written-all [] [] (suc place) same all = refl
written-all [] (y ∷ old) place same all = absurd (omega arith)
written-all (x ∷ new) [] place same all = absurd (omega arith)
written-all (x ∷ new) (y ∷ old) zero same all = absurd (omega arith)
written-all (x ∷ new) (y ∷ old) (suc place) same all =
    ap (λ l. x ∷ l) (written-all new old place (omega arith) (omega arith))

-- any task, for a place that is not there
abbrev pub no_task : Task
no_task = record { name = []; job = []; preferred = []; machine = None; waited = 0 }

pub count_by-le-length : {X : Type 0} (p : X → Bool) (xs : List X) → count_by p xs ≤ length xs
count_by-le-length p [] = omega arith
count_by-le-length {X} p (x ∷ xs) =
    omega (
      arith,
      sum_by-cons (λ (x : X). cond (p x) 1 0) x xs,
      cond_both (p x) (suc zero) zero (λ (n : ℕ). n ≤ 1) (λ _. omega arith) (λ _. omega arith),
      count_by-le-length p xs,
    )

-- one more task of those that run on a machine is thrown out
module _ (name : List ℕ) (old : List Task) where
  abbrev pub ran : Task → Bool
  ran task = is_on name task.machine

  pub evicted-next : (now next : List Task) (place count more : ℕ) → now ≡ written (map (evicted name) old) old place
      → place < length old
      → next ≡ set now place (evicted name (slice_index_or now place no_task)) → count ≡ count_by ran (take place old)
      → more ≡ (if ran (slice_index_or now place no_task) then 1 else 0)
      → (next ≡ written (map (evicted name) old) old (place + 1)) × (count + more ≡ count_by ran (take (place + 1) old))
      × (count + more ≤ length old)
  evicted-next now next place count more now-is below next-is count-is more-is =
      let target : List Task = map (evicted name) old in
      let same : length target ≡ length old = length-map old (evicted name) in
      let here : slice_index_or now place no_task ≡ slice_index_or old place no_task =
      ap (λ (l : List Task). slice_index_or l place no_task) now-is
      ∙ written-next target old place same below no_task in
      let counted : count + more ≡ count_by ran (take (place + 1) old) =
      omega (
        arith,
        count-is,
        more-is ∙ ap (λ (t : Task). one_if (ran t)) here,
        sum_by_more (λ (t : Task). one_if (ran t)) old place no_task below,
      ) in (
        next-is ∙ ap (λ (l : List Task). set l place (evicted name (slice_index_or now place no_task))) now-is
            ∙ ap (λ (t : Task). set (written target old place) place (evicted name t)) here
            ∙ written-more target old place (evicted name no_task) (evicted name (slice_index_or old place no_task))
            same below
            (get_or-map (evicted name) old place no_task (evicted name no_task) below),
        counted,
        omega (
          arith,
          counted,
          sum_by-take-le (λ (t : Task). one_if (ran t)) old (place + 1),
          count_by-le-length ran old,
        ),
      )

  -- the preferences that one more task has left
  pub left-next : (now : List Task) (place left more : ℕ) → now ≡ written (map (evicted name) old) old place
      → place < length old → left ≡ preference_count (take place (map (evicted name) old))
      → more ≡ length (evicted name (slice_index_or now place no_task)).preferred
      → left + more ≡ preference_count (take (place + 1) (map (evicted name) old))
  left-next now place left more now-is below left-is more-is =
      let target : List Task = map (evicted name) old in
      let same : length target ≡ length old = length-map old (evicted name) in
      let here : slice_index_or now place no_task ≡ slice_index_or old place no_task =
      ap (λ (l : List Task). slice_index_or l place no_task) now-is
      ∙ written-next target old place same below no_task in
      omega (
        arith,
        left-is,
        more-is ∙ ap (λ (t : Task). length (evicted name t).preferred) here
            ∙ ap (λ (t : Task). length t.preferred)
            (sym (get_or-map (evicted name) old place no_task (evicted name no_task) below)),
        sum_by_more (λ (t : Task). length t.preferred) target place (evicted name no_task)
            (omega (arith, same, below)),
      )

-- any choice, for a place that is not there
abbrev pub any_choice : Choice
any_choice = On 0

-- what two lists make at a place
pub zipped-at : (f : Task → Choice → Task) (xs : List Task) (ys : List Choice) (place : ℕ) → length ys ≡ length xs
    → place < length xs
    → slice_index_or (zipped f xs ys) place no_task
    ≡ f (slice_index_or xs place no_task) (slice_index_or ys place any_choice)
zipped-at f [] ys place same below = absurd (omega arith)
zipped-at f (x ∷ xs) [] place same below = absurd (omega arith)
zipped-at f (x ∷ xs) (y ∷ ys) zero same below = refl
zipped-at f (x ∷ xs) (y ∷ ys) (suc place) same below = zipped-at f xs ys place (omega arith) (omega arith)

-- one more task is given its choice
module _ (patience : ℕ) (machines : List Machine) (old : List Task) (choices : List Choice)
    (same : length choices ≡ length old) where
  abbrev pub round : List Task
  round = zipped (settled patience machines) old choices

  pub settled-next : (now next : List Task) (place running more : ℕ) → now ≡ written round old place
      → place < length old
      → next ≡ set now place
      (settled patience machines (slice_index_or now place no_task) (slice_index_or choices place any_choice))
      → running ≡ running_count (take place round)
      → more ≡ (if is_placed (slice_index_or choices place any_choice) then 1 else 0)
      → (next ≡ written round old (place + 1)) × (running + more ≡ running_count (take (place + 1) round))
      × (running + more ≤ length old)
  settled-next now next place running more now-is below next-is running-is more-is =
      let long : length round ≡ length old = length-zipped (settled patience machines) old choices same in
      let choice : Choice = slice_index_or choices place any_choice in
      let here : slice_index_or now place no_task ≡ slice_index_or old place no_task =
      ap (λ (l : List Task). slice_index_or l place no_task) now-is ∙ written-next round old place long below no_task in
      let there : slice_index_or round place no_task
      ≡ settled patience machines (slice_index_or old place no_task) choice =
      zipped-at (settled patience machines) old choices place same below in
      let counted : running + more ≡ running_count (take (place + 1) round) =
      omega (
        arith,
        running-is,
        more-is ∙ runs (slice_index_or old place no_task) choice
            ∙ ap (λ (t : Task). one_if (is_some t.machine)) (sym there),
        sum_by_more (λ (t : Task). one_if (is_some t.machine)) round place no_task (omega (arith, long, below)),
      ) in (
        next-is
            ∙ ap (λ (l : List Task). set l place (settled patience machines (slice_index_or now place no_task) choice))
            now-is
            ∙ ap (λ (t : Task). set (written round old place) place (settled patience machines t choice)) here
            ∙ written-more round old place no_task (settled patience machines (slice_index_or old place no_task) choice)
            long below there,
        counted,
        omega (
          arith,
          counted,
          long,
          sum_by-take-le (λ (t : Task). one_if (is_some t.machine)) round (place + 1),
          count_by-le-length (λ (t : Task). is_some t.machine) round,
        ),
      )
    where
      runs : (task : Task) (choice : Choice)
          → one_if (is_placed choice) ≡ one_if (is_some (settled patience machines task choice).machine)
      runs task (On j) = refl
      runs task Wait = refl

  -- and one more that its choice leaves as it is
  pub kept-next : (now : List Task) (place running : ℕ) → now ≡ written round old place → place < length old
      → settled patience machines (slice_index_or old place no_task) (slice_index_or choices place any_choice)
      ≡ slice_index_or old place no_task
      → running ≡ running_count (take place round) → is_placed (slice_index_or choices place any_choice) ≡ true
      → (now ≡ written round old (place + 1)) × (running + 1 ≡ running_count (take (place + 1) round))
      × (running + 1 ≤ length old)
  kept-next now place running now-is below stays running-is placed =
      let long : length round ≡ length old = length-zipped (settled patience machines) old choices same in
      let choice : Choice = slice_index_or choices place any_choice in
      let here : slice_index_or now place no_task ≡ slice_index_or old place no_task =
      ap (λ (l : List Task). slice_index_or l place no_task) now-is ∙ written-next round old place long below no_task in
      settled-next now now place running 1 now-is below
      (sym (ap (λ (t : Task). set now place (settled patience machines t choice)) here
      ∙ ap (set now place) (stays ∙ sym here) ∙ set-get_or now place no_task))
      running-is (sym (ap one_if placed))

-- a task that is given its choice at a place
pub settled-written : (patience : ℕ) (machines : List Machine) (entries : List (List ℕ × Task)) (place : ℕ)
    (task placed : Task) (choice : Choice)
    → Some task ≡ slice_get (values_of entries) place → placed ≡ settled patience machines task choice → (d : Task)
    → values_of (set_value_at entries place placed)
    ≡ set (values_of entries) place (settled patience machines (slice_index_or (values_of entries) place d) choice)
settled-written patience machines entries place task placed choice read is d =
    values-written entries place placed
    ∙ ap (set (values_of entries) place)
    (is ∙ ap (λ (t : Task). settled patience machines t choice) (sym (read-at (values_of entries) place task read d)))

-- as many values as entries
pub as-many-values : {Row : Type 0} (entries : List (List ℕ × Row)) → length (values_of entries) ≡ length entries
as-many-values {Row} entries = length-map entries (λ (e : List ℕ × Row). e.1)

-- a task on the machine that was read at a place
pub settled-on : (patience : ℕ) (machines : List Machine) (place : ℕ) (machine : Machine) (task : Task)
    → slice_get machines place ≡ Some machine
    → (record task { machine = Some machine.name; waited = 0 }) ≡ settled patience machines task (On place)
settled-on patience machines place machine task read =
    let none : Machine = record { name = []; slots = 0 } in
    let same : slice_index_or machines place none ≡ machine = read-at machines place machine (sym read) none in
    ap (λ (name : List ℕ). let t : Task = record task { machine = Some name; waited = 0 } in t)
    (ap (λ (m : Machine). m.name) (sym same)
    ∙ sym (get_or-map (λ (m : Machine). m.name) machines place none [] (within machines place machine read)))
  where
    within : (machines : List Machine) (place : ℕ) (machine : Machine) → slice_get machines place ≡ Some machine
        → place < length machines
    within [] place machine read = absurd (true≢false (ap is_some (sym read)))
    within (m ∷ machines) zero machine read = omega arith
    within (m ∷ machines) (suc place) machine read = omega (arith, within machines place machine read)
