-- The loss of the tasks that have waited for long, in a round that leaves a task waiting.
use Rattle.std.proofs.Common.{◌≡◌, ℕ, suc, ◌+◌, ◌≤◌, Bool, true, false, ◌&&◌, ◌||◌, List, [], ◌∷◌}
use Rattle.std.proofs.Common.{map, length, refl, sym, ap, ◌∙◌, arith, true≢false, ⊎_elim, bytes_eq, is_some}
use Rattle.std.proofs.Common.{Some}
use Rattle.std.specs.Prelude.{nat_le, slice_get}
use Rattle.std.specs.List.{list_any}
use Rattle.std.proofs.lemmas.Bool.{cases_Bool, leb-true, le-leb, lt-leb, eqb-true, or_parts}
use Rattle.std.proofs.lemmas.List.Elements.{All-nil, All-cons, All-head, All-tail}
use Rattle.std.proofs.lemmas.List.Sums.{sum_by-cons}
use Rattle.firm_rules.specs.Book.{TenantRows}
use Rattle.firm_rules.specs.Names.{is_among}
use Rattle.firm_rules.specs.Placement.{goes_to, load}
use Rattle.firm_rules.specs.Round.{task_after, zipped}
use Rattle.firm_rules.specs.declared.book.Task.{Task}
use Rattle.firm_rules.specs.declared.rounds.Choice.{Choice}
use Rattle.firm_rules.specs.declared.rounds.Choice.TheVariants.{On, Wait}
use Rattle.firm_tenant.proofs.Calm.{HasWaited, count_waits, one_if}

-- whether a task of the name runs
abbrev pub runs : List ℕ → Task → Bool
runs name task = bytes_eq name task.name && is_some task.machine

module _ (rows : TenantRows) where
  abbrev after : List Task → List Choice → List Task
  after tasks placement = zipped (task_after rows) tasks placement

  -- a task that a round leaves waiting has waited for one more
  pub waited-on : (name : List ℕ) (rounds : ℕ) (tasks : List Task) (placement : List Choice)
      → suc rounds ≤ rows.limits.patience → HasWaited name rounds tasks
      → list_any (runs name) (after tasks placement) ≡ false → HasWaited name (suc rounds) (after tasks placement)
  waited-on name rounds [] placement few held none =
      All-nil (λ (t : Task). bytes_eq name t.name ≡ true → suc rounds ≤ t.waited)
  waited-on name rounds (task ∷ tasks) [] few held none =
      All-nil (λ (t : Task). bytes_eq name t.name ≡ true → suc rounds ≤ t.waited)
  waited-on name rounds (task ∷ tasks) (choice ∷ placement) few held none =
      let apart = or_parts (runs name (task_after rows task choice)) (list_any (runs name) (after tasks placement))
      none in
      All-cons (λ (t : Task). bytes_eq name t.name ≡ true → suc rounds ≤ t.waited) (task_after rows task choice)
      (after tasks placement)
      (one choice apart.0 (All-head (λ (t : Task). bytes_eq name t.name ≡ true → rounds ≤ t.waited) task tasks held))
      (waited-on name rounds tasks placement few
      (All-tail (λ (t : Task). bytes_eq name t.name ≡ true → rounds ≤ t.waited) task tasks held) apart.1)
    where
      one : (choice : Choice) → runs name (task_after rows task choice) ≡ false
          → (bytes_eq name task.name ≡ true → rounds ≤ task.waited)
          → bytes_eq name (task_after rows task choice).name ≡ true → suc rounds ≤ (task_after rows task choice).waited
      one (On j) none held is = absurd (true≢false (sym (ap (λ (b : Bool). b && true) is) ∙ none))
      one Wait none held is = omega (arith, held is)

  -- as many tasks as a machine takes have waited for less long afterwards
  pub fewer-after : (j rounds : ℕ) (tasks : List Task) (placement : List Choice) → length placement ≡ length tasks
      → ((place : ℕ) (task : Task) → slice_get tasks place ≡ Some task → slice_get placement place ≡ Some (On j)
      → rounds ≤ task.waited)
      → count_waits (suc rounds) (after tasks placement) + load placement j ≤ count_waits rounds tasks
  fewer-after j rounds [] [] same long = omega arith
  fewer-after j rounds [] (choice ∷ placement) same long = absurd (omega (arith, same))
  fewer-after j rounds (task ∷ tasks) [] same long = absurd (omega (arith, same))
  fewer-after j rounds (task ∷ tasks) (choice ∷ placement) same long =
      let goes : Choice → ℕ = λ c. one_if (goes_to j c) in
      let later : Task → ℕ = λ t. one_if (nat_le (suc rounds) t.waited) in
      let now : Task → ℕ = λ t. one_if (nat_le rounds t.waited) in
      omega (
        arith,
        sum_by-cons later (task_after rows task choice) (after tasks placement),
        sum_by-cons goes choice placement,
        sum_by-cons now task tasks,
        one choice (λ to. long 0 task refl (ap (λ (c : Choice). Some c) to)),
        fewer-after j rounds tasks placement (omega (arith, same))
            (λ place t there goes. long (suc place) t there goes),
      )
    where
      one : (choice : Choice) → (choice ≡ On j → rounds ≤ task.waited)
          → one_if (nat_le (suc rounds) (task_after rows task choice).waited) + one_if (goes_to j choice)
          ≤ one_if (nat_le rounds task.waited)
      one (On k) long =
          let none : nat_le (suc rounds) 0 ≡ false = lt-leb (suc rounds) 0 (omega arith) in
          ⊎_elim
          (λ (e : goes_to j (On k) ≡ true).
          let enough : rounds ≤ task.waited = long (ap On (eqb-true k j e)) in
          omega (arith, ap one_if none, ap one_if e, ap one_if (le-leb rounds task.waited enough)))
          (λ (e : goes_to j (On k) ≡ false). omega (arith, ap one_if none, ap one_if e)) (cases_Bool (goes_to j (On k)))
      one Wait long =
          ⊎_elim
          (λ (e : nat_le (suc rounds) (task_after rows task Wait).waited ≡ true).
          let more : suc rounds ≤ (task_after rows task Wait).waited =
          leb-true (suc rounds) (task_after rows task Wait).waited e in
          let enough : rounds ≤ task.waited = omega (arith, more) in
          omega (arith, ap one_if e, ap one_if (le-leb rounds task.waited enough)))
          (λ (e : nat_le (suc rounds) (task_after rows task Wait).waited ≡ false). omega (arith, ap one_if e))
          (cases_Bool (nat_le (suc rounds) (task_after rows task Wait).waited))

  -- a task of the name, its place, and that the placement lets it wait
  pub record IsLeft (name : List ℕ) (rounds : ℕ) (tasks : List Task) (placement : List Choice) : Type 0 where
    pub place : ℕ
    pub task : Task
    pub there : slice_get tasks place ≡ Some task
    pub waits : slice_get placement place ≡ Some Wait
    pub long : rounds ≤ task.waited

  -- where no task of the name runs after a round, there is one that it left waiting
  pub left-waiting : (name : List ℕ) (rounds : ℕ) (tasks : List Task) (placement : List Choice)
      → length placement ≡ length tasks → HasWaited name rounds tasks
      → is_among (map (λ task. task.name) tasks) name ≡ true
      → list_any (runs name) (after tasks placement) ≡ false → IsLeft name rounds tasks placement
  left-waiting name rounds [] placement same held among none = absurd (true≢false (sym among))
  left-waiting name rounds (task ∷ tasks) [] same held among none = absurd (omega (arith, same))
  left-waiting name rounds (task ∷ tasks) (choice ∷ placement) same held among none =
      let apart = or_parts (runs name (task_after rows task choice)) (list_any (runs name) (after tasks placement))
      none in
      let long = All-head (λ (t : Task). bytes_eq name t.name ≡ true → rounds ≤ t.waited) task tasks held in
      let rest = All-tail (λ (t : Task). bytes_eq name t.name ≡ true → rounds ≤ t.waited) task tasks held in
      ⊎_elim
      (λ (is : bytes_eq name task.name ≡ true). own choice is apart.0 (long is))
      (λ (other : bytes_eq name task.name ≡ false).
      let found = left-waiting name rounds tasks placement (omega (arith, same)) rest
      (sym (ap (λ (b : Bool). b || is_among (map (λ (t : Task). t.name) tasks) name) other) ∙ among) apart.1 in
      record {
        place = suc found.place;
        task = found.task;
        there = found.there;
        waits = found.waits;
        long = found.long;
      })
      (cases_Bool (bytes_eq name task.name))
    where
      own : (choice : Choice) → bytes_eq name task.name ≡ true → runs name (task_after rows task choice) ≡ false
          → rounds ≤ task.waited → IsLeft name rounds (task ∷ tasks) (choice ∷ placement)
      own (On j) is none long = absurd (true≢false (sym (ap (λ (b : Bool). b && true) is) ∙ none))
      own Wait is none long = record { place = 0; task = task; there = refl; waits = refl; long = long }

-- a task of the name is one of those that have waited for as long
pub some-wait : (name : List ℕ) (rounds long : ℕ) (tasks : List Task) → rounds ≤ long → HasWaited name long tasks
    → is_among (map (λ task. task.name) tasks) name ≡ true → 1 ≤ count_waits rounds tasks
some-wait name rounds long [] less held among = absurd (true≢false (sym among))
some-wait name rounds long (task ∷ tasks) less held among =
    let waits : Task → ℕ = λ t. one_if (nat_le rounds t.waited) in
    let first = All-head (λ (t : Task). bytes_eq name t.name ≡ true → long ≤ t.waited) task tasks held in
    let rest = All-tail (λ (t : Task). bytes_eq name t.name ≡ true → long ≤ t.waited) task tasks held in
    ⊎_elim
    (λ (is : bytes_eq name task.name ≡ true).
    let enough : rounds ≤ task.waited = omega (arith, less, first is) in
    omega (arith, sum_by-cons waits task tasks, ap one_if (le-leb rounds task.waited enough)))
    (λ (other : bytes_eq name task.name ≡ false).
    omega (
      arith,
      sum_by-cons waits task tasks,
      some-wait name rounds long tasks less rest
          (sym (ap (λ (b : Bool). b || is_among (map (λ (t : Task). t.name) tasks) name) other) ∙ among),
    ))
    (cases_Bool (bytes_eq name task.name))

-- no more tasks have waited than there are
pub few-waits : (rounds : ℕ) (tasks : List Task) → count_waits rounds tasks ≤ length tasks
few-waits rounds [] = omega arith
few-waits rounds (task ∷ tasks) =
    let waits : Task → ℕ = λ t. one_if (nat_le rounds t.waited) in
    omega (arith, sum_by-cons waits task tasks, few-waits rounds tasks, one (nat_le rounds task.waited))
  where
    one : (b : Bool) → one_if b ≤ 1
    one true = omega arith
    one false = omega arith
