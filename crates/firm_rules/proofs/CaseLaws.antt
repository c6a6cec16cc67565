-- The case of rows to which a row came, from which one went, or of which one changed.
use Rattle.std.proofs.Common.{◌≡◌, ℕ, zero, suc, ◌+◌, ◌-◌, ◌<◌, ◌≤◌, Bool, true, false, cond, eqb, List, [], ◌∷◌, ◌++◌}
use Rattle.std.proofs.Common.{length, map, remove, set, All, IfSome, Option, None, Some, bytes_eq, true≢false, ◌||◌}
use Rattle.std.proofs.Common.{refl, sym, ap, ◌∙◌, arith}
use Rattle.std.specs.Prelude.{slice_index_or}
use Rattle.std.specs.List.{IsDistinct, position_or_len}
use Rattle.std.proofs.lemmas.List.{length-map, map-append, get_or-map, get_or_append_left}
use Rattle.std.proofs.lemmas.Bool.{eq-eqb}
use Rattle.std.proofs.lemmas.List.Elements.{All-cons, All-head, All-tail}
use Rattle.indexmap.proofs.SetLemmas.{map-remove}
use Rattle.firm_rules.specs.Names.{is_among}
use Rattle.firm_rules.specs.Book.{TenantRows, machine_names, job_names, task_names, name_at, with_machine, with_job}
use Rattle.firm_rules.specs.Book.{with_restored, with_task_placed, placed_at, standing, without_machine, without_job}
use Rattle.firm_rules.specs.Book.{without_task, has_tasks, is_on, evicted, forgetting}
use Rattle.firm_rules.specs.Preferences.{without_preference}
use Rattle.firm_rules.specs.Placement.{Demand, Case, IsPlace, task_at}
use Rattle.firm_rules.specs.Round.{case_of, demand_of, machine_place, place_of, job_place, weight_at, rows_after}
use Rattle.firm_rules.specs.Round.{task_after, settled, zipped}
use Rattle.firm_rules.specs.Sound.{AreSound}
use Rattle.firm_rules.specs.SoundBook.{AreInForm}
use Rattle.firm_rules.specs.inner.Demands.{placed, place_without, home_without, preferred_without}
use Rattle.firm_rules.specs.inner.Demands.{without_machine_at, without_job_at}
use Rattle.firm_rules.specs.inner.Tables.{given_home, seat, seated}
use Rattle.firm_rules.specs.declared.book.Machine.{Machine}
use Rattle.firm_rules.specs.declared.book.Job.{Job}
use Rattle.firm_rules.specs.declared.book.Task.{Task}
use Rattle.firm_rules.specs.declared.rounds.Choice.{Choice}
use Rattle.firm_rules.specs.declared.rounds.Choice.TheVariants.{On, Wait}
use Rattle.firm_rules.proofs.NamedRows.{filter-remove, bytes_eq-other}
use Rattle.firm_rules.proofs.SoundRows.{IsThere, AreThere}
use Rattle.firm_rules.proofs.MovedPlaces.{place_in, place-appended, place-below, place-of-name, place-removed}
use Rattle.firm_rules.proofs.MovedPlaces.{read-removed, is-gone, preferred-removed}

-- two lists made of the same tasks, where what is made of each is the same
pub map-same : {X Y : Type 0} (f g : X → Y) (xs : List X) → All (λ x. f x ≡ g x) xs → map f xs ≡ map g xs
map-same f g [] same = refl
map-same {X} {Y} f g (x ∷ xs) same =
    ap (λ (y : Y). y ∷ map f xs) (All-head (λ (z : X). f z ≡ g z) x xs same)
    ∙ ap (λ (ys : List Y). g x ∷ ys) (map-same f g xs (All-tail (λ (z : X). f z ≡ g z) x xs same))

map-map : {X Y Z : Type 0} (f : Y → Z) (g : X → Y) (xs : List X) → map f (map g xs) ≡ map (λ x. f (g x)) xs
map-map f g [] = refl
map-map {X} {Y} {Z} f g (x ∷ xs) = ap (λ (zs : List Z). f (g x) ∷ zs) (map-map f g xs)

same_demand : {a b : Demand} → a.home ≡ b.home → a.preferred ≡ b.preferred → a.delay ≡ b.delay → a.job ≡ b.job → a ≡ b
same_demand home preferred delay job =
    λ k. record { home = home k; preferred = preferred k; delay = delay k; job = job k }

same_case : {a b : Case} → a.spread ≡ b.spread → a.churn ≡ b.churn → a.remote ≡ b.remote → a.slots ≡ b.slots
    → a.jobs ≡ b.jobs → a.limit ≡ b.limit → a.tasks ≡ b.tasks → a ≡ b
same_case spread churn remote slots jobs limit tasks =
    λ k. record {
      spread = spread k;
      churn = churn k;
      remote = remote k;
      slots = slots k;
      jobs = jobs k;
      limit = limit k;
      tasks = tasks k;
    }

module _ (rows : TenantRows) (sound : AreSound rows) where
  -- a machine comes
  module _ (name : List ℕ) (slots : ℕ) where
    abbrev machine : Machine
    machine = record { name = name; slots = slots }

    names-more : machine_names (with_machine rows name slots) ≡ machine_names rows ++ name ∷ []
    names-more = map-append (λ (m : Machine). m.name) rows.machines (machine ∷ [])

    place-same : (other : List ℕ) → is_among (machine_names rows) other ≡ true
        → place_of (with_machine rows name slots) other ≡ place_of rows other
    place-same other there =
        ap (λ (names : List (List ℕ)). place_in names other) names-more
        ∙ place-appended (machine_names rows) (name ∷ []) other there

    home-same : (home : Option (List ℕ)) → IsThere (machine_names rows) home
        → machine_place (with_machine rows name slots) home ≡ machine_place rows home
    home-same None there = refl
    home-same (Some other) there = ap Some (place-same other there)

    pub case-with_machine : case_of (with_machine rows name slots)
        ≡ record (case_of rows) { slots = (case_of rows).slots ++ slots ∷ [] }
    case-with_machine =
        same_case refl refl refl (map-append (λ (m : Machine). m.slots) rows.machines (machine ∷ [])) refl refl
        (map-same (demand_of (with_machine rows name slots)) (demand_of rows) rows.tasks
        (λ k d l. let task : Task = slice_index_or rows.tasks k d in
        same_demand (home-same task.machine (sound.machines_there k d l))
        (map-same (place_of (with_machine rows name slots)) (place_of rows) task.preferred
        (λ i e m. place-same (slice_index_or task.preferred i e) (sound.preferred_there k d l i e m)))
        refl refl))

  -- a job comes
  module _ (name : List ℕ) (weight : ℕ) where
    abbrev job : Job
    job = record { name = name; weight = weight }

    job-same : (other : List ℕ) → is_among (job_names rows) other ≡ true
        → place_in (job_names (with_job rows name weight)) other ≡ place_in (job_names rows) other
    job-same other there =
        ap (λ (names : List (List ℕ)). place_in names other)
        (map-append (λ (j : Job). j.name) rows.jobs (job ∷ []))
        ∙ place-appended (job_names rows) (name ∷ []) other there

    weight-same : (other : List ℕ) → is_among (job_names rows) other ≡ true
        → weight_at (with_job rows name weight) (place_in (job_names (with_job rows name weight)) other)
        ≡ weight_at rows (place_in (job_names rows) other)
    weight-same other there =
        ap (weight_at (with_job rows name weight)) (job-same other there)
        ∙ ap (λ (weights : List ℕ). slice_index_or weights (place_in (job_names rows) other) 0)
        (map-append (λ (j : Job). j.weight) rows.jobs (job ∷ []))
        ∙ get_or_append_left (map (λ (j : Job). j.weight) rows.jobs) (weight ∷ []) 0 (place_in (job_names rows) other)
        (omega (
          arith,
          place-below (job_names rows) other there,
          length-map rows.jobs (λ (j : Job). j.name),
          length-map rows.jobs (λ (j : Job). j.weight),
        ))

    pub case-with_job : case_of (with_job rows name weight)
        ≡ record (case_of rows) { jobs = (case_of rows).jobs + 1 }
    case-with_job =
        same_case refl refl refl refl (length-more rows.jobs) refl
        (map-same (demand_of (with_job rows name weight)) (demand_of rows) rows.tasks
        (λ k d l. let task : Task = slice_index_or rows.tasks k d in
        same_demand refl refl
        (ap (λ (n : ℕ). n + task.waited) (weight-same task.job (sound.jobs_there k d l)))
        (job-same task.job (sound.jobs_there k d l))))
      where
        length-more : (jobs : List Job) → length (jobs ++ job ∷ []) ≡ length jobs + 1
        length-more [] = refl
        length-more (j ∷ jobs) = omega (arith, length-more jobs)

  -- a task comes
  pub case-with_restored : (task : Task)
      → case_of (with_restored rows task)
      ≡ record (case_of rows) { tasks = (case_of rows).tasks ++ demand_of rows task ∷ [] }
  case-with_restored task =
      same_case refl refl refl refl refl refl (map-append (demand_of rows) rows.tasks (task ∷ []))

  -- a task is placed, or waits
  pub case-with_task_placed : (place : ℕ) (machine : Option (List ℕ)) (waited : ℕ) → place < length rows.tasks
      → case_of (with_task_placed rows place machine waited)
      ≡ record (case_of rows) {
        tasks = set (case_of rows).tasks place
            (placed (machine_place rows machine) (weight_at rows (task_at (case_of rows) place).job + waited)
            (task_at (case_of rows) place));
      }
  case-with_task_placed place machine waited below =
      same_case refl refl refl refl refl refl (at rows.tasks place below)
    where
      at : (tasks : List Task) (place : ℕ) → place < length tasks
          → map (demand_of rows) (placed_at tasks place machine waited)
          ≡ set (map (demand_of rows) tasks) place
          (placed (machine_place rows machine)
          (weight_at rows
          (slice_index_or (map (demand_of rows) tasks) place
          (record { home = None; preferred = []; delay = 0; job = 0 })).job + waited)
          (slice_index_or (map (demand_of rows) tasks) place
          (record { home = None; preferred = []; delay = 0; job = 0 })))
      at [] place below = absurd (omega (arith, below))
      at (task ∷ tasks) zero below = refl
      at (task ∷ tasks) (suc place) below =
          ap (λ (l : List Demand). demand_of rows task ∷ l) (at tasks place (omega (arith, below)))

  -- a machine goes
  module _ (form : AreInForm rows) (place : ℕ) (below : place < length rows.machines) where
    abbrev gone : List ℕ
    gone = name_at (machine_names rows) place

    names-below : place < length (machine_names rows)
    names-below = omega (arith, below, length-map rows.machines (λ (m : Machine). m.name))

    machines-less : (without_machine rows gone).machines ≡ remove rows.machines place
    machines-less = filter-remove (λ (m : Machine). m.name) rows.machines place sound.machine_names_differ below

    names-less : machine_names (without_machine rows gone) ≡ remove (machine_names rows) place
    names-less =
        ap (map (λ (m : Machine). m.name)) machines-less ∙ map-remove (λ (m : Machine). m.name) rows.machines place

    home-gone : (home : Option (List ℕ)) → is_on gone home ≡ true → None ≡ home_without place (machine_place rows home)
    home-gone None on = refl
    home-gone (Some name) on =
        sym (ap (λ (b : Bool). cond b None (Some (place_without place (place_of rows name))))
        (is-gone (machine_names rows) place sound.machine_names_differ names-below name ∙ same name on))
      where
        same : (name : List ℕ) → bytes_eq gone name ≡ true → bytes_eq name gone ≡ true
        same name e = elim (bytes_eq name gone) as (λ b. bytes_eq name gone ≡ b → b ≡ true) [
          | true ↦ λ f. refl
          | false ↦ λ f. sym (bytes_eq-other name gone f) ∙ e
        ] refl

    home-stays : (home : Option (List ℕ)) → is_on gone home ≡ false
        → machine_place (without_machine rows gone) home ≡ home_without place (machine_place rows home)
    home-stays None off = refl
    home-stays (Some name) off =
        ap (λ (names : List (List ℕ)). Some (place_in names name)) names-less
        ∙ ap Some (place-removed (machine_names rows) place name names-below (bytes_eq-other gone name off))
        ∙ sym (ap (λ (b : Bool). cond b None (Some (place_without place (place_of rows name))))
        (is-gone (machine_names rows) place sound.machine_names_differ names-below name
        ∙ bytes_eq-other gone name off))

    preferred-less : (preferred : List (List ℕ))
        → map (place_of (without_machine rows gone)) (without_preference gone preferred)
        ≡ preferred_without place (map (place_of rows) preferred)
    preferred-less preferred =
        ap (λ (names : List (List ℕ)). map (place_in names) (without_preference gone preferred)) names-less
        ∙ preferred-removed (machine_names rows) place sound.machine_names_differ names-below preferred

    demand-drained : (task : Task) → IfSome task.machine (λ _. task.waited ≡ 0)
        → demand_of (without_machine rows gone) (evicted gone task) ≡ without_machine_at place (demand_of rows task)
    demand-drained task fresh =
        elim (is_on gone task.machine) as (λ b. is_on gone task.machine ≡ b
        → demand_of (without_machine rows gone)
        (cond b (record (forgetting gone task) { machine = None; waited = 0 }) (forgetting gone task))
        ≡ without_machine_at place (demand_of rows task)) [
          | true ↦ λ on. same_demand (home-gone task.machine on) (preferred-less task.preferred)
              (ap (λ (n : ℕ). weight_at rows (job_place rows task) + n) (sym (no_wait task.machine on fresh))) refl
          | false ↦ λ off. same_demand (home-stays task.machine off) (preferred-less task.preferred) refl refl
        ] refl
      where
        no_wait : (home : Option (List ℕ)) → is_on gone home ≡ true → IfSome home (λ _. task.waited ≡ 0)
            → task.waited ≡ 0
        no_wait None on fresh = absurd (true≢false (sym on))
        no_wait (Some name) on fresh = fresh

    pub case-without_machine : case_of (without_machine rows gone)
        ≡ record (case_of rows) {
          slots = remove (case_of rows).slots place;
          tasks = map (without_machine_at place) (case_of rows).tasks;
        }
    case-without_machine =
        same_case refl refl refl
        (ap (map (λ (m : Machine). m.slots)) machines-less ∙ map-remove (λ (m : Machine). m.slots) rows.machines place)
        refl refl
        (map-map (demand_of (without_machine rows gone)) (evicted gone) rows.tasks
        ∙ map-same (λ (t : Task). demand_of (without_machine rows gone) (evicted gone t))
        (λ (t : Task). without_machine_at place (demand_of rows t)) rows.tasks
        (λ k d l. demand-drained (slice_index_or rows.tasks k d) (form.running k d l))
        ∙ sym (map-map (without_machine_at place) (demand_of rows) rows.tasks))

  -- a job goes
  module _ (place : ℕ) (below : place < length rows.jobs) where
    abbrev closed : List ℕ
    closed = name_at (job_names rows) place

    jobs-below : place < length (job_names rows)
    jobs-below = omega (arith, below, length-map rows.jobs (λ (j : Job). j.name))

    jobs-less : (without_job rows closed).jobs ≡ remove rows.jobs place
    jobs-less = filter-remove (λ (j : Job). j.name) rows.jobs place sound.job_names_differ below

    job-moved : (name : List ℕ) → bytes_eq name closed ≡ false
        → place_in (job_names (without_job rows closed)) name ≡ place_without place (place_in (job_names rows) name)
    job-moved name other =
        ap (λ (names : List (List ℕ)). place_in names name)
        (ap (map (λ (j : Job). j.name)) jobs-less ∙ map-remove (λ (j : Job). j.name) rows.jobs place)
        ∙ place-removed (job_names rows) place name jobs-below other

    weight-moved : (name : List ℕ) → bytes_eq name closed ≡ false
        → weight_at (without_job rows closed) (place_in (job_names (without_job rows closed)) name)
        ≡ weight_at rows (place_in (job_names rows) name)
    weight-moved name other =
        ap (weight_at (without_job rows closed)) (job-moved name other)
        ∙ ap (λ (weights : List ℕ). slice_index_or weights (place_without place (place_in (job_names rows) name)) 0)
        (ap (map (λ (j : Job). j.weight)) jobs-less ∙ map-remove (λ (j : Job). j.weight) rows.jobs place)
        ∙ read-removed (map (λ (j : Job). j.weight) rows.jobs) place (place_in (job_names rows) name) 0
        (λ e. absurd (true≢false (sym (eq-eqb (place_in (job_names rows) name) place e)
        ∙ is-gone (job_names rows) place sound.job_names_differ jobs-below name ∙ other)))
        (omega (arith, below, length-map rows.jobs (λ (j : Job). j.weight)))

    none-of : (tasks : List Task) → has_tasks (record rows { tasks = tasks }) closed ≡ false
        → All (λ task. bytes_eq task.job closed ≡ false) tasks
    none-of [] none = λ k d l. absurd (omega (arith, l))
    none-of (task ∷ tasks) none =
        All-cons (λ (t : Task). bytes_eq t.job closed ≡ false) task tasks
        (bytes_eq-other closed task.job (or-left (bytes_eq closed task.job) _ none))
        (none-of tasks (or-right (bytes_eq closed task.job) _ none))
      where
        or-left : (a b : Bool) → (a || b) ≡ false → a ≡ false
        or-left true b h = h
        or-left false b h = refl

        or-right : (a b : Bool) → (a || b) ≡ false → b ≡ false
        or-right true b h = absurd (true≢false h)
        or-right false b h = h

    length-less : (jobs : List Job) (place : ℕ) → place < length jobs → length (remove jobs place) ≡ length jobs - 1
    length-less [] place below = absurd (omega (arith, below))
    length-less (j ∷ jobs) zero below = omega arith
    length-less (j ∷ jobs) (suc place) below =
        omega (arith, below, length-less jobs place (omega (arith, below)))

    pub case-without_job : has_tasks rows closed ≡ false
        → case_of (without_job rows closed)
        ≡ record (case_of rows) {
          jobs = (case_of rows).jobs - 1;
          tasks = map (without_job_at place) (case_of rows).tasks;
        }
    case-without_job none =
        same_case refl refl refl refl (ap length jobs-less ∙ length-less rows.jobs place below) refl
        (map-same (demand_of (without_job rows closed)) (λ (t : Task). without_job_at place (demand_of rows t))
        rows.tasks
        (λ k d l. let task : Task = slice_index_or rows.tasks k d in
        let other : bytes_eq task.job closed ≡ false = none-of rows.tasks none k d l in
        same_demand refl refl (ap (λ (n : ℕ). n + task.waited) (weight-moved task.job other))
        (job-moved task.job other))
        ∙ sym (map-map (without_job_at place) (demand_of rows) rows.tasks))

  -- a task goes
  pub case-without_task : (place : ℕ) → place < length rows.tasks
      → case_of (without_task rows (name_at (task_names rows) place))
      ≡ record (case_of rows) { tasks = remove (case_of rows).tasks place }
  case-without_task place below =
      same_case refl refl refl refl refl refl
      (ap (map (demand_of rows)) (filter-remove (λ (t : Task). t.name) rows.tasks place sound.task_names_differ below)
      ∙ map-remove (demand_of rows) rows.tasks place)

  -- what a task that was given its choice brings to the next round
  pub demand-settled : (task : Task) (choice : Choice) → IsPlace (length rows.machines) choice
      → demand_of rows (task_after rows task choice)
      ≡ placed (given_home choice) (weight_at rows (job_place rows task) + (task_after rows task choice).waited)
      (demand_of rows task)
  demand-settled task (On j) place =
      same_demand (ap Some (place-of-name (machine_names rows) j sound.machine_names_differ
      (omega (arith, place, length-map rows.machines (λ (m : Machine). m.name))))) refl refl refl
  demand-settled task Wait place = refl

  pub case-rows_after : (choices : List Choice) → All (IsPlace (length rows.machines)) choices
      → length choices ≡ length rows.tasks
      → case_of (rows_after rows choices)
      ≡ record (case_of rows) {
        tasks = seated (weight_at rows) (rows_after rows choices).tasks choices
            (case_of rows).tasks;
      }
  case-rows_after choices places one_each =
      same_case refl refl refl refl refl refl (each rows.tasks choices places one_each)
    where
      each : (tasks : List Task) (choices : List Choice) → All (IsPlace (length rows.machines)) choices
          → length choices ≡ length tasks
          → map (demand_of rows) (zipped (task_after rows) tasks choices)
          ≡ seated (weight_at rows) (zipped (task_after rows) tasks choices) choices (map (demand_of rows) tasks)
      each [] choices places one_each = refl
      each (task ∷ tasks) [] places one_each = absurd (omega (arith, one_each))
      each (task ∷ tasks) (choice ∷ choices) places one_each =
          let P : Choice → Type 0 = IsPlace (length rows.machines) in
          ap (λ (d : Demand). d ∷ map (demand_of rows) (zipped (task_after rows) tasks choices))
          (demand-settled task choice (All-head P choice choices places))
          ∙ ap (λ (l : List Demand). seat (weight_at rows) (task_after rows task choice) choice (demand_of rows task)
          ∷ l)
          (each tasks choices (All-tail P choice choices places) (omega (arith, one_each)))
