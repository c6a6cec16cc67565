-- A command adds one row or one cost at most, no round that left none, and no task that no round leaves where it runs;
-- a book stays sound.
use Rattle.std.proofs.Common.{◌≡◌, ℕ, ◌+◌, ◌-◌, ◌<◌, ◌≤◌, List, [], ◌∷◌, ◌++◌, All, filter, length, drop, ap, ◌∙◌}
use Rattle.std.proofs.Common.{arith, cond, refl, sym, subst, get_or}
use Rattle.std.specs.Prelude.{ℤ, pos, Bool, true, false, not, Option, Some, None, IfSome, is_some, nat_lt}
use Rattle.std.specs.Prelude.{bytes_eq}
use Rattle.std.specs.Prelude.{if◌then◌else◌}
use Rattle.std.proofs.lemmas.List.{length_push, length-drop, length-map}
use Rattle.std.proofs.lemmas.Bool.{ltb-false, ltb-true}
use Rattle.std.proofs.lemmas.List.Elements.{All-nil, All-cons, All-head, All-tail, All-push}
use Rattle.std.proofs.lemmas.List.Elements.{All-drop, All-filter, All-map}
use Rattle.std.proofs.lemmas.List.Sums.{length-filter, count_by-le-length}
use Rattle.circular_buffer.specs.Buffer.{keep_last}
use Rattle.firm_rules.specs.ArenaUse.{arena_nodes, arena_arcs}
use Rattle.firm_rules.specs.Book.{Book, TenantRows, machine_names, job_names, task_names, with_machine, with_job}
use Rattle.firm_rules.specs.Book.{with_task, without_machine, without_job, without_task, evicted, forgetting}
use Rattle.firm_rules.specs.Book.{has_tasks, is_on, task_named, are_machines, new_task, opening_rows}
use Rattle.firm_rules.specs.Limits.{TenantLimits}
use Rattle.firm_rules.specs.Names.{is_among}
use Rattle.firm_rules.specs.Placement.{placement_cost}
use Rattle.firm_rules.specs.Recent.{with_cost}
use Rattle.firm_rules.specs.Round.{IsRound, TheRoundIsTheFirst, case_of, round_placement, rows_after, task_after}
use Rattle.firm_rules.specs.Round.{zipped}
use Rattle.firm_rules.specs.SoundBook.{AreInForm, IsSoundBook, MayStand, entry_count, is_cost, may_stand}
use Rattle.firm_rules.specs.SoundBook.{most_rounds, rounds_shown}
use Rattle.firm_rules.specs.Keeping.{AreSoundInForm}
use Rattle.firm_rules.specs.Standing.{StayStanding, TasksStayStanding}
use Rattle.firm_rules.specs.declared.book.Machine.{Machine}
use Rattle.firm_rules.specs.declared.book.Job.{Job}
use Rattle.firm_rules.specs.declared.book.Task.{Task}
use Rattle.firm_rules.specs.declared.rounds.Choice.{Choice}
use Rattle.firm_rules.specs.declared.rounds.Choice.TheVariants.{On, Wait}
use Rattle.firm_rules.specs.declared.commands.Command.{Command}
use Rattle.firm_rules.specs.declared.commands.Command.TheVariants.{AddMachine, AddJob, AddTask, Drain, CloseJob, Done}
use Rattle.firm_rules.specs.declared.commands.Command.TheVariants.{Find, Show, Costs, Round, Faulty}
use Rattle.firm_rules.specs.declared.replies.Outcome.{Outcome}
use Rattle.firm_rules.specs.declared.replies.Outcome.TheVariants.{Plain}
use Rattle.firm_rules.specs.declared.replies.Refusal.TheVariants.{JobHasTasks}
use Rattle.firm_tenant.specs.Step.{effect, grown, found, refused, round_effect}
use Rattle.firm_tenant.specs.inner.Pools.{Pool, IsOpeningPool, IsPoolOf, IsSoundPool, book_of}

abbrev row_count : TenantRows → ℕ
row_count rows = length rows.machines + length rows.jobs + length rows.tasks

-- no task shows more rounds than these
abbrev ShowAtMost : ℕ → List Task → Type 0
ShowAtMost most tasks = All (λ task. rounds_shown task ≤ most) tasks

-- no task shows more rounds than there may have been
abbrev pub AreShown : Book → Type 0
AreShown book = ShowAtMost (most_rounds book) book.rows.tasks

-- each task is where the last of the rounds that there may have been may have left it
abbrev pub AllStand : Book → Type 0
AllStand book = MayStand (most_rounds book) book.rows

-- the book after has one row or one cost more at most, and a command more for the rounds that its tasks show, which may
-- have left them where they are
pub record Grows (book : Book) (after : Outcome × Book) : Type 0 where
  pub few : entry_count after.1 ≤ entry_count book + 1
  pub rounds : (given : ℕ) → AreInForm book.rows → entry_count book ≤ given
      → AreShown (record book { given = given }) → AreShown (record after.1 { given = given + 1 })
  pub standing : (given : ℕ) → AreSoundInForm book.rows → entry_count book ≤ given
      → AreShown (record book { given = given }) → AllStand (record book { given = given })
      → AllStand (record after.1 { given = given + 1 })

-- as many rounds as before, with one more command and one more row at most
as-many : (kept : Bool) (costs rows more given : ℕ) → more ≤ rows + 1
    → cond kept costs (given - rows) ≤ cond kept costs (given + 1 - more)
as-many true costs rows more given few = omega arith
as-many false costs rows more given few = omega (arith, few)

-- a round more, with its cost
one-more : (costs after rows same given : ℕ) → after ≡ costs + 1 - (costs + 1 - 8) → same ≤ rows
    → rows + costs ≤ given
    → cond (nat_lt costs 8) costs (given - rows) + 1 ≤ cond (nat_lt after 8) after (given + 1 - same)
one-more costs after rows same given is few count = by (nat_lt costs 8) (nat_lt after 8) refl refl
  where
    by : (b c : Bool) → nat_lt costs 8 ≡ b → nat_lt after 8 ≡ c
        → cond b costs (given - rows) + 1 ≤ cond c after (given + 1 - same)
    by true true b-is c-is = omega (arith, is, ltb-true costs 8 b-is)
    by true false b-is c-is = omega (arith, is, few, count, ltb-true costs 8 b-is, ltb-false after 8 c-is)
    by false true b-is c-is = absurd (omega (arith, is, ltb-false costs 8 b-is, ltb-true after 8 c-is))
    by false false b-is c-is = omega (arith, few, count)

-- rows whose tasks show no more
moved : (book : Book) (rows : TenantRows) (given : ℕ) → row_count rows ≤ row_count book.rows + 1
    → ((most : ℕ) → ShowAtMost most book.rows.tasks → ShowAtMost most rows.tasks)
    → AreShown (record book { given = given }) → AreShown (record book { rows = rows; given = given + 1 })
moved book rows given few keeps shown = λ k d l.
    let one = keeps (most_rounds (record book { given = given })) shown k d l in
    omega (
      arith,
      one,
      as-many (nat_lt (length book.costs) 8) (length book.costs) (row_count book.rows) (row_count rows) given few,
    )

either-grows : (book : Book) (b : Bool) (first second : Outcome × Book) → Grows book first → Grows book second
    → Grows book (if b then first else second)
either-grows book true first second one other = one
either-grows book false first second one other = other

-- no fewer rounds, where the costs stay
more-rounds : (book : Book) (rows : TenantRows) (given : ℕ) → row_count rows ≤ row_count book.rows + 1
    → most_rounds (record book { given = given }) ≤ most_rounds (record book { rows = rows; given = given + 1 })
more-rounds book rows given few =
    as-many (nat_lt (length book.costs) 8) (length book.costs) (row_count book.rows) (row_count rows) given few

fewer : {X : Type 0} (p : X → Bool) (xs : List X) → length (filter p xs) ≤ length xs
fewer p xs = omega (arith, length-filter p xs, count_by-le-length p xs)

length-zipped : {X Y Z : Type 0} (f : X → Y → Z) (xs : List X) (ys : List Y) → length (zipped f xs ys) ≤ length xs
length-zipped f [] ys = omega arith
length-zipped f (x ∷ xs) [] = omega arith
length-zipped f (x ∷ xs) (y ∷ ys) = omega (arith, length-zipped f xs ys)

-- a task shows no more rounds once a machine is gone
evicted-shows : (name : List ℕ) (task : Task) → rounds_shown (evicted name task) ≤ rounds_shown task
evicted-shows name task = by (is_on name task.machine)
  where
    by : (b : Bool)
        → rounds_shown (cond b (record (forgetting name task) { machine = None; waited = 0 }) (forgetting name task))
        ≤ rounds_shown task
    by true = omega arith
    by false = omega arith

-- and one more after a round
settled-shows : (most : ℕ) (rows : TenantRows) (tasks : List Task) (placement : List Choice)
    → All (λ task. IfSome task.machine (λ _. task.waited ≡ 0)) tasks → ShowAtMost most tasks
    → ShowAtMost (most + 1) (zipped (task_after rows) tasks placement)
settled-shows most rows [] placement idle shown = All-nil (λ (task : Task). rounds_shown task ≤ most + 1)
settled-shows most rows (task ∷ tasks) [] idle shown = All-nil (λ (task : Task). rounds_shown task ≤ most + 1)
settled-shows most rows (task ∷ tasks) (choice ∷ placement) idle shown =
    All-cons (λ (task : Task). rounds_shown task ≤ most + 1) (task_after rows task choice)
    (zipped (task_after rows) tasks placement)
    (one choice task.machine refl)
    (settled-shows most rows tasks placement
    (All-tail (λ (task : Task). IfSome task.machine (λ _. task.waited ≡ 0)) task tasks idle)
    (All-tail (λ (task : Task). rounds_shown task ≤ most) task tasks shown))
  where
    few : rounds_shown task ≤ most
    few = All-head (λ (task : Task). rounds_shown task ≤ most) task tasks shown

    still : IfSome task.machine (λ _. task.waited ≡ 0)
    still = All-head (λ (task : Task). IfSome task.machine (λ _. task.waited ≡ 0)) task tasks idle

    one : (choice : Choice) (machine : Option (List ℕ)) → task.machine ≡ machine
        → rounds_shown (task_after rows task choice) ≤ most + 1
    one (On j) machine is = omega arith
    one Wait None is =
        let waited : task.waited ≤ most =
        subst (λ (m : Option (List ℕ)). cond (is_some m) 1 task.waited ≤ most) is few in
        omega (arith, waited)
    one Wait (Some name) is =
        let none : task.waited ≡ 0 = subst (λ (m : Option (List ℕ)). IfSome m (λ _. task.waited ≡ 0)) is still in
        omega (arith, none)

costs-grow : (costs : List ℤ) (cost : ℤ) → length (with_cost costs cost) ≤ length costs + 1
costs-grow costs cost =
    omega (arith, length-drop (length (costs ++ cost ∷ []) - 8) (costs ++ cost ∷ []), length_push costs cost)

module _ (law : TasksStayStanding) (first : TheRoundIsTheFirst) where
  -- where only rows change
  moved-grows : (book : Book) (rows : TenantRows) (outcome : Outcome) → row_count rows ≤ row_count book.rows + 1
      → ((most : ℕ) → ShowAtMost most book.rows.tasks → ShowAtMost most rows.tasks)
      → ((rounds more : ℕ) → StayStanding rounds more book.rows → MayStand more rows)
      → Grows book (outcome, record book { rows = rows })
  moved-grows book rows outcome few keeps stands =
      record {
        few = omega (arith, few);
        rounds = λ given form count shown. moved book rows given few keeps shown;
        standing = λ given well count shown stand.
            let rounds : ℕ = most_rounds (record book { given = given }) in
            let more : ℕ = most_rounds (record book { rows = rows; given = given + 1 }) in
            stands rounds more (law rounds more book.rows (more-rounds book rows given few) well stand);
      }

  same-grows : (book : Book) (outcome : Outcome) → Grows book (outcome, book)
  same-grows book outcome =
      record {
        few = omega arith;
        rounds = λ given form count shown. moved book book.rows given (omega arith) (λ most kept. kept) shown;
        standing = λ given well count shown stand.
            let rounds : ℕ = most_rounds (record book { given = given }) in
            let more : ℕ = most_rounds (record book { given = given + 1 }) in
            (law rounds more book.rows (more-rounds book book.rows given (omega arith)) well stand).same;
      }

  grown-grows : (book : Book) (rows : TenantRows) (mark : Bool) → row_count rows ≤ row_count book.rows + 1
      → ((most : ℕ) → ShowAtMost most book.rows.tasks → ShowAtMost most rows.tasks)
      → ((rounds more : ℕ) → StayStanding rounds more book.rows → MayStand more rows)
      → Grows book (grown book rows mark)
  grown-grows book rows mark few keeps stands =
      either-grows book (nat_lt rows.limits.nodes (arena_nodes rows)) _ _ (same-grows book _)
      (either-grows book (nat_lt rows.limits.arcs (arena_arcs rows)) _ _ (same-grows book _)
      (either-grows book mark _ _ (same-grows book _) (moved-grows book rows _ few keeps stands)))

  found-grows : (book : Book) (task : Option Task) → Grows book (found book task)
  found-grows book None = same-grows book _
  found-grows book (Some task) = same-grows book _

  pub effect-grows : (book : Book) (command : Command) (mark : Bool) → Grows book (effect book command mark)
  effect-grows book (AddMachine name slots) mark =
      let machine : Machine = record { name = name; slots = slots } in
      either-grows book (is_among (machine_names book.rows) name) _ _ (same-grows book _)
      (grown-grows book (with_machine book.rows name slots) mark
      (omega (arith, length_push book.rows.machines machine))
      (λ most shown. shown) (λ rounds more stay. stay.machines name slots))
  effect-grows book (AddJob name weight) mark =
      let job : Job = record { name = name; weight = weight } in
      either-grows book (is_among (job_names book.rows) name) _ _ (same-grows book _)
      (grown-grows book (with_job book.rows name weight) mark (omega (arith, length_push book.rows.jobs job))
      (λ most shown. shown) (λ rounds more stay. stay.jobs name weight))
  effect-grows book (AddTask job name preferred) mark =
      either-grows book (not (are_machines book.rows preferred)) _ _ (same-grows book _)
      (either-grows book (not (is_among (job_names book.rows) job)) _ _ (same-grows book _)
      (either-grows book (is_among (task_names book.rows) name) _ _ (same-grows book _)
      (grown-grows book (with_task book.rows job name preferred) mark
      (omega (arith, length_push book.rows.tasks (new_task job name preferred)))
      (λ most shown. All-push (λ (task : Task). rounds_shown task ≤ most) book.rows.tasks (new_task job name preferred)
      shown (omega arith)) (λ rounds more stay. stay.tasks job name preferred))))
  effect-grows book (Drain name) mark =
      either-grows book (not (is_among (machine_names book.rows) name)) _ _ (same-grows book _)
      (moved-grows book (without_machine book.rows name) _
      (omega (arith, left, length-map book.rows.tasks (evicted name)))
      (λ most before. All-map (λ (task : Task). rounds_shown task ≤ most) (evicted name) book.rows.tasks
      (λ k d l. omega (arith, evicted-shows name (get_or book.rows.tasks k d), before k d l)))
      (λ rounds more stay. stay.drained name))
    where
      left : length (filter (λ (machine : Machine). not (bytes_eq name machine.name)) book.rows.machines)
          ≤ length book.rows.machines
      left = fewer (λ (machine : Machine). not (bytes_eq name machine.name)) book.rows.machines
  effect-grows book (CloseJob name) mark =
      either-grows book (not (is_among (job_names book.rows) name)) _ _ (same-grows book _)
      (by (has_tasks book.rows name) refl)
    where
      left : length (filter (λ (job : Job). not (bytes_eq name job.name)) book.rows.jobs) ≤ length book.rows.jobs
      left = fewer (λ (job : Job). not (bytes_eq name job.name)) book.rows.jobs

      by : (b : Bool) → has_tasks book.rows name ≡ b
          → Grows book (if b then (refused book JobHasTasks) else (
            Plain,
            record book {
              rows = without_job book.rows name;
            },
          ))
      by true some = same-grows book _
      by false none =
          moved-grows book (without_job book.rows name) _ (omega (arith, left)) (λ most before. before)
          (λ rounds more stay. stay.closed name none)
  effect-grows book (Done name) mark =
      either-grows book (not (is_among (task_names book.rows) name)) _ _ (same-grows book _)
      (moved-grows book (without_task book.rows name) _ (omega (arith, left))
      (λ most before. All-filter (λ (task : Task). not (bytes_eq name task.name))
      (λ (task : Task). rounds_shown task ≤ most) book.rows.tasks before)
      (λ rounds more stay. stay.done name))
    where
      left : length (filter (λ (task : Task). not (bytes_eq name task.name)) book.rows.tasks) ≤ length book.rows.tasks
      left = fewer (λ (task : Task). not (bytes_eq name task.name)) book.rows.tasks
  effect-grows book (Find name) mark = found-grows book (task_named book.rows name)
  effect-grows book Show mark = same-grows book _
  effect-grows book Costs mark = same-grows book _
  effect-grows book Round mark =
      either-grows book mark _ _ (same-grows book _)
      (placed (round_placement (case_of book.rows)) (first (case_of book.rows)).is)
    where
      placed : (placement : List Choice) → IsRound (case_of book.rows) placement
          → Grows book (round_effect book placement)
      placed placement round =
          let cost : ℤ = pos (placement_cost (case_of book.rows) placement) in
          record {
            few = omega (
              arith,
              length-zipped (task_after book.rows) book.rows.tasks placement,
              costs-grow book.costs cost,
            );
            rounds = λ given form count shown. λ k d l.
                let most : ℕ = most_rounds (record book { given = given }) in
                omega (
                  arith,
                  settled-shows most book.rows book.rows.tasks placement form.running shown k d l,
                  one_round given count,
                );
            standing = λ given well count shown stand.
                let rounds : ℕ = most_rounds (record book { given = given }) in
                let more : ℕ = most_rounds (record (round_effect book placement).1 { given = given + 1 }) in
                let less : rounds < more = omega (arith, one_round given count) in
                (law rounds more book.rows (omega (arith, less)) well stand).placed less placement round shown;
          }
        where
          one_round : (given : ℕ) → entry_count book ≤ given
              → most_rounds (record book { given = given }) + 1
              ≤ most_rounds (record (round_effect book placement).1 { given = given + 1 })
          one_round given count =
              let cost : ℤ = pos (placement_cost (case_of book.rows) placement) in
              one-more (length book.costs) (length (with_cost book.costs cost)) (row_count book.rows)
              (row_count (rows_after book.rows placement)) given
              (omega (
                arith,
                length-drop (length (book.costs ++ cost ∷ []) - 8) (book.costs ++ cost ∷ []),
                length_push book.costs cost,
              ))
              (omega (arith, length-zipped (task_after book.rows) book.rows.tasks placement))
              (omega (arith, count))
  effect-grows book (Faulty fault) mark = same-grows book _

  -- no task of the book after a command shows more rounds than there may have been, and none is elsewhere than the last
  -- of them may have left it
  pub after-step : (old now new : Pool) (given : ℕ) (command : Command) (mark : Bool) (outcome : Outcome) → now ≡ old
      → (outcome, book_of new 0) ≡ effect (book_of now 0) command mark
      → AreSoundInForm old.rows → entry_count (book_of old given) ≤ given → AreShown (book_of old given)
      → AllStand (book_of old given)
      → AreShown (book_of new (given + 1)) × AllStand (book_of new (given + 1))
  after-step old now new given command mark outcome was made well count shown stand =
      subst (λ (b : Book). AreShown (record b { given = given + 1 }) × AllStand (record b { given = given + 1 }))
      (sym (ap (λ (a : Outcome × Book). a.1) made))
      (subst (λ (p : Pool). let b : Book = record (effect (book_of p 0) command mark).1 { given = given + 1 } in
      AreShown b × AllStand b) (sym was)
      (let grows = effect-grows (book_of old 0) command mark in
      (grows.rounds given well.form count shown, grows.standing given well count shown stand)))

-- the last costs of some and one more, each of them one that a round may have
pub costs-kept : (most : ℕ) (costs : List ℤ) (cost : ℤ) → All (λ x. is_cost x ≡ true) costs → is_cost cost ≡ true
    → All (λ x. is_cost x ≡ true) (keep_last most (costs ++ cost ∷ []))
costs-kept most costs cost each new =
    All-drop (λ (x : ℤ). is_cost x ≡ true) (length (costs ++ cost ∷ []) - most) (costs ++ cost ∷ [])
    (All-push (λ (x : ℤ). is_cost x ≡ true) costs cost each new)

-- all costs are the last of a few
pub few-kept : (costs : List ℤ) → length costs ≤ 8 → keep_last 8 ([] ++ costs) ≡ costs
few-kept costs few =
    let none : length costs - 8 ≡ 0 = omega (arith, few) in
    ap (λ (n : ℕ). drop n costs) none

-- the book of a sound pool whose count of commands is in its range
pub sound-book_of : (pool : Pool) (given : ℕ) → IsSoundPool pool → given ≤ pool.rows.limits.life
    → entry_count (book_of pool given) ≤ given → AreShown (book_of pool given) → AllStand (book_of pool given)
    → IsSoundBook (book_of pool given)
sound-book_of pool given sound life count shown standing =
    record {
      rows = sound.rows;
      form = sound.form;
      few_costs = sound.few_costs;
      costs = sound.costs;
      life = life;
      count = count;
      rounds = shown;
      standing = standing;
    }

-- with one command more, if life is left
pub sound-counted : TasksStayStanding → (pool : Pool) (given : ℕ) → IsSoundBook (book_of pool given)
    → given < pool.rows.limits.life → IsSoundBook (book_of pool (given + 1))
sound-counted law pool given sound left =
    record {
      rows = sound.rows;
      form = sound.form;
      few_costs = sound.few_costs;
      costs = sound.costs;
      life = omega (arith, left);
      count = omega (arith, sound.count);
      rounds = moved (book_of pool given) pool.rows given (omega arith) (λ most kept. kept) sound.rounds;
      standing = (law (most_rounds (book_of pool given)) (most_rounds (book_of pool (given + 1))) pool.rows
          (more-rounds (book_of pool given) pool.rows given (omega arith))
          (record { sound = sound.rows; form = sound.form }) sound.standing).same;
    }

-- the pool of a book, with the book's count of commands, makes that book
pub book-of_pool : (book : Book) (pool : Pool) (given : ℕ) → IsPoolOf book pool → given ≡ book.given
    → book_of pool given ≡ book
book-of_pool book pool given is same =
    ap (λ (r : TenantRows). let b : Book = record { rows = r; costs = pool.costs; given = given } in b) is.rows
    ∙ ap (λ (l : List ℤ). let b : Book = record { rows = book.rows; costs = l; given = given } in b) is.costs
    ∙ ap (λ (n : ℕ). let b : Book = record { rows = book.rows; costs = book.costs; given = n } in b) same

-- and had no more rows added to it than commands were given
pub asked-few : (book : Book) (pool : Pool) (given : ℕ) → IsSoundBook book → IsPoolOf book pool → given ≡ book.given
    → pool.asked ≤ given
asked-few book pool given sound is same = omega (arith, sound.count, is.asked, same)

-- a pool that has nothing yet makes a sound book
pub sound-opening : (limits : TenantLimits) (pool : Pool) → IsSoundPool pool → IsOpeningPool limits pool
    → IsSoundBook (book_of pool 0)
sound-opening limits pool sound is =
    sound-book_of pool 0 sound (omega arith)
    (omega (
      arith,
      ap (λ (r : TenantRows). row_count r) is.rows,
      ap (λ (l : List ℤ). length l) is.costs,
    ))
    (subst (λ (r : TenantRows). ShowAtMost (most_rounds (book_of pool 0)) r.tasks) (sym is.rows)
    (All-nil (λ (task : Task). rounds_shown task ≤ most_rounds (book_of pool 0))))
    (subst (λ (r : TenantRows). MayStand (most_rounds (book_of pool 0)) r) (sym is.rows)
    (All-nil (λ (task : Task). may_stand (opening_rows limits) (most_rounds (book_of pool 0)) task task.machine
    ≡ true)))
