-- The tasks' waits after commands other than a round.
use Rattle.std.proofs.Common.{◌≡◌, ℕ, ◌≤◌, ◌⊎◌, Bool, true, false, not, cond, List, []}
use Rattle.std.proofs.Common.{◌∷◌, map, filter, count_by, refl, sym, ap, subst, ◌∙◌, arith, true≢false}
use Rattle.std.proofs.Common.{inl, inr, ⊎_elim, bytes_eq, IfSome, Option, Some, None}
use Rattle.std.specs.Prelude.{nat_le, nat_lt, slice_index_or, if◌then◌else◌}
use Rattle.std.specs.List.{All, list_all}
use Rattle.std.proofs.lemmas.Bool.{cases_Bool, leb-true, le-leb, lt-leb, ltb-false, not-false, and_parts, cond_both}
use Rattle.std.proofs.lemmas.List.Elements.{All-nil, All-cons, All-push, All-map, All-filter}
use Rattle.std.proofs.lemmas.List.Sums.{sum_by-cons, sum_by_push}
use Rattle.std.proofs.lemmas.Slice.Eq.{bytes_eq-Decides}
use Rattle.firm_rules.specs.ArenaUse.{FitsLimits, arena_nodes, arena_arcs}
use Rattle.firm_rules.specs.Book.{Book, TenantRows, machine_names, job_names, task_names, with_machine, with_job}
use Rattle.firm_rules.specs.Book.{with_task, without_machine, without_job, without_task, has_tasks, task_named}
use Rattle.firm_rules.specs.Book.{are_machines, evicted, forgetting, is_on, new_task}
use Rattle.firm_rules.specs.Names.{is_among}
use Rattle.firm_rules.specs.Round.{case_of, round_placement, rows_after}
use Rattle.firm_rules.specs.Keeping.{AreSoundInForm, StaySoundInForm, SoundRowsStaySound}
use Rattle.firm_rules.specs.declared.book.Task.{Task}
use Rattle.firm_rules.specs.declared.commands.Command.{Command}
use Rattle.firm_rules.specs.declared.commands.Command.TheVariants.{AddMachine, AddJob, AddTask, Drain, CloseJob, Done}
use Rattle.firm_rules.specs.declared.commands.Command.TheVariants.{Find, Show, Costs, Round, Faulty}
use Rattle.firm_rules.specs.declared.replies.Outcome.{Outcome}
use Rattle.firm_tenant.specs.Step.{step, effect, grown, found, whereabouts_of, counted}
use Rattle.firm_tenant.specs.Starvation.{IsInRange, is_round}

-- each task of this name has been left waiting by this many rounds
abbrev pub HasWaited : List ℕ → ℕ → List Task → Type 0
HasWaited name rounds tasks = All (λ task. bytes_eq name task.name ≡ true → rounds ≤ task.waited) tasks

-- number of tasks that have been left waiting by this many rounds
abbrev pub count_waits : ℕ → List Task → ℕ
count_waits rounds tasks = count_by (λ task. nat_le rounds task.waited) tasks

-- the rows stay sound, the task of this name has waited for as long, and no more tasks have waited for long
pub record IsCalm (name : List ℕ) (before after : TenantRows) : Type 0 where
  pub well : AreSoundInForm after
  pub limits : after.limits ≡ before.limits
  pub waited : (rounds : ℕ) → HasWaited name rounds before.tasks → HasWaited name rounds after.tasks
  pub fewer : (rounds : ℕ) → 1 ≤ rounds → count_waits rounds after.tasks ≤ count_waits rounds before.tasks

abbrev pub one_if : Bool → ℕ
one_if b = cond b 1 0

-- a longer wait is as long as each that the shorter one is as long as
le-more : (n a b : ℕ) → a ≤ b → one_if (nat_le n a) ≤ one_if (nat_le n b)
le-more n a b less =
    ⊎_elim
    (λ (e : nat_le n a ≡ true).
    omega (arith, ap one_if e, ap one_if (le-leb n b (omega (arith, less, leb-true n a e)))))
    (λ (e : nat_le n a ≡ false). omega (arith, ap one_if e)) (cases_Bool (nat_le n a))

-- the same tasks
same-tasks : (name : List ℕ) (before after : TenantRows) → AreSoundInForm after → after.limits ≡ before.limits
    → after.tasks ≡ before.tasks → IsCalm name before after
same-tasks name before after well limits same =
    record {
      well = well;
      limits = limits;
      waited = λ rounds h. subst (HasWaited name rounds) (sym same) h;
      fewer = λ rounds some. omega (arith, ap (count_waits rounds) same);
    }

-- one more task, which has waited for no round and has another name
new-task : (name : List ℕ) (rows : TenantRows) (job new : List ℕ) (preferred : List (List ℕ))
    → AreSoundInForm (with_task rows job new preferred) → is_among (task_names rows) name ≡ true
    → is_among (task_names rows) new ≡ false → IsCalm name rows (with_task rows job new preferred)
new-task name rows job new preferred well there unknown =
    record {
      well = well;
      limits = refl;
      waited = λ rounds h. All-push (λ (t : Task). bytes_eq name t.name ≡ true → rounds ≤ t.waited) rows.tasks
          (new_task job new preferred) h
          (λ (e : bytes_eq name new ≡ true). absurd (true≢false
          (sym there ∙ ap (is_among (task_names rows)) ((bytes_eq-Decides name new).0 e) ∙ unknown)));
      fewer = λ rounds some. omega (
        arith,
        sum_by_push (λ (t : Task). one_if (nat_le rounds t.waited)) rows.tasks (new_task job new preferred),
        ap one_if (lt-leb rounds 0 some),
      );
    }

-- some tasks less
module _ (keep : Task → Bool) where
  fewer-kept : (n : ℕ) (tasks : List Task) → count_waits n (filter keep tasks) ≤ count_waits n tasks
  fewer-kept n [] = omega arith
  fewer-kept n (task ∷ tasks) =
      let waits : Task → ℕ = λ t. one_if (nat_le n t.waited) in
      cond_both (keep task) (task ∷ filter keep tasks) (filter keep tasks)
      (λ (l : List Task). count_waits n l ≤ count_waits n (task ∷ tasks))
      (λ _. omega (
        arith,
        sum_by-cons waits task (filter keep tasks),
        sum_by-cons waits task tasks,
        fewer-kept n tasks,
      ))
      (λ _. omega (arith, sum_by-cons waits task tasks, fewer-kept n tasks))

-- a drained machine's tasks, which had waited for no round
module _ (gone : List ℕ) where
  evicted-waits : (task : Task) → (evicted gone task).waited ≤ task.waited
  evicted-waits task =
      cond_both (is_on gone task.machine) (record (forgetting gone task) { machine = None; waited = 0 })
      (forgetting gone task) (λ (t : Task). t.waited ≤ task.waited) (λ _. omega arith) (λ _. omega arith)

  fewer-evicted : (n : ℕ) (tasks : List Task) → count_waits n (map (evicted gone) tasks) ≤ count_waits n tasks
  fewer-evicted n [] = omega arith
  fewer-evicted n (task ∷ tasks) =
      let waits : Task → ℕ = λ t. one_if (nat_le n t.waited) in
      omega (
        arith,
        sum_by-cons waits (evicted gone task) (map (evicted gone) tasks),
        sum_by-cons waits task tasks,
        le-more n (evicted gone task).waited task.waited (evicted-waits task),
        fewer-evicted n tasks,
      )

  on-one : (machine : Option (List ℕ)) (waited : ℕ) → is_on gone machine ≡ true → IfSome machine (λ _. waited ≡ 0)
      → waited ≡ 0
  on-one None waited is none = absurd (true≢false (sym is))
  on-one (Some name) waited is none = none

  evicted-waited : (name : List ℕ) (rounds : ℕ) (task : Task) → IfSome task.machine (λ _. task.waited ≡ 0)
      → (bytes_eq name task.name ≡ true → rounds ≤ task.waited)
      → bytes_eq name (evicted gone task).name ≡ true → rounds ≤ (evicted gone task).waited
  evicted-waited name rounds task fresh waited =
      cond_both (is_on gone task.machine) (record (forgetting gone task) { machine = None; waited = 0 })
      (forgetting gone task) (λ (t : Task). bytes_eq name t.name ≡ true → rounds ≤ t.waited)
      (λ (on : is_on gone task.machine ≡ true) (e : bytes_eq name task.name ≡ true).
      omega (arith, waited e, on-one task.machine task.waited on fresh))
      (λ _. waited)

drained : (name gone : List ℕ) (rows : TenantRows) → AreSoundInForm rows → AreSoundInForm (without_machine rows gone)
    → IsCalm name rows (without_machine rows gone)
drained name gone rows well after =
    record {
      well = after;
      limits = refl;
      waited = λ rounds h. All-map (λ (t : Task). bytes_eq name t.name ≡ true → rounds ≤ t.waited) (evicted gone)
          rows.tasks (λ k d l. evicted-waited gone name rounds (slice_index_or rows.tasks k d)
          (well.form.running k d l) (h k d l));
      fewer = λ rounds some. fewer-evicted gone rounds rows.tasks;
    }

done : (name gone : List ℕ) (rows : TenantRows) → AreSoundInForm (without_task rows gone)
    → IsCalm name rows (without_task rows gone)
done name gone rows after =
    let keep : Task → Bool = λ t. not (bytes_eq gone t.name) in
    record {
      well = after;
      limits = refl;
      waited = λ rounds h. All-filter keep (λ (t : Task). bytes_eq name t.name ≡ true → rounds ≤ t.waited) rows.tasks h;
      fewer = λ rounds some. fewer-kept keep rounds rows.tasks;
    }

-- what a command comes to: a round, or what keeps the tasks' waits
abbrev pub Goes : List ℕ → TenantRows → Outcome → TenantRows → Type 0
Goes name before outcome after =
    ((is_round outcome ≡ false) × IsCalm name before after)
    ⊎ ((is_round outcome ≡ true) × (after ≡ rows_after before (round_placement (case_of before))))

module _ (stay : SoundRowsStaySound) (name : List ℕ) (book : Book) (well : AreSoundInForm book.rows)
    (there : is_among (task_names book.rows) name ≡ true) where
  abbrev To : Outcome × Book → Type 0
  To after = Goes name book.rows after.0 after.1.rows

  abbrev stays : StaySoundInForm book.rows
  stays = stay book.rows well

  still : IsCalm name book.rows book.rows
  still = same-tasks name book.rows book.rows well refl refl

  either-goes : (b : Bool) (first second : Outcome × Book) → (b ≡ true → To first) → (b ≡ false → To second)
      → To (if b then first else second)
  either-goes true first second one other = one refl
  either-goes false first second one other = other refl

  grown-goes : (rows : TenantRows) (mark : Bool) → (FitsLimits rows → IsCalm name book.rows rows)
      → To (grown book rows mark)
  grown-goes rows mark calm =
      either-goes (nat_lt rows.limits.nodes (arena_nodes rows)) _ _ (λ _. inl (refl, still))
      (λ nodes. either-goes (nat_lt rows.limits.arcs (arena_arcs rows)) _ _ (λ _. inl (refl, still))
      (λ arcs. either-goes mark _ _ (λ _. inl (refl, still))
      (λ _. inl (
        refl,
        calm (record {
          nodes = ltb-false rows.limits.nodes (arena_nodes rows) nodes;
          arcs = ltb-false rows.limits.arcs (arena_arcs rows) arcs;
        }),
      ))))

  stands : (machine : Option (List ℕ)) (waited : ℕ) → To (whereabouts_of machine waited, book)
  stands None waited = inl (refl, still)
  stands (Some machine) waited = inl (refl, still)

  found-goes : (task : Option Task) → To (found book task)
  found-goes None = inl (refl, still)
  found-goes (Some task) = stands task.machine task.waited

  all-there : (names : List (List ℕ)) → list_all (is_among (machine_names book.rows)) names ≡ true
      → All (λ machine. is_among (machine_names book.rows) machine ≡ true) names
  all-there [] all = All-nil (λ (machine : List ℕ). is_among (machine_names book.rows) machine ≡ true)
  all-there (one ∷ names) all =
      let parts = and_parts (is_among (machine_names book.rows) one)
      (list_all (is_among (machine_names book.rows)) names) all in
      All-cons (λ (machine : List ℕ). is_among (machine_names book.rows) machine ≡ true) one names parts.0
      (all-there names parts.1)

  effect-goes : (command : Command) (mark : Bool) → IsInRange command → To (effect book command mark)
  effect-goes (AddMachine new slots) mark range =
      either-goes (is_among (machine_names book.rows) new) _ _ (λ _. inl (refl, still))
      (λ unknown. grown-goes (with_machine book.rows new slots) mark (λ fits.
      same-tasks name book.rows (with_machine book.rows new slots)
      (stays.machines new slots range.0 unknown range.1 range.2 fits) refl refl))
  effect-goes (AddJob new weight) mark range =
      either-goes (is_among (job_names book.rows) new) _ _ (λ _. inl (refl, still))
      (λ unknown. grown-goes (with_job book.rows new weight) mark (λ fits.
      same-tasks name book.rows (with_job book.rows new weight)
      (stays.jobs new weight range.0 unknown range.1 range.2 fits) refl refl))
  effect-goes (AddTask job new preferred) mark range =
      either-goes (not (are_machines book.rows preferred)) _ _ (λ _. inl (refl, still))
      (λ machines. either-goes (not (is_among (job_names book.rows) job)) _ _ (λ _. inl (refl, still))
      (λ of. either-goes (is_among (task_names book.rows) new) _ _ (λ _. inl (refl, still))
      (λ unknown. grown-goes (with_task book.rows job new preferred) mark (λ fits.
      new-task name book.rows job new preferred
      (stays.tasks job new preferred range.0 unknown (not-false (is_among (job_names book.rows) job) of)
      (all-there preferred (not-false (are_machines book.rows preferred) machines)) range.1 range.2 fits)
      there unknown))))
  effect-goes (Drain gone) mark range =
      either-goes (not (is_among (machine_names book.rows) gone)) _ _ (λ _. inl (refl, still))
      (λ _. inl (refl, drained name gone book.rows well (stays.drained gone)))
  effect-goes (CloseJob gone) mark range =
      either-goes (not (is_among (job_names book.rows) gone)) _ _ (λ _. inl (refl, still))
      (λ _. either-goes (has_tasks book.rows gone) _ _ (λ _. inl (refl, still))
      (λ none. inl (refl, same-tasks name book.rows (without_job book.rows gone) (stays.closed gone none) refl refl)))
  effect-goes (Done gone) mark range =
      either-goes (not (is_among (task_names book.rows) gone)) _ _ (λ _. inl (refl, still))
      (λ _. inl (refl, done name gone book.rows (stays.done gone)))
  effect-goes (Find one) mark range = found-goes (task_named book.rows one)
  effect-goes Show mark range = inl (refl, still)
  effect-goes Costs mark range = inl (refl, still)
  effect-goes Round mark range = either-goes mark _ _ (λ _. inl (refl, still)) (λ _. inr (refl, refl))
  effect-goes (Faulty fault) mark range = inl (refl, still)

pub step-goes : SoundRowsStaySound → (name : List ℕ) (book : Book) → AreSoundInForm book.rows
    → is_among (task_names book.rows) name ≡ true → (command : Command) (mark : Bool) → IsInRange command
    → Goes name book.rows (step book command mark).0.outcome (step book command mark).1.rows
step-goes stay name book well there command mark range = by (nat_le book.rows.limits.life book.given) refl
  where
    by : (worn : Bool) → nat_le book.rows.limits.life book.given ≡ worn
        → Goes name book.rows (step book command mark).0.outcome (step book command mark).1.rows
    by true e = rw e (inl (refl, same-tasks name book.rows book.rows well refl refl))
    by false e = rw e (effect-goes stay name (counted book) well there command mark range)
