-- The rows of a sound state are read as this state.
use Rattle.std.proofs.Common.{◌≡◌, ◌≤◌, ◌+◌, ◌*◌, ℕ, suc, Bool, true, false, cond, List}
use Rattle.std.proofs.Common.{[], ◌∷◌, ◌++◌, length, map, refl, sym, ap, subst, ◌∙◌, arith, append_assoc, Option}
use Rattle.std.proofs.Common.{Some, None}
use Rattle.std.proofs.Common.{Result, Ok, bytes_eq, get_or}
use Rattle.std.specs.Prelude.{ℤ, ◌-◌, All, IfSome, max, min, nat_le, nat_lt, option_map, sum_by}
use Rattle.std.specs.List.{list_all, AllByRecursion, IsDistinct}
use Rattle.std.proofs.lemmas.Bool.{and_from, le-leb, le-ltb, ltb-false, ltb-true}
use Rattle.std.proofs.lemmas.List.{append-nil, map-append, length-append}
use Rattle.std.proofs.lemmas.List.Elements.{recursion_from_All}
use Rattle.std.proofs.lemmas.List.Sums.{sum_by-append, sum_by-cons}
use Rattle.firm_rules.specs.ArenaUse.{machine_arc_count, preference_count}
use Rattle.firm_rules.specs.Book.{TenantRows, Book, are_machines, is_on, job_names, machine_names}
use Rattle.firm_rules.specs.Book.{running_on}
use Rattle.firm_rules.specs.Names.{is_among}
use Rattle.firm_rules.specs.Sound.{AreSound}
use Rattle.firm_rules.specs.declared.book.Machine.{Machine}
use Rattle.firm_rules.specs.declared.book.Job.{Job}
use Rattle.firm_rules.specs.declared.book.Task.{Task}
use Rattle.firm_text.specs.Commands.{◌>>=◌}
use Rattle.firm_rules.specs.SoundBook.{AreInForm, IsSoundBook, MayStand, book_fault, is_cost, may_stand, most_rounds}
use Rattle.firm_rules.specs.SoundBook.{rounds_shown}
use Rattle.firm_rules.specs.SlotCosts.{LaterSlotsCostNoLess}
use Rattle.firm_saved.specs.declared.faults.FaultKind.{FaultKind}
use Rattle.firm_saved.specs.declared.faults.FaultKind.TheVariants as fault
use Rattle.firm_saved.specs.declared.rows.Row.{Row}
use Rattle.firm_saved.specs.declared.rows.Row.TheVariants as row
use Rattle.firm_saved.specs.declared.saved.SavedPlace.{SavedPlace}
use Rattle.firm_saved.specs.Drafts.{Draft, TenantDraft, arena_fault, commands_fault, costs_fault, costs_read, either}
use Rattle.firm_saved.specs.Drafts.{grown, limit_fault, new_tenant}
use Rattle.firm_saved.specs.Drafts.{book_with, crowded_fault, rounds_fault, rounds_with, row_count}
use Rattle.firm_saved.specs.Drafts.{has_room, job_fault, kind_of, machine_fault, naming_fault, running_fault}
use Rattle.firm_saved.specs.Drafts.{taken, task_fault}
use Rattle.firm_saved.specs.Drafts.{unless}
use Rattle.firm_saved.proofs.Crowding.{lighter}
use Rattle.firm_saved.proofs.LineRows.{apart}

-- the draft after some rows
abbrev pub dsteps : Draft → List Row → Result Draft FaultKind
dsteps draft [] = Ok draft
dsteps draft (r ∷ rows) = taken draft r >>= λ after. dsteps after rows

pub unless_none : {A : Type 0} (o : Option FaultKind) (x : A) → o ≡ None → unless o x ≡ Ok x
unless_none o x e = ap (λ (p : Option FaultKind). unless p x) e

-- what holds of each of some things holds of one of them
pub middle : {X : Type 0} (P : X → Type 0) (xs ys : List X) (x : X) → All P (xs ++ x ∷ ys) → P x
middle {X} P xs ys x all = among xs (recursion_from_All P (xs ++ x ∷ ys) all)
  where
    among : (xs : List X) → AllByRecursion P (xs ++ x ∷ ys) → P x
    among [] h = h.0
    among (y ∷ xs) h = among xs h.1

-- a test that each passes
pub each_passes : {X : Type 0} (p : X → Bool) (xs : List X) → All (λ x. p x ≡ true) xs → list_all p xs ≡ true
each_passes {X} p xs all = by xs (recursion_from_All (λ (x : X). p x ≡ true) xs all)
  where
    by : (xs : List X) → AllByRecursion (λ x. p x ≡ true) xs → list_all p xs ≡ true
    by [] h = refl
    by (x ∷ xs) h = and_from (p x) (list_all p xs) h.0 (by xs h.1)

-- nothing keeps a sound book from being one
pub book_free : (book : Book) → IsSoundBook book → option_map kind_of (book_fault book) ≡ None
book_free book sound =
    rw (
      each_passes is_cost book.costs sound.costs,
      le-ltb _ _ sound.life,
      le-ltb _ _ sound.count,
      each_passes (λ (task : Task). nat_le (rounds_shown task) (most_rounds book)) book.rows.tasks
          (λ k d below. le-leb _ _ (sound.rounds k d below)),
      each_passes (λ (task : Task). may_stand book.rows (most_rounds book) task task.machine) book.rows.tasks
          sound.standing,
    ) refl

arena_none : (rows : TenantRows) (arcs : ℕ)
    → 2 + length rows.machines + length rows.jobs + length rows.tasks + 1 ≤ rows.limits.nodes
    → machine_arc_count rows.machines + length rows.jobs + 3 * length rows.tasks + preference_count rows.tasks + arcs
    ≤ rows.limits.arcs
    → arena_fault rows arcs ≡ None
arena_none rows arcs nodes arcs_fit = rw (le-ltb _ _ nodes, le-ltb _ _ arcs_fit) refl

commands_none : (t : TenantDraft) (more rounds : ℕ) → row_count t.rows + more + rounds ≤ t.given
    → commands_fault t more rounds ≡ None
commands_none t more rounds few = ap (λ (b : Bool). cond b (Some fault.Commands) None) (le-ltb _ _ few)

limit_none : (t : TenantDraft) (arcs rounds : ℕ) → arena_fault t.rows arcs ≡ None
    → row_count t.rows + 1 + rounds ≤ t.given
    → limit_fault t arcs rounds ≡ None
limit_none t arcs rounds arena few =
    ap (λ (o : Option FaultKind). either o (commands_fault t 1 rounds)) arena ∙ commands_none t 1 rounds few

-- how many rounds there were at least, by some tasks too
abbrev pub rounds_read : ℕ → List Task → ℕ
rounds_read rounds [] = rounds
rounds_read rounds (task ∷ tasks) = rounds_read (rounds_with rounds task) tasks

read_push : (rounds : ℕ) (tasks : List Task) (task : Task)
    → rounds_with (rounds_read rounds tasks) task ≡ rounds_read rounds (tasks ++ task ∷ [])
read_push rounds [] task = refl
read_push rounds (first ∷ tasks) task = read_push (rounds_with rounds first) tasks task

-- no more than each of the tasks shows, these and others
read_most : (most rounds : ℕ) (tasks more : List Task) → rounds ≤ most
    → AllByRecursion (λ task. rounds_shown task ≤ most) (tasks ++ more) → rounds_read rounds tasks ≤ most
read_most most rounds [] more few each = few
read_most most rounds (task ∷ tasks) more few each =
    read_most most (rounds_with rounds task) tasks more (let one = each.0 in omega arith) each.1

module _ (name : List ℕ) (costs : List ℤ) (given : ℕ) (final : TenantRows) (sound : AreSound final) (form : AreInForm
    final) (count : length final.machines + length final.jobs + length final.tasks + length costs ≤ given)
    (shown : All (λ (task : Task). rounds_shown task
    ≤ most_rounds (record { rows = final; costs = costs; given = given })) final.tasks)
    (stand : MayStand (most_rounds (record { rows = final; costs = costs; given = given })) final)
    (before : List SavedPlace) (present : Option ℕ) where
  -- the tenant once these machines, jobs and tasks are read
  abbrev pub tenant_at : List Machine → List Job → List Task → TenantDraft
  tenant_at machines jobs tasks =
      record {
        name = name;
        rows = record { limits = final.limits; machines = machines; jobs = jobs; tasks = tasks };
        costs = Some costs;
        given = given;
        rounds = rounds_read (length costs) tasks;
      }

  abbrev pub draft_at : List Machine → List Job → List Task → Draft
  draft_at machines jobs tasks =
      record { before = before; present = present; tenant = Some (tenant_at machines jobs tasks) }

  goes : (t t2 : TenantDraft) (r : Row) (rest : List Row)
      → (taken (record { before = before; present = present; tenant = Some t }) r
      ≡ (grown t r >>= λ more. Ok (record { before = before; present = present; tenant = Some more })))
      → grown t r ≡ Ok t2
      → dsteps (record { before = before; present = present; tenant = Some t }) (r ∷ rest)
      ≡ dsteps (record { before = before; present = present; tenant = Some t2 }) rest
  goes t t2 r rest is e =
      ap (λ (x : Result Draft FaultKind). x >>= λ after. dsteps after rest) is
      ∙ ap (λ (x : Result TenantDraft FaultKind).
      (x >>= λ more. let y : Result Draft FaultKind = Ok
      (record { before = before; present = present; tenant = Some more }) in y)
      >>= λ after. dsteps after rest) e

  -- the row of the costs
  pub costs_run : (tail : List Row)
      → dsteps (record { before = before; present = present; tenant = Some (new_tenant name final.limits given) })
      (row.Costs costs ∷ tail) ≡ dsteps (draft_at [] [] []) tail
  costs_run tail =
      let fresh : TenantDraft = new_tenant name final.limits given in
      goes fresh (tenant_at [] [] []) (row.Costs costs) tail refl
      (unless_none (costs_fault fresh costs) (tenant_at [] [] [])
      (commands_none fresh 0 (length costs) (let c = count in omega arith)))

  machine_free : (ms1 ms2 : List Machine) (m : Machine) → ms1 ++ m ∷ ms2 ≡ final.machines
      → machine_fault (tenant_at ms1 [] []) m ≡ None
  machine_free ms1 ms2 m is =
      let names : IsDistinct bytes_eq
      (map (λ (x : Machine). x.name) ms1 ++ m.name ∷ map (λ (x : Machine). x.name) ms2) =
      subst (IsDistinct bytes_eq)
      (ap (map (λ (x : Machine). x.name)) (sym is) ∙ map-append (λ (x : Machine). x.name) ms1 (m ∷ ms2))
      sound.machine_names_differ in
      let long : length final.machines ≡ length ms1 + suc (length ms2) =
      ap (λ (l : List Machine). length l) (sym is) ∙ length-append ms1 (m ∷ ms2) in
      let arcs : machine_arc_count final.machines
      ≡ machine_arc_count ms1 + ((1 + m.slots) + machine_arc_count ms2) =
      ap machine_arc_count (sym is) ∙ sum_by-append (λ (x : Machine). 1 + x.slots) ms1 (m ∷ ms2)
      ∙ ap (λ (n : ℕ). machine_arc_count ms1 + n) (sum_by-cons (λ (x : Machine). 1 + x.slots) m ms2) in
      let fits = sound.fits in
      ap (λ (b : Bool). cond b (Some fault.Repeated)
      (limit_fault (tenant_at ms1 [] []) (1 + m.slots) (length costs)))
      (apart (map (λ (x : Machine). x.name) ms1) (map (λ (x : Machine). x.name) ms2) m.name names)
      ∙ limit_none (tenant_at ms1 [] []) (1 + m.slots) (length costs)
      (arena_none (record { limits = final.limits; machines = ms1; jobs = []; tasks = [] }) (1 + m.slots)
      (let n = fits.nodes in omega arith) (let a = fits.arcs in omega arith))
      (let c = count in omega arith)

  pub machines_run : (ms1 ms2 : List Machine) (tail : List Row) → ms1 ++ ms2 ≡ final.machines
      → dsteps (draft_at ms1 [] []) (map row.Machine ms2 ++ tail) ≡ dsteps (draft_at final.machines [] []) tail
  machines_run ms1 [] tail is =
      ap (λ (ms : List Machine). dsteps (draft_at ms [] []) tail) (sym (append-nil ms1) ∙ is)
  machines_run ms1 (m ∷ ms2) tail is =
      goes (tenant_at ms1 [] []) (tenant_at (ms1 ++ m ∷ []) [] []) (row.Machine m) (map row.Machine ms2 ++ tail) refl
      (unless_none (machine_fault (tenant_at ms1 [] []) m) (tenant_at (ms1 ++ m ∷ []) [] [])
      (machine_free ms1 ms2 m is))
      ∙ machines_run (ms1 ++ m ∷ []) ms2 tail (append_assoc ms1 (m ∷ []) ms2 ∙ is)

  job_free : (js1 js2 : List Job) (j : Job) → js1 ++ j ∷ js2 ≡ final.jobs
      → job_fault (tenant_at final.machines js1 []) j ≡ None
  job_free js1 js2 j is =
      let names : IsDistinct bytes_eq (map (λ (x : Job). x.name) js1 ++ j.name ∷ map (λ (x : Job). x.name) js2) =
      subst (IsDistinct bytes_eq)
      (ap (map (λ (x : Job). x.name)) (sym is) ∙ map-append (λ (x : Job). x.name) js1 (j ∷ js2))
      sound.job_names_differ in
      let long : length final.jobs ≡ length js1 + suc (length js2) =
      ap (λ (l : List Job). length l) (sym is) ∙ length-append js1 (j ∷ js2) in
      let fits = sound.fits in
      ap (λ (b : Bool). cond b (Some fault.Repeated)
      (limit_fault (tenant_at final.machines js1 []) 1 (length costs)))
      (apart (map (λ (x : Job). x.name) js1) (map (λ (x : Job). x.name) js2) j.name names)
      ∙ limit_none (tenant_at final.machines js1 []) 1 (length costs)
      (arena_none (record { limits = final.limits; machines = final.machines; jobs = js1; tasks = [] }) 1
      (let n = fits.nodes in omega arith) (let a = fits.arcs in omega arith))
      (let c = count in omega arith)

  pub jobs_run : (js1 js2 : List Job) (tail : List Row) → js1 ++ js2 ≡ final.jobs
      → dsteps (draft_at final.machines js1 []) (map row.Job js2 ++ tail)
      ≡ dsteps (draft_at final.machines final.jobs []) tail
  jobs_run js1 [] tail is =
      ap (λ (js : List Job). dsteps (draft_at final.machines js []) tail) (sym (append-nil js1) ∙ is)
  jobs_run js1 (j ∷ js2) tail is =
      goes (tenant_at final.machines js1 []) (tenant_at final.machines (js1 ++ j ∷ []) []) (row.Job j)
      (map row.Job js2 ++ tail) refl
      (unless_none (job_fault (tenant_at final.machines js1 []) j) (tenant_at final.machines (js1 ++ j ∷ []) [])
      (job_free js1 js2 j is))
      ∙ jobs_run (js1 ++ j ∷ []) js2 tail (append_assoc js1 (j ∷ []) js2 ∙ is)

  abbrev rows_at : List Task → TenantRows
  rows_at tasks = record { limits = final.limits; machines = final.machines; jobs = final.jobs; tasks = tasks }

  fewer_run : (ts1 ts2 : List Task) (t : Task) (machine : List ℕ) → ts1 ++ t ∷ ts2 ≡ final.tasks
      → running_on (rows_at (ts1 ++ t ∷ [])) machine ≤ running_on final machine
  fewer_run ts1 ts2 t machine is =
      let f : Task → ℕ = λ (x : Task). cond (is_on machine x.machine) 1 0 in
      omega (
        arith,
        sum_by-append f ts1 (t ∷ []),
        sum_by-append f ts1 (t ∷ ts2),
        sum_by-cons f t [],
        sum_by-cons f t ts2,
        ap (λ (l : List Task). sum_by f l) is,
      )

  roomy : (ts1 ts2 : List Task) (t : Task) → ts1 ++ t ∷ ts2 ≡ final.tasks → has_room (rows_at (ts1 ++ t ∷ [])) ≡ true
  roomy ts1 ts2 t is =
      each_passes (λ (machine : Machine). nat_le (running_on (rows_at (ts1 ++ t ∷ [])) machine.name) machine.slots)
      final.machines
      (λ k d below. let machine : Machine = get_or final.machines k d in
      le-leb _ _ (let few = fewer_run ts1 ts2 t machine.name is in let room = sound.room k d below in omega arith))

  running_free : (ts1 ts2 : List Task) (t : Task) (machine : Option (List ℕ)) → ts1 ++ t ∷ ts2 ≡ final.tasks
      → IfSome machine (λ name. is_among (machine_names final) name ≡ true) → IfSome machine (λ _. t.waited ≡ 0)
      → running_fault (rows_at ts1) t machine ≡ None
  running_free ts1 ts2 t None is there waited = refl
  running_free ts1 ts2 t (Some machine) is there waited =
      rw (there, le-ltb 0 t.waited (omega arith), roomy ts1 ts2 t is) refl

  naming_free : (ts1 ts2 : List Task) (t : Task) → ts1 ++ t ∷ ts2 ≡ final.tasks
      → naming_fault (rows_at ts1) t ≡ None
  naming_free ts1 ts2 t is =
      let names : IsDistinct bytes_eq (map (λ (x : Task). x.name) ts1 ++ t.name ∷ map (λ (x : Task). x.name) ts2) =
      subst (IsDistinct bytes_eq)
      (ap (map (λ (x : Task). x.name)) (sym is) ∙ map-append (λ (x : Task). x.name) ts1 (t ∷ ts2))
      sound.task_names_differ in
      let job : is_among (job_names final) t.job ≡ true =
      middle (λ (x : Task). is_among (job_names final) x.job ≡ true) ts1 ts2 t
      (subst (λ l. All (λ (x : Task). is_among (job_names final) x.job ≡ true) l) (sym is) sound.jobs_there) in
      let preferred : are_machines final t.preferred ≡ true =
      each_passes (is_among (machine_names final)) t.preferred
      (middle (λ (x : Task). All (λ name. is_among (machine_names final) name ≡ true) x.preferred) ts1 ts2 t
      (subst (λ l. All (λ (x : Task). All (λ name. is_among (machine_names final) name ≡ true) x.preferred) l) (sym is)
      sound.preferred_there)) in
      let waited : t.waited ≤ final.limits.patience =
      middle (λ (x : Task). x.waited ≤ final.limits.patience) ts1 ts2 t
      (subst (λ l. All (λ (x : Task). x.waited ≤ final.limits.patience) l) (sym is) sound.waited) in
      rw (
        apart (map (λ (x : Task). x.name) ts1) (map (λ (x : Task). x.name) ts2) t.name names,
        job,
        preferred,
        le-ltb final.limits.patience t.waited waited,
      ) refl

  -- no task shows more rounds than commands are left beside those of the rows, or than there are costs below 8
  few_rounds : (task : Task) → rounds_shown task ≤ most_rounds (record { rows = final; costs = costs; given = given })
      → (rounds_shown task + row_count final ≤ given) × (min 8 (rounds_shown task) ≤ length costs)
  few_rounds task few = by (nat_lt (length costs) 8) refl few
    where
      by : (b : Bool) → nat_lt (length costs) 8 ≡ b
          → rounds_shown task ≤ cond b (length costs) (given - row_count final)
          → (rounds_shown task + row_count final ≤ given) × (min 8 (rounds_shown task) ≤ length costs)
      by true is few = (let c = count in omega arith, omega arith)
      by false is few =
          (let c = count in omega arith, let eight = ltb-false (length costs) 8 is in omega arith)

  few_read : (ts1 ts2 : List Task) → ts1 ++ ts2 ≡ final.tasks
      → rounds_read (length costs) ts1 + row_count final ≤ given
  few_read ts1 ts2 is =
      let most : ℕ = given - row_count final in
      let read : rounds_read (length costs) ts1 ≤ most =
      read_most most (length costs) ts1 ts2 (let c = count in omega arith)
      (subst (AllByRecursion (λ (task : Task). rounds_shown task ≤ most)) (sym is)
      (recursion_from_All (λ (task : Task). rounds_shown task ≤ most) final.tasks (λ k d below.
      omega (arith, (few_rounds (get_or final.tasks k d) (shown k d below)).0)))) in
      let c = count in omega arith

  rounds_free : (ts1 ts2 : List Task) (t : Task) → ts1 ++ t ∷ ts2 ≡ final.tasks → rounds_fault costs t ≡ None
  rounds_free ts1 ts2 t is =
      let few = few_rounds t
      (middle (λ (x : Task). rounds_shown x ≤ most_rounds (record { rows = final; costs = costs; given = given }))
      ts1 ts2 t
      (subst (All (λ (x : Task). rounds_shown x
      ≤ most_rounds (record { rows = final; costs = costs; given = given }))) (sym is) shown)) in
      ap (λ (b : Bool). cond b (Some fault.Rounds) None) (le-ltb _ _ few.1)

  -- beside no more tasks, and after no fewer rounds
  crowded_free : LaterSlotsCostNoLess → (ts1 ts2 : List Task) (t : Task) → ts1 ++ t ∷ ts2 ≡ final.tasks
      → crowded_fault (tenant_at final.machines final.jobs ts1) t ≡ None
  crowded_free rises ts1 ts2 t is =
      let rounds : ℕ = most_rounds (record { rows = final; costs = costs; given = given }) in
      let book : Book = book_with (tenant_at final.machines final.jobs ts1) t in
      let long : length final.tasks ≡ length ts1 + suc (length ts2) =
      ap (λ (l : List Task). length l) (sym is) ∙ length-append ts1 (t ∷ ts2) in
      let later : rounds ≤ most_rounds book =
      more_left (nat_lt (length costs) 8) (length costs) (row_count book.rows) (row_count final)
      (omega (arith, long, length-append ts1 (t ∷ []))) in
      let stood : may_stand final rounds t t.machine ≡ true =
      middle (λ (x : Task). may_stand final rounds x x.machine ≡ true) ts1 ts2 t
      (subst (All (λ (x : Task). may_stand final rounds x x.machine ≡ true)) (sym is) stand) in
      lighter final rounds (most_rounds book) t later rises book (ts1 ++ t ∷ []) t.machine refl refl
      (λ machine. fewer_run ts1 ts2 t machine is) stood
    where
      more_left : (b : Bool) (costs fewer all : ℕ) → fewer ≤ all
          → cond b costs (given - all) ≤ cond b costs (given - fewer)
      more_left true costs fewer all few = omega arith
      more_left false costs fewer all few = omega (arith, few)

  task_free : LaterSlotsCostNoLess → (ts1 ts2 : List Task) (t : Task) → ts1 ++ t ∷ ts2 ≡ final.tasks
      → task_fault (tenant_at final.machines final.jobs ts1) t ≡ None
  task_free rises ts1 ts2 t is =
      let tenant : TenantDraft = tenant_at final.machines final.jobs ts1 in
      let there =
      middle (λ (x : Task). IfSome x.machine (λ name. is_among (machine_names final) name ≡ true)) ts1 ts2 t
      (subst (λ l. All (λ (x : Task). IfSome x.machine (λ name. is_among (machine_names final) name ≡ true)) l) (sym is)
      sound.machines_there) in
      let idle =
      middle (λ (x : Task). IfSome x.machine (λ _. x.waited ≡ 0)) ts1 ts2 t
      (subst (λ l. All (λ (x : Task). IfSome x.machine (λ _. x.waited ≡ 0)) l) (sym is) form.running) in
      let long : length final.tasks ≡ length ts1 + suc (length ts2) =
      ap (λ (l : List Task). length l) (sym is) ∙ length-append ts1 (t ∷ ts2) in
      let preferences : preference_count final.tasks
      ≡ preference_count ts1 + (length t.preferred + preference_count ts2) =
      ap preference_count (sym is) ∙ sum_by-append (λ (x : Task). length x.preferred) ts1 (t ∷ ts2)
      ∙ ap (λ (n : ℕ). preference_count ts1 + n) (sum_by-cons (λ (x : Task). length x.preferred) t ts2) in
      let fits = sound.fits in
      let rounds : ℕ = rounds_with tenant.rounds t in
      let limit : Option FaultKind = limit_fault tenant (3 + length t.preferred) rounds in
      let read : rounds + row_count final ≤ given =
      subst (λ (n : ℕ). n + row_count final ≤ given) (sym (read_push (length costs) ts1 t))
      (few_read (ts1 ++ t ∷ []) ts2 (append_assoc ts1 (t ∷ []) ts2 ∙ is)) in
      let crowded : Option FaultKind = crowded_fault tenant t in
      ap (λ (o : Option FaultKind). either o (either (running_fault (rows_at ts1) t t.machine)
      (either (rounds_fault costs t) (either limit crowded)))) (naming_free ts1 ts2 t is)
      ∙ ap (λ (o : Option FaultKind). either o (either (rounds_fault costs t) (either limit crowded)))
      (running_free ts1 ts2 t t.machine is there idle)
      ∙ ap (λ (o : Option FaultKind). either o (either limit crowded)) (rounds_free ts1 ts2 t is)
      ∙ ap (λ (o : Option FaultKind). either o crowded)
      (limit_none tenant (3 + length t.preferred) rounds
      (arena_none (rows_at ts1) (3 + length t.preferred) (let n = fits.nodes in omega arith)
      (let a = fits.arcs in omega arith))
      (omega (arith, read, long)))
      ∙ crowded_free rises ts1 ts2 t is

  pub tasks_run : LaterSlotsCostNoLess → (ts1 ts2 : List Task) (tail : List Row) → ts1 ++ ts2 ≡ final.tasks
      → dsteps (draft_at final.machines final.jobs ts1) (map row.Task ts2 ++ tail)
      ≡ dsteps (draft_at final.machines final.jobs final.tasks) tail
  tasks_run rises ts1 [] tail is =
      ap (λ (ts : List Task). dsteps (draft_at final.machines final.jobs ts) tail) (sym (append-nil ts1) ∙ is)
  tasks_run rises ts1 (t ∷ ts2) tail is =
      goes (tenant_at final.machines final.jobs ts1) (tenant_at final.machines final.jobs (ts1 ++ t ∷ []))
      (row.Task t)
      (map row.Task ts2 ++ tail) refl
      (unless_none (task_fault (tenant_at final.machines final.jobs ts1) t)
      (record (tenant_at final.machines final.jobs (ts1 ++ t ∷ [])) {
        rounds = rounds_with (rounds_read (length costs) ts1) t;
      }) (task_free rises ts1 ts2 t is)
      ∙ ap (λ (rounds : ℕ). let r : Result TenantDraft FaultKind = Ok
      (record (tenant_at final.machines final.jobs (ts1 ++ t ∷ [])) { rounds = rounds }) in r)
      (read_push (length costs) ts1 t))
      ∙ tasks_run rises (ts1 ++ t ∷ []) ts2 tail (append_assoc ts1 (t ∷ []) ts2 ∙ is)
