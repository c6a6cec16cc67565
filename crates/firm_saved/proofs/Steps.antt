-- Reading a row adds that row after those before it.
use Rattle.std.proofs.Common.{◌≡◌, ◌<◌, ℕ, zero, suc, Bool, true, false, cond, ◌||◌, List, [], ◌∷◌, ◌++◌, length, eqb}
use Rattle.std.proofs.Common.{map, refl, sym, ap, subst, ◌∙◌, arith, append_assoc, Option, Some, None, Result, Ok, Err}
use Rattle.std.proofs.Common.{true≢false}
use Rattle.std.specs.Prelude.{ℤ, nat_le, nat_lt}
use Rattle.std.specs.List.{AllByRecursion, flat_map}
use Rattle.std.specs.Option.{is_some, is_none}
use Rattle.std.proofs.lemmas.Bool.{ltb-false, or_parts}
use Rattle.std.proofs.lemmas.List.{append-nil, map-append, nil_from_length}
use Rattle.std.proofs.lemmas.List.Concat.{flat_map-append}
use Rattle.firm_rules.specs.Book.{TenantRows, Book}
use Rattle.firm_rules.specs.declared.book.Machine.{Machine}
use Rattle.firm_rules.specs.declared.book.Job.{Job}
use Rattle.firm_rules.specs.declared.book.Task.{Task}
use Rattle.firm_text.specs.Commands.{◌>>=◌}
use Rattle.firm_text.specs.Registers.{most_admissions}
use Rattle.firm_text.specs.Rosters.{most_places}
use Rattle.firm_saved.specs.StateText.{place_rows, tenant_rows}
use Rattle.firm_saved.specs.declared.faults.FaultKind.{FaultKind}
use Rattle.firm_saved.specs.declared.faults.FaultKind.TheVariants as fault
use Rattle.firm_saved.specs.declared.rows.Row.{Row}
use Rattle.firm_saved.specs.declared.rows.Row.TheVariants as row
use Rattle.firm_saved.specs.declared.saved.SavedPlace.{SavedPlace}
use Rattle.firm_saved.specs.Drafts.{Draft, TenantDraft, booked, closed, costs_fault}
use Rattle.firm_saved.specs.Drafts.{either, grown, grown_in, job_fault, machine_fault, new_tenant}
use Rattle.firm_saved.specs.Drafts.{place_fault, place_of, tenant_fault, taken, task_fault, unless, whole}
use Rattle.firm_saved.specs.inner.Kept.{WasGiven}

-- the value of a step that did not fail
pub bind_ok : {A B E : Type 0} (r : Result A E) (f : A → Result B E) (y : B) → (r >>= f) ≡ Ok y
    → (x : A) × (r ≡ Ok x) × (f x ≡ Ok y)
bind_ok (Ok x) f y e = (x, refl, e)
bind_ok (Err d) f y e = absurd cc

pub unless_ok : {A : Type 0} (o : Option FaultKind) (x y : A) → unless o x ≡ Ok y → (o ≡ None) × (x ≡ y)
unless_ok None x y e = (refl, cc)
unless_ok (Some kind) x y e = absurd cc

pub ok_is : {A E : Type 0} (x y : A) → (let r : Result A E = Ok x in r) ≡ Ok y → x ≡ y
ok_is x y e = cc

pub none_cond : {A : Type 0} (b : Bool) (x : A) (o : Option A) → cond b (Some x) o ≡ None → (b ≡ false) × (o ≡ None)
none_cond true x o e = absurd cc
none_cond false x o e = (refl, e)

pub either_none : (a b : Option FaultKind) → either a b ≡ None → (a ≡ None) × (b ≡ None)
either_none None b e = (refl, e)
either_none (Some kind) b e = absurd cc

pub nothing : {X : Type 0} (xs : List X) → nat_lt 0 (length xs) ≡ false → xs ≡ []
nothing xs e = nil_from_length xs (let few = ltb-false 0 (length xs) e in omega arith)

-- the rows so far
abbrev pub present_rows : Option ℕ → List Row
present_rows None = []
present_rows (Some admissions) = row.Place admissions ∷ []

abbrev pub costs_rows : Option (List ℤ) → List Row
costs_rows None = []
costs_rows (Some costs) = row.Costs costs ∷ []

abbrev pub kept_rows : TenantRows → List Row
kept_rows rows = map row.Machine rows.machines ++ map row.Job rows.jobs ++ map row.Task rows.tasks

abbrev pub drafted_rows : Option TenantDraft → List Row
drafted_rows None = []
drafted_rows (Some tenant) =
    (row.Tenant tenant.name tenant.rows.limits tenant.given ∷ costs_rows tenant.costs) ++ kept_rows tenant.rows

abbrev pub draft_rows : Draft → List Row
draft_rows draft = (flat_map place_rows draft.before ++ present_rows draft.present) ++ drafted_rows draft.tenant

-- each place was given; a tenant stays at one, and has no rows before its costs
pub record IsOrderly (draft : Draft) : Type 0 where
  pub given : AllByRecursion WasGiven draft.before
  pub some : (admissions : ℕ) → draft.present ≡ Some admissions → 0 < admissions
  pub placed : draft.present ≡ None → draft.tenant ≡ None
  pub bare : (tenant : TenantDraft) → draft.tenant ≡ Some tenant → tenant.costs ≡ None → kept_rows tenant.rows ≡ []

closed_with : (before : List SavedPlace) (admissions : ℕ) (t : TenantDraft) (costs : Option (List ℤ))
    (tenant : List ℕ × Book)
    → t.costs ≡ costs → booked t costs ≡ Ok tenant
    → flat_map place_rows (before ++ record { admissions = admissions; tenant = Some tenant } ∷ [])
    ≡ (flat_map place_rows before ++ row.Place admissions ∷ []) ++ drafted_rows (Some t)
closed_with before admissions t None tenant is e = absurd cc
closed_with before admissions t (Some costs) tenant is e =
    let book : Book = record { rows = t.rows; costs = costs; given = t.given } in
    let made = unless_ok _ (t.name, book) tenant e in
    flat_map-append place_rows before (record { admissions = admissions; tenant = Some tenant } ∷ [])
    ∙ ap (λ (rows : List Row). flat_map place_rows before ++ ((row.Place admissions ∷ rows) ++ []))
    (ap (λ (x : List ℕ × Book). tenant_rows (Some x)) (sym made.1))
    ∙ ap (λ (rows : List Row). flat_map place_rows before ++ rows)
    (append-nil (row.Place admissions ∷ tenant_rows (Some (t.name, book))))
    ∙ sym (append_assoc (flat_map place_rows before) (row.Place admissions ∷ []) (tenant_rows (Some (t.name, book))))
    ∙ ap (λ (o : Option (List ℤ)). (flat_map place_rows before ++ row.Place admissions ∷ [])
    ++ ((row.Tenant t.name t.rows.limits t.given ∷ costs_rows o) ++ kept_rows t.rows)) (sym is)

-- the rows of the places that were read are all that were read
pub closed_rows : (before : List SavedPlace) (present : Option ℕ) (tenant : Option TenantDraft)
    (places : List SavedPlace)
    → (present ≡ None → tenant ≡ None) → closed before present tenant ≡ Ok places
    → flat_map place_rows places ≡ (flat_map place_rows before ++ present_rows present) ++ drafted_rows tenant
closed_rows before None tenant places placed e =
    let same : before ≡ places = cc in
    rw (placed refl) (sym (append-nil (flat_map place_rows before ++ []) ∙ append-nil (flat_map place_rows before)
    ∙ ap (flat_map place_rows) same))
closed_rows before (Some admissions) None places placed e =
    let same : before ++ record { admissions = admissions; tenant = None } ∷ [] ≡ places = cc in
    ap (flat_map place_rows) (sym same)
    ∙ flat_map-append place_rows before (record { admissions = admissions; tenant = None } ∷ [])
    ∙ sym (append-nil (flat_map place_rows before ++ row.Place admissions ∷ []))
closed_rows before (Some admissions) (Some t) places placed e =
    let place = bind_ok (place_of admissions (Some t)) (λ place. Ok (before ++ place ∷ [])) places e in
    let tenant = bind_ok (booked t t.costs) (λ tenant. Ok (record { admissions = admissions; tenant = Some tenant }))
    place.0 place.1 in
    let same : before ++ record { admissions = admissions; tenant = Some tenant.0 } ∷ [] ≡ places =
    ap (λ (p : SavedPlace). before ++ p ∷ []) (ok_is {E = FaultKind} _ _ tenant.2)
    ∙ ok_is {E = FaultKind} _ _ place.2 in
    ap (flat_map place_rows) (sym same) ∙ closed_with before admissions t t.costs tenant.0 refl tenant.1

-- a place is given as often as its row says
pub place_count : (admissions : ℕ) (tenant : Option TenantDraft) (place : SavedPlace)
    → place_of admissions tenant ≡ Ok place → admissions ≡ place.admissions
place_count admissions None place e = ap (λ (p : SavedPlace). p.admissions) (ok_is {E = FaultKind} _ place e)
place_count admissions (Some t) place e =
    let made = bind_ok (booked t t.costs)
    (λ tenant. let r : Result SavedPlace FaultKind = Ok
    (record { admissions = admissions; tenant = Some tenant }) in r) place e in
    ap (λ (p : SavedPlace). p.admissions) (ok_is {E = FaultKind} _ place made.2)

-- the places that were read were given
given_push : (before : List SavedPlace) (place : SavedPlace) → AllByRecursion WasGiven before → WasGiven place
    → AllByRecursion WasGiven (before ++ place ∷ [])
given_push [] place given here = (here, tt)
given_push (first ∷ before) place given here = (given.0, given_push before place given.1 here)

pub closed_given : (d : Draft) (places : List SavedPlace) → IsOrderly d → whole d ≡ Ok places
    → AllByRecursion WasGiven places
closed_given d places orderly e = by d.present refl e
  where
    by : (present : Option ℕ) → d.present ≡ present → closed d.before present d.tenant ≡ Ok places
        → AllByRecursion WasGiven places
    by None is e = subst (AllByRecursion WasGiven) (ok_is {E = FaultKind} d.before places e) orderly.given
    by (Some admissions) is e =
        let place = bind_ok (place_of admissions d.tenant) (λ place. Ok (d.before ++ place ∷ [])) places e in
        subst (AllByRecursion WasGiven) (ok_is {E = FaultKind} _ places place.2)
        (given_push d.before place.0 orderly.given
        (subst (λ (n : ℕ). 0 < n) (place_count admissions d.tenant place.0 place.1) (orderly.some admissions is)))

last_machine : (front : List Row) (ms : List Machine) (m : Machine) (jobs : List Job) (tasks : List Task)
    → jobs ≡ [] → tasks ≡ []
    → front ++ ((map row.Machine (ms ++ m ∷ []) ++ map row.Job jobs) ++ map row.Task tasks)
    ≡ (front ++ ((map row.Machine ms ++ map row.Job jobs) ++ map row.Task tasks)) ++ row.Machine m ∷ []
last_machine front ms m jobs tasks e f = rw (e, f) (simp (map-append, append-nil, append_assoc))

last_job : (front : List Row) (ms : List Row) (jobs : List Job) (j : Job) (tasks : List Task) → tasks ≡ []
    → front ++ ((ms ++ map row.Job (jobs ++ j ∷ [])) ++ map row.Task tasks)
    ≡ (front ++ ((ms ++ map row.Job jobs) ++ map row.Task tasks)) ++ row.Job j ∷ []
last_job front ms jobs j tasks f = rw f (simp (map-append, append-nil, append_assoc))

last_task : (front ms js : List Row) (tasks : List Task) (t : Task)
    → front ++ ((ms ++ js) ++ map row.Task (tasks ++ t ∷ []))
    ≡ (front ++ ((ms ++ js) ++ map row.Task tasks)) ++ row.Task t ∷ []
last_task front ms js tasks t = simp (map-append, append_assoc)

-- a tenant's next row is behind its others
pub grown_rows : (t : TenantDraft) (r : Row) (t2 : TenantDraft) → (t.costs ≡ None → kept_rows t.rows ≡ [])
    → grown t r ≡ Ok t2
    → drafted_rows (Some t2) ≡ drafted_rows (Some t) ++ r ∷ []
grown_rows t (row.Costs costs) t2 bare e =
    let made = unless_ok (costs_fault t costs) (record t { costs = Some costs; rounds = length costs }) t2 e in
    let first = none_cond (is_some t.costs) fault.Row _ made.0 in
    let none = no_costs t.costs first.0 in
    ap (λ (x : TenantDraft). drafted_rows (Some x)) (sym made.1)
    ∙ ap (λ (rows : List Row). (row.Tenant t.name t.rows.limits t.given ∷ row.Costs costs ∷ []) ++ rows) (bare none)
    ∙ sym (ap (λ (o : Option (List ℤ)). ((row.Tenant t.name t.rows.limits t.given ∷ costs_rows o) ++ kept_rows t.rows)
    ++ row.Costs costs ∷ []) none
    ∙ ap (λ (rows : List Row). ((row.Tenant t.name t.rows.limits t.given ∷ []) ++ rows) ++ row.Costs costs ∷ [])
    (bare none))
  where
    no_costs : (o : Option (List ℤ)) → is_some o ≡ false → o ≡ None
    no_costs None e = refl
    no_costs (Some costs) e = absurd (true≢false e)
grown_rows t (row.Machine m) t2 bare e =
    let made = unless_ok (machine_fault t m) _ t2 e in
    let first = none_cond _ fault.Row _ made.0 in
    let parts = or_parts (is_none t.costs || nat_lt 0 (length t.rows.jobs)) (nat_lt 0 (length t.rows.tasks)) first.0 in
    let none = or_parts (is_none t.costs) (nat_lt 0 (length t.rows.jobs)) parts.0 in
    ap (λ (x : TenantDraft). drafted_rows (Some x)) (sym made.1)
    ∙ last_machine (row.Tenant t.name t.rows.limits t.given ∷ costs_rows t.costs) t.rows.machines m t.rows.jobs
    t.rows.tasks (nothing t.rows.jobs none.1) (nothing t.rows.tasks parts.1)
grown_rows t (row.Job j) t2 bare e =
    let made = unless_ok (job_fault t j) _ t2 e in
    let first = none_cond _ fault.Row _ made.0 in
    let parts = or_parts (is_none t.costs) (nat_lt 0 (length t.rows.tasks)) first.0 in
    ap (λ (x : TenantDraft). drafted_rows (Some x)) (sym made.1)
    ∙ last_job (row.Tenant t.name t.rows.limits t.given ∷ costs_rows t.costs) (map row.Machine t.rows.machines)
    t.rows.jobs j t.rows.tasks (nothing t.rows.tasks parts.1)
grown_rows t (row.Task task) t2 bare e =
    let made = unless_ok (task_fault t task) _ t2 e in
    ap (λ (x : TenantDraft). drafted_rows (Some x)) (sym made.1)
    ∙ last_task (row.Tenant t.name t.rows.limits t.given ∷ costs_rows t.costs) (map row.Machine t.rows.machines)
    (map row.Job t.rows.jobs) t.rows.tasks task
grown_rows t (row.Place n) t2 bare e = absurd cc
grown_rows t (row.Tenant name limits given) t2 bare e = absurd cc
grown_rows t (row.Rows n) t2 bare e = absurd cc

-- a tenant that has grown has its costs
pub grown_costs : (t : TenantDraft) (r : Row) (t2 : TenantDraft) → grown t r ≡ Ok t2 → t2.costs ≡ None → ⊥
grown_costs t (row.Costs costs) t2 e none =
    let made = unless_ok (costs_fault t costs) (record t { costs = Some costs; rounds = length costs }) t2 e in
    absurd (let c : Some costs ≡ t2.costs = ap (λ (x : TenantDraft). x.costs) made.1 in cc)
grown_costs t (row.Machine m) t2 e none =
    let made = unless_ok (machine_fault t m) _ t2 e in
    let first = none_cond _ fault.Row _ made.0 in
    let parts = or_parts (is_none t.costs || nat_lt 0 (length t.rows.jobs)) (nat_lt 0 (length t.rows.tasks)) first.0 in
    let some = or_parts (is_none t.costs) (nat_lt 0 (length t.rows.jobs)) parts.0 in
    has_costs t.costs some.0 (ap (λ (x : TenantDraft). x.costs) made.1 ∙ none)
  where
    has_costs : (o : Option (List ℤ)) → is_none o ≡ false → o ≡ None → ⊥
    has_costs o e f = absurd (true≢false (sym (ap is_none f) ∙ e))
grown_costs t (row.Job j) t2 e none =
    let made = unless_ok (job_fault t j) _ t2 e in
    let first = none_cond _ fault.Row _ made.0 in
    let parts = or_parts (is_none t.costs) (nat_lt 0 (length t.rows.tasks)) first.0 in
    absurd (true≢false (sym (ap is_none (ap (λ (x : TenantDraft). x.costs) made.1 ∙ none)) ∙ parts.0))
grown_costs t (row.Task task) t2 e none =
    let made = unless_ok (task_fault t task) _ t2 e in
    let first = none_cond _ fault.Row _ made.0 in
    absurd (true≢false (sym (ap is_none (ap (λ (x : TenantDraft). x.costs) made.1 ∙ none)) ∙ first.0))
grown_costs t (row.Place n) t2 e none = absurd cc
grown_costs t (row.Tenant name limits given) t2 e none = absurd cc
grown_costs t (row.Rows n) t2 e none = absurd cc

-- a row after those of a draft
abbrev pub IsNext : Draft → Row → Draft → Type 0
IsNext draft r after = (draft_rows after ≡ draft_rows draft ++ r ∷ []) × IsOrderly after

in_tenant : (d : Draft) (r : Row) (d2 : Draft) (tenant : Option TenantDraft) → IsOrderly d → d.tenant ≡ tenant
    → grown_in d tenant r ≡ Ok d2 → IsNext d r d2
in_tenant d r d2 None orderly is e = absurd cc
in_tenant d r d2 (Some t) orderly is e =
    let more = bind_ok (grown t r) (λ more. Ok (record d { tenant = Some more })) d2 e in
    let same : record d { tenant = Some more.0 } ≡ d2 = ok_is {E = FaultKind} _ _ more.2 in
    subst (λ (x : Draft). IsNext d r x) same (
      ap (λ (rows : List Row). (flat_map place_rows d.before ++ present_rows d.present) ++ rows)
          (grown_rows t r more.0 (orderly.bare t is) more.1)
          ∙ sym (append_assoc (flat_map place_rows d.before ++ present_rows d.present) (drafted_rows (Some t)) (r ∷ []))
          ∙ ap (λ (o : Option TenantDraft). ((flat_map place_rows d.before ++ present_rows d.present) ++ drafted_rows o)
          ++ r ∷ []) (sym is),
      record {
        given = orderly.given;
        some = orderly.some;
        placed = λ none. absurd (let had : d.tenant ≡ None = orderly.placed none in cc);
        bare = λ x x-is none. absurd (grown_costs t r more.0 more.1
            (ap (λ (y : TenantDraft). y.costs) (let one : more.0 ≡ x = cc in one) ∙ none));
      },
    )

-- each row taken comes after those before it
pub taken_rows : (d : Draft) (r : Row) (d2 : Draft) → IsOrderly d → taken d r ≡ Ok d2 → IsNext d r d2
taken_rows d (row.Place n) d2 orderly e =
    let places = bind_ok (whole d)
    (λ places. unless (place_fault places n) (record { before = places; present = Some n; tenant = None })) d2 e in
    let made = unless_ok (place_fault places.0 n) (record { before = places.0; present = Some n; tenant = None }) d2
    places.2 in
    let room = none_cond (nat_le most_places (length places.0)) fault.Places _ made.0 in
    let some = or_parts (eqb n 0) (nat_lt most_admissions n)
    (none_cond (eqb n 0 || nat_lt most_admissions n) fault.BadNumber None room.1).0 in
    subst (λ (x : Draft). IsNext d (row.Place n) x) made.1 (
      append-nil (flat_map place_rows places.0 ++ row.Place n ∷ [])
          ∙ ap (λ (rows : List Row). rows ++ row.Place n ∷ [])
          (closed_rows d.before d.present d.tenant places.0 orderly.placed places.1),
      record {
        given = closed_given d places.0 orderly places.1;
        some = λ admissions is. let same : n ≡ admissions = cc in
            subst (λ (k : ℕ). 0 < k) same (not_none n some.0);
        placed = λ none. refl;
        bare = λ x x-is none. absurd cc;
      },
    )
  where
    not_none : (n : ℕ) → eqb n 0 ≡ false → 0 < n
    not_none zero e = absurd (true≢false e)
    not_none (suc n) e = omega arith
taken_rows d (row.Tenant name limits given) d2 orderly e =
    let made = unless_ok (tenant_fault d name limits given)
    (record d { tenant = Some (new_tenant name limits given) }) d2 e in
    let first = or_parts (is_none d.present) (is_some d.tenant)
    (none_cond (is_none d.present || is_some d.tenant) fault.Row _ made.0).0 in
    let none : d.tenant ≡ None = no_tenant d.tenant first.1 in
    subst (λ (x : Draft). IsNext d (row.Tenant name limits given) x) made.1 (
      sym (ap (λ (o : Option TenantDraft). ((flat_map place_rows d.before ++ present_rows d.present) ++ drafted_rows o)
          ++ row.Tenant name limits given ∷ []) none
          ∙ ap (λ (rows : List Row). rows ++ row.Tenant name limits given ∷ [])
          (append-nil (flat_map place_rows d.before ++ present_rows d.present))),
      record {
        given = orderly.given;
        some = orderly.some;
        placed = λ none. absurd (true≢false (sym (ap is_none none) ∙ first.0));
        bare = λ x x-is costs. let one : new_tenant name limits given ≡ x = cc in
            ap (λ (y : TenantDraft). kept_rows y.rows) (sym one);
      },
    )
  where
    no_tenant : (o : Option TenantDraft) → is_some o ≡ false → o ≡ None
    no_tenant None e = refl
    no_tenant (Some t) e = absurd (true≢false e)
taken_rows d (row.Costs costs) d2 orderly e = in_tenant d (row.Costs costs) d2 d.tenant orderly refl e
taken_rows d (row.Machine m) d2 orderly e = in_tenant d (row.Machine m) d2 d.tenant orderly refl e
taken_rows d (row.Job j) d2 orderly e = in_tenant d (row.Job j) d2 d.tenant orderly refl e
taken_rows d (row.Task t) d2 orderly e = in_tenant d (row.Task t) d2 d.tenant orderly refl e
taken_rows d (row.Rows n) d2 orderly e = absurd cc
