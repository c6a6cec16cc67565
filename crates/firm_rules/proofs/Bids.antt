-- The highest bid for a slot of a machine: as tasks come, go and change, and as it is found task by task.
use Rattle.std.proofs.Common.{◌≡◌, ℕ, ◌+◌, ◌-◌, ◌≤◌, Bool, true, false, not, cond, ltb, ◌||◌, List, [], ◌∷◌, ◌++◌}
use Rattle.std.proofs.Common.{map, filter, take, get_or, All, Some, refl, sym, ap, subst, ◌∙◌, arith, bytes_eq}
use Rattle.std.specs.Prelude.{max, min, slice_get}
use Rattle.std.proofs.lemmas.List.{take_more}
use Rattle.std.proofs.lemmas.List.Elements.{All-head, All-tail}
use Rattle.std.proofs.lemmas.List.Recursion.{max_push}
use Rattle.std.proofs.lemmas.Option.{slice_get_within, get_or_from_slice_get}
use Rattle.std.proofs.lemmas.Slice.Eq.{bytes_eq-Decides}
use Rattle.firm_rules.specs.Names.{is_among}
use Rattle.firm_rules.specs.Limits.{TenantLimits}
use Rattle.firm_rules.specs.Preferences.{without_preference}
use Rattle.firm_rules.specs.Book.{TenantRows, evicted, forgetting, without_machine}
use Rattle.firm_rules.specs.Round.{job_place, weight_at}
use Rattle.firm_rules.specs.SoundBook.{bid, bid_on, highest}
use Rattle.firm_rules.specs.inner.Bids.{near_bid, wide_bid}
use Rattle.firm_rules.specs.declared.book.Task.{Task}
use Rattle.firm_rules.proofs.NamedRows.{bytes_eq-other}
use Rattle.firm_rules.proofs.SoundRows.{evicted-cases}

-- no higher than each bid is
pub highest-least : (bids : Task → ℕ) (tasks : List Task) (most : ℕ) → All (λ task. bids task ≤ most) tasks
    → highest bids tasks ≤ most
highest-least bids [] most each = omega arith
highest-least bids (task ∷ tasks) most each =
    omega (
      arith,
      All-head (λ (t : Task). bids t ≤ most) task tasks each,
      highest-least bids tasks most (All-tail (λ (t : Task). bids t ≤ most) task tasks each),
    )

-- no higher where each task bids no more, as what it becomes
pub highest-less : (bids more : Task → ℕ) (becomes : Task → Task) (tasks : List Task)
    → All (λ task. bids (becomes task) ≤ more task) tasks → highest bids (map becomes tasks) ≤ highest more tasks
highest-less bids more becomes [] each = omega arith
highest-less bids more becomes (task ∷ tasks) each =
    omega (
      arith,
      All-head (λ (t : Task). bids (becomes t) ≤ more t) task tasks each,
      highest-less bids more becomes tasks (All-tail (λ (t : Task). bids (becomes t) ≤ more t) task tasks each),
    )

pub highest-same : (bids more : Task → ℕ) (tasks : List Task) → All (λ task. bids task ≤ more task) tasks
    → highest bids tasks ≤ highest more tasks
highest-same bids more [] each = omega arith
highest-same bids more (task ∷ tasks) each =
    omega (
      arith,
      All-head (λ (t : Task). bids t ≤ more t) task tasks each,
      highest-same bids more tasks (All-tail (λ (t : Task). bids t ≤ more t) task tasks each),
    )

-- nor with fewer tasks
pub highest-filter : (bids : Task → ℕ) (p : Task → Bool) (tasks : List Task)
    → highest bids (filter p tasks) ≤ highest bids tasks
highest-filter bids p [] = omega arith
highest-filter bids p (task ∷ tasks) =
    let rest = highest-filter bids p tasks in
    elim (p task) as (λ b. highest bids (cond b (task ∷ filter p tasks) (filter p tasks))
    ≤ highest bids (task ∷ tasks)) [
      | true ↦ omega (arith, rest)
      | false ↦ omega (arith, rest)
    ]

-- with one task more
pub highest-push : (bids : Task → ℕ) (tasks : List Task) (task : Task)
    → highest bids (tasks ++ task ∷ []) ≡ max (highest bids tasks) (bids task)
highest-push bids tasks task = max_push (highest bids) bids refl (λ _ _. refl) tasks task

pub highest-more : (bids : Task → ℕ) (tasks : List Task) (i : ℕ) (task : Task) → slice_get tasks i ≡ Some task
    → highest bids (take (i + 1) tasks) ≡ max (highest bids (take i tasks)) (bids task)
highest-more bids tasks i task there =
    ap (highest bids) (take_more tasks i task (slice_get_within tasks i task there))
    ∙ highest-push bids (take i tasks) (get_or tasks i task)
    ∙ ap (λ (t : Task). max (highest bids (take i tasks)) (bids t)) (get_or_from_slice_get tasks i task task there)

-- that for a machine is one of a task that prefers it, or one less `remote`
pub highest-parts : (rows : TenantRows) (machine : List ℕ) (tasks : List Task)
    → highest (bid_on rows machine) tasks
    ≡ max (highest (wide_bid rows) tasks) (highest (near_bid rows machine) tasks)
highest-parts rows machine [] = refl
highest-parts rows machine (task ∷ tasks) =
    omega (
      arith,
      part (is_among task.preferred machine) (bid rows task) rows.limits.remote,
      highest-parts rows machine tasks,
    )
  where
    part : (b : Bool) (n remote : ℕ) → n - cond b 0 remote ≡ max (n - remote) (cond b n 0)
    part true n remote = omega arith
    part false n remote = omega arith

-- a task whose weight is the same bids the same
pub bid-kept : (was now : TenantRows) (machine : List ℕ) (task : Task) → now.limits ≡ was.limits
    → weight_at now (job_place now task) ≡ weight_at was (job_place was task)
    → bid_on now machine task ≤ bid_on was machine task
bid-kept was now machine task same weight =
    elim (ltb 0 task.waited) as (λ b.
    cond b (weight_at now (job_place now task) + min now.limits.patience (task.waited - 1)) 0
    - cond (is_among task.preferred machine) 0 now.limits.remote
    ≤ cond b (weight_at was (job_place was task) + min was.limits.patience (task.waited - 1)) 0
    - cond (is_among task.preferred machine) 0 was.limits.remote) [
      | true ↦ omega (arith, weight, patience, remote)
      | false ↦ omega arith
    ]
  where
    patience : now.limits.patience ≡ was.limits.patience
    patience = ap (λ (l : TenantLimits). l.patience) same

    remote : cond (is_among task.preferred machine) 0 now.limits.remote
        ≡ cond (is_among task.preferred machine) 0 was.limits.remote
    remote = ap (λ (l : TenantLimits). cond (is_among task.preferred machine) 0 l.remote) same

-- another machine is preferred as before once one is gone
pub preferred-same : (preferred : List (List ℕ)) (gone name : List ℕ) → bytes_eq gone name ≡ false
    → is_among (without_preference gone preferred) name ≡ is_among preferred name
preferred-same [] gone name other = refl
preferred-same (first ∷ preferred) gone name other =
    let left : List (List ℕ) = without_preference gone preferred in
    elim (bytes_eq gone first) as (λ g. bytes_eq gone first ≡ g
    → is_among (cond (not g) (first ∷ left) left) name ≡ is_among (first ∷ preferred) name) [
      | true ↦ λ e. preferred-same preferred gone name other
          ∙ sym (ap (λ (b : Bool). b || is_among preferred name) (bytes_eq-other first name
          (subst (λ (n : List ℕ). bytes_eq n name ≡ false) ((bytes_eq-Decides gone first).0 e) other)))
      | false ↦ λ _. ap (λ (b : Bool). bytes_eq name first || b) (preferred-same preferred gone name other)
    ] refl

-- so a task that is thrown out or stays where it is bids no more for it
pub bid-evicted : (rows : TenantRows) (gone machine : List ℕ) (task : Task) → bytes_eq gone machine ≡ false
    → bid_on (without_machine rows gone) machine (evicted gone task) ≤ bid_on rows machine task
bid-evicted rows gone machine task other =
    evicted-cases gone task
    (λ (t : Task). bid_on (without_machine rows gone) machine t ≤ bid_on rows machine task) (λ _. omega arith)
    (λ _. let bids : bid (without_machine rows gone) (forgetting gone task) ≡ bid rows task = refl in
    omega (
      arith,
      bids,
      ap (λ (b : Bool). cond b 0 rows.limits.remote) (preferred-same task.preferred gone machine other),
    ))
