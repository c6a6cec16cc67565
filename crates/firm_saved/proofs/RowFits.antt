-- The limits in a row that is read fit the heading.
use Rattle.std.proofs.Common.{◌≡◌, ◌∙◌, ℕ, Bool, true, false, List, [], ◌∷◌, ◌++◌, Option, Some, None, Result, Ok, Err}
use Rattle.std.proofs.Common.{bytes_eq, codes, cond, refl, sym, ap, subst}
use Rattle.std.specs.Prelude.{All, if◌then◌else◌}
use Rattle.std.specs.List.{AllByRecursion, flat_map}
use Rattle.std.specs.Option.{ok_or}
use Rattle.firm_rules.specs.Book.{Book}
use Rattle.firm_rules.specs.Limits.{TenantLimits, limits_of, longest_patience, with_patience}
use Rattle.firm_text.specs.Commands.{◌>>=◌}
use Rattle.firm_text.specs.Rosters.{FitsHeading}
use Rattle.firm_text.specs.declared.headings.Heading.{Heading}
use Rattle.firm_text.specs.declared.headings.Heading.TheVariants.{Plain, Extended}
use Rattle.firm_saved.specs.Lines.{labelled_at, limits_at, machine_row, name_word, own_row, place_row, row_of}
use Rattle.firm_saved.specs.Lines.{costs_at, job_row, number_at, costs_row, task_of, task_row, tenant_row, verb_row}
use Rattle.firm_saved.specs.Lines.{words_of, words_row, checked_at, standing_at}
use Rattle.firm_rules.specs.Amounts.{slots_from, weight_from}
use Rattle.firm_rules.specs.declared.book.Task.{Task}
use Rattle.firm_saved.specs.Saved.{PlaceFits}
use Rattle.firm_saved.specs.StateText.{book_rows, place_rows, row_words, tenant_rows, words_text}
use Rattle.firm_saved.specs.declared.faults.FaultKind.{FaultKind}
use Rattle.firm_saved.specs.declared.faults.FaultKind.TheVariants as fault
use Rattle.firm_saved.specs.declared.rows.Row.{Row}
use Rattle.firm_saved.specs.declared.rows.Row.TheVariants as row
use Rattle.firm_saved.specs.declared.saved.SavedPlace.{SavedPlace}
use Rattle.firm_saved.proofs.Steps.{bind_ok, ok_is}

-- the limits in a row, if it is a tenant's, fit the heading
abbrev pub RowFits : Heading → Row → Type 0
RowFits heading (row.Place admissions) = Unit {0}
RowFits heading (row.Tenant name limits given) = FitsHeading heading limits
RowFits heading (row.Costs costs) = Unit {0}
RowFits heading (row.Machine machine) = Unit {0}
RowFits heading (row.Job job) = Unit {0}
RowFits heading (row.Task task) = Unit {0}
RowFits heading (row.Rows count) = Unit {0}

-- a step that gives a row which fits
OkFits : Heading → Result Row FaultKind → Type 0
OkFits heading (Ok r) = RowFits heading r
OkFits heading (Err kind) = Unit {0}

-- and a step behind another
behind_fits : {A : Type 0} (heading : Heading) (first : Result A FaultKind) (next : A → Result Row FaultKind)
    → ((a : A) → first ≡ Ok a → OkFits heading (next a)) → OkFits heading (first >>= next)
unfolding OkFits
behind_fits heading (Ok a) next fits = fits a refl
behind_fits heading (Err kind) next fits = tt

-- limits that no word for a patience gives
patient : (limits told : TenantLimits) → ok_or {E = FaultKind} (with_patience limits longest_patience) fault.BadNumber
    ≡ Ok told → told.patience ≡ longest_patience
patient limits told e =
    let same : record limits { patience = longest_patience } ≡ told = cc in
    sym (ap (λ (l : TenantLimits). l.patience) same)

abbrev Numbered : Type 0
Numbered = Result (ℕ × List (List ℕ)) FaultKind

plain_ends : (nodes arcs life spread churn remote : ℕ) (words : List (List ℕ)) (told : TenantLimits × List (List ℕ))
    → (do
      limits ← ok_or (limits_of nodes arcs life spread churn remote) fault.BadNumber
      kept ← ok_or (with_patience limits longest_patience) fault.BadNumber
      Ok (kept, words)) ≡ Ok told
    → told.0.patience ≡ longest_patience
plain_ends nodes arcs life spread churn remote words told e = by (limits_of nodes arcs life spread churn remote) e
  where
    kept_plain : (limits : TenantLimits) (kept : Result TenantLimits FaultKind)
        → ok_or (with_patience limits longest_patience) fault.BadNumber ≡ kept
        → (kept >>= λ l. let r : Result (TenantLimits × List (List ℕ)) FaultKind = Ok (l, words) in r) ≡ Ok told
        → told.0.patience ≡ longest_patience
    kept_plain limits (Ok l) is e =
        let same : (l, words) ≡ told = cc in
        subst (λ (t : TenantLimits × List (List ℕ)). t.0.patience ≡ longest_patience) same (patient limits l is)
    kept_plain limits (Err kind) is e = absurd cc

    by : (limits : Option TenantLimits)
        → (ok_or {E = FaultKind} limits fault.BadNumber >>= λ l.
        ok_or (with_patience l longest_patience) fault.BadNumber >>= λ kept.
        let r : Result (TenantLimits × List (List ℕ)) FaultKind = Ok (kept, words) in r) ≡ Ok told
        → told.0.patience ≡ longest_patience
    by None e = absurd cc
    by (Some limits) e = kept_plain limits (ok_or (with_patience limits longest_patience) fault.BadNumber) refl e

-- limits that are read under a plain heading have the longest patience
limits_plain : (words : List (List ℕ)) (told : TenantLimits × List (List ℕ)) → limits_at Plain words ≡ Ok told
    → told.0.patience ≡ longest_patience
limits_plain words told e = first (labelled_at words) e
  where
    sixth : (a b d f g : ℕ) (r : Numbered)
        → (r >>= λ h. (do
          limits ← ok_or (limits_of a b d f g h.0) fault.BadNumber
          kept ← ok_or (with_patience limits longest_patience) fault.BadNumber
          Ok (kept, h.1))) ≡ Ok told
        → told.0.patience ≡ longest_patience
    sixth a b d f g (Ok h) e = plain_ends a b d f g h.0 h.1 told e
    sixth a b d f g (Err kind) e = absurd cc

    fifth : (a b d f : ℕ) (r : Numbered)
        → (r >>= λ g. labelled_at g.1 >>= λ h. (do
          limits ← ok_or (limits_of a b d f g.0 h.0) fault.BadNumber
          kept ← ok_or (with_patience limits longest_patience) fault.BadNumber
          Ok (kept, h.1))) ≡ Ok told
        → told.0.patience ≡ longest_patience
    fifth a b d f (Ok g) e = sixth a b d f g.0 (labelled_at g.1) e
    fifth a b d f (Err kind) e = absurd cc

    fourth : (a b d : ℕ) (r : Numbered)
        → (r >>= λ f. labelled_at f.1 >>= λ g. labelled_at g.1 >>= λ h. (do
          limits ← ok_or (limits_of a b d f.0 g.0 h.0) fault.BadNumber
          kept ← ok_or (with_patience limits longest_patience) fault.BadNumber
          Ok (kept, h.1))) ≡ Ok told
        → told.0.patience ≡ longest_patience
    fourth a b d (Ok f) e = fifth a b d f.0 (labelled_at f.1) e
    fourth a b d (Err kind) e = absurd cc

    third : (a b : ℕ) (r : Numbered)
        → (r >>= λ d. labelled_at d.1 >>= λ f. labelled_at f.1 >>= λ g. labelled_at g.1 >>= λ h. (do
          limits ← ok_or (limits_of a b d.0 f.0 g.0 h.0) fault.BadNumber
          kept ← ok_or (with_patience limits longest_patience) fault.BadNumber
          Ok (kept, h.1))) ≡ Ok told
        → told.0.patience ≡ longest_patience
    third a b (Ok d) e = fourth a b d.0 (labelled_at d.1) e
    third a b (Err kind) e = absurd cc

    second : (a : ℕ) (r : Numbered)
        → (r >>= λ b. labelled_at b.1 >>= λ d. labelled_at d.1 >>= λ f. labelled_at f.1 >>= λ g. labelled_at g.1
        >>= λ h. (do
          limits ← ok_or (limits_of a b.0 d.0 f.0 g.0 h.0) fault.BadNumber
          kept ← ok_or (with_patience limits longest_patience) fault.BadNumber
          Ok (kept, h.1))) ≡ Ok told
        → told.0.patience ≡ longest_patience
    second a (Ok b) e = third a b.0 (labelled_at b.1) e
    second a (Err kind) e = absurd cc

    first : (r : Numbered)
        → (r >>= λ a. labelled_at a.1 >>= λ b. labelled_at b.1 >>= λ d. labelled_at d.1 >>= λ f. labelled_at f.1
        >>= λ g. labelled_at g.1 >>= λ h. (do
          limits ← ok_or (limits_of a.0 b.0 d.0 f.0 g.0 h.0) fault.BadNumber
          kept ← ok_or (with_patience limits longest_patience) fault.BadNumber
          Ok (kept, h.1))) ≡ Ok told
        → told.0.patience ≡ longest_patience
    first (Ok a) e = second a.0 (labelled_at a.1) e
    first (Err kind) e = absurd cc

limits_fit : (heading : Heading) (words : List (List ℕ)) (told : TenantLimits × List (List ℕ))
    → limits_at heading words ≡ Ok told → FitsHeading heading told.0
limits_fit Plain words told e = limits_plain words told e
limits_fit Extended words told e = tt

tenant_fits : (heading : Heading) (words : List (List ℕ)) → OkFits heading (tenant_row heading words)
unfolding OkFits
tenant_fits heading [] = tt
tenant_fits heading (word ∷ rest) =
    behind_fits heading (name_word word) _ (λ name _. behind_fits heading (limits_at heading rest) _
    (λ limits is. behind_fits heading (labelled_at limits.1) _ (λ given _. limits_fit heading rest limits is)))

-- the other rows have no limits
place_fits : (heading : Heading) (words : List (List ℕ)) → OkFits heading (place_row words)
unfolding OkFits
place_fits heading words = behind_fits heading (labelled_at words) _ (λ n _. tt)

costs_fit : (heading : Heading) (words : List (List ℕ)) → OkFits heading (costs_row words)
unfolding OkFits
costs_fit heading words = behind_fits heading (costs_at [] words) _ (λ n _. tt)

machine_fits : (heading : Heading) (words : List (List ℕ)) → OkFits heading (machine_row words)
unfolding OkFits
machine_fits heading [] = tt
machine_fits heading (word ∷ rest) =
    behind_fits heading (name_word word) _ (λ name _. behind_fits heading (checked_at slots_from rest) _ (λ n _. tt))

job_fits : (heading : Heading) (words : List (List ℕ)) → OkFits heading (job_row words)
unfolding OkFits
job_fits heading [] = tt
job_fits heading (word ∷ rest) =
    behind_fits heading (name_word word) _ (λ name _. behind_fits heading (checked_at weight_from rest) _ (λ n _. tt))

task_fits : (heading : Heading) (words : List (List ℕ)) → OkFits heading (task_row words)
unfolding OkFits
task_fits heading [] = tt
task_fits heading (word ∷ rest) = behind_fits heading (name_word word) _ (λ job _. named job rest)
  where
    named : (job : List ℕ) (words : List (List ℕ)) → OkFits heading (task_of job words)
    named job [] = tt
    named job (word ∷ rest) =
        behind_fits heading (name_word word) _ (λ name _. behind_fits heading (standing_at rest) _ (λ s _. tt))

verb_fits : (heading : Heading) (verb : List ℕ) (rest : List (List ℕ)) → OkFits heading (verb_row heading verb rest)
unfolding OkFits
verb_fits heading verb rest =
    by (bytes_eq verb (codes "place")) (bytes_eq verb (codes "tenant")) (bytes_eq verb (codes "costs"))
    (bytes_eq verb (codes "machine")) (bytes_eq verb (codes "job")) (bytes_eq verb (codes "task"))
    (bytes_eq verb (codes "rows"))
  where
    by : (a b d f g h i : Bool)
        → OkFits heading (if a then place_row rest
        else if b then tenant_row heading rest
        else if d then costs_row rest
        else if f then machine_row rest
        else if g then job_row rest
        else if h then task_row rest
        else if i then (number_at rest >>= λ number. Ok (row.Rows number))
        else Err fault.Row)
    by true b d f g h i = place_fits heading rest
    by false true d f g h i = tenant_fits heading rest
    by false false true f g h i = costs_fit heading rest
    by false false false true g h i = machine_fits heading rest
    by false false false false true h i = job_fits heading rest
    by false false false false false true i = task_fits heading rest
    by false false false false false false true = behind_fits heading (number_at rest) _ (λ n _. tt)
    by false false false false false false false = tt

words_fit : (heading : Heading) (words : List (List ℕ)) → OkFits heading (words_row heading words)
unfolding OkFits
words_fit heading [] = tt
words_fit heading (verb ∷ rest) = verb_fits heading verb rest

-- a row that is read under a heading fits it
pub row_fits : (heading : Heading) (line : List ℕ) (r : Row) → row_of heading line ≡ Ok r → RowFits heading r
unfolding OkFits
row_fits heading line r e = by (words_row heading (words_of line)) (words_fit heading (words_of line)) e
  where
    by : (told : Result Row FaultKind) → OkFits heading told → (told >>= own_row line) ≡ Ok r → RowFits heading r
    by (Err kind) fits e = absurd cc
    by (Ok told) fits e = written (bytes_eq (words_text (row_words told)) line) e
      where
        written : (b : Bool) → cond b (Ok told) (Err fault.Row) ≡ Ok r → RowFits heading r
        written true e = let same : told ≡ r = cc in subst (RowFits heading) same fits
        written false e = absurd cc

-- the rows of places whose tenants fit
rows_split : (heading : Heading) (xs ys : List Row) → AllByRecursion (RowFits heading) (xs ++ ys)
    → AllByRecursion (RowFits heading) ys
rows_split heading [] ys fit = fit
rows_split heading (x ∷ xs) ys fit = rows_split heading xs ys fit.1

-- where the rows of places fit, their tenants do
pub places_fit : (heading : Heading) (places : List SavedPlace)
    → AllByRecursion (RowFits heading) (flat_map place_rows places) → AllByRecursion (PlaceFits heading) places
places_fit heading [] fit = tt
places_fit heading (place ∷ rest) fit = (
  by place.tenant fit,
  places_fit heading rest (rows_split heading (place_rows place) (flat_map place_rows rest) fit),
)
  where
    by : (tenant : Option (List ℕ × Book))
        → AllByRecursion (RowFits heading)
        ((row.Place place.admissions ∷ tenant_rows tenant) ++ flat_map place_rows rest)
        → PlaceFits heading (record { admissions = place.admissions; tenant = tenant })
    by None fit = tt
    by (Some tenant) fit = fit.1.0
