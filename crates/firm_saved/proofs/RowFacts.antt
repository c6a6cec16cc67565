-- The rows of a sound state are such rows as are read, and not many.
use Rattle.std.proofs.Common.{◌≡◌, ◌<◌, ◌≤◌, ◌*◌, ◌^◌, ℕ, true, false, ◌||◌, List, [], ◌∷◌, ◌++◌, length, map, get_or}
use Rattle.std.proofs.Common.{refl, sym, ap, ◌∙◌, arith, Option, Some, None, true≢false, bytes_eq}
use Rattle.std.specs.Prelude.{All, IfSome}
use Rattle.std.specs.List.{flat_map, list_all, AllByRecursion}
use Rattle.std.proofs.lemmas.Bool.{and_from, and_parts}
use Rattle.std.proofs.lemmas.List.{length-append, length-map}
use Rattle.std.proofs.lemmas.List.Elements.{recursion_from_All}
use Rattle.std.proofs.lemmas.List.Folds.{list_all-map, list_all-append}
use Rattle.std.proofs.lemmas.Slice.Eq.{bytes_eq-Decides}
use Rattle.firm_rules.specs.Book.{Book, job_names, machine_names}
use Rattle.firm_rules.specs.Names.{is_among, is_name}
use Rattle.firm_rules.specs.declared.book.Machine.{Machine}
use Rattle.firm_rules.specs.declared.book.Job.{Job}
use Rattle.firm_rules.specs.declared.book.Task.{Task}
use Rattle.firm_text.specs.Registers.{IsCounted}
use Rattle.firm_text.specs.Rosters.{FitsHeading}
use Rattle.firm_text.specs.declared.headings.Heading.{Heading}
use Rattle.firm_saved.specs.Saved.{IsSoundPlace, PlaceFits, entry_of, register_of}
use Rattle.firm_rules.specs.SoundBook.{IsSoundBook, is_cost}
use Rattle.firm_saved.specs.StateText.{book_rows, place_rows, tenant_rows}
use Rattle.firm_saved.specs.declared.rows.Row.{Row}
use Rattle.firm_saved.specs.declared.rows.Row.TheVariants as row
use Rattle.firm_saved.specs.declared.saved.SavedPlace.{SavedPlace}
use Rattle.firm_saved.specs.inner.Kept.{AreSoundPlaces}
use Rattle.firm_saved.proofs.Complete.{each_passes}
use Rattle.firm_saved.proofs.LineRows.{IsRow, IsTaskRow, limits_within}
use Rattle.firm_saved.proofs.Runs.{is_inner}

-- a name that is among names of the form has it
among_named : (names : List (List ℕ)) (name : List ℕ) → is_among names name ≡ true → list_all is_name names ≡ true
    → is_name name ≡ true
among_named [] name there formed = absurd (true≢false (sym there))
among_named (first ∷ names) name there formed =
    let parts = and_parts (is_name first) (list_all is_name names) formed in
    elim (bytes_eq name first) as (λ b. bytes_eq name first ≡ b → (b || is_among names name) ≡ true
    → is_name name ≡ true) [
      | true ↦ λ same _. ap is_name ((bytes_eq-Decides name first).0 same) ∙ parts.0
      | false ↦ λ _ rest. among_named names name rest parts.1
    ] refl there

each_named : (names some : List (List ℕ)) → AllByRecursion (λ name. is_among names name ≡ true) some
    → list_all is_name names ≡ true → list_all is_name some ≡ true
each_named names [] there formed = refl
each_named names (name ∷ some) there formed =
    and_from (is_name name) (list_all is_name some)
    (among_named names name there.0 formed) (each_named names some there.1 formed)

-- rows one after the other
pub rows_both : (P : Row → Type 0) (xs ys : List Row) → AllByRecursion P xs → AllByRecursion P ys
    → AllByRecursion P (xs ++ ys)
rows_both P [] ys h k = k
rows_both P (x ∷ xs) ys h k = (h.0, rows_both P xs ys h.1 k)

-- the rows of things
rows_of : {X : Type 0} (P : Row → Type 0) (f : X → Row) (xs : List X) → AllByRecursion (λ x. P (f x)) xs
    → AllByRecursion P (map f xs)
rows_of P f [] h = tt
rows_of P f (x ∷ xs) h = (h.0, rows_of P f xs h.1)

module _ (book : Book) (sound : IsSoundBook book) where
  machines_formed : list_all is_name (machine_names book.rows) ≡ true
  machines_formed =
      list_all-map is_name (λ (m : Machine). m.name) book.rows.machines
      ∙ each_passes (λ (m : Machine). is_name m.name) book.rows.machines sound.form.machines

  jobs_formed : list_all is_name (job_names book.rows) ≡ true
  jobs_formed =
      list_all-map is_name (λ (j : Job). j.name) book.rows.jobs
      ∙ each_passes (λ (j : Job). is_name j.name) book.rows.jobs sound.form.jobs

  home : (machine : Option (List ℕ)) (waited : ℕ)
      → IfSome machine (λ name. is_among (machine_names book.rows) name ≡ true)
      → IfSome machine (λ _. waited ≡ 0) → IfSome machine (λ name. (is_name name ≡ true) × (waited ≡ 0))
  home None waited there idle = tt
  home (Some name) waited there idle = (among_named (machine_names book.rows) name there machines_formed, idle)

  tasks_are : All IsTaskRow book.rows.tasks
  tasks_are k d below =
      let task : Task = get_or book.rows.tasks k d in
      let rows = sound.rows in
      let there = rows.preferred_there k d below in
      record {
        named = sound.form.tasks k d below;
        job = among_named (job_names book.rows) task.job (rows.jobs_there k d below) jobs_formed;
        machine = home task.machine task.waited (rows.machines_there k d below) (sound.form.running k d below);
        waited = let few = rows.waited k d below in let most = rows.most_patience in omega arith;
        preferred = each_named (machine_names book.rows) task.preferred
            (recursion_from_All (λ name. is_among (machine_names book.rows) name ≡ true) task.preferred there)
            machines_formed;
        few = rows.preferred_few k d below;
        differ = rows.preferred_differ k d below;
      }

  pub book_rows_are : (heading : Heading) → FitsHeading heading book.rows.limits → (name : List ℕ)
      → is_name name ≡ true → AllByRecursion (IsRow heading) (book_rows name book)
  book_rows_are heading fits name named =
      let within = limits_within book.rows.limits sound.form.limits in
      let short = within.life in
      let given = sound.life in (
        record { named = named; ranges = sound.form.limits; few = omega arith; fits = fits },
        (
          (sound.few_costs, each_passes is_cost book.costs sound.costs),
          rows_both (IsRow heading) (map row.Machine book.rows.machines ++ map row.Job book.rows.jobs)
              (map row.Task book.rows.tasks)
              (rows_both (IsRow heading) (map row.Machine book.rows.machines) (map row.Job book.rows.jobs)
              (rows_of (IsRow heading) row.Machine book.rows.machines
              (recursion_from_All (λ m. IsRow heading (row.Machine m)) book.rows.machines
              (λ k d below. let slots = sound.rows.slots k d below in
              (sound.form.machines k d below, slots.0, slots.1))))
              (rows_of (IsRow heading) row.Job book.rows.jobs
              (recursion_from_All (λ j. IsRow heading (row.Job j)) book.rows.jobs
              (λ k d below. let weights = sound.rows.weights k d below in
              (sound.form.jobs k d below, weights.0, weights.1)))))
              (rows_of (IsRow heading) row.Task book.rows.tasks
              (recursion_from_All IsTaskRow book.rows.tasks tasks_are)),
        ),
      )

  pub book_rows_few : (name : List ℕ) → length (book_rows name book) ≤ 4200
  book_rows_few name =
      let fits = sound.rows.fits.nodes in
      let most = sound.rows.most_nodes in
      omega (
        arith,
        length-append (map row.Machine book.rows.machines ++ map row.Job book.rows.jobs) (map row.Task book.rows.tasks),
        length-append (map row.Machine book.rows.machines) (map row.Job book.rows.jobs),
        length-map book.rows.machines row.Machine,
        length-map book.rows.jobs row.Job,
        length-map book.rows.tasks row.Task,
      )

inner_map : {X : Type 0} (f : X → Row) → ((x : X) → is_inner (f x) ≡ true) → (xs : List X)
    → list_all is_inner (map f xs) ≡ true
inner_map f each [] = refl
inner_map f each (x ∷ xs) =
    and_from (is_inner (f x)) (list_all is_inner (map f xs)) (each x) (inner_map f each xs)

inner_both : (xs ys : List Row) → list_all is_inner xs ≡ true → list_all is_inner ys ≡ true
    → list_all is_inner (xs ++ ys) ≡ true
inner_both xs ys h k =
    list_all-append is_inner xs ys
    ∙ and_from (list_all is_inner xs) (list_all is_inner ys) h k

place_inner : (place : SavedPlace) → list_all is_inner (place_rows place) ≡ true
place_inner place = by place.tenant
  where
    by : (tenant : Option (List ℕ × Book)) → list_all is_inner (tenant_rows tenant) ≡ true
    by None = refl
    by (Some tenant) =
        inner_both (map row.Machine tenant.1.rows.machines ++ map row.Job tenant.1.rows.jobs)
        (map row.Task tenant.1.rows.tasks)
        (inner_both (map row.Machine tenant.1.rows.machines) (map row.Job tenant.1.rows.jobs)
        (inner_map row.Machine (λ m. refl) tenant.1.rows.machines) (inner_map row.Job (λ j. refl) tenant.1.rows.jobs))
        (inner_map row.Task (λ t. refl) tenant.1.rows.tasks)

pub places_inner : (places : List SavedPlace) → list_all is_inner (flat_map place_rows places) ≡ true
places_inner [] = refl
places_inner (place ∷ places) =
    inner_both (place_rows place) (flat_map place_rows places) (place_inner place) (places_inner places)

-- a place's rows
record IsRead (heading : Heading) (place : SavedPlace) : Type 0 where
  each : AllByRecursion (IsRow heading) (place_rows place)
  few : length (place_rows place) ≤ 4201

place_read : (heading : Heading) (place : SavedPlace) → IsCounted (entry_of place) → IsSoundPlace place
    → PlaceFits heading place → IsRead heading place
place_read heading place counted sound fits = by place.tenant sound fits
  where
    by : (tenant : Option (List ℕ × Book)) → IfSome tenant (λ x. (is_name x.0 ≡ true) × IsSoundBook x.1)
        → IfSome tenant (λ (x : List ℕ × Book). FitsHeading heading x.1.rows.limits)
        → IsRead heading (record { admissions = place.admissions; tenant = tenant })
    by None sound fits = record { each = (let few = counted.0 in omega arith, tt); few = omega arith }
    by (Some tenant) sound fits =
        record {
          each = (let few = counted.0 in omega arith, book_rows_are tenant.1 sound.1 heading fits tenant.0 sound.0);
          few = omega (arith, book_rows_few tenant.1 sound.1 tenant.0);
        }

each_read : (heading : Heading) (places : List SavedPlace) → AllByRecursion IsCounted (register_of places)
    → AllByRecursion IsSoundPlace places → AllByRecursion (PlaceFits heading) places
    → AllByRecursion (IsRow heading) (flat_map place_rows places)
    × (length (flat_map place_rows places) ≤ length places * 4201)
each_read heading [] counted sound fit = (tt, omega arith)
each_read heading (place ∷ places) counted sound fit =
    let one = place_read heading place counted.0 sound.0 fit.0 in
    let others = each_read heading places counted.1 sound.1 fit.1 in (
      rows_both (IsRow heading) (place_rows place) (flat_map place_rows places) one.each others.0,
      omega (arith, length-append (place_rows place) (flat_map place_rows places), one.few, others.1),
    )

-- the rows of the places of a sound state
pub rows_are : (heading : Heading) (places : List SavedPlace) → AreSoundPlaces places → All (PlaceFits heading) places
    → AllByRecursion (IsRow heading) (flat_map place_rows places) × (length (flat_map place_rows places) < 10 ^ 13)
rows_are heading places sound fit =
    let all = each_read heading places (recursion_from_All IsCounted (register_of places) sound.counted)
    (recursion_from_All IsSoundPlace places sound.books) (recursion_from_All (PlaceFits heading) places fit) in
    (all.0, omega (arith, all.1, sound.few))
