use Rattle.std.proofs.Common.{◌≡◌, ◌<◌, ◌≤◌, ℕ, List, Option, None, length, map, sym, ap, subst, ◌∙◌, arith}
use Rattle.std.specs.Map.{values_of}
use Rattle.std.specs.Option.{option_map, unwrap_or}
use Rattle.std.specs.Prelude.{slice_get, slice_index}
use Rattle.std.proofs.lemmas.List.{get_or-map}
use Rattle.std.proofs.lemmas.Option.{slice_get-map, slice_get_within, unwrap_or-slice_get}
use Rattle.firm_rules.specs.declared.book.Job.{Job}
use Rattle.firm_rules.proofs.TableLemmas.{entry-at}
use Rattle.firm_rules.proofs.TaskWrites.{as-many-values}
use Rattle.firm_rules.proofs.tables.weight_at.Goals as goal

pub returns-in-Some-clause-weight : goal.returns-in-Some-clause-weight
returns-in-Some-clause-weight g c =
    let entries = c.args.jobs.now.entries in
    let job : Job = c.in-Some.job.now in
    let below : c.args.place < length (values_of entries) = omega (
      arith,
      slice_get_within entries c.args.place (c.in-Some.field-0-0.now, job) (sym c.in-Some.ensures.entry),
      as-many-values entries,
    ) in
    c.from.ensures ∙ c.get.ensures.value
    ∙ ap (λ (j : Job). j.weight)
    (sym ((entry-at entries c.args.place c.in-Some.field-0-0.now job c.in-Some.ensures.entry).1 job))
    ∙ sym (get_or-map (λ (j : Job). j.weight) (values_of entries) c.args.place job 0 below)

pub returns-in-Some-clause-most : goal.returns-in-Some-clause-most
returns-in-Some-clause-most g c = subst (λ n. n ≤ 1000000) (sym c.from.ensures) c.get.ensures.most

nothing : (entries : List (List ℕ × Job)) (place : ℕ) → None ≡ slice_get entries place
    → 0 ≡ slice_index (map (λ job. job.weight) (values_of entries)) place
nothing entries place none =
    let weight : Job → ℕ = λ job. job.weight in
    let row : List ℕ × Job → Job = λ entry. entry.1 in
    ap (λ (o : Option ℕ). unwrap_or o 0)
    (ap (λ (o : Option (List ℕ × Job)). option_map weight (option_map row o)) none
    ∙ ap (option_map weight) (sym (slice_get-map row entries place))
    ∙ sym (slice_get-map weight (values_of entries) place))
    ∙ unwrap_or-slice_get (map weight (values_of entries)) place 0

pub returns-in-None-clause-weight : goal.returns-in-None-clause-weight
returns-in-None-clause-weight g c = nothing c.args.jobs.now.entries c.args.place c.in-None.ensures.entry
