use Rattle.std.proofs.Common.{◌≡◌, ◌≤◌, ◌+◌, ℕ, true, List, Option, All, length, map, sym, ap, subst, ◌∙◌, arith}
use Rattle.std.proofs.lemmas.List.{length-map}
use Rattle.firm_rules.specs.Book.{TenantRows, machine_names}
use Rattle.firm_rules.specs.Names.{is_among}
use Rattle.firm_rules.specs.Placement.{Demand as RoundDemand}
use Rattle.firm_rules.specs.Round.{demand_of, job_place, machine_place, place_of, weight_at}
use Rattle.firm_rules.specs.declared.book.Task.{Task}
use Rattle.firm_rules.proofs.demands.demand_of.Goals as goal

pub home_of-requires : goal.home_of-requires
home_of-requires g c = c.requires.machine

pub places_of-requires-clause-few : goal.places_of-requires-clause-few
places_of-requires-clause-few g c =
    subst (λ (l : List (List ℕ)). length l ≤ 4) (sym c.as_slice.ensures.names) c.as_slice.ensures.few

pub places_of-requires-clause-there : goal.places_of-requires-clause-there
places_of-requires-clause-there g c =
    subst (All (λ (name : List ℕ). is_among (machine_names c.args.rows.now) name ≡ true))
    (sym c.as_slice.ensures.names) c.requires.preferred

pub delay_of-requires : goal.delay_of-requires
delay_of-requires g c = c.requires.waited

made : (rows : TenantRows) (task : Task) (home : Option ℕ) (names : List (List ℕ)) (preferred : List ℕ) (delay job : ℕ)
    → home ≡ machine_place rows task.machine → names ≡ task.preferred → preferred ≡ map (place_of rows) names
    → delay ≡ weight_at rows job + task.waited → job ≡ job_place rows task
    → (let it : RoundDemand = record { home = home; preferred = preferred; delay = delay; job = job } in
    it ≡ demand_of rows task)
made rows task home names preferred delay job home-is names-are preferred-are delay-is job-is =
    ap (λ (h : Option ℕ). let it : RoundDemand = record { home = h; preferred = preferred; delay = delay; job = job } in
    it) home-is
    ∙ ap (λ (l : List ℕ). let it : RoundDemand = record (demand_of rows task) {
      preferred = l;
      delay = delay;
      job = job;
    } in it) (preferred-are ∙ ap (map (place_of rows)) names-are)
    ∙ ap (λ (n : ℕ). let it : RoundDemand = record (demand_of rows task) { delay = n; job = job } in it) delay-is
    ∙ ap (λ (n : ℕ). let it : RoundDemand = record (demand_of rows task) {
      delay = weight_at rows n + task.waited;
      job = n;
    } in it) job-is

pub returns-clause-seen : goal.returns-clause-seen
returns-clause-seen g c =
    made c.args.rows.now c.args.task.now c.home_of.result c.as_slice.result.now c.places_of.result.items
    c.delay_of.result c.job_place_of-job.result c.home_of.ensures.place c.as_slice.ensures.names
    c.places_of.ensures.places c.delay_of.ensures.delay c.job_place_of-job.ensures

few : (names : List (List ℕ)) (its : List (List ℕ)) (places : List ℕ) → length places ≡ length names
    → names ≡ its → length its ≤ 4 → length places ≤ 4
few names its places counted is most = omega (arith, counted, ap (λ (l : List (List ℕ)). length l) is, most)

pub returns-clause-fits : goal.returns-clause-fits
returns-clause-fits g c = record {
  home = c.home_of.ensures.below;
  preferred = c.places_of.ensures.below;
  few = few c.as_slice.result.now c.args.task.now.preferred c.places_of.result.items
      (ap (λ (l : List ℕ). length l) c.places_of.ensures.places
      ∙ length-map c.as_slice.result.now (place_of c.args.rows.now)) c.as_slice.ensures.names c.as_slice.ensures.few;
  delay = c.delay_of.ensures.most;
}
