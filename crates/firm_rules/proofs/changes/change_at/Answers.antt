use Rattle.std.proofs.Common.{◌≡◌, ℕ, List, [], ◌∷◌, Option, None, Some, cond}
use Rattle.std.proofs.Common.{refl, sym}
use Rattle.std.proofs.Common.{ap, ◌∙◌}
use Rattle.std.specs.Prelude.{slice_index_or}
use Rattle.std.proofs.lemmas.Bool.{eq-eqb}
use Rattle.std.proofs.lemmas.List.{get_or-map}
use Rattle.firm_rules.specs.Book.{TenantRows, machine_names}
use Rattle.firm_rules.specs.Sound.{AreSound}
use Rattle.firm_rules.specs.Placement.{Case, Demand, home_choice, task_at}
use Rattle.firm_rules.specs.Round.{changed, demand_of, machine_at, machine_place, place_of, task_changes}
use Rattle.firm_rules.specs.declared.book.Task.{Task}
use Rattle.firm_rules.specs.declared.rounds.Change.TheVariants.{Move}
use Rattle.firm_rules.proofs.MovedPlaces.{place-below}
use Rattle.firm_rules.proofs.NamedRows.{stands-at}
use Rattle.firm_rules.proofs.SoundRows.{IsThere}
use Rattle.firm_rules.proofs.changes.change_at.Goals as goal

-- a task that stays changes nothing
stays : (rows : TenantRows) (name : List ℕ) (home : Option (List ℕ)) → AreSound rows → IsThere (machine_names rows) home
    → [] ≡ changed (machine_at rows) name home (home_choice (machine_place rows home))
stays rows name None sound there = refl
stays rows name (Some own) sound there =
    let place : ℕ = place_of rows own in
    let names : List (List ℕ) = machine_names rows in
    sym (ap (λ b. cond b [] (Move name own (machine_at rows place) ∷ []))
    (sym (stands-at names own place sound.machine_names_differ (place-below names own there))
    ∙ eq-eqb place place refl))

pub returns-then-is_same : goal.returns-then-is_same
returns-then-is_same g c d =
    let rows : TenantRows = c.args.rows.now in
    let sound : AreSound rows = c.limits.ensures.sound in
    let number = c.args.number in
    let task : Task = slice_index_or rows.tasks number d in
    let none : Demand = record { home = None; preferred = []; delay = 0; job = 0 } in
    stays rows task.name task.machine sound (sound.machines_there number d c.requires.there)
    ∙ ap (task_changes rows task)
    (ap (λ (demand : Demand). home_choice demand.home)
    (sym (get_or-map (demand_of rows) rows.tasks number d none c.requires.there))
    ∙ ap (λ (k : Case). home_choice (task_at k number).home) (sym c.case.ensures)
    ∙ sym c.home.ensures.home ∙ c.is_same.ensures c.if-is_same.true)

pub returns : goal.returns
returns g c d =
    let rows : TenantRows = c.args.rows.now in
    c.change_of.ensures
    ∙ ap (λ (t : Task). task_changes rows t c.args.choice) (c.task_row.ensures d)
