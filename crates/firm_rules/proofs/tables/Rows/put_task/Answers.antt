use Rattle.std.proofs.Common.{ℕ, ◌≡◌, ◌≤◌, Bool, true, false, List, ◌++◌, ◌∷◌, [], length, refl, sym, ap, subst, ◌∙◌}
use Rattle.std.proofs.Common.{arith}
use Rattle.std.specs.Map.{keys_of}
use Rattle.firm_rules.specs.Book.{TenantRows, task_names}
use Rattle.firm_rules.specs.Names.{is_among}
use Rattle.firm_rules.specs.inner.Demands.{seen, Fits}
use Rattle.firm_rules.specs.Placement.{Case, Demand}
use Rattle.firm_rules.specs.Round.{demand_of}
use Rattle.firm_rules.specs.declared.book.Task.{Task}
use Rattle.firm_rules.proofs.SoundRows.{one_if, one_if-from_bool}
use Rattle.firm_rules.proofs.TableLemmas.{tables-with_restored}
use Rattle.firm_rules.proofs.CaseKept.{kept, sound-rows, slots-counted, unchanged, room-for_task, preferences-few}
use Rattle.firm_rules.proofs.CaseKept.{running-few, few-fit}
use Rattle.firm_rules.proofs.CaseLaws.{case-with_restored}
use Rattle.firm_rules.proofs.tables.Rows.put_task.Goals as goal

pub invariant_of-self-2 : goal.invariant_of-self-2
invariant_of-self-2 g c =
    let task : Task = c.args.task in
    let was : Case = c.self.inside.case in
    let all = tables-with_restored c.self.invariant.tables c.self.view_is task
    (c.add_last.ensures.entries
    ∙ ap (λ (l : List (List ℕ × Task)). l ++ (task.name, task) ∷ []) c.make_room.ensures.entries)
    c.add_last.ensures.unique c.requires.job_there c.requires.machine_there c.requires.machines_there
    c.as_slice.ensures.few c.as_slice.ensures.differ c.requires.room c.requires.waited c.requires.running
    c.requires.fits c.as_bytes.ensures.formed (ap length c.as_slice.ensures.names)
    (c.from-runs.ensures ∙ one_if-from_bool c.is_some.result ∙ ap one_if c.is_some.ensures) in
    record {
      tables = all.tables;
      case = kept (λ (case : Case). let k : Case = record case {
        tasks = case.tasks
            ++ demand_of c.args.self.now task ∷ [];
      } in k)
          c.self.invariant.case c.self.view_is
          (c.in_ok-add_task.ensures.ok
          ∙ ap (λ (d : Demand). let k : Case = record was { tasks = was.tasks ++ d ∷ [] } in k)
          c.requires.seen)
          (case-with_restored c.args.self.now (sound-rows c.self.invariant c.self.view_is) task) all.view;
    }

pub returns : goal.returns
returns g c =
    let task : Task = c.args.task in
    let all = tables-with_restored c.self.invariant.tables c.self.view_is task
    (c.add_last.ensures.entries
    ∙ ap (λ (l : List (List ℕ × Task)). l ++ (task.name, task) ∷ []) c.make_room.ensures.entries)
    c.add_last.ensures.unique c.requires.job_there c.requires.machine_there c.requires.machines_there
    c.as_slice.ensures.few c.as_slice.ensures.differ c.requires.room c.requires.waited c.requires.running
    c.requires.fits c.as_bytes.ensures.formed (ap length c.as_slice.ensures.names)
    (c.from-runs.ensures ∙ one_if-from_bool c.is_some.result ∙ ap one_if c.is_some.ensures) in
    record { ok = all.view; err = tt; sound = all.tables.sound }

pub add_task-requires-clause-room : goal.add_task-requires-clause-room
add_task-requires-clause-room g c = room-for_task c.self.invariant c.self.view_is c.args.task c.requires.fits

pub add_task-requires-clause-fits : goal.add_task-requires-clause-fits
add_task-requires-clause-fits g c =
    subst (λ n. Fits n (seen c.args.demand)) (sym (slots-counted c.self.invariant c.self.view_is)) c.requires.places

pub invariant_of-self : goal.invariant_of-self
invariant_of-self g c = unchanged c.self.invariant refl refl c.make_room.ensures.entries refl

pub returns-in_err-make_room-clause-sound : goal.returns-in_err-make_room-clause-sound
returns-in_err-make_room-clause-sound g c =
    (unchanged c.self.invariant refl refl c.make_room.ensures.entries refl).tables.sound

pub invariant_of-self-in_err-add_task : goal.invariant_of-self-in_err-add_task
invariant_of-self-in_err-add_task g c =
    unchanged c.self.invariant refl refl c.make_room.ensures.entries c.in_err-add_task.ensures.err

pub returns-in_err-add_task-clause-sound : goal.returns-in_err-add_task-clause-sound
returns-in_err-add_task-clause-sound g c =
    (unchanged c.self.invariant refl refl c.make_room.ensures.entries c.in_err-add_task.ensures.err).tables.sound

pub add_last-requires-clause-new_name : goal.add_last-requires-clause-new_name
add_last-requires-clause-new_name g c =
    let name : List ℕ = c.args.task.name in
    ap (λ (l : List (List ℕ × Task)). is_among (keys_of l) name) c.make_room.ensures.entries
    ∙ ap (λ (names : List (List ℕ)). is_among names name) c.self.invariant.tables.tasks_by_name
    ∙ ap (λ (rows : TenantRows). is_among (task_names rows) name) c.self.view_is ∙ c.requires.new_name

few : (names its : List (List ℕ)) → names ≡ its → length its ≤ 4 → length names ≤ 65536
few names its is most = omega (arith, ap (λ (l : List (List ℕ)). length l) is, most)

one : (b : Bool) (n : ℕ) → n ≡ one_if b → n ≤ 65536
one true n is = omega (arith, is)
one false n is = omega (arith, is)

many : (n : ℕ) → n ≤ 4096 → n ≤ 65536
many n most = omega (arith, most)

pub overflow_add-self : goal.overflow_add-self
overflow_add-self g c =
    few-fit c.self.inside.preferences (length c.as_slice.result.now)
    (preferences-few c.self.invariant c.self.view_is)
    (few c.as_slice.result.now c.args.task.preferred c.as_slice.ensures.names c.as_slice.ensures.few)

pub overflow_add-self-2 : goal.overflow_add-self-2
overflow_add-self-2 g c =
    few-fit c.self.inside.running c.from-runs.result
    (many c.self.inside.running (running-few c.self.invariant c.self.view_is))
    (one c.is_some.result c.from-runs.result (c.from-runs.ensures ∙ one_if-from_bool c.is_some.result))
