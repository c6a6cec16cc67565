use Rattle.std.proofs.Common.{◌≡◌, List, length, All, sym, ap, subst, ◌∙◌, arith}
use Rattle.std.specs.Prelude.{slice_index_or}
use Rattle.std.specs.Map.{values_of}
use Rattle.std.proofs.lemmas.List.{length-map}
use Rattle.firm_rules.specs.Book.{TenantRows}
use Rattle.firm_rules.specs.Placement.{Case, IsLegal, IsPlace, stays, task_at}
use Rattle.firm_rules.specs.Round.{case_of, demand_of, rows_after, settled, weight_at, zipped}
use Rattle.firm_rules.specs.inner.Tables.{rows_in, seat, seated}
use Rattle.firm_rules.specs.declared.book.Machine.{Machine}
use Rattle.firm_rules.specs.declared.book.Task.{Task}
use Rattle.firm_rules.specs.declared.rounds.Choice.{Choice}
use Rattle.firm_rules.proofs.CaseKept.{is-case, kept, settled-counted, sound-rows}
use Rattle.firm_rules.proofs.CaseLaws.{case-rows_after}
use Rattle.firm_rules.proofs.Legals.{to_legal}
use Rattle.firm_rules.proofs.Stays.{stays-seated, stays-settled}
use Rattle.firm_rules.proofs.TableLemmas.{tables-settled}
use Rattle.firm_rules.proofs.TaskWrites.{any_choice}
use Rattle.firm_rules.proofs.tables.Rows.settle.Goals as goal

pub settle_all-self-inside-requires-clause-stay : goal.settle_all-self-inside-requires-clause-stay
settle_all-self-inside-requires-clause-stay g c place choice d below is =
    let rows : TenantRows =
    rows_in c.self.inside.limits c.self.inside.machines.entries c.self.inside.jobs.entries
    c.self.inside.tasks.entries in
    stays-settled rows c.self.invariant.tables.sound c.self.invariant.tables.form c.patience-patience.result place
    choice d below
    (ap (λ (k : Case). stays (task_at k place).home choice) (sym c.self.invariant.case) ∙ is)

pub settle_case-requires-clause-stay : goal.settle_case-requires-clause-stay
settle_case-requires-clause-stay g c place d below is =
    let now : TenantRows = c.args.self.now in
    let rows : TenantRows =
    rows_in c.self.inside.limits c.self.inside.machines.entries c.self.inside.jobs.entries
    c.self.inside.tasks.entries in
    let choices : List Choice = c.args.choices.now in
    let choice : Choice = slice_index_or choices place any_choice in
    let legal : IsLegal (case_of now) choices = to_legal (case_of now) choices c.requires.legal in
    let one_each : length choices ≡ length rows.tasks =
    legal.one_each ∙ length-map now.tasks (demand_of now)
    ∙ ap (λ (r : TenantRows). length r.tasks) (sym c.self.view_is) in
    ap (λ (l : List Task). seat (weight_at rows) (slice_index_or l place d) choice (task_at c.self.inside.case place))
    c.settle_all-self-inside.ensures.tasks
    ∙ ap (λ (k : Case). seat (weight_at rows)
    (slice_index_or (zipped (settled c.patience-patience.result rows.machines) rows.tasks choices) place d) choice
    (task_at k place))
    c.self.invariant.case
    ∙ stays-seated rows c.self.invariant.tables.sound c.self.invariant.tables.form c.patience-patience.result choices
    one_each place d below
    (ap (λ (k : Case). stays (task_at k place).home choice) (sym c.self.invariant.case) ∙ is)
    ∙ ap (λ (k : Case). task_at k place) (sym c.self.invariant.case)

pub settle_case-requires-clause-one_each : goal.settle_case-requires-clause-one_each
settle_case-requires-clause-one_each g c =
    let rows : TenantRows = c.args.self.now in
    let legal : IsLegal (case_of rows) c.args.choices.now =
    to_legal (case_of rows) c.args.choices.now c.requires.legal in
    legal.one_each ∙ ap (λ (k : Case). length k.tasks) (sym (is-case c.self.invariant c.self.view_is))

pub settle_case-requires-clause-places : goal.settle_case-requires-clause-places
settle_case-requires-clause-places g c =
    let rows : TenantRows = c.args.self.now in
    let legal : IsLegal (case_of rows) c.args.choices.now =
    to_legal (case_of rows) c.args.choices.now c.requires.legal in
    subst (λ n. All (IsPlace n) c.args.choices.now)
    (ap (λ (k : Case). length k.slots) (sym (is-case c.self.invariant c.self.view_is))) legal.places

pub settle_case-requires-clause-rows : goal.settle_case-requires-clause-rows
settle_case-requires-clause-rows g c =
    let all = tables-settled c.self.invariant.tables c.self.view_is c.args.choices.now
    c.requires.legal c.settle_all-self-inside.ensures.names c.patience-patience.ensures.value
    c.settle_all-self-inside.ensures.tasks c.settle_all-self-inside.ensures.running in
    settled-counted c.args.self.now c.args.choices.now c.requires.legal
    ∙ ap (λ (r : TenantRows). length r.tasks) (sym all.view)

pub settle_case-requires-clause-waited : goal.settle_case-requires-clause-waited
settle_case-requires-clause-waited g c =
    let all = tables-settled c.self.invariant.tables c.self.view_is c.args.choices.now
    c.requires.legal c.settle_all-self-inside.ensures.names c.patience-patience.ensures.value
    c.settle_all-self-inside.ensures.tasks c.settle_all-self-inside.ensures.running in
    let sound = all.tables.sound in
    λ k d l. omega (arith, sound.waited k d l, sound.most_patience)

pub invariant_of-self : goal.invariant_of-self
invariant_of-self g c =
    let rows : TenantRows = c.args.self.now in
    let was : Case = c.self.inside.case in
    let all = tables-settled c.self.invariant.tables c.self.view_is c.args.choices.now
    c.requires.legal c.settle_all-self-inside.ensures.names c.patience-patience.ensures.value
    c.settle_all-self-inside.ensures.tasks c.settle_all-self-inside.ensures.running in
    let legal : IsLegal (case_of rows) c.args.choices.now =
    to_legal (case_of rows) c.args.choices.now c.requires.legal in
    record {
      tables = all.tables;
      case = kept (λ (case : Case). let k : Case = record case {
        tasks = seated (weight_at rows)
            (rows_after rows c.args.choices.now).tasks c.args.choices.now case.tasks;
      } in k)
          c.self.invariant.case c.self.view_is
          (c.settle_case.ensures
          ∙ ap (λ (r : TenantRows). let k : Case = record was {
            tasks = seated (weight_at r)
                (values_of c.settle_all-self-inside.new.tasks.entries) c.args.choices.now was.tasks;
          } in k) c.self.view_is
          ∙ ap (λ (r : TenantRows). let k : Case = record was {
            tasks = seated (weight_at rows)
                r.tasks c.args.choices.now was.tasks;
          } in k) all.view)
          (case-rows_after rows (sound-rows c.self.invariant c.self.view_is) c.args.choices.now
          (subst (λ n. All (IsPlace n) c.args.choices.now) (length-map rows.machines (λ (m : Machine). m.slots))
          legal.places)
          (legal.one_each ∙ length-map rows.tasks (demand_of rows)))
          all.view;
    }

pub returns-clause-sound : goal.returns-clause-sound
returns-clause-sound g c =
    (tables-settled c.self.invariant.tables c.self.view_is c.args.choices.now
    c.requires.legal c.settle_all-self-inside.ensures.names c.patience-patience.ensures.value
    c.settle_all-self-inside.ensures.tasks c.settle_all-self-inside.ensures.running).tables.sound

pub settle_all-self-inside-requires-clause-patience : goal.settle_all-self-inside-requires-clause-patience
settle_all-self-inside-requires-clause-patience g c = c.patience-patience.ensures.most

pub settle_all-self-inside-requires-clause-one_each : goal.settle_all-self-inside-requires-clause-one_each
settle_all-self-inside-requires-clause-one_each g c =
    let rows : TenantRows = c.args.self.now in
    (to_legal (case_of rows) c.args.choices.now c.requires.legal).one_each ∙ length-map rows.tasks (demand_of rows)
    ∙ ap (λ (r : TenantRows). length r.tasks) (sym c.self.view_is)

pub settle_all-self-inside-requires-clause-demands : goal.settle_all-self-inside-requires-clause-demands
settle_all-self-inside-requires-clause-demands g c =
    (to_legal (case_of c.args.self.now) c.args.choices.now c.requires.legal).one_each
    ∙ ap (λ (k : Case). length k.tasks) (sym (is-case c.self.invariant c.self.view_is))

pub settle_all-self-inside-requires-clause-places : goal.settle_all-self-inside-requires-clause-places
settle_all-self-inside-requires-clause-places g c =
    let rows : TenantRows = c.args.self.now in
    subst (λ n. All (IsPlace n) c.args.choices.now)
    (length-map rows.machines (λ (m : Machine). m.slots)
    ∙ ap (λ (r : TenantRows). length r.machines) (sym c.self.view_is))
    (to_legal (case_of rows) c.args.choices.now c.requires.legal).places

pub returns-clause-rows : goal.returns-clause-rows
returns-clause-rows g c =
    (tables-settled c.self.invariant.tables c.self.view_is c.args.choices.now
    c.requires.legal c.settle_all-self-inside.ensures.names c.patience-patience.ensures.value
    c.settle_all-self-inside.ensures.tasks c.settle_all-self-inside.ensures.running).view
