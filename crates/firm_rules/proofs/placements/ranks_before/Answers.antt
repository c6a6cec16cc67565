use Rattle.std.proofs.Common.{◌≡◌, ◌<◌, ℕ, true, List, length, sym, ap, subst, ◌∙◌, arith}
use Rattle.std.specs.Prelude.{slice_index_or}
use Rattle.std.proofs.lemmas.List.{length-map}
use borrow.Author.Count.{falls}
use Rattle.firm_rules.specs.Book.{TenantRows}
use Rattle.firm_rules.specs.Placement.{Case, IsPlace, is_legal, task_at, rank}
use Rattle.firm_rules.specs.Round.{case_of}
use Rattle.firm_rules.specs.declared.book.Machine.{Machine}
use Rattle.firm_rules.specs.declared.rounds.Choice.{Choice}
use Rattle.firm_rules.specs.declared.rounds.Choice.TheVariants.{On}
use Rattle.firm_rules.proofs.CaseLists.{same_rank}
use Rattle.firm_rules.proofs.Legals.{to_legal}
use Rattle.firm_rules.proofs.placements.ranks_before.Goals as goal

pub loop-task-preserved : goal.loop-task-preserved
loop-task-preserved g c =
    let rows = c.args.rows.now in
    let case : Case = case_of rows in
    let first = c.args.first.now in
    let second = c.args.second.now in
    let i = c.loop-task.task in
    let one = to_legal case first c.requires.first_legal in
    let other = to_legal case second c.requires.second_legal in
    let below : i < length case.tasks = omega (
      arith,
      c.loop-task-test.true,
      c.task_count-task-end.ensures.count,
      ap (λ (k : Case). length k.tasks) c.case-case.ensures,
    ) in
    let machines : length c.case-case.result.now.slots ≡ length rows.machines =
    ap (λ (k : Case). length k.slots) c.case-case.ensures
    ∙ length-map rows.machines (λ (m : Machine). m.slots) in
    same_rank (length rows.machines) case.tasks first second i below (omega (arith, one.one_each, below))
    (omega (arith, other.one_each, below))
    (ap (λ (n : ℕ). rank n (task_at case i).home (slice_index_or first i (On 0))) (sym machines)
    ∙ ap (λ (k : Case). rank (length c.case-case.result.now.slots) (task_at k i).home (slice_index_or first i (On 0)))
    (sym c.case-case.ensures)
    ∙ sym c.rank_of-one.ensures.rank ∙ c.if-one-other.false ∙ c.rank_of-other.ensures.rank
    ∙ ap (λ (k : Case). rank (length c.case-case.result.now.slots) (task_at k i).home (slice_index_or second i (On 0)))
    c.case-case.ensures
    ∙ ap (λ (n : ℕ). rank n (task_at case i).home (slice_index_or second i (On 0))) machines)
    ∙ c.loop-task.invariant

pub loop-task-smaller : goal.loop-task-smaller
loop-task-smaller g c = falls c.task_count-task-end.result c.loop-task.task c.loop-task-test.true

-- each task has a choice, which is one of the machines or to wait
chosen : (rows : TenantRows) (placement : List Choice) (case : Case) → is_legal (case_of rows) placement ≡ true
    → case ≡ case_of rows → (i count : ℕ) → i < count → count ≡ length case.tasks
    → (i < length placement) × IsPlace (length case.slots) (slice_index_or placement i (On 0))
chosen rows placement case legal is i count there counted =
    let all = to_legal (case_of rows) placement legal in
    let below : i < length placement =
    omega (arith, there, counted, ap (λ (k : Case). length k.tasks) is, all.one_each) in (
      below,
      subst (λ (k : Case). IsPlace (length k.slots) (slice_index_or placement i (On 0))) (sym is)
          (all.places i (On 0) below),
    )

pub bounds-first-task : goal.bounds-first-task
bounds-first-task g c =
    (chosen c.args.rows.now c.args.first.now c.case-case.result.now c.requires.first_legal c.case-case.ensures
    c.loop-task.task c.task_count-task-end.result c.loop-task-test.true c.task_count-task-end.ensures.count).0

pub rank_of-one-requires-clause-task : goal.rank_of-one-requires-clause-task
rank_of-one-requires-clause-task g c =
    subst (λ n. c.loop-task.task < n) c.task_count-task-end.ensures.count c.loop-task-test.true

pub rank_of-one-requires-clause-choice : goal.rank_of-one-requires-clause-choice
rank_of-one-requires-clause-choice g c =
    (chosen c.args.rows.now c.args.first.now c.case-case.result.now c.requires.first_legal c.case-case.ensures
    c.loop-task.task c.task_count-task-end.result c.loop-task-test.true c.task_count-task-end.ensures.count).1

pub bounds-second-task : goal.bounds-second-task
bounds-second-task g c =
    (chosen c.args.rows.now c.args.second.now c.case-case.result.now c.requires.second_legal c.case-case.ensures
    c.loop-task.task c.task_count-task-end.result c.loop-task-test.true c.task_count-task-end.ensures.count).0

pub rank_of-other-requires-clause-task : goal.rank_of-other-requires-clause-task
rank_of-other-requires-clause-task g c =
    subst (λ n. c.loop-task.task < n) c.task_count-task-end.ensures.count c.loop-task-test.true

pub rank_of-other-requires-clause-choice : goal.rank_of-other-requires-clause-choice
rank_of-other-requires-clause-choice g c =
    (chosen c.args.rows.now c.args.second.now c.case-case.result.now c.requires.second_legal c.case-case.ensures
    c.loop-task.task c.task_count-task-end.result c.loop-task-test.true c.task_count-task-end.ensures.count).1
