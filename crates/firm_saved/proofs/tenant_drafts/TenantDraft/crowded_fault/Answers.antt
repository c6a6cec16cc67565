use Rattle.std.proofs.Common.{◌∙◌, ◌+◌, ◌≤◌, ℕ, Bool, cond, [], Some, None, refl, sym, ap, arith}
use Rattle.firm_rules.specs.Book.{Book}
use Rattle.firm_rules.specs.SoundBook.{may_run, most_rounds}
use Rattle.firm_rules.specs.declared.book.Task.{Task}
use Rattle.firm_saved.specs.Drafts.{book_with}
use Rattle.firm_saved.specs.declared.faults.FaultKind.TheVariants as fault
use Rattle.firm_saved.specs.inner.Loads.{view}
use Rattle.firm_saved.proofs.Running.{small, stood}
use Rattle.firm_saved.proofs.tenant_drafts.TenantDraft.crowded_fault.Goals as goal

pub may_run-requires : goal.may_run-requires
may_run-requires c =
    let rows = c.args.self.now.rows in
    let few : c.index.result.now ≤ 64 =
    small rows c.limits.ensures.sound c.args.self.now.loads.items c.requires.loads c.in_ok-machine.machine
    c.in_ok-place.place c.in_ok-place.ensures.below c.in_ok-place.ensures.named c.index.result.now
    (record { name = []; slots = 0 }) c.index.ensures in
    omega (arith, few, c.from-load.ensures)

pub returns-then-may_run : goal.returns-then-may_run
returns-then-may_run c =
    let rows = c.args.self.now.rows in
    let task : Task = c.args.task.now in
    let machine = c.in_ok-machine.machine in
    let book : Book = book_with (view c.args.self.now) task in
    sym (stood rows c.limits.ensures.sound c.args.self.now.loads.items c.requires.loads machine c.in_ok-place.place
    c.in_ok-place.ensures.below c.in_ok-place.ensures.named book task c.index.result.now refl c.in_ok-machine.was
    c.index.ensures
    ∙ ap (λ (b : Bool). cond b None (Some fault.Crowded))
    (ap (λ (n : ℕ). may_run rows (most_rounds book) task machine (n + 1)) (sym c.from-load.ensures)
    ∙ ap (λ (n : ℕ). may_run rows n task machine (c.from-load.result + 1)) (sym (c.most_rounds_with_task.ensures task))
    ∙ sym c.may_run.ensures ∙ c.if-may_run.true))

pub returns-else-may_run : goal.returns-else-may_run
returns-else-may_run c =
    let rows = c.args.self.now.rows in
    let task : Task = c.args.task.now in
    let machine = c.in_ok-machine.machine in
    let book : Book = book_with (view c.args.self.now) task in
    sym (stood rows c.limits.ensures.sound c.args.self.now.loads.items c.requires.loads machine c.in_ok-place.place
    c.in_ok-place.ensures.below c.in_ok-place.ensures.named book task c.index.result.now refl c.in_ok-machine.was
    c.index.ensures
    ∙ ap (λ (b : Bool). cond b None (Some fault.Crowded))
    (ap (λ (n : ℕ). may_run rows (most_rounds book) task machine (n + 1)) (sym c.from-load.ensures)
    ∙ ap (λ (n : ℕ). may_run rows n task machine (c.from-load.result + 1)) (sym (c.most_rounds_with_task.ensures task))
    ∙ sym c.may_run.ensures ∙ c.if-may_run.false))
