use Rattle.std.proofs.Common.{◌≡◌, ◌∙◌, Bool, true, false, cond, Some, None, sym, ap, arith}
use Rattle.std.specs.Prelude.{nat_lt}
use Rattle.std.proofs.lemmas.Bool.{le-ltb, lt-ltb}
use Rattle.firm_saved.specs.declared.faults.FaultKind.TheVariants as fault
use Rattle.firm_saved.proofs.Running.{told}
use Rattle.firm_saved.proofs.tenant_drafts.TenantDraft.running_fault.Goals as goal

pub returns-then-index-slots : goal.returns-then-index-slots
returns-then-index-slots c =
    let rows = c.args.self.now.rows in
    let less : nat_lt c.index.result.now c.unwrap.result.slots ≡ true =
    lt-ltb _ _ (let test = c.if-index-slots.true in let is = c.get-slots.ensures.value in omega arith) in
    let idle = c.if-task-gt0.false in
    sym (told rows c.limits.ensures.sound c.args.self.now.loads.items c.requires.loads c.args.machine c.in-Some.place
    c.in-Some.ensures.below c.in-Some.ensures.named c.args.task.now c.unwrap.result c.index.result.now c.requires.runs
    (sym c.in-Some.ensures.found) (sym c.machine_at.ensures ∙ c.unwrap.ensures) c.index.ensures idle
    ∙ ap (λ (b : Bool). cond b None (Some fault.NoRoom)) less)

pub returns-else-index-slots : goal.returns-else-index-slots
returns-else-index-slots c =
    let rows = c.args.self.now.rows in
    let full : nat_lt c.index.result.now c.unwrap.result.slots ≡ false =
    le-ltb _ _ (let test = c.if-index-slots.false in let is = c.get-slots.ensures.value in omega arith) in
    let idle = c.if-task-gt0.false in
    sym (told rows c.limits.ensures.sound c.args.self.now.loads.items c.requires.loads c.args.machine c.in-Some.place
    c.in-Some.ensures.below c.in-Some.ensures.named c.args.task.now c.unwrap.result c.index.result.now c.requires.runs
    (sym c.in-Some.ensures.found) (sym c.machine_at.ensures ∙ c.unwrap.ensures) c.index.ensures idle
    ∙ ap (λ (b : Bool). cond b None (Some fault.NoRoom)) full)
