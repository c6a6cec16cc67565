use Rattle.std.proofs.Common.{◌≡◌, ◌<◌, ◌∙◌, ℕ, Option, subst, arith, length, []}
use Rattle.std.specs.Prelude.{IfSome}
use Rattle.firm_rules.specs.Book.{machine_names, name_at}
use Rattle.firm_rules.specs.declared.book.Machine.{Machine}
use Rattle.firm_saved.proofs.Running.{added, small}
use Rattle.firm_saved.proofs.tenant_drafts.add_load.Goals as goal

abbrev any_machine : Machine
any_machine = record { name = []; slots = 0 }

pub overflow_add-index_mut : goal.overflow_add-index_mut
overflow_add-index_mut c =
    let below = subst (λ (o : Option ℕ). IfSome o (λ place. place < length c.args.rows.now.machines))
    c.unwrap-place.ensures c.machine_place.ensures.below in
    let named = subst (λ (o : Option ℕ). IfSome o
    (λ place. name_at (machine_names c.args.rows.now) place ≡ c.in-Some.name))
    c.unwrap-place.ensures c.machine_place.ensures.named in
    let few = small c.args.rows.now c.limits.ensures.sound c.args.loads.now.items c.requires.loads c.in-Some.name
    c.unwrap-place.result below named c.index_mut.result.now any_machine c.index_mut.ensures.value in
    omega arith

pub returns : goal.returns
returns c task is =
    let below = subst (λ (o : Option ℕ). IfSome o (λ place. place < length c.args.rows.now.machines))
    c.unwrap-place.ensures c.machine_place.ensures.below in
    let named = subst (λ (o : Option ℕ). IfSome o
    (λ place. name_at (machine_names c.args.rows.now) place ≡ c.in-Some.name))
    c.unwrap-place.ensures c.machine_place.ensures.named in
    added c.args.rows.now c.limits.ensures.sound c.args.loads.now.items c.requires.loads c.in-Some.name
    c.unwrap-place.result below named task c.index_mut.result.now (is ∙ c.in-Some.is) c.index_mut.ensures.value
