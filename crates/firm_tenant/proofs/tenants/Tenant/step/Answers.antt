use Rattle.std.proofs.Common.{◌≡◌, ◌+◌, ◌<◌, ◌≤◌, Bool, ap, subst, sym, ◌∙◌, arith}
use Rattle.firm_rules.specs.Book.{Book}
use Rattle.firm_rules.specs.Limits.{TenantLimits}
use Rattle.firm_rules.specs.SoundBook.{entry_count}
use Rattle.firm_rules.specs.declared.replies.Outcome.{Outcome}
use Rattle.firm_tenant.specs.Counts.{IsOfOneRound}
use Rattle.firm_tenant.specs.inner.Pools.{book_of, Pool, HasCountedFor, IsSoundPool}
use Rattle.firm_tenant.specs.Step.{step, effect, is_memory_outcome}
use Rattle.firm_tenant.proofs.Counted.{few_begins, of_one_round}
use Rattle.firm_tenant.proofs.Entries.{after-step, effect-grows, sound-book_of}
use Rattle.firm_tenant.proofs.Steps.{effect-keeps, step-alive}
use Rattle.firm_tenant.proofs.tenants.Tenant.step.Goals as goal

pub invariant_of-self : goal.invariant_of-self
invariant_of-self c =
    let law = c.tasks_stay_where_they_may_stand.ensures in
    let first = c.the_round_is_the_first.ensures in
    let old : Pool = c.self.inside.pool.value in
    let new : Pool = c.answer-outcome.new.self in
    let given = c.self.inside.given in
    let mark : Bool = is_memory_outcome c.answer-outcome.result in
    let was : c.deref_mut.result.now ≡ old = c.deref_mut.ensures.value in
    let counts : HasCountedFor c.args.command old new =
    subst (λ (p : Pool). HasCountedFor c.args.command p new) was c.answer-outcome.ensures.counts in
    let limits : new.rows.limits ≡ old.rows.limits =
    ap (λ (a : Outcome × Book). a.1.rows.limits) (c.answer-outcome.ensures.effect 0)
    ∙ (effect-keeps (book_of c.deref_mut.result.now 0) c.args.command mark).0
    ∙ ap (λ (p : Pool). p.rows.limits) was in
    let grown : entry_count (book_of new 0) ≤ entry_count (book_of old 0) + 1 =
    omega (
      arith,
      ap (λ (a : Outcome × Book). entry_count a.1) (c.answer-outcome.ensures.effect 0),
      (effect-grows law first (book_of c.deref_mut.result.now 0) c.args.command mark).few,
      ap (λ (p : Pool). entry_count (book_of p 0)) was,
    ) in
    let alive : given < old.rows.limits.life =
    omega (
      arith,
      c.if-life-self.false,
      c.life-life.ensures.value,
      ap (λ (l : TenantLimits). l.life) c.limits.ensures,
      ap (λ (b : Book). b.rows.limits.life) c.self.view_is,
    ) in
    let after =
    after-step law first old c.deref_mut.result.now new given c.args.command mark c.answer-outcome.result was
    (c.answer-outcome.ensures.effect 0)
    (record { sound = c.self.invariant.0.rows; form = c.self.invariant.0.form }) c.self.invariant.0.count
    c.self.invariant.0.rounds c.self.invariant.0.standing in (
      sound-book_of new (given + 1) (subst IsSoundPool c.deref.ensures c.cost_count.ensures.sound)
          (omega (arith, alive, ap (λ (l : TenantLimits). l.life) limits))
          (omega (arith, grown, c.self.invariant.0.count)) after.0 after.1,
      omega (arith, c.answer-outcome.ensures.asked, ap (λ (p : Pool). p.asked) was, c.self.invariant.1),
      record {
        begins = omega (arith, few_begins c.args.command old new counts, c.self.invariant.2.begins);
        last = subst (λ (l : TenantLimits). IsOfOneRound l new.workspace.net) (sym limits)
            (of_one_round c.args.command old new c.self.invariant.0.rows counts c.self.invariant.2.last);
      },
    )

pub returns : goal.returns
returns c =
    let mark : Bool = is_memory_outcome c.answer-outcome.result in
    step-alive (book_of c.self.inside.pool.value c.self.inside.given) c.args.command mark
    (c.answer-outcome.result, book_of c.answer-outcome.new.self (c.self.inside.given + 1))
    (omega (
      arith,
      c.if-life-self.false,
      c.life-life.ensures.value,
      ap (λ l. l.life) c.limits.ensures,
      ap (λ (b : Book). b.rows.limits.life) c.self.view_is,
    ))
    (c.answer-outcome.ensures.effect (c.self.inside.given + 1)
    ∙ ap (λ (p : Pool). effect (book_of p (c.self.inside.given + 1)) c.args.command mark)
    c.deref_mut.ensures.value)
    ∙ ap (λ (b : Book). step b c.args.command mark) c.self.view_is
