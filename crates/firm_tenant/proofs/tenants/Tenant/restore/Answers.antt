use Rattle.std.proofs.Common.{◌≡◌, ℕ, rules, arith, ap, sym, subst, ◌∙◌}
use Rattle.firm_rules.specs.Book.{Book}
use Rattle.firm_rules.specs.SoundBook.{IsSoundBook}
use Rattle.firm_tenant.specs.inner.Pools.{Pool, HasCountedNothing, book_of}
use Rattle.firm_tenant.proofs.Counted.{none_counted}
use Rattle.firm_tenant.proofs.Entries.{book-of_pool, asked-few}
use Rattle.firm_tenant.proofs.tenants.Tenant.restore.Goals as goal

pub invariant_of-result : goal.invariant_of-result
invariant_of-result c =
    let book : Book = c.args.book.now in
    let given : ℕ = c.given-given.result in
    let pool : Pool = c.in_ok-pool.pool in
    let boxed : c.in_ok-new.field-0.value ≡ pool = search rules in (
      subst IsSoundBook
          (sym (ap (λ (p : Pool). book_of p given) boxed
          ∙ book-of_pool book pool given c.in_ok-pool.ensures.pool c.given-given.ensures.value))
          c.given-given.ensures.sound,
      omega (
        arith,
        ap (λ (p : Pool). p.asked) boxed,
        asked-few book pool given c.given-given.ensures.sound c.in_ok-pool.ensures.pool c.given-given.ensures.value,
      ),
      none_counted _ _
          (subst (λ (p : Pool). HasCountedNothing p.workspace) (sym boxed) c.in_ok-pool.ensures.counts),
    )
