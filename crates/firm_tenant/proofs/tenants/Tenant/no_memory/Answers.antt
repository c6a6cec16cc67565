use Rattle.std.proofs.Common.{ap, arith}
use Rattle.firm_rules.specs.Book.{Book}
use Rattle.firm_tenant.proofs.Entries.{sound-counted}
use Rattle.firm_tenant.proofs.tenants.Tenant.no_memory.Goals as goal

pub invariant_of-self : goal.invariant_of-self
invariant_of-self c = (
  sound-counted c.tasks_stay_where_they_may_stand.ensures c.self.inside.pool.value c.self.inside.given
      c.self.invariant.0
      (omega (
        arith,
        c.requires.life_left,
        ap (λ (b : Book). b.given) c.self.view_is,
        ap (λ (b : Book). b.rows.limits.life) c.self.view_is,
      )),
  omega (arith, c.self.invariant.1),
  record { begins = omega (arith, c.self.invariant.2.begins); last = c.self.invariant.2.last },
)
