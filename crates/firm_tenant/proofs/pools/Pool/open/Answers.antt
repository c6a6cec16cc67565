use Rattle.std.proofs.lemmas.Result.{IfOk-weaker}
use Rattle.firm_tenant.specs.Counts.{HasCountedWithin}
use Rattle.firm_tenant.specs.inner.Pools.{Pool, HasCountedNothing, book_of}
use Rattle.firm_tenant.proofs.Counted.{none_counted}
use Rattle.firm_tenant.proofs.pools.Pool.open.Goals as goal

pub returns-clause-counted : goal.returns-clause-counted
returns-clause-counted c =
    IfOk-weaker c.of_graph.result (λ (pool : Pool). HasCountedNothing pool.workspace)
    (λ (pool : Pool). HasCountedWithin (book_of pool 0) pool.workspace.net)
    (λ pool none. none_counted (book_of pool 0) pool.workspace none) c.of_graph.ensures.counts
