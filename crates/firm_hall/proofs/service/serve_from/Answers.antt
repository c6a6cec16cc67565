use Rattle.std.proofs.Common.{List, ap, arith, length}
use Rattle.firm_rounds.specs.Passes.{PopIs}
use Rattle.firm_table.specs.Openings.{opened}
use Rattle.firm_hall.proofs.Serves.{unread, pops_wide}
use Rattle.firm_hall.proofs.service.serve_from.Goals as goal

pub returns-in_default-clause-stopped : goal.returns-in_default-clause-stopped
returns-in_default-clause-stopped g c =
    unread (opened c.args.setup.opening) c.args.most (g.S.Source.left c.args.reader.now)
    (g.W.Sink.written c.args.writer.now) _ _ c.requires.reader c.requires.writer

pub returns-in_default-open-clause-stopped : goal.returns-in_default-open-clause-stopped
returns-in_default-open-clause-stopped g c =
    unread (opened c.args.setup.opening) c.args.most (g.S.Source.left c.args.reader.now)
    (g.W.Sink.written c.args.writer.now) _ _ c.requires.reader c.requires.writer

pub returns-in_default-open-2-clause-stopped : goal.returns-in_default-open-2-clause-stopped
returns-in_default-open-2-clause-stopped g c =
    unread (opened c.args.setup.opening) c.args.most (g.S.Source.left c.args.reader.now)
    (g.W.Sink.written c.args.writer.now) _ _ c.requires.reader c.requires.writer

-- each worker that was started reports
pub close-requires-clause-workers : goal.close-requires-clause-workers
close-requires-clause-workers g c =
    let every = rw c.in_ok-ended.was at c.serve_with-served.ensures.all in
    omega (
      arith,
      every,
      c.in-Ok-open.ensures.count,
      ap (λ (passes : List PopIs). length passes) c.in-Ok.ensures.passes,
      pops_wide c.in-Ok.hall.id c.args.setup.workers,
      c.in-Ok.ensures.counts.1,
    )
