use Rattle.std.proofs.Common.{refl}
use Rattle.firm_table.specs.Openings.{opened}
use Rattle.firm_hall.proofs.Serves.{unread}
use Rattle.firm_hall.proofs.service.fn.serve_with.scope.Goals as goal

pub returns : goal.returns
returns g c = record {
  reads = refl;
  writes = refl;
  ran = unread (opened c.captures.clerk.opening) c.captures.most (g.S.Source.left c.captures.reader.now)
      (g.W.Sink.written c.captures.writer.now) _ _ c.requires.reader c.requires.writer;
  desks = tt;
  places = tt;
  reports = rw (← c.in-Err.ensures.some) c.join-in-Err.ensures.reports;
  all = tt;
}
