use Rattle.std.proofs.Common.{refl}
use Rattle.firm_table.specs.Openings.{opened}
use Rattle.firm_hall.proofs.Serves.{served_by}
use Rattle.firm_hall.proofs.clerk.HallClerk.serve.Goals as goal

pub serve_lines-requires-clause-opening : goal.serve_lines-requires-clause-opening
serve_lines-requires-clause-opening g c = c.requires.told (g.W.Sink.written c.args.writer.now)

pub returns-clause-ran : goal.returns-clause-ran
returns-clause-ran g c =
    let own = opened c.args.self.opening in
    let s = c.serve_lines.new.clerk.serving in
    let e = c.in_ok-serve_lines.ensures in
    served_by own own (opened c.serve_lines.new.clerk.opening) s.register s.desk_states s.answers
    s.output c.args.most _ _ _
    refl c.serve_lines.ensures.opening c.end.ensures.rounds e.finished.answered e.finished.none e.told e.served
