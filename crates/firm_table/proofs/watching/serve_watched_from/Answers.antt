use Rattle.std.proofs.Common.{◌∙◌, ◌^◌, [], refl, sym, ap, subst}
use Rattle.std.proofs.KnownBytes.{Consumes-nil}
use Rattle.firm_table.specs.declared.faults.ServeFault.TheVariants.{Memory}
use Rattle.firm_table.specs.Openings.{opened}
use Rattle.firm_table.specs.inner.Granting.{ToldAs}
use Rattle.firm_table.specs.Progress.{State}
use Rattle.firm_table.specs.inner.Serving.{state_of}
use Rattle.firm_table.proofs.Pieces.{ended_none}
use Rattle.firm_table.proofs.Granting.{nothing_told_as, told_up_to_date}
use Rattle.firm_table.proofs.Progress.{answers_up_to_date}
use Rattle.firm_table.proofs.Stops.{stopped_within, err_weaker}
use Rattle.firm_table.proofs.Written.{nothing_written}
use Rattle.firm_table.proofs.watching.serve_watched_from.Goals as goal

pub returns-in_default-clause-stopped : goal.returns-in_default-clause-stopped
returns-in_default-clause-stopped g c =
    stopped_within (opened c.args.opening) (2 ^ 32) _ _ _ _ _ _ [] Memory (Consumes-nil _)
    (record {
      answered = [];
      rest = [];
      both = refl;
      ends = ended_none.ends;
      begins = nothing_written (opened c.args.opening) _;
    })
    (c.requires.reader, c.requires.writer)

pub serve_lines-requires-clause-opening : goal.serve_lines-requires-clause-opening
serve_lines-requires-clause-opening g c =
    subst (λ (state : State). ToldAs c.in-Ok.service.all_granted state []
    (g.W.Sink.written c.args.writer.now) (g.W.Sink.written c.args.writer.now))
    (sym c.in-Ok.ensures.state) (nothing_told_as _ (opened c.args.opening) _)

pub returns-clause-in_full : goal.returns-clause-in_full
returns-clause-in_full g c =
    let same = c.serve_lines.ensures.opening ∙ ap (λ (state : State). state.opening) c.in-Ok.ensures.state in
    err_weaker c.serve_lines.result _ _ (λ fault waiting reading.
    let told = waiting reading in
    answers_up_to_date (opened c.args.opening) (state_of c.serve_lines.new.clerk.service.now) _ _ same
    told.0 (told_up_to_date _ _ _ _ told.1))
    c.serve_lines.ensures.waiting
