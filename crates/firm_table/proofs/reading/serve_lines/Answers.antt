use Rattle.std.proofs.Common.{◌≡◌, ◌∙◌, ◌<◌, rules, refl, ap, arith, [], ◌++◌, take, length, append-nil}
use Rattle.std.specs.Prelude.{Bool, false, ◌||◌}
use Rattle.std.specs.Io.KnownBytes.{Consumes}
use Rattle.std.proofs.lemmas.Result.{err_from_is_err_and, on_ok_weaker}
use Rattle.firm_table.specs.inner.Reading.{Halted}
use Rattle.std.proofs.KnownBytes.{Consumes-trans, Consumes-nil, Consumes-kept}
use Rattle.firm_table.proofs.Pieces.{ended_none, halts_between}
use Rattle.firm_table.proofs.Stops.{cause_writing, stopped_within, stopped_behind, served, heard_told, both_ok}
use Rattle.firm_table.proofs.Stops.{both_err, err_weaker, more_heard, not_reading, not_too_long, still_read}
use Rattle.firm_table.proofs.reading.serve_lines.Goals as goal

pub loop-reader-init : goal.loop-reader-init
loop-reader-init g c = record {
  few = omega arith;
  reads = c.requires.reader;
  writes = c.requires.writer;
  cut = c.new-cutter.ensures.open;
  open-now = c.requires.open;
  opening = refl;
  kept = refl;
  progress = (
    [],
    refl,
    Consumes-nil _,
    record {
      text = [];
      rest = [];
      both = refl;
      ended = ended_none;
      stands = c.new-cutter.ensures.stands;
      told = c.requires.opening;
    },
  );
}

pub returns-in_err-write_out-clause-stopped : goal.returns-in_err-write_out-clause-stopped
returns-in_err-write_out-clause-stopped g c =
    let p = err_from_is_err_and c.from_residual.result c.from_residual.ensures.1 in
    let i = c.loop-reader.invariant.progress in
    let read-so-far =
    still_read (g.R.Source.left c.args.reader.now) _ _ i.0 c.in_err-write_out.ensures.input i.2 in
    let here : Halted (g.C.Clerk.opening c.loop-reader.clerk) i.0 (g.W.Sink.written c.args.writer.now)
    (g.W.Sink.written c.write_out.new.writer) =
    record {
      answered = i.3.text;
      rest = i.3.rest;
      both = i.3.both;
      ends = i.3.ended.ends;
      begins = c.in_err-write_out.ensures.begins i.3.text _ i.3.told;
    } in
    let halted = rw c.loop-reader.invariant.opening at here in
    rw (p.1, p.2)
    (stopped_within (g.C.Clerk.opening c.args.clerk.now) c.args.most _ _ _ _ _ _ i.0 _ read-so-far halted
    (cause_writing _ i.0 c.args.most _ _ (c.in_err-write_out.ensures.reader ∙ c.loop-reader.invariant.reads)
    c.in_err-write_out.ensures.cause))

pub returns-in_default-clause-stopped : goal.returns-in_default-clause-stopped
returns-in_default-clause-stopped g c =
    let i = c.loop-reader.invariant.progress in
    let read-so-far =
    still_read (g.R.Source.left c.args.reader.now) _ _ i.0 c.in_ok-write_out.ensures.input i.2 in
    let here : Halted (g.C.Clerk.opening c.loop-reader.clerk) i.0 (g.W.Sink.written c.args.writer.now)
    (g.W.Sink.written c.write_out.new.writer) =
    record {
      answered = i.3.text;
      rest = i.3.rest;
      both = i.3.both;
      ends = i.3.ended.ends;
      begins = c.in_ok-write_out.ensures.begins i.3.text _ i.3.told;
    } in
    let halted = rw c.loop-reader.invariant.opening at here in
    stopped_within (g.C.Clerk.opening c.args.clerk.now) c.args.most _ _ _ _ _ _ i.0 _
    (Consumes-kept _ _ _ i.0 read-so-far c.in_default.ensures.bytes) halted
    (search rules, c.in_ok-write_out.ensures.well)

pub returns-in_default-clause-waiting : goal.returns-in_default-clause-waiting
returns-in_default-clause-waiting g c =
    let i = c.loop-reader.invariant.progress in
    let read-so-far =
    still_read (g.R.Source.left c.args.reader.now) _ _ i.0 c.in_ok-write_out.ensures.input i.2 in
    λ reading. (
      c.in_ok-write_out.ensures.written_out,
      record {
        lines = i.3.text;
        rest = i.3.rest;
        read = rw i.3.both at (Consumes-kept _ _ _ i.0 read-so-far c.in_default.ensures.bytes);
        whole = i.3.ended.ends;
        in_line = i.3.stands.in_line;
        told = c.in_ok-write_out.ensures.told i.3.text _ i.3.told;
      },
    )

pub returns-then-count-eq0-clause-served : goal.returns-then-count-eq0-clause-served
returns-then-count-eq0-clause-served g c =
    let i = c.loop-reader.invariant.progress in
    let read-so-far =
    still_read (g.R.Source.left c.args.reader.now) _ _ i.0 c.in_ok-write_out.ensures.input i.2 in
    let none : take c.in-Ok.count c.read.new.buffer ≡ [] = ap (λ n. take n c.read.new.buffer) c.if-count-eq0.true in
    let reads : g.R.Source.read_failed c.read.new.self ≡ false =
    c.in-Ok.ensures.failure
    ∙ ap (λ (b : Bool). b || false) (c.in_ok-write_out.ensures.reader ∙ c.loop-reader.invariant.reads) in
    let read : Consumes (g.R.Source.left c.args.reader.now) (g.R.Source.left c.read.new.self) i.0 =
    rw (none, append-nil i.0) at (Consumes-trans _ _ _ _ _ read-so-far c.in-Ok.ensures.bytes.0) in
    let some : 0 < length c.read.new.buffer = omega (arith, c.read.auto.buffer) in
    let h = heard_told _ _ _ i.0 _ _ _ i.3 c.in_ok-write_out.ensures.told in
    on_ok_weaker c.answer_end.result
    (λ both. served (g.C.Clerk.opening c.args.clerk.now) c.args.most _ _ _ _ _ _ i.0 read
    (c.in-Ok.ensures.bytes.1 c.if-count-eq0.true some)
    (omega (arith, i.1, c.loop-reader.invariant.few))
    (rw (c.in_ok-write_out.ensures.opening ∙ c.loop-reader.invariant.opening) at (both.0 i.0 _ h)) reads both.1)
    (both_ok c.answer_end.result _ _ c.answer_end.ensures.answers c.answer_end.ensures.well)

pub returns-then-count-eq0-clause-told : goal.returns-then-count-eq0-clause-told
returns-then-count-eq0-clause-told g c =
    let i = c.loop-reader.invariant.progress in
    let read-so-far =
    still_read (g.R.Source.left c.args.reader.now) _ _ i.0 c.in_ok-write_out.ensures.input i.2 in
    let h = heard_told _ _ _ i.0 _ _ _ i.3 c.in_ok-write_out.ensures.told in
    let none : take c.in-Ok.count c.read.new.buffer ≡ [] = ap (λ n. take n c.read.new.buffer) c.if-count-eq0.true in
    let read : Consumes (g.R.Source.left c.args.reader.now) (g.R.Source.left c.read.new.self) i.0 =
    rw (none, append-nil i.0) at (Consumes-trans _ _ _ _ _ read-so-far c.in-Ok.ensures.bytes.0) in
    let some : 0 < length c.read.new.buffer = omega (arith, c.read.auto.buffer) in
    on_ok_weaker c.answer_end.result
    (λ told. record {
      input = i.0;
      read = read;
      at_end = c.in-Ok.ensures.bytes.1 c.if-count-eq0.true some;
      within = omega (arith, i.1, c.loop-reader.invariant.few);
      told = told i.0 _ h;
    }) c.answer_end.ensures.told

pub returns-then-count-eq0-clause-stopped : goal.returns-then-count-eq0-clause-stopped
returns-then-count-eq0-clause-stopped g c =
    let i = c.loop-reader.invariant.progress in
    let read-so-far =
    still_read (g.R.Source.left c.args.reader.now) _ _ i.0 c.in_ok-write_out.ensures.input i.2 in
    let none : take c.in-Ok.count c.read.new.buffer ≡ [] = ap (λ n. take n c.read.new.buffer) c.if-count-eq0.true in
    let reads : g.R.Source.read_failed c.read.new.self ≡ false =
    c.in-Ok.ensures.failure
    ∙ ap (λ (b : Bool). b || false) (c.in_ok-write_out.ensures.reader ∙ c.loop-reader.invariant.reads) in
    let read : Consumes (g.R.Source.left c.args.reader.now) (g.R.Source.left c.read.new.self) i.0 =
    rw (none, append-nil i.0) at (Consumes-trans _ _ _ _ _ read-so-far c.in-Ok.ensures.bytes.0) in
    let some : 0 < length c.read.new.buffer = omega (arith, c.read.auto.buffer) in
    let h = heard_told _ _ _ i.0 _ _ _ i.3 c.in_ok-write_out.ensures.told in
    both_err c.answer_end.result _ _ _ c.answer_end.ensures.begins c.answer_end.ensures.cause
    (λ begins fault cause. stopped_behind (g.C.Clerk.opening c.args.clerk.now) c.args.most _ _ _ _ _ _ i.0 fault read
    (c.in-Ok.ensures.bytes.1 c.if-count-eq0.true some)
    reads (rw (c.in_ok-write_out.ensures.opening ∙ c.loop-reader.invariant.opening) at (begins i.0 _ h)) cause)

pub returns-then-most-heard-clause-stopped : goal.returns-then-most-heard-clause-stopped
returns-then-most-heard-clause-stopped g c =
    let i = c.loop-reader.invariant.progress in
    let read-so-far =
    still_read (g.R.Source.left c.args.reader.now) _ _ i.0 c.in_ok-write_out.ensures.input i.2 in
    let longer : c.args.most < length (i.0 ++ take c.in-Ok.count c.read.new.buffer) =
    (let more = more_heard i.0 c.read.new.buffer _ _ i.1 c.in-Ok.ensures.bound.0 in
    omega (arith, more, c.if-most-heard.true)) in
    let halted : Halted (g.C.Clerk.opening c.args.clerk.now) (i.0 ++ take c.in-Ok.count c.read.new.buffer)
    (g.W.Sink.written c.args.writer.now) (g.W.Sink.written c.write_out.new.writer) =
    rw c.loop-reader.invariant.opening at
    (halts_between _ i.0 i.3.text i.3.rest (take c.in-Ok.count c.read.new.buffer) _ _ i.3.both i.3.ended
    (c.in_ok-write_out.ensures.begins i.3.text _ i.3.told)) in
    stopped_within (g.C.Clerk.opening c.args.clerk.now) c.args.most _ _ _ _ _ _
    (i.0 ++ take c.in-Ok.count c.read.new.buffer) _
    (Consumes-trans _ _ _ _ _ read-so-far c.in-Ok.ensures.bytes.0) halted
    (longer, search rules, c.in_ok-write_out.ensures.well)

pub loop-reader-preserved : goal.loop-reader-preserved
loop-reader-preserved g c =
    let i = c.loop-reader.invariant.progress in
    let read-so-far =
    still_read (g.R.Source.left c.args.reader.now) _ _ i.0 c.in_ok-write_out.ensures.input i.2 in
    let h = heard_told _ _ _ i.0 _ _ _ i.3 c.in_ok-write_out.ensures.told in
    record {
      few = omega (arith, c.if-most-heard.false);
      reads = c.in-Ok.ensures.failure
          ∙ ap (λ (b : Bool). b || false) (c.in_ok-write_out.ensures.reader ∙ c.loop-reader.invariant.reads);
      writes = c.in_ok-answer_piece.ensures.well;
      cut = c.in_ok-answer_piece.ensures.cut;
      open-now = c.in_ok-answer_piece.ensures.open;
      opening = c.in_ok-answer_piece.ensures.opening ∙ c.in_ok-write_out.ensures.opening
          ∙ c.loop-reader.invariant.opening;
      kept = c.in_ok-answer_piece.ensures.kept ∙ c.in_ok-write_out.ensures.kept ∙ c.loop-reader.invariant.kept;
      progress = (
        i.0 ++ take c.in-Ok.count c.read.new.buffer,
        more_heard i.0 c.read.new.buffer _ _ i.1 c.in-Ok.ensures.bound.0,
        Consumes-trans _ _ _ _ _ read-so-far c.in-Ok.ensures.bytes.0,
        c.in_ok-answer_piece.ensures.heard i.0 _ h,
      );
    }

pub returns-in_err-answer_piece-clause-stopped : goal.returns-in_err-answer_piece-clause-stopped
returns-in_err-answer_piece-clause-stopped g c =
    let p =
    err_from_is_err_and c.from_residual-in_err-answer_piece.result c.from_residual-in_err-answer_piece.ensures.1 in
    let i = c.loop-reader.invariant.progress in
    let read-so-far =
    still_read (g.R.Source.left c.args.reader.now) _ _ i.0 c.in_ok-write_out.ensures.input i.2 in
    let reads : g.R.Source.read_failed c.read.new.self ≡ false =
    c.in-Ok.ensures.failure
    ∙ ap (λ (b : Bool). b || false) (c.in_ok-write_out.ensures.reader ∙ c.loop-reader.invariant.reads) in
    let h = heard_told _ _ _ i.0 _ _ _ i.3 c.in_ok-write_out.ensures.told in
    let halted =
    rw (c.in_ok-write_out.ensures.opening ∙ c.loop-reader.invariant.opening) at
    (c.in_err-answer_piece.ensures.halted i.0 _ h) in
    rw (p.1, p.2)
    (stopped_within (g.C.Clerk.opening c.args.clerk.now) c.args.most _ _ _ _ _ _
    (i.0 ++ take c.in-Ok.count c.read.new.buffer) _
    (Consumes-trans _ _ _ _ _ read-so-far c.in-Ok.ensures.bytes.0) halted
    (cause_writing _ _ c.args.most _ _ reads c.in_err-answer_piece.ensures.cause))

pub returns-in_err-write_out-clause-opening : goal.returns-in_err-write_out-clause-opening
returns-in_err-write_out-clause-opening g c = c.in_err-write_out.ensures.opening ∙ c.loop-reader.invariant.opening

pub returns-in_err-write_out-clause-kept : goal.returns-in_err-write_out-clause-kept
returns-in_err-write_out-clause-kept g c = c.in_err-write_out.ensures.kept ∙ c.loop-reader.invariant.kept

pub returns-in_err-write_out-clause-open : goal.returns-in_err-write_out-clause-open
returns-in_err-write_out-clause-open g c = c.in_err-write_out.ensures.open

pub returns-in_default-clause-opening : goal.returns-in_default-clause-opening
returns-in_default-clause-opening g c = c.in_ok-write_out.ensures.opening ∙ c.loop-reader.invariant.opening

pub returns-in_default-clause-kept : goal.returns-in_default-clause-kept
returns-in_default-clause-kept g c = c.in_ok-write_out.ensures.kept ∙ c.loop-reader.invariant.kept

pub returns-in_default-clause-open : goal.returns-in_default-clause-open
returns-in_default-clause-open g c = c.in_ok-write_out.ensures.open

pub returns-then-most-heard-clause-opening : goal.returns-then-most-heard-clause-opening
returns-then-most-heard-clause-opening g c = c.in_ok-write_out.ensures.opening ∙ c.loop-reader.invariant.opening

pub returns-then-most-heard-clause-kept : goal.returns-then-most-heard-clause-kept
returns-then-most-heard-clause-kept g c = c.in_ok-write_out.ensures.kept ∙ c.loop-reader.invariant.kept

pub returns-then-most-heard-clause-open : goal.returns-then-most-heard-clause-open
returns-then-most-heard-clause-open g c = c.in_ok-write_out.ensures.open

pub returns-in_err-answer_piece-clause-opening : goal.returns-in_err-answer_piece-clause-opening
returns-in_err-answer_piece-clause-opening g c =
    c.in_err-answer_piece.ensures.opening ∙ c.in_ok-write_out.ensures.opening ∙ c.loop-reader.invariant.opening

pub returns-in_err-answer_piece-clause-kept : goal.returns-in_err-answer_piece-clause-kept
returns-in_err-answer_piece-clause-kept g c =
    c.in_err-answer_piece.ensures.kept ∙ c.in_ok-write_out.ensures.kept ∙ c.loop-reader.invariant.kept

pub returns-in_err-answer_piece-clause-open : goal.returns-in_err-answer_piece-clause-open
returns-in_err-answer_piece-clause-open g c = c.in_err-answer_piece.ensures.open

pub returns-then-count-eq0-clause-opening : goal.returns-then-count-eq0-clause-opening
returns-then-count-eq0-clause-opening g c =
    c.answer_end.ensures.opening ∙ c.in_ok-write_out.ensures.opening ∙ c.loop-reader.invariant.opening

pub returns-then-count-eq0-clause-kept : goal.returns-then-count-eq0-clause-kept
returns-then-count-eq0-clause-kept g c =
    c.answer_end.ensures.kept ∙ c.in_ok-write_out.ensures.kept ∙ c.loop-reader.invariant.kept

pub returns-then-count-eq0-clause-open : goal.returns-then-count-eq0-clause-open
returns-then-count-eq0-clause-open g c = c.answer_end.ensures.open

pub returns-in_err-write_out-clause-served : goal.returns-in_err-write_out-clause-served
returns-in_err-write_out-clause-served g c =
    rw (err_from_is_err_and c.from_residual.result c.from_residual.ensures.1).1 tt

pub returns-in_err-write_out-clause-told : goal.returns-in_err-write_out-clause-told
returns-in_err-write_out-clause-told g c =
    rw (err_from_is_err_and c.from_residual.result c.from_residual.ensures.1).1 tt

pub returns-in_err-write_out-clause-finished : goal.returns-in_err-write_out-clause-finished
returns-in_err-write_out-clause-finished g c =
    rw (err_from_is_err_and c.from_residual.result c.from_residual.ensures.1).1 tt

pub returns-in_err-write_out-clause-waiting : goal.returns-in_err-write_out-clause-waiting
returns-in_err-write_out-clause-waiting g c =
    let p = err_from_is_err_and c.from_residual.result c.from_residual.ensures.1 in
    rw (p.1, p.2) (λ reading. absurd (not_reading _ _ c.in_err-write_out.ensures.cause reading))

pub returns-in_err-answer_piece-clause-served : goal.returns-in_err-answer_piece-clause-served
returns-in_err-answer_piece-clause-served g c =
    rw (err_from_is_err_and c.from_residual-in_err-answer_piece.result c.from_residual-in_err-answer_piece.ensures.1).1
    tt

pub returns-in_err-answer_piece-clause-told : goal.returns-in_err-answer_piece-clause-told
returns-in_err-answer_piece-clause-told g c =
    rw (err_from_is_err_and c.from_residual-in_err-answer_piece.result c.from_residual-in_err-answer_piece.ensures.1).1
    tt

pub returns-in_err-answer_piece-clause-finished : goal.returns-in_err-answer_piece-clause-finished
returns-in_err-answer_piece-clause-finished g c =
    rw (err_from_is_err_and c.from_residual-in_err-answer_piece.result c.from_residual-in_err-answer_piece.ensures.1).1
    tt

pub returns-in_err-answer_piece-clause-waiting : goal.returns-in_err-answer_piece-clause-waiting
returns-in_err-answer_piece-clause-waiting g c =
    let p = err_from_is_err_and c.from_residual-in_err-answer_piece.result c.from_residual-in_err-answer_piece.ensures.1
    in
    rw (p.1, p.2) (λ reading. absurd (not_reading _ _ c.in_err-answer_piece.ensures.cause reading))

pub returns-in_default-clause-served : goal.returns-in_default-clause-served
returns-in_default-clause-served g c = tt

pub returns-in_default-clause-told : goal.returns-in_default-clause-told
returns-in_default-clause-told g c = tt

pub returns-in_default-clause-finished : goal.returns-in_default-clause-finished
returns-in_default-clause-finished g c = tt

pub returns-then-most-heard-clause-served : goal.returns-then-most-heard-clause-served
returns-then-most-heard-clause-served g c = tt

pub returns-then-most-heard-clause-told : goal.returns-then-most-heard-clause-told
returns-then-most-heard-clause-told g c = tt

pub returns-then-most-heard-clause-finished : goal.returns-then-most-heard-clause-finished
returns-then-most-heard-clause-finished g c = tt

pub returns-then-most-heard-clause-waiting : goal.returns-then-most-heard-clause-waiting
returns-then-most-heard-clause-waiting g c = λ reading. absurd (not_too_long reading)

pub returns-then-count-eq0-clause-finished : goal.returns-then-count-eq0-clause-finished
returns-then-count-eq0-clause-finished g c = c.answer_end.ensures.finished

pub returns-then-count-eq0-clause-waiting : goal.returns-then-count-eq0-clause-waiting
returns-then-count-eq0-clause-waiting g c =
    err_weaker c.answer_end.result _ _ (λ fault cause reading. absurd (not_reading fault _ cause reading))
    c.answer_end.ensures.cause
