use Rattle.std.proofs.Common.{◌∙◌, [], ℕ, List, sym, subst, refl}
use Rattle.std.specs.Borrow.{Bor}
use Rattle.std.proofs.lemmas.List.{get_or-map}
use Rattle.std.proofs.lemmas.Result.{err_from_is_err_and}
use Rattle.firm_program.specs.Files.{IsReadState, RefusesState}
use Rattle.firm_state.proofs.Changes.{joins_next, joins_none, stops_joining}
use Rattle.firm_state.specs.Program.{NoPlace, NotRead}
use Rattle.firm_state.proofs.states.join_files.Goals as goal

pub loop-path-init : goal.loop-path-init
loop-path-init g c = joins_none _ _

pub returns-in_err-other : goal.returns-in_err-other
returns-in_err-other g c =
    let p = err_from_is_err_and c.from_residual.result c.from_residual.ensures.1 in
    let files = g.R.FileSystem.bytes_at c.args.rt.now in
    let same = sym (get_or-map (λ (path : Bor (List ℕ)). path.now) c.args.paths.now c.loop-path.path-index _ []
    c.loop-path-test.true) in
    rw (p.1, p.2) (stops_joining files c.args.paths.now c.args.saved c.loop-path.joined c.loop-path.path-index
    c.loop-path-test.true c.loop-path.invariant _
    (NotRead (subst (λ (path : List ℕ). RefusesState (files path) c.in_err-other.field-0.0) same
    c.in_err-other.ensures.refused)))

pub returns-in-Err : goal.returns-in-Err
returns-in-Err g c =
    let files = g.R.FileSystem.bytes_at c.args.rt.now in
    let same = sym (get_or-map (λ (path : Bor (List ℕ)). path.now) c.args.paths.now c.loop-path.path-index _ []
    c.loop-path-test.true) in
    stops_joining files c.args.paths.now c.args.saved c.loop-path.joined c.loop-path.path-index
    c.loop-path-test.true c.loop-path.invariant _
    (NoPlace (record {
      other = c.in_ok-other.other;
      read = subst (λ (path : List ℕ). IsReadState (files path) c.in_ok-other.other) same c.in_ok-other.ensures.read;
      first = c.in-Err.fault;
      refused = sym c.join.ensures ∙ c.in-Err.is;
      is = refl;
    }))

pub loop-path-preserved : goal.loop-path-preserved
loop-path-preserved g c =
    let files = g.R.FileSystem.bytes_at c.args.rt.now in
    let same = sym (get_or-map (λ (path : Bor (List ℕ)). path.now) c.args.paths.now c.loop-path.path-index _ []
    c.loop-path-test.true) in
    joins_next files c.args.paths.now c.args.saved c.loop-path.joined c.loop-path.path-index c.loop-path-test.true
    c.loop-path.invariant c.in_ok-other.other c.in-Ok.both
    (subst (λ (path : List ℕ). IsReadState (files path) c.in_ok-other.other) same c.in_ok-other.ensures.read)
    (sym c.join.ensures ∙ c.in-Ok.is)
