use Rattle.std.proofs.Common.{◌≡◌, ◌∙◌, sym, false, arith}
use Rattle.std.proofs.lemmas.List.{get_or_default}
use Rattle.firm_paths.specs.inner.Spread.{is}
use Rattle.firm_paths.proofs.Spreading.{room_left}
use Rattle.firm_paths.proofs.tight.Reach.visit_once.Goals as goal

pub push_reserved-requires : goal.push_reserved-requires
push_reserved-requires c =
    let seen = c.args.self.now.seen.items in
    let free : is seen c.args.visit.place ≡ false =
    sym (c.index.ensures ∙ get_or_default seen c.args.visit.place _ _ c.requires.place) ∙ c.if-not-index.true in
    omega (
      arith,
      room_left seen c.args.self.now.visits.items _ c.args.visit.place c.requires.place free
          c.requires.counted,
      c.args.self.now.visits.ok.0,
    )
