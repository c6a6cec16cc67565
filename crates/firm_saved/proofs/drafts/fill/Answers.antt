use Rattle.std.proofs.Common.{◌<◌, ◌∙◌, ap, arith, length}
use Rattle.std.proofs.lemmas.List.{length_push}
use Rattle.firm_text.specs.Rosters.{most_places}
use Rattle.firm_saved.specs.Saved.{filled, untouched}
use Rattle.firm_saved.proofs.Keeping.{fill_more}
use Rattle.firm_saved.proofs.drafts.fill.Goals as goal

pub loop-places-preserved : goal.loop-places-preserved
loop-places-preserved c =
    let before = c.loop-places.places.items in
    let room : length before < most_places =
    (let test = c.loop-places-test.true in let long = c.len.ensures in omega arith) in
    record {
      few = omega (arith, ap length c.in_ok-push.ensures.items, length_push before untouched);
      same = ap filled c.in_ok-push.ensures.items ∙ fill_more before room ∙ c.loop-places.invariant.same;
    }
