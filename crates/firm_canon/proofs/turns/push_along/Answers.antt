use Rattle.std.proofs.Common.{◌≡◌, true, false, ◌+◌, List, drop, get_or, arith, ap, subst, ◌∙◌, refl, take_all, sym}
use Rattle.std.proofs.lemmas.List.{drop_more}
use Rattle.std.specs.Prelude.{All, ◌≢◌}
use Rattle.firm_net.specs.Net.{with_row, with_unit}
use Rattle.firm_net.specs.declared.row.Way.TheVariants.{Forward}
use Rattle.firm_paths.specs.declared.search.Step.{Step}
use Rattle.std.proofs.Math.ListN.{drop_of_length-le}
use Rattle.firm_graph.specs.Graph.{Graph}
use Rattle.firm_canon.proofs.Cycles.{IsGoing, going_more, going_done, push_lows, off_more}
use Rattle.firm_canon.proofs.Graphs.{same_on, same_or_renetted, same_self}
use Rattle.firm_canon.proofs.turns.push_along.Goals as goal

abbrev no_step : Step
no_step = record { arc = record { id = record { place = 0; stamp = 0 } }; way = Forward }

pub loop-step-preserved : goal.loop-step-preserved
loop-step-preserved c =
    let s : Step = get_or c.args.steps.now c.loop-step.step-index no_step in
    let old : Graph = c.args.graph.now in
    let now : Graph = c.loop-step.graph in
    let new : Graph = c.push.new.self in
    let pushes : c.push.result ≡ true → new.net ≡ with_row now.net s.arc (with_unit s.way) =
    λ t. ap (λ (h : Graph). h.net) (c.push.ensures.pushes t) in
    let stays : c.push.result ≡ false → new.net ≡ now.net =
    λ f. ap (λ (h : Graph). h.net) (c.push.ensures.unchanged f) in
    record {
      shows = c.push.ensures.shows;
      same = same_on old now new c.loop-step.invariant.same
          (same_or_renetted now new (with_row now.net s.arc (with_unit s.way)) c.push.result
          c.push.ensures.pushes c.push.ensures.unchanged c.push.ensures.limits);
      lows = λ b. push_lows c.arcs_are_rows.ensures.changed now.net new.net s.arc s.way c.push.result
          c.push.ensures.allowed
          pushes stays c.push.ensures.others b
          ∙ c.loop-step.invariant.lows b;
      others = off_more old.net now.net new.net c.args.steps.now c.loop-step.step-index no_step c.loop-step-test.true
          c.loop-step.invariant.others c.push.ensures.others;
      going = going_more c.round_a_cycle.ensures.steps_on old.net now.net new.net s c.push.result c.args.steps.now
          (drop (c.loop-step.step-index + 1) c.args.steps.now)
          (subst (λ (z : List Step). IsGoing old.net now.net c.args.steps.now z)
          (drop_more c.args.steps.now c.loop-step.step-index no_step c.loop-step-test.true)
          c.loop-step.invariant.going)
          c.push.ensures.allowed pushes c.push.ensures.others;
    }

pub returns-clause-carries : goal.returns-clause-carries
returns-clause-carries c =
    going_done c.args.graph.now.net c.loop-step.graph.net c.args.steps.now
    (drop c.loop-step.step-index c.args.steps.now)
    (drop_of_length-le c.args.steps.now {i = c.loop-step.step-index} (omega (arith, c.loop-step-test.false)))
    c.loop-step.invariant.going

pub loop-step-init : goal.loop-step-init
loop-step-init c = record {
  shows = c.requires.shows;
  same = same_self c.args.graph.now;
  lows = λ b. refl;
  others = λ b off. refl;
  going = λ found price sources sink origin at to before more start. (at, start);
}

pub returns-clause-others : goal.returns-clause-others
returns-clause-others c b off =
    c.loop-step.invariant.others b
    (subst (All (λ (s : Step). s.arc ≢ b))
    (sym (take_all c.loop-step.step-index c.args.steps.now (omega (arith, c.loop-step-test.false)))) off)
