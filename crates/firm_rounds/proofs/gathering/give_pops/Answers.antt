use Rattle.std.proofs.Common.{rules, ◌≡◌, ℕ, ◌+◌, ◌<◌, List, [], ◌∷◌, length, get_or, set, take, ap, ◌∙◌, sym, arith}
use Rattle.crossbeam_queue.specs.Passes.{view}
use Rattle.firm_rounds.specs.declared.protocol.Share.{Share}
use Rattle.firm_rounds.specs.declared.protocol.Sight.{Sight}
use Rattle.firm_rounds.specs.Rounds.{weigh, share, put_by, got_by, is_at}
use Rattle.firm_rounds.specs.Passes.{PopIs, spent_pop}
use Rattle.firm_rounds.proofs.Fairs.{merges}
use Rattle.firm_rounds.specs.Turning.{turned, turned_at, turned_set, weigh_more}
use Rattle.firm_rounds.proofs.Gathered.{joined_weigh, joined_some, weigh_one}
use Rattle.firm_rounds.proofs.gathering.give_pops.Goals as goal

pub absorb-requires-clause-rule : goal.absorb-requires-clause-rule
absorb-requires-clause-rule c = merges _ _ _ _ c.loop-i.invariant.some

pub loop-i-preserved : goal.loop-i-preserved
loop-i-preserved c =
    let i = c.loop-i.i in let init = c.args.passes.now in let x = c.index-passes-i.result in let inv =
    c.loop-i.invariant in
    let low : i < length init = omega arith in
    let y = get_or c.loop-i.passes i x in
    let same : y ≡ get_or init i x =
    ap (λ (ps : List PopIs). get_or ps i x) inv.passes ∙ turned_at spent_pop i init x low in
    let now = c.absorb.ensures.rule in
    let seat = c.give-seat.ensures.seat in
    let added : (f : Share → ℕ)
    → weigh f (view c.absorb.new.pass).shares ≡ weigh f (view c.loop-i.keep).shares + f (share seat.1.0 0 y.got) =
    λ f. joined_weigh f (view c.loop-i.keep) (view c.give-seat.result) (view c.absorb.new.pass) y.queue.all
    (share seat.1.0 0 y.got) now seat.1.1 in
    record {
      keep = search rules;
      all = ap (λ (v : Sight). v.all) now ∙ inv.all;
      some = joined_some (view c.loop-i.keep) (view c.give-seat.result) (view c.absorb.new.pass) now inv.some;
      shares = record {
        puts = λ h. omega (arith, inv.shares.puts h, added (put_by h));
        gots = λ h. let at : weigh h y.got ≡ weigh h (get_or init i x).got = ap (λ (p : PopIs). weigh h p.got) same in
            omega (
              arith,
              inv.shares.gots h,
              added (got_by h),
              at,
              weigh_more (λ (p : PopIs). weigh h p.got) i init x low,
            );
        count = let long : length (take (i + 1) init) ≡ length (take i init) + 1 =
            omega (
              arith,
              weigh_one (take (i + 1) init),
              weigh_one (take i init),
              weigh_more (λ (p : PopIs). 1) i init x low,
            ) in
            omega (arith, inv.shares.count, added (λ (s : Share). 1));
        places = λ p. omega (arith, inv.shares.places p, added (is_at p));
      };
      passes =
          ap (λ (ps : List PopIs). set ps i c.give-seat.new.self) inv.passes
          ∙ (ap (λ (z : PopIs). set (turned spent_pop i init) i z) (c.give-seat.ensures.pass ∙ ap spent_pop same)
          ∙ turned_set spent_pop i init x low);
    }
