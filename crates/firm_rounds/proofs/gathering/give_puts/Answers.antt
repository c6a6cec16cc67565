use Rattle.std.proofs.Common.{rules, ◌≡◌, ℕ, ◌+◌, ◌<◌, List, [], ◌∷◌, length, get_or, set, ap, ◌∙◌, sym, arith}
use Rattle.crossbeam_queue.specs.Passes.{view}
use Rattle.firm_rounds.specs.declared.protocol.Share.{Share}
use Rattle.firm_rounds.specs.declared.protocol.Sight.{Sight}
use Rattle.firm_rounds.specs.Rounds.{share}
use Rattle.firm_rounds.specs.Passes.{PutIs, spent_put}
use Rattle.firm_rounds.proofs.Fairs.{merges}
use Rattle.firm_rounds.specs.Turning.{turned, turned_at, turned_set, weigh_more}
use Rattle.firm_rounds.proofs.Gathered.{joined_weigh, joined_some}
use Rattle.firm_rounds.proofs.gathering.give_puts.Goals as goal

pub absorb-requires-clause-rule : goal.absorb-requires-clause-rule
absorb-requires-clause-rule c = merges _ _ _ _ c.loop-i.invariant.some

pub loop-i-preserved : goal.loop-i-preserved
loop-i-preserved c =
    let i = c.loop-i.i in let init = c.args.passes.now in let x = c.index-passes-i.result in let inv =
    c.loop-i.invariant in
    let low : i < length init = omega arith in
    let y = get_or c.loop-i.passes i x in
    let same : y ≡ get_or init i x =
    ap (λ (ps : List PutIs). get_or ps i x) inv.passes ∙ turned_at spent_put i init x low in
    let now = c.absorb.ensures.rule in
    record {
      keep = search rules;
      all = ap (λ (v : Sight). v.all) now ∙ inv.all;
      some = joined_some (view c.loop-i.keep) (view c.give-seat.result) (view c.absorb.new.pass) now inv.some;
      shares = λ f.
          let g : PutIs → ℕ = λ (p : PutIs). f (share p.place p.put []) in
          let one =
          joined_weigh f (view c.loop-i.keep) (view c.give-seat.result) (view c.absorb.new.pass) y.queue.all
          (share y.place y.put []) now c.give-seat.ensures.seat.1 in
          let at : g y ≡ g (get_or init i x) = ap g same in
          omega (arith, inv.shares f, one, at, weigh_more g i init x low);
      passes =
          ap (λ (ps : List PutIs). set ps i c.give-seat.new.self) inv.passes
          ∙ (ap (λ (z : PutIs). set (turned spent_put i init) i z) (c.give-seat.ensures.pass ∙ ap spent_put same)
          ∙ turned_set spent_put i init x low);
    }
