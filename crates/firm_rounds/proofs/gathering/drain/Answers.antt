use Rattle.std.proofs.Common.{rules, ◌≡◌, ℕ, ◌+◌, ◌<◌, ◌≤◌, List, [], ◌∷◌, ◌++◌, length, ap, ◌∙◌, arith}
use Rattle.crossbeam_queue.specs.Passes.{view}
use Rattle.firm_rules.specs.declared.tickets.Ticket.{Ticket}
use Rattle.firm_rounds.specs.Rounds.{weigh, put_by, got_by}
use Rattle.firm_rounds.specs.Passes.{JobIs}
use Rattle.firm_rounds.specs.Closed.{job_weight}
use Rattle.firm_rounds.specs.Turning.{weigh-append}
use Rattle.firm_rounds.proofs.Fairs.{ends, pops, pop_changes, at_most_eight, settled_by_count}
use Rattle.firm_rounds.proofs.Gathered.{weigh_one}
use Rattle.firm_rounds.proofs.gathering.drain.Goals as goal

pub learn_as-requires-clause-rule : goal.learn_as-requires-clause-rule
learn_as-requires-clause-rule g c = ends _ _ c.requires.seat.1 c.requires.seat.2

pub pop_as-requires-clause-rule : goal.pop_as-requires-clause-rule
pop_as-requires-clause-rule g c =
    let seat = c.loop.invariant.seat in
    (pops _ _ (let a = seat.1 in let b = seat.2 in omega arith), ends _ _ seat.1 seat.2)

pub loop-preserved : goal.loop-preserved
loop-preserved g c =
    let inv = c.loop.invariant in let a = inv.seat.1 in let b = inv.seat.2 in
    let ch =
    pop_changes c.in-Some.parts.ticket (view c.loop.keep) (view c.pop_as.new.pass) (omega arith)
    c.in-Some.ensures.rule in
    let all_is = ch.0 in let wide = ch.1 in
    let items = c.push_reserved.ensures.items in
    let long = ap (λ (js : List JobIs). length js) items in
    record {
      seat = (search rules, omega arith, omega arith);
      room = search rules;
      count = search rules;
      puts = λ h. (ch.3 h).0 ∙ inv.puts h;
      gots = λ h.
          let more : job_weight h c.push_reserved.new.self.items
          ≡ job_weight h (c.loop.jobs.items ++ c.of_parts.result ∷ []) = ap (job_weight h) items in
          let t : h c.of_parts.result.ticket ≡ h c.in-Some.parts.ticket = ap h c.of_parts.ensures.0 in
          omega (
            arith,
            inv.gots h,
            (ch.3 h).1,
            weigh-append (λ (j : JobIs). h j.ticket) c.loop.jobs.items (c.of_parts.result ∷ []),
          );
      places = λ p. ch.2 p ∙ inv.places p;
    }

pub learn_as-requires-2-clause-rule : goal.learn_as-requires-2-clause-rule
learn_as-requires-2-clause-rule g c = let seat = c.loop.invariant.seat in ends _ _ seat.1 seat.2

pub returns-clause-balanced : goal.returns-clause-balanced
returns-clause-balanced g c h =
    let inv = c.loop.invariant in let one : Ticket → ℕ = λ (t : Ticket). 1 in
    let first = at_most_eight (view c.args.keep) c.learn_as.ensures.rule in
    let count = inv.count in let full = c.loop-test.false in
    let le : weigh (put_by one) (view c.loop.keep).shares ≤ weigh (got_by one) (view c.loop.keep).shares =
    omega (arith, inv.puts one, inv.gots one, weigh_one c.loop.jobs.items) in
    let same = settled_by_count (view c.loop.keep) c.learn_as-2.ensures.rule le h in
    omega (arith, inv.puts h, inv.gots h)
