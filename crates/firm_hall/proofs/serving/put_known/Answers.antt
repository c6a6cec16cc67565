use Rattle.std.proofs.Common.{rules, ◌≡◌, List, ap, arith, false, length, true}
use Rattle.firm_held.specs.Held.{FirstIsKnown}
use Rattle.firm_held.specs.declared.held.HeldAnswer.{HeldAnswer}
use Rattle.firm_hall.proofs.Giving.{popped_keeps, popped_stands}
use Rattle.firm_hall.proofs.serving.put_known.Goals as goal

pub put_first-requires : goal.put_first-requires
put_first-requires c =
    let is : c.first_is_known.result ≡ true = search rules in
    rw is at c.first_is_known.ensures

pub returns-clause-first : goal.returns-clause-first
returns-clause-first c =
    let not : c.first_is_known.result ≡ false = search rules in
    rw not at c.first_is_known.ensures

pub returns-in_err-put_first-clause-stands : goal.returns-in_err-put_first-clause-stands
returns-in_err-put_first-clause-stands c queue register desk_states stood =
    let first = c.put_first.ensures.first in
    let is : c.first_is_known.result ≡ true = search rules in
    let known : FirstIsKnown c.loop-held.held.answers = rw is at c.first_is_known.ensures in
    popped_stands queue register desk_states c.loop-held.held c.put_first.new.self first.0
    (c.loop-held.invariant.stands queue register desk_states stood) first.1 known

pub returns-in_err-put_first-clause-fewer : goal.returns-in_err-put_first-clause-fewer
returns-in_err-put_first-clause-fewer c =
    let shorter = ap (λ (answers : List HeldAnswer). length answers) c.put_first.ensures.first.1 in
    omega (arith, shorter, c.loop-held.invariant.fewer)

pub loop-held-preserved : goal.loop-held-preserved
loop-held-preserved c =
    let i = c.loop-held.invariant in
    let first = c.put_first.ensures.first in
    let put = c.in_ok-put_first.ensures.put in
    let is : c.first_is_known.result ≡ true = search rules in
    let known : FirstIsKnown c.loop-held.held.answers = rw is at c.first_is_known.ensures in
    let shorter = ap (λ (answers : List HeldAnswer). length answers) first.1 in
    record {
      stands = λ queue register desk_states stood.
          popped_stands queue register desk_states c.loop-held.held c.put_first.new.self first.0
          (i.stands queue register desk_states stood) first.1 known;
      keeps = λ queue register desk_states opening text written now told.
          popped_keeps queue register desk_states c.loop-held.held c.put_first.new.self first.0 first.1 known
          (put first.0 first.1) opening text written now
          (i.keeps queue register desk_states opening text written now told);
      fewer = omega (arith, shorter, i.fewer);
    }
