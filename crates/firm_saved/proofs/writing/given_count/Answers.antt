use Rattle.std.proofs.Common.{◌≡◌, ◌-◌, ◌∙◌, ℕ, List, sym, ap, arith, length, take}
use Rattle.std.proofs.lemmas.List.{length-take-le, take-take}
use Rattle.firm_text.specs.declared.registers.Entry.{Entry}
use Rattle.firm_saved.specs.StateText.{given_places}
use Rattle.firm_saved.proofs.Counted.{last_of}
use Rattle.firm_saved.proofs.Places.{given_less, given_whole, sound_from}
use Rattle.firm_saved.proofs.writing.given_count.Goals as goal

pub returns-then-last-gt0-clause-count : goal.returns-then-last-gt0-clause-count
returns-then-last-gt0-clause-count c places is =
    let rest : List Entry = c.loop-rest.rest.now in
    let known = c.loop-rest.invariant in
    let end = last_of places c.args.entries.now rest c.last-item.result is known.few known.front
    c.in-len1-up.len_at_least c.last-item.is in
    known.same places is ∙ ap given_places end.split
    ∙ given_whole (take (length rest - 1) places) end.last
    (let some = c.if-last-gt0.true in omega (arith, end.given))
    ∙ sym end.split

pub returns-then-last-gt0-clause-sound : goal.returns-then-last-gt0-clause-sound
returns-then-last-gt0-clause-sound c places is register in_order front =
    sound_from places c.args.entries.now _ is register in_order (returns-then-last-gt0-clause-count c places is) front

pub returns-clause-sound : goal.returns-clause-sound
returns-clause-sound c places is register in_order front =
    let none : length c.loop-rest.rest.now ≡ 0 = omega (arith, c.in_default.len_below) in
    sound_from places c.args.entries.now 0 is register in_order
    (c.loop-rest.invariant.same places is ∙ ap (λ (n : ℕ). given_places (take n places)) none) front

pub loop-rest-preserved : goal.loop-rest-preserved
loop-rest-preserved c =
    let rest : List Entry = c.loop-rest.rest.now in
    let known = c.loop-rest.invariant in
    let fewer : ℕ = length rest - 1 in
    let wide : length (take fewer rest) ≡ fewer = length-take-le fewer rest (omega arith) in
    record {
      few = omega (arith, wide, known.few);
      front = ap (λ (l : List Entry). take fewer l) known.front
          ∙ take-take fewer (length rest) c.args.entries.now (omega arith)
          ∙ ap (λ (n : ℕ). take n c.args.entries.now) (sym wide);
      same = λ places is.
          let end = last_of places c.args.entries.now rest c.last-item.result is known.few known.front
          c.in-len1-up.len_at_least c.last-item.is in
          known.same places is ∙ ap given_places end.split
          ∙ given_less (take fewer places) end.last
          (let none = c.if-last-gt0.false in omega (arith, end.given))
          ∙ ap (λ (n : ℕ). given_places (take n places)) (sym wide);
    }
