use Rattle.std.proofs.Common.{◌≤◌, ◌+◌, ◌∷◌, ◌++◌, [], ℕ, List, Result, Bor, length, map, drop, sym, ap, ◌∙◌, arith}
use Rattle.std.proofs.lemmas.Bool.{cond_both}
use Rattle.std.proofs.lemmas.List.{length_push, at_drop_more}
use Rattle.firm_rules.specs.Names.{is_among}
use Rattle.firm_rules.specs.Preferences.{with_preference}
use Rattle.firm_rules.specs.declared.commands.LineFault.{LineFault}
use Rattle.firm_text.specs.Commands.{preferring, ◌>>=◌}
use Rattle.firm_text.proofs.commands.preferences.Goals as goal

-- one more preference at most
one_more : (names : List (List ℕ)) (name : List ℕ) → length (with_preference names name) ≤ length names + 1
one_more names name =
    cond_both (is_among names name) names (names ++ name ∷ []) (λ (l : List (List ℕ)). length l ≤ length names + 1)
    (λ _. omega arith) (λ _. omega (arith, length_push names name))

pub loop-word-preserved : goal.loop-word-preserved
loop-word-preserved c =
    let now : Bor (List ℕ) → List ℕ = λ (word : Bor (List ℕ)). word.now in
    let nothing : Bor (List ℕ) = record { ref_ptr = (0, 0); now = [] } in
    let rest : List (List ℕ) = map now (drop (c.loop-word.word-index + 1) c.args.words.now) in
    let step : Result (List ℕ) LineFault → Result (List (List ℕ)) LineFault =
    λ named. named >>= (λ name. preferring (with_preference c.loop-word.preferred name) rest) in
    record {
      same =
          c.loop-word.invariant.same
          ∙ at_drop_more (λ (words : List (Bor (List ℕ))). preferring c.loop-word.preferred (map now words))
          c.args.words.now c.loop-word.word-index nothing c.loop-word-test.true
          ∙ ap step (sym c.name.ensures ∙ c.in_ok-name.was)
          ∙ ap (λ (names : List (List ℕ)). preferring names rest) (sym c.add.ensures);
      few = omega (
        arith,
        c.loop-word.invariant.few,
        ap (λ (l : List (List ℕ)). length l) c.add.ensures,
        one_more c.loop-word.preferred c.in_ok-name.field-0,
      );
    }
