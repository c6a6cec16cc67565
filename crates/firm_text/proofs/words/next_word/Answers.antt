use Rattle.std.proofs.Common.{◌≡◌, ◌≢◌, length, drop, take, arith}
use Rattle.std.proofs.lemmas.Grind.{common_steps}
use Rattle.std.specs.List.{position_or_len, prefix_len}
use Rattle.firm_text.specs.Lines.{is_blank}
use Rattle.firm_text.proofs.Cuts.{words-none, words-some}
use Rattle.firm_text.proofs.words.next_word.Goals as goal

pub returns-then-is_empty : goal.returns-then-is_empty
returns-then-is_empty c =
    let rest : c.split_at.result.1.now ≡ drop (prefix_len is_blank c.args.line.now) c.args.line.now = cc in
    words-none c.args.line.now c.split_at.result.1.now rest (grind (arith, common_steps))

pub returns : goal.returns
returns c =
    let rest : c.split_at.result.1.now ≡ drop (prefix_len is_blank c.args.line.now) c.args.line.now = cc in
    let some : length c.split_at.result.1.now ≢ 0 = grind (arith, common_steps) in
    let front : c.split_at-2.result.0.now
    ≡ take (position_or_len is_blank c.split_at.result.1.now) c.split_at.result.1.now = cc in
    let back : c.split_at-2.result.1.now
    ≡ drop (position_or_len is_blank c.split_at.result.1.now) c.split_at.result.1.now = cc in
    words-some c.args.line.now c.split_at.result.1.now c.split_at-2.result.0.now c.split_at-2.result.1.now rest some
    front back
