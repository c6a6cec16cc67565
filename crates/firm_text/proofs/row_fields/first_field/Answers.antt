use Rattle.std.proofs.Common.{◌≡◌, List, ℕ, take, drop, arith}
use Rattle.std.specs.List.{position_or_len}
use Rattle.firm_text.specs.OperatorLines.{is_comma}
use Rattle.firm_text.proofs.Commas.{cut-last, cut-more}
use Rattle.firm_text.proofs.row_fields.first_field.Goals as goal

pub returns-in-empty : goal.returns-in-empty
returns-in-empty c =
    let row : List ℕ = c.args.row.now in
    let front : c.split_at.result.0.now ≡ take (position_or_len is_comma row) row = cc in
    let back : c.split_at.result.1.now ≡ drop (position_or_len is_comma row) row = cc in
    cut-last is_comma row c.split_at.result.0.now c.split_at.result.1.now front back
    (omega (arith, c.in-empty.len_below))

pub returns-in-len1-up : goal.returns-in-len1-up
returns-in-len1-up c =
    let row : List ℕ = c.args.row.now in
    let front : c.split_at.result.0.now ≡ take (position_or_len is_comma row) row = cc in
    let back : c.split_at.result.1.now ≡ drop (position_or_len is_comma row) row = cc in
    cut-more is_comma row c.split_at.result.0.now c.split_at.result.1.now front back c.in-len1-up.len_at_least
