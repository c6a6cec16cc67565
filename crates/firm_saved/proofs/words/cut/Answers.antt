use Rattle.std.proofs.Common.{◌≡◌, ◌==◌, ℕ, Bool, take, drop}
use Rattle.std.specs.List.{position_or_len}
use Rattle.firm_saved.proofs.Cuts.{first_piece}
use Rattle.firm_saved.proofs.words.cut.Goals as goal

pub returns-clause-pieces : goal.returns-clause-pieces
returns-clause-pieces c =
    let p : ℕ → Bool = λ byte. byte == c.args.mark in
    let front : c.split_at.result.0.now ≡ take (position_or_len p c.args.bytes.now) c.args.bytes.now = cc in
    let back : c.split_at.result.1.now ≡ drop (position_or_len p c.args.bytes.now) c.args.bytes.now = cc in
    rw (front, back) (first_piece p c.args.bytes.now)
