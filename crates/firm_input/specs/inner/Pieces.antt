-- The bytes left after a piece that was read ahead.
use Rattle.std.specs.Prelude.{◌≡◌, ℕ, ⊤, List, [], Option, drop, take, MatchResult}
use Rattle.std.specs.Io.KnownBytes.{Consumes, IsAtEnd, Keeps, prepend_known}
use Rattle.std.specs.declared.result.Result.{Result}
use Rattle.firm_input.specs.declared.pieces.Ahead.{Ahead}
use Rattle.firm_input.specs.declared.pieces.Ahead.TheVariants.{Nothing, Piece, Failure}
use Rattle.firm_input.specs.declared.pieces.Piece.{Piece as PieceIs}

-- the bytes of a piece after those that were taken
abbrev pub unread : PieceIs → List ℕ
unread piece = take piece.left (drop piece.taken piece.bytes)

-- what is left for reads: the rest of the piece, and then what the reader has left
abbrev pub left_behind : Ahead → PieceIs → Option (List ℕ) → Option (List ℕ)
left_behind Nothing piece remaining = prepend_known [] remaining
left_behind Piece piece remaining = prepend_known (unread piece) remaining
left_behind Failure piece remaining = prepend_known [] remaining

-- an empty piece is the end of the input
abbrev pub IsEnd : Ahead → PieceIs → Option (List ℕ) → Type 0
IsEnd Nothing piece remaining = ⊤
IsEnd Piece piece remaining = piece.left ≡ 0 → IsAtEnd remaining
IsEnd Failure piece remaining = ⊤

-- the reader lost just the bytes of the new piece, none only at its end; or the read failed, and it lost none
abbrev pub ReadsPiece : {A E : Type 0} → Option (List ℕ) → Option (List ℕ) → Result A E → PieceIs → Type 0
ReadsPiece old new read piece =
    MatchResult read (λ _. Consumes old new (unread piece) × (piece.left ≡ 0 → IsAtEnd new)) (λ _. Keeps old new)
