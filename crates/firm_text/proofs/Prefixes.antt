-- Bytes that are written from the front, and read from the front.
use Rattle.std.proofs.Common.{ℕ, ◌+◌, ◌-◌, List, take, drop, length, sym, subst}
use Rattle.std.specs.Prelude.{Option}
use Rattle.std.proofs.lemmas.List.{take_rest}
use Rattle.std.proofs.Math.Seq.{take-add}
use Rattle.std.specs.Io.KnownBytes.{Appends}
use Rattle.std.proofs.KnownBytes.{Appends-trans}

-- the next m bytes are written after the first n
pub Appends-more : (a b c : Option (List ℕ)) (n m : ℕ) (bytes : List ℕ)
    → Appends a b (take n bytes) → Appends b c (take m (take (length bytes - n) (drop n bytes)))
    → Appends a c (take (n + m) bytes)
Appends-more a b c n m bytes p q = subst (Appends a c) (sym (take-add n m bytes))
    (Appends-trans a b c _ _ p (rw take_rest at q))
