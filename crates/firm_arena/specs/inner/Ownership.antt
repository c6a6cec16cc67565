-- Memory that a block owns, and the reach of a `&` to it, for values of the row R.
use Rattle.std.specs.Prelude.{ℕ, zero, suc, ◌+◌, ◌*◌, ◌^◌, List, Option, Some, None, slice_index_or}
use Rattle.std.specs.Mem.{type_size}
use Rattle.std.specs.Global.{Global}
use Rattle.std.specs.contracts.impls.GlobalAllocator.TheImpl.{ghosts}
use base.Fraction.{full_share}
use base.Fml.{Lft, Fml, ftrue, ffalse, fsep, fex, flt, froom}
use mir.Syntax.{ty_array}
use mir.Raw.{raw}
use denote.RattleType.{RattleType}
use denote.Memory.{lone, part_at, shared_of}
use denote.Sharing.{nothing, said, beside}
use denote.RawPtr.{Ptr, block_ptr, null_ptr}

-- `count` places from the first on, with this said of each
abbrev pub each_place : (ℕ → Fml) → ℕ → ℕ → Fml
each_place says first zero = ftrue
each_place says first (suc count) = fsep (says first) (each_place says (suc first) count)

module _ (R : RattleType) where
  -- a place of the memory that begins at this byte: the room for a value, or the value
  abbrev pub place_owns : ℕ → ℕ → ℕ → Option R.Denot → Fml
  place_owns memory byte place None = froom (raw (lone R.mir)) memory (place * type_size R + byte)
  place_owns memory byte place (Some value) = part_at R full_share value memory (place * type_size R + byte)

  abbrev pub place_lends : ℕ → ℕ → Lft → ℕ → Option R.Denot → Fml
  place_lends memory byte κ place None = nothing κ
  place_lends memory byte κ place (Some value) = shared_of R value memory (place * type_size R + byte) κ

  -- `capacity` places have fewer than 2 ^ 63 bytes
  abbrev pub addressable : ℕ → Fml
  addressable capacity = flt (capacity * type_size R) (2 ^ 63)

  -- the right to give back the memory of `capacity` places, which is the same for each handle of the heap
  abbrev pub freeable : ℕ → Ptr → Fml
  freeable capacity start = fex Global (λ heap. ghosts.dealloc_token heap (raw (ty_array (lone R.mir) capacity)) start)

  abbrev pub row_owns : ℕ → ℕ → List (Option R.Denot) → ℕ → Fml
  row_owns memory byte row place = place_owns memory byte place (slice_index_or row place None)

  abbrev pub row_lends : ℕ → ℕ → List (Option R.Denot) → Lft → ℕ → Fml
  row_lends memory byte row κ place = place_lends memory byte κ place (slice_index_or row place None)

  -- a block owns its places, and the right to give its memory back
  abbrev pub block_owns : Ptr → ℕ → List (Option R.Denot) → Fml
  block_owns null_ptr capacity row = ffalse
  block_owns (block_ptr memory byte) capacity row =
      fsep (addressable capacity)
      (fsep (each_place (row_owns memory byte row) 0 capacity) (freeable capacity (block_ptr memory byte)))

  abbrev pub block_lends : Ptr → ℕ → List (Option R.Denot) → Lft → Fml
  block_lends null_ptr capacity row = said ffalse
  block_lends (block_ptr memory byte) capacity row =
      beside (said (addressable capacity)) (λ κ. each_place (row_lends memory byte row κ) 0 capacity)
