-- The reach of a `&` to a block: it comes from the block, may be copied, and may cross threads where the values may.
use Prim.Native.Nat.{ℕ, zero, suc, ◌+◌, ◌*◌}
use mathlib.Core.List.{List}
use seplogic.Ra.Ura.{Ura}
use base.Fml.{Fml, Lft, Incl, ftrue, ffalse}
use base.Fraction.{full_share}
use base.Shift.{Keyless}
use types.Logic.{Logic}
use denote.RattleType.{RattleType, RowLaws}
use denote.Param.Laws.{Laws}
use denote.Param.Send.{IsSend, IsSync, Common, part_keyless}
use denote.RawPtr.{Ptr, block_ptr, null_ptr}
use denote.Sharing.{ShrLaws, said}
use denote.SharingLaws.{beside_shr_laws, nothing_shr_laws, said_shr_laws}
use denote.Shares.{Shares-less}
use denote.Struct.Lending.{Lends, Lends-both, Lends-first, Lends-nothing, Lends-said, Lends-false}
use Rattle.std.specs.Mem.{type_size}
use Rattle.std.specs.Prelude.{Option, Some, None, slice_index_or}
use Rattle.std.proofs.Crossing as heap
use Rattle.firm_arena.specs.inner.Ownership.{each_place, place_owns, place_lends, row_owns, row_lends, addressable}
use Rattle.firm_arena.specs.inner.Ownership.{freeable}
use Rattle.firm_arena.specs.inner.Ownership.{block_owns, block_lends}

-- what is lent of each place is copied, where what is lent of one is
each_copied : (lent : Lft → ℕ → Fml) → ((place : ℕ) → ShrLaws (λ κ. lent κ place)) → (first count : ℕ)
    → ShrLaws (λ κ. each_place (lent κ) first count)
each_copied lent one first zero = nothing_shr_laws
each_copied lent one first (suc count) =
    beside_shr_laws (λ κ. lent κ first) (λ κ. each_place (lent κ) (suc first) count) (one first)
    (each_copied lent one (suc first) count)

module _ (R : RattleType) (copied : RowLaws R) where
  place_copied : (memory byte place : ℕ) (o : Option R.Denot) → ShrLaws (λ κ. place_lends R memory byte κ place o)
  place_copied memory byte place None = nothing_shr_laws
  place_copied memory byte place (Some value) = copied value memory (place * type_size R + byte)

  pub block_copied : (start : Ptr) (capacity : ℕ) (row : List (Option R.Denot))
      → ShrLaws (block_lends R start capacity row)
  block_copied null_ptr capacity row = said_shr_laws ffalse tt
  block_copied (block_ptr memory byte) capacity row = beside_shr_laws _ _ (said_shr_laws (addressable R capacity) tt)
      (each_copied (row_lends R memory byte row)
      (λ place. place_copied memory byte place (slice_index_or row place None)) 0 capacity)

module _ {M : Type 1} {𝓤 : Ura M} (𝓛 : Logic 𝓤) (life : Lft) where
  -- each place lends its part
  each_lends : (owns : ℕ → Fml) (lent : Lft → ℕ → Fml) → ((place : ℕ) → Lends 𝓛 (owns place) (λ κ. lent κ place) life)
      → (first count : ℕ) → Lends 𝓛 (each_place owns first count) (λ κ. each_place (lent κ) first count) life
  each_lends owns lent one first zero = Lends-nothing 𝓛 ftrue life
  each_lends owns lent one first (suc count) =
      Lends-both 𝓛 (owns first) (each_place owns (suc first) count) (λ κ. lent κ first)
      (λ κ. each_place (lent κ) (suc first) count) life
      (one first) (each_lends owns lent one (suc first) count)

  module _ (R : RattleType) (laws : Laws R) (lives : Incl life R.lives) where
    place_lent : (memory byte place : ℕ) (o : Option R.Denot)
        → Lends 𝓛 (place_owns R memory byte place o) (λ κ. place_lends R memory byte κ place o) life
    place_lent memory byte place None = Lends-nothing 𝓛 (place_owns R memory byte place None) life
    place_lent memory byte place (Some value) =
        λ κ ts. Shares-less 𝓛 R R.lives life lives (laws.shares 𝓛) value κ ts memory (place * type_size R + byte)

    pub block_lent : (start : Ptr) (capacity : ℕ) (row : List (Option R.Denot))
        → Lends 𝓛 (block_owns R start capacity row) (block_lends R start capacity row) life
    block_lent null_ptr capacity row = Lends-false 𝓛 (said ffalse) life
    block_lent (block_ptr memory byte) capacity row =
        let places = each_place (row_owns R memory byte row) 0 capacity in
        let lent = λ (κ : Lft). each_place (row_lends R memory byte row κ) 0 capacity in
        Lends-both 𝓛 (addressable R capacity) _ (said (addressable R capacity)) lent life
        (Lends-said 𝓛 (addressable R capacity) tt life)
        (Lends-first 𝓛 places (freeable R capacity (block_ptr memory byte)) lent life
        (each_lends (row_owns R memory byte row) (row_lends R memory byte row)
        (λ place. place_lent memory byte place (slice_index_or row place None)) 0 capacity))

each_moves : (owns : ℕ → Fml) → ((place : ℕ) → Keyless (owns place)) → (first count : ℕ)
    → Keyless (each_place owns first count)
each_moves owns one first zero = tt
each_moves owns one first (suc count) = (one first, each_moves owns one (suc first) count)

each_common : (lent : Lft → ℕ → Fml) → ((place : ℕ) → Common (λ κ. lent κ place)) → (first count : ℕ)
    → Common (λ κ. each_place (lent κ) first count)
each_common lent one first zero κ = tt
each_common lent one first (suc count) κ = (one first κ, each_common lent one (suc first) count κ)

module _ (R : RattleType) where
  -- what a place owns is tied to no thread
  place_moves : IsSend R → (memory byte place : ℕ) (o : Option R.Denot) → Keyless (place_owns R memory byte place o)
  place_moves send memory byte place None = tt
  place_moves send memory byte place (Some value) =
      part_keyless R send full_share value memory (place * type_size R + byte)

  pub block_moves : IsSend R → (start : Ptr) (capacity : ℕ) (row : List (Option R.Denot))
      → Keyless (block_owns R start capacity row)
  block_moves send null_ptr capacity row = tt
  block_moves send (block_ptr memory byte) capacity row = (
    tt,
    (
      each_moves (row_owns R memory byte row)
          (λ place. place_moves send memory byte place (slice_index_or row place None)) 0 capacity,
      λ handle. heap.frees.frees handle _ (block_ptr memory byte),
    ),
  )

  place_common : IsSync R → (memory byte place : ℕ) (o : Option R.Denot)
      → Common (λ κ. place_lends R memory byte κ place o)
  place_common sync memory byte place None κ = tt
  place_common sync memory byte place (Some value) κ = sync.shared value memory (place * type_size R + byte) κ

  -- what a `&` to a block reaches may be had by several threads
  pub block_common : IsSync R → (start : Ptr) (capacity : ℕ) (row : List (Option R.Denot))
      → Common (block_lends R start capacity row)
  block_common sync null_ptr capacity row κ = tt
  block_common sync (block_ptr memory byte) capacity row κ = (
    tt,
    each_common (row_lends R memory byte row)
        (λ place. place_common sync memory byte place (slice_index_or row place None)) 0 capacity κ,
  )
