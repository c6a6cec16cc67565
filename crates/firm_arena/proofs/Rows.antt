-- The places of a block by their values: one value taken out or put in, and all places as the room of an array.
use mathlib.Core.Path.{◌≡◌, refl, sym, ap}
use mathlib.Core.List.{List, [], ◌∷◌}
use Prim.Native.Nat.{ℕ, zero, suc, ◌+◌, ◌*◌, ◌<◌, ◌^◌}
use native.Mathlib.Omega.{arith}
use native.Mathlib.Nat.{suc-mul, zero-mul}
use lib.ListN.{length, set, get_or, replicate}
use seplogic.Ra.Ura.{Ura}
use mir.Syntax.{ty_array}
use base.Logic.{ent, sep}
use base.Fml.{Fml, Lft, froom}
use types.Logic.{Logic, sem}
use types.Kit.{‵, ◌⊛◌, ◌$◌, ◌∵◌, !, qed, by, move, keep, use1, split, frame, fsplit, rewrite, done}
use Rattle.std.specs.Prelude.{Option, Some, None, IsSome}
use Rattle.std.proofs.lemmas.List.{get_or-set_same, get_or-set_other}
use Rattle.std.specs.Mem.{type_size}
use Rattle.core.proofs.mem.Param.{El, R, el_x, elτ}
use Rattle.core.proofs.ptr.Rows.{times_below, one_below}
use Rattle.firm_arena.specs.inner.Ownership.{each_place, place_owns, row_owns, place_lends, row_lends}
use Rattle.firm_arena.proofs.Places.{but_for, taken_out, put_back}
use Rattle.firm_arena.proofs.Parts.{Row, places_own}

-- a place with a value is one of the row
pub some_place : {X : Type 0} (row : List (Option X)) (place : ℕ) → IsSome (get_or row place None) → place < length row
some_place [] place there = cc
some_place (o ∷ row) zero there = omega arith
some_place (o ∷ row) (suc place) there = omega (arith, some_place row place there)

pub its_value : {X : Type 0} (o : Option X) → IsSome o → (value : X) × (o ≡ Some value)
its_value None there = cc
its_value (Some value) there = (value, refl)

-- the machine's words hold a place's number, the size of a value and the distance of the place
pub in_reach : (place capacity size : ℕ) → place < capacity → capacity < 2 ^ 32 → capacity * size < 2 ^ 63
    → (place < 2 ^ 64) × (size < 2 ^ 64) × (place * size < 2 ^ 64)
in_reach place capacity size within range small = (
  omega (arith, within, range),
  omega (arith, one_below capacity size (2 ^ 63) (omega (arith, within)) small),
  omega (arith, times_below place capacity size (2 ^ 63) (omega (arith, within)) small),
)

no_value : {X : Type 0} (capacity place : ℕ) → ◌≡◌ {A = Option X} (get_or (replicate capacity None) place None) None
no_value zero place = refl
no_value (suc capacity) zero = refl
no_value (suc capacity) (suc place) = no_value capacity place

module _ (E : El) {M : Type 1} {𝓤 : Ura M} (𝓛 : Logic 𝓤) (memory byte : ℕ) where
  open 𝓛 use {H}

  -- where a place begins
  abbrev pub at : ℕ → ℕ
  at place = place * type_size (R E) + byte

  abbrev pub others_own : ℕ → ℕ → Row E → Fml
  others_own capacity place row = each_place (but_for place (row_owns (R E) memory byte row)) 0 capacity

  -- one place as it is, and the others
  pub place_out : (capacity place : ℕ) (row : Row E) (o : Option (el_x E)) → get_or row place None ≡ o
      → place < capacity
      → ent 𝓤 (sem 𝓛 (places_own E memory byte capacity row))
      (sep 𝓤 (sem 𝓛 (place_owns (R E) memory byte place o)) (sem 𝓛 (others_own capacity place row)))
  place_out capacity place row o is within = qed 𝓛 (‵ (places_own E memory byte capacity row) ∷ []) ∵
      use1 𝓛 (‵ (row_owns (R E) memory byte row place) ⊛ ‵ (others_own capacity place row))
      (taken_out 𝓛 (row_owns (R E) memory byte row) place capacity within) $ split ! $
      rewrite ! 0 (λ (z : Option (el_x E)). ‵ (place_owns (R E) memory byte place z)) is refl $ done !

  -- the place as it becomes
  pub place_in : (capacity place : ℕ) (row : Row E) (o : Option (el_x E)) → length row ≡ capacity → place < capacity
      → ent 𝓤 (sep 𝓤 (sem 𝓛 (place_owns (R E) memory byte place o)) (sem 𝓛 (others_own capacity place row)))
      (sem 𝓛 (places_own E memory byte capacity (set row place o)))
  place_in capacity place row o same within =
      qed 𝓛 (‵ (place_owns (R E) memory byte place o) ∷ ‵ (others_own capacity place row) ∷ []) ∵
      rewrite ! 0 (λ (z : Option (el_x E)). ‵ (place_owns (R E) memory byte place z))
      (sym (get_or-set_same row place o None (omega (arith, same, within)))) refl $
      by ! (put_back 𝓛 (row_owns (R E) memory byte row) (row_owns (R E) memory byte (set row place o)) place capacity
      (λ i apart. ap (place_owns (R E) memory byte i) (sym (get_or-set_other row place i o None apart))) within)

  -- what is lent of a place
  pub place_seen : (κ : Lft) (capacity place : ℕ) (row : Row E) (o : Option (el_x E)) → get_or row place None ≡ o
      → place < capacity
      → ent 𝓤 (sem 𝓛 (each_place (row_lends (R E) memory byte row κ) 0 capacity))
      (sem 𝓛 (place_lends (R E) memory byte κ place o))
  place_seen κ capacity place row o is within =
      qed 𝓛 (‵ (each_place (row_lends (R E) memory byte row κ) 0 capacity) ∷ []) ∵
      use1 𝓛 (‵ (row_lends (R E) memory byte row κ place) ⊛ ‵
      (each_place (but_for place (row_lends (R E) memory byte row κ)) 0 capacity))
      (taken_out 𝓛 (row_lends (R E) memory byte row κ) place capacity within) $ split ! $ keep ! (0 ∷ []) $
      rewrite ! 0 (λ (z : Option (el_x E)). ‵ (place_lends (R E) memory byte κ place z)) is refl $ done !

  -- the room of an array is as many empty places, and back
  rooms_out : (first count : ℕ)
      → ent 𝓤 (H.room (ty_array (elτ E) count) memory (at first))
      (sem 𝓛 (each_place (λ place. place_owns (R E) memory byte place None) first count))
  rooms_out first zero = qed 𝓛 (‵ (froom (ty_array (elτ E) 0) memory (at first)) ∷ []) ∵ keep ! [] $ done !
  rooms_out first (suc count) = qed 𝓛 (‵ (froom (ty_array (elτ E) (suc count)) memory (at first)) ∷ []) ∵
      use1 𝓛 (‵ (froom (elτ E) memory (at first)) ⊛ ‵
      (froom (ty_array (elτ E) count) memory (at first + type_size (R E))))
      (𝓛.laws.room_uncons (elτ E) count memory (at first)) $ split ! $
      use1 𝓛 (‵ (place_owns (R E) memory byte first None)) (𝓛.laws.room-raw (elτ E) memory (at first)) $ frame ! $
      rewrite ! 0 (λ (k : ℕ). ‵ (froom (ty_array (elτ E) count) memory k))
      {x = at (suc first)} (omega (arith, suc-mul first (type_size (R E)))) refl $ by ! (rooms_out (suc first) count)

  rooms_in : (first count : ℕ)
      → ent 𝓤 (sem 𝓛 (each_place (λ place. place_owns (R E) memory byte place None) first count))
      (H.room (ty_array (elτ E) count) memory (at first))
  rooms_in first zero = 𝓛.laws.room_nil (elτ E) memory (at first)
  rooms_in first (suc count) =
      qed 𝓛 (‵ (each_place (λ place. place_owns (R E) memory byte place None) first (suc count)) ∷ []) ∵ fsplit ! $ move
      ! (1 ∷ []) $
      use1 𝓛 (‵ (froom (ty_array (elτ E) count) memory (at (suc first)))) (rooms_in (suc first) count) $
      rewrite ! 0 (λ (k : ℕ). ‵ (froom (ty_array (elτ E) count) memory k))
      {x = at first + type_size (R E)} (omega (arith, suc-mul first (type_size (R E)))) refl $ move ! (1 ∷ []) $
      use1 𝓛 (‵ (froom (elτ E) memory (at first))) (𝓛.laws.raw-room (elτ E) memory (at first)) $ by !
      (𝓛.laws.room_cons (elτ E) count memory (at first))

  empty_row : (capacity : ℕ)
      → ◌≡◌ {A = ℕ → Fml} (λ place. place_owns (R E) memory byte place None)
      (row_owns (R E) memory byte (replicate capacity None))
  empty_row capacity = λ j place. place_owns (R E) memory byte place (sym (no_value {X = el_x E} capacity place) j)

  pub places_of_room : (capacity : ℕ)
      → ent 𝓤 (H.room (ty_array (elτ E) capacity) memory byte)
      (sem 𝓛 (places_own E memory byte capacity (replicate capacity None)))
  places_of_room capacity = qed 𝓛 (‵ (froom (ty_array (elτ E) capacity) memory byte) ∷ []) ∵
      rewrite ! 0 (λ (k : ℕ). ‵ (froom (ty_array (elτ E) capacity) memory k))
      {x = at 0} (omega (arith, zero-mul (type_size (R E)))) refl $
      use1 𝓛 (‵ (each_place (λ place. place_owns (R E) memory byte place None) 0 capacity)) (rooms_out 0 capacity) $
      rewrite ! 0 (λ (owns : ℕ → Fml). ‵ (each_place owns 0 capacity)) (empty_row capacity) refl $ done !

  pub room_of_places : (capacity : ℕ)
      → ent 𝓤 (sem 𝓛 (places_own E memory byte capacity (replicate capacity None)))
      (H.room (ty_array (elτ E) capacity) memory byte)
  room_of_places capacity = qed 𝓛 (‵ (places_own E memory byte capacity (replicate capacity None)) ∷ []) ∵
      rewrite ! 0 (λ (owns : ℕ → Fml). ‵ (each_place owns 0 capacity)) (sym (empty_row capacity)) refl $
      use1 𝓛 (‵ (froom (ty_array (elτ E) capacity) memory (at 0))) (rooms_in 0 capacity) $
      rewrite ! 0 (λ (k : ℕ). ‵ (froom (ty_array (elτ E) capacity) memory k))
      {x = byte} (omega (arith, zero-mul (type_size (R E)))) refl $ done !
