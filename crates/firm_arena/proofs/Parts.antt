-- A block taken apart into its places, the right to give its memory back and its fields, and put together.
use mathlib.Core.Path.{◌≡◌, refl, sym, ap, ◌∙◌}
use mathlib.Core.List.{List, [], ◌∷◌}
use Prim.Native.Nat.{ℕ, ◌+◌, ◌*◌, ◌<◌, ◌^◌}
use native.Mathlib.Omega.{arith}
use lib.ListN.{length}
use seplogic.Ra.Ura.{Ura}
use mir.Syntax.{w32}
use mir.Val.{Val, vint, vptr, vstruct, vcons, vnil}
use base.Logic.{ent, sep, snd∗, never}
use base.Fml.{Fml, Lft, ftrue, fsep}
use types.Logic.{Logic, sem}
use types.Kit.{Goal, Item, Seq, ‵, ◌$◌, ◌∵◌, !, qed, move, drop, fsplit, fjoin, fpick, fpack, flt_l, flt_i, rewrite}
use types.Kit.{done}
use denote.Laws.{Is, shows}
use denote.Param.Laws.{param_laws}
use denote.Memory.{hidden_shr}
use denote.Opens.{hide, unhide}
use denote.RattleType.{RattleType}
use denote.RawPtr.{Ptr, RawPtr, block_ptr, null_ptr, in_a_block}
use denote.Steps.{nothing, peeks}
use denote.Struct.Struct.{Struct}
use denote.Struct.Owning.{shape}
use Rattle.core.proofs.mem.Param.{El, R, el_x}
use Rattle.std.specs.Mem.{type_size}
use Rattle.std.specs.Prelude.{Option}
use Rattle.firm_arena.specs.inner.Block.{IsBlock}
use Rattle.firm_arena.specs.inner.Ownership.{each_place, row_owns, row_lends, freeable}
use Rattle.firm_arena.specs.contracts.block.Block as block
use Rattle.firm_arena.specs.contracts.block.Block.TheInside as inside
use Rattle.firm_arena.proofs.block.Block.TheInside.TheLaws as inside_laws

module _ (E : El) where
  abbrev pub BlockOf : RattleType
  BlockOf = block.the_row (R E)

  abbrev pub InsideOf : RattleType
  InsideOf = inside.the_row (R E)

  -- the data fields alone
  abbrev pub FieldsOf : RattleType
  FieldsOf = Struct (shape (inside.the_type (R E)))

  abbrev pub Row : Type 0
  Row = List (Option (el_x E))

  -- the fields of a block with this row whose memory begins here
  abbrev pub inside_at : ℕ → ℕ → ℕ → Row → InsideOf.Denot
  inside_at memory byte capacity row = record { start = block_ptr memory byte; capacity = capacity; row = row }

  abbrev pub block_word : ℕ → ℕ → ℕ → Val
  block_word memory byte capacity = vstruct (vcons (vptr memory byte) (vcons (vint w32 capacity) vnil))

  abbrev pub fields_own : ℕ → ℕ → ℕ → List Val → Fml
  fields_own memory byte capacity words = FieldsOf.own_val (block_ptr memory byte, (capacity, tt)) words

  abbrev pub places_own : ℕ → ℕ → ℕ → Row → Fml
  places_own memory byte capacity row = each_place (row_owns (R E) memory byte row) 0 capacity

  told : (memory byte capacity : ℕ) (row : Row) (words : List Val)
      → Is InsideOf (inside_at memory byte capacity row) words → words ≡ block_word memory byte capacity ∷ []
  told memory byte capacity row words is =
      (inside_laws.lowers (R E) (param_laws 0 E.row E.laws)).val_is (inside_at memory byte capacity row) words is

  known : (memory byte : ℕ) (i : InsideOf.Denot) (row : Row) → i.row ≡ row → IsBlock i
      → record i { start = block_ptr memory byte } ≡ inside_at memory byte (length row) row
  known memory byte i row same is =
      λ j. record { start = block_ptr memory byte; capacity = (sym is.capacity ∙ ap length same) j; row = same j }

  in_range : (i : InsideOf.Denot) (row : Row) → i.row ≡ row → IsBlock i → length row < 2 ^ 32
  in_range i row same is = omega (arith, is.range, is.capacity, ap length same)

  module _ {M : Type 1} {𝓤 : Ura M} (𝓛 : Logic 𝓤) where
    -- the parts with another row of as many places are a block again
    pub joins : (memory byte capacity : ℕ) (row : Row) (words : List Val) → length row ≡ capacity → capacity < 2 ^ 32
        → capacity * type_size (R E) < 2 ^ 63
        → ent 𝓤 (sep 𝓤 (sem 𝓛 (places_own memory byte capacity row))
        (sep 𝓤 (sem 𝓛 (freeable (R E) capacity (block_ptr memory byte)))
        (sem 𝓛 (fields_own memory byte capacity words))))
        (sem 𝓛 (BlockOf.own_val row words))
    joins memory byte capacity row words same range small =
        qed 𝓛 (‵ (places_own memory byte capacity row) ∷ ‵ (freeable (R E) capacity (block_ptr memory byte)) ∷ ‵
        (fields_own memory byte capacity words) ∷ [])
        ∵
        fjoin ! $ flt_i ! (capacity * type_size (R E)) (2 ^ 63) small $ fjoin ! $ move ! (1 ∷ 0 ∷ []) $ fjoin ! $
        nothing ! $ move ! (1 ∷ 0 ∷ []) $ fjoin ! $
        fpack ! ((b : InsideOf.Denot) × ((b.row ≡ row) × IsBlock b)) (λ b. fsep (InsideOf.own_val b.0 words) ftrue)
        (inside_at memory byte capacity row, (refl, record { capacity = same; range = range })) $ done !

module _ (E : El) {M : Type 1} {𝓤 : Ura M} {𝓛 : Logic 𝓤} {K : Type 0} {Γ : List (Item 𝓤)} {G : Goal 𝓤 𝓛.H} where
  -- what a block owns is its parts, and its machine word is known
  pub parts : K → (row : Row E) (words : List Val)
      → ((memory byte : ℕ) → length row < 2 ^ 32 → length row * type_size (R E) < 2 ^ 63
      → words ≡ block_word E memory byte (length row) ∷ []
      → Seq K 𝓛 (‵ (places_own E memory byte (length row) row) ∷ ‵
      (freeable (R E) (length row) (block_ptr memory byte)) ∷ ‵ (fields_own E memory byte (length row) words) ∷ Γ)
      G)
      → Seq K 𝓛 (‵ ((BlockOf E).own_val row words) ∷ Γ) G
  parts t row words next =
      fpick t (λ b. fsplit t $ move t (1 ∷ []) $ drop t $
      in_a_block t b.0.start (λ (p : Ptr). (InsideOf E).own_val (record b.0 { start = p }) words)
      (snd∗ 𝓤 (sem 𝓛 ((FieldsOf E).own_val (null_ptr, (b.0.capacity, tt)) words)) (never 𝓤)) (λ memory byte e.
      rewrite t 0 (λ (i : (InsideOf E).Denot). ‵ ((InsideOf E).own_val i words))
      (known E memory byte b.0 row b.1.0 b.1.1) refl $
      peeks t (InsideOf E) (Is (InsideOf E)) (shows 𝓛 (InsideOf E)) (inside_at E memory byte (length row) row) words
      (λ is.
      fsplit t $ move t (1 ∷ []) $ fsplit t $ flt_l t
      (λ small. fsplit t $ next memory byte (in_range E b.0 row b.1.0 b.1.1) small (told E memory byte (length row) row
      words is)))))

  -- what a `&` to a block reaches is its places and its pointer
  pub parts_lent : K → (row : Row E) (κ : Lft) (b o : ℕ)
      → ((memory byte : ℕ) → length row < 2 ^ 32 → length row * type_size (R E) < 2 ^ 63
      → Seq K 𝓛 (‵ (each_place (row_lends (R E) memory byte row κ) 0 (length row)) ∷ ‵
      (hidden_shr RawPtr κ (block_ptr memory byte) b (o + 0)) ∷ Γ)
      G)
      → Seq K 𝓛 (‵ (hidden_shr (BlockOf E) κ row b o) ∷ Γ) G
  parts_lent t row κ b o next =
      unhide t $ fpick t (λ i. fsplit t $ move t (1 ∷ []) $ drop t $
      in_a_block t i.0.start (λ (p : Ptr). (InsideOf E).shr_at (record i.0 { start = p }) b o κ)
      (snd∗ 𝓤 (sem 𝓛 ((FieldsOf E).shr_at (null_ptr, (i.0.capacity, tt)) b o κ)) (never 𝓤)) (λ memory byte e.
      rewrite t 0 (λ (inner : (InsideOf E).Denot). ‵ ((InsideOf E).shr_at inner b o κ))
      (known E memory byte i.0 row i.1.0 i.1.1) refl $
      fsplit t $ fsplit t $ fsplit t $ hide t $ move t (1 ∷ 2 ∷ []) $ drop t $ drop t $ move t (1 ∷ []) $ fsplit t $
      flt_l t (λ small.
      next memory byte (in_range E i.0 row i.1.0 i.1.1) small)))
