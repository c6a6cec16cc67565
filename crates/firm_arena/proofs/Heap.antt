-- The heap's two calls: what each is handed, and what a caller has of it.
use mathlib.Core.Path.{◌≡◌, refl, ap, ◌∙◌}
use mathlib.Core.Bool.{true, false}
use mathlib.Core.List.{List, [], ◌∷◌, ◌++◌}
use Prim.Native.Nat.{ℕ, ◌<◌, ◌^◌}
use seplogic.Ra.Ura.{Ura}
use mir.Syntax.{Ty, named, w64}
use mir.Val.{Val, vunit, vint, vptr, of_list}
use base.Fml.{Lft, Share, Fml, ftrue, fsep, froom, flft}
use base.Logic.{SProp, ent, sep, guard, emp, id⊢, fst∗, never}
use contract.Monad.{Fun, fact, fact_i}
use prog.Memory.{Memory, size, align, capped}
use prog.Routine.{Routine}
use types.Logic.{Logic, sem}
use types.Match.{live}
use types.Kit.{Goal, Item, Seq, Soaks, ‵, raw, ◌⊛◌, some, later, given, ◌$◌, ◌∵◌, !, qed, await, updating, now, check}
use types.Kit.{done, move, keep, drop, use0, use1, pick, split, join, fsplit, fjoin, fpick, feq_i, feq_l, flt_i}
use denote.Builtin.{unit}
use denote.RawPtr.{Ptr, block_ptr, null_ptr, ptr_val, room_for, in_a_block}
use denote.Ref.{Bor, ShrRef, shr_vals}
use denote.Steps.{nothing, only}
use denote.Triple.Spec.{triple_of}
use denote.Triple.Statement.{Contract}
use Rattle.core.specs.Allocator.{block_if_ok}
use Rattle.core.proofs.alloc.Calls.{Answer, answer_val}
use Rattle.std.specs.Global.{Global}
use Rattle.std.specs.Prelude.{Ok, Err}
use Rattle.std.specs.contracts.alloc.Global.{the_row}
use Rattle.std.specs.contracts.impls.GlobalAllocator.TheImpl.{ghosts}
use Rattle.std.specs.contracts.impls.GlobalAllocator.allocate as taking
use Rattle.std.specs.contracts.impls.GlobalAllocator.deallocate as giving

module _ {M : Type 1} {𝓤 : Ura M} (𝓛 : Logic 𝓤) (at_mem : Memory → SProp 𝓤) (run : Routine → Fun 𝓤) where
  open 𝓛 use {H, A}

  abbrev pub Taking : Contract 𝓤
  Taking = triple_of 𝓛 taking.signature (taking.spec 𝓛 at_mem run)

  abbrev pub Giving : Contract 𝓤
  Giving = triple_of 𝓛 giving.signature (giving.spec 𝓛 at_mem run)

  module _ (κ : Lft) (q : Share) (heap : Bor Global) where
    abbrev pub heap_lent : Fml
    heap_lent = (ShrRef (named 0) κ the_row).own_val heap (shr_vals heap)

    abbrev pub takes : ℕ → ℕ → Ty → Taking.Ghost
    takes bytes alignment τ = (
      (
        (κ, tt),
        (q, tt),
        tt,
        (heap, (bytes, (alignment, tt))),
        (shr_vals heap, (vint w64 bytes ∷ [], (vint w64 alignment ∷ [], tt))),
      ),
      τ,
    )

    abbrev pub gives : ℕ → ℕ → ℕ → ℕ → Ty → Giving.Ghost
    gives memory byte bytes alignment τ = (
      (
        (κ, tt),
        (q, tt),
        tt,
        (heap, (block_ptr memory byte, (bytes, (alignment, tt)))),
        (shr_vals heap, (vptr memory byte ∷ [], (vint w64 bytes ∷ [], (vint w64 alignment ∷ [], tt)))),
      ),
      τ,
    )

    abbrev sized : ℕ → ℕ → Ty → Type 0
    sized bytes alignment τ = (capped (size τ) ≡ bytes) × (capped (align τ) ≡ alignment)

    pub takes_goes : (bytes alignment : ℕ) (τ : Ty) → sized bytes alignment τ → bytes < 2 ^ 64 → alignment < 2 ^ 64
        → ent 𝓤 (sep 𝓤 (sem 𝓛 heap_lent) (A.lft κ q)) (Taking.pre (takes bytes alignment τ))
    takes_goes bytes alignment τ is few low = qed 𝓛 (‵ heap_lent ∷ ‵ (flft κ q) ∷ []) ∵
        use0 𝓛 (raw (fact 𝓤 (sized bytes alignment τ))) (fact_i 𝓤 (sized bytes alignment τ) (emp 𝓤) is) $
        nothing ! $ flt_i ! alignment (2 ^ 64) low $ feq_i ! (List Val) (vint w64 alignment ∷ [])
        (vint w64 alignment ∷ []) refl $ fjoin ! $ fjoin ! $
        flt_i ! bytes (2 ^ 64) few $ feq_i ! (List Val) (vint w64 bytes ∷ []) (vint w64 bytes ∷ []) refl $ fjoin ! $
        fjoin ! $
        move ! (2 ∷ 0 ∷ []) $ fjoin ! $ nothing ! $ move ! (3 ∷ 0 ∷ []) $ join ! $ join ! $ done !

    pub gives_goes : (memory byte bytes alignment : ℕ) (τ : Ty) → sized bytes alignment τ → bytes < 2 ^ 64
        → alignment < 2 ^ 64
        → ent 𝓤 (sep 𝓤 (H.room τ memory byte)
        (sep 𝓤 (sem 𝓛 (ghosts.dealloc_token heap.now τ (block_ptr memory byte))) (sep 𝓤 (sem 𝓛 heap_lent) (A.lft κ q))))
        (Giving.pre (gives memory byte bytes alignment τ))
    gives_goes memory byte bytes alignment τ is few low =
        qed 𝓛 (‵ (froom τ memory byte) ∷ ‵ (ghosts.dealloc_token heap.now τ (block_ptr memory byte)) ∷ ‵ heap_lent ∷ ‵
        (flft κ q) ∷ [])
        ∵ fjoin ! $
        use0 𝓛 (raw (fact 𝓤 (sized bytes alignment τ))) (fact_i 𝓤 (sized bytes alignment τ) (emp 𝓤) is) $ join ! $
        nothing ! $ flt_i ! alignment (2 ^ 64) low $ feq_i ! (List Val) (vint w64 alignment ∷ [])
        (vint w64 alignment ∷ []) refl $ fjoin ! $ fjoin ! $
        flt_i ! bytes (2 ^ 64) few $ feq_i ! (List Val) (vint w64 bytes ∷ []) (vint w64 bytes ∷ []) refl $ fjoin ! $
        fjoin ! $
        feq_i ! (List Val) (vptr memory byte ∷ []) (vptr memory byte ∷ []) refl $ fjoin ! $
        move ! (2 ∷ 0 ∷ []) $ fjoin ! $ nothing ! $ move ! (3 ∷ 0 ∷ []) $ join ! $ join ! $ done !

    -- the answer, with the memory where there is some
    abbrev pub Taken : Ty → Val → Answer.Denot → Item 𝓤
    Taken τ v r = ‵ (Answer.own_val r (v ∷ [])) ⊛ ‵ (block_if_ok (ghosts.dealloc_token heap.now) τ r) ⊛ ‵ (flft κ q)

    pub takes_ends : (bytes alignment : ℕ) (τ : Ty) (v : Val)
        → ent 𝓤 (Taking.post (takes bytes alignment τ) v) (types.Kit.mean 𝓛 (later (some (Taken τ v))))
    takes_ends bytes alignment τ v = qed 𝓛 (raw (Taking.post (takes bytes alignment τ) v) ∷ []) ∵ updating ! $
        use1 𝓛 (later (some (λ (r : Answer.Denot). ((‵ (flft κ q) ⊛ ‵ ftrue) ⊛ ‵ (Answer.own_val r (v ∷ [])))
        ⊛ some (λ (ws : Unit {0} × (Unit {0} × (Unit {0} × Unit {0}))).
        ‵ (fsep ftrue (fsep ftrue (fsep ftrue ftrue))) ⊛ ‵ (block_if_ok (ghosts.dealloc_token heap.now) τ r)))))
        (id⊢ 𝓤 _) $
        await ! tt $ pick !
        (λ r. split ! $ move ! (1 ∷ []) $ pick ! (λ ws. split ! $ drop ! $ move ! (1 ∷ []) $ split ! $ split ! $
        -- [the token; nothing; the answer; the memory]
        now ! $ types.Kit.show ! (λ (z : Answer.Denot). types.Kit.mean 𝓛 (Taken τ v z)) r $ keep ! (2 ∷ 3 ∷ 0 ∷ []) $
        done !))

    pub gives_ends : (memory byte bytes alignment : ℕ) (τ : Ty) (v : Val)
        → ent 𝓤 (Giving.post (gives memory byte bytes alignment τ) v) (H.⇛ (guard 𝓤 (v ≡ vunit) (A.lft κ q)))
    gives_ends memory byte bytes alignment τ v =
        qed 𝓛 (raw (Giving.post (gives memory byte bytes alignment τ) v) ∷ []) ∵ updating ! $
        use1 𝓛 (later (some (λ (r : Unit {0}). ((‵ (flft κ q) ⊛ ‵ ftrue) ⊛ ‵ (unit.own_val r (v ∷ [])))
        ⊛ some (λ (ws : Unit {0} × (Unit {0} × (Unit {0} × (Unit {0} × Unit {0})))).
        ‵ (fsep ftrue (fsep ftrue (fsep ftrue (fsep ftrue ftrue)))) ⊛ ‵ ftrue))))
        (id⊢ 𝓤 _) $
        await ! tt $ pick ! (λ r.
        split ! $ split ! $ move ! (1 ∷ []) $ feq_l !
        (λ is. split ! $ now ! $ check ! (ap only is) $ keep ! (0 ∷ []) $ done !))

module _ {M : Type 1} {𝓤 : Ura M} {𝓛 : Logic 𝓤} {K : Type 0} {Γ : List (Item 𝓤)} {G : Goal 𝓤 𝓛.H} where
  -- the two cases of an answer
  pub answer_of : K → (heap : Global) (τ : Ty) (v : Val) (r : Answer.Denot)
      → ((memory byte : ℕ) → v ≡ answer_val true memory byte
      → Seq K 𝓛 (‵ (froom τ memory byte) ∷ ‵ (ghosts.dealloc_token heap τ (block_ptr memory byte)) ∷ Γ) G)
      → (v ≡ answer_val false 0 0 → Seq K 𝓛 Γ G)
      → Seq K 𝓛 (‵ (Answer.own_val r (v ∷ [])) ∷ ‵ (block_if_ok (ghosts.dealloc_token heap) τ r) ∷ Γ) G
  answer_of t heap τ v (Ok start) ok err =
      fpick t (λ us. fsplit t $ feq_l t (λ tagged.
      fpick t (λ parts. fsplit t $ feq_l t (λ payload. fsplit t $ feq_l t (λ pointer. drop t $
      in_a_block t start (λ (p : Ptr). fsep (room_for τ p) (ghosts.dealloc_token heap τ p))
      (fst∗ 𝓤 (never 𝓤) (sem 𝓛 (ghosts.dealloc_token heap τ null_ptr))) (λ memory byte at. fsplit t $
      ok memory byte (ap only tagged
      ∙ ap (λ (ws : List Val). live 0 (of_list ws))
      (payload ∙ ap (λ (ws : List Val). ws ++ []) (pointer ∙ ap (λ (p : Ptr). ptr_val p ∷ []) at)))))))))
  answer_of t heap τ v (Err refused) ok err =
      fpick t (λ us. fsplit t $ feq_l t (λ tagged.
      fpick t (λ parts. fsplit t $ feq_l t (λ payload.
      fsplit t $ fpick t (λ none. fsplit t $ feq_l t (λ empty. drop t $ drop t $ drop t $
      err (ap only tagged
      ∙ ap (λ (ws : List Val). live 1 (of_list ws)) (payload ∙ ap (λ (ws : List Val). ws ++ []) empty))))))))
