-- `free`: empty places are the memory that the heap gave, and it takes them back.
use lib.Dec.{T as Passes}
use lib.ListN.{length, replicate}
use mathlib.Core.List.{List, [], ◌∷◌, ◌++◌}
use mathlib.Core.Path.{◌≡◌, refl, sym, ap, subst}
use native.Mathlib.Omega.{arith}
use Prim.Native.Nat.{ℕ, ◌*◌, ◌<◌, ◌^◌}
use mir.MapTy.{inst_fn}
use mir.Syntax.{named, w64, ty_array, ty_unit}
use mir.Val.{Val, vint, vunit, has_ty, WT}
use base.Fml.{ftrue, froom, flft}
use base.Logic.{id⊢}
use contract.BorrowLft.{◌⊑◌}
use contract.Monad.{fact}
use contract.Running.{tables}
use prog.Capped.{capped_fits}
use prog.Memory.{align, capped}
use prog.Wp.{WpFn}
use types.Kit.{‵, raw, ◌⊛◌, given, later, at_ret, prop, ◌$◌, ◌∵◌, !, qed, await, learn, done, move, keep, drop, use1}
use types.Kit.{split, join, group, fpick, feq_i, rewrite, regoal, suffices}
use types.Part.{whole, sub}
use types.Run.{enter, first, blocks, bin, un, size_word, align_word, of_opd, unit_lit, fld, stop, and_then, no_more}
use types.Run.{exec, returns}
use types.ByLocal.{alloc_all, pass_all, free_all, look_at, get, get_in, sets, is, lands_last, env}
use denote.Builtin.{RefOf}
use denote.Exit.{yes, no}
use denote.RawPtr.{block_ptr}
use denote.Ref.{ShrRef, shr_vals, shr_Tells}
use denote.Signature.{plain}
use denote.Steps.{nothing, heard}
use denote.Triple.Call.{calls_at_last}
use denote.Triple.Table.{framed}
use denote.Triple.Walked.{Stays, stay_dropped, Goes-dropped, walk_of, ends_at}
use Rattle.std.proofs.raw_atomic.Walks.{proved_at}
use Rattle.std.proofs.impls.GlobalAllocator.deallocate.Met.{met}
use Rattle.std.specs.Mem.{type_size}
use Rattle.std.specs.Prelude.{None}
use Rattle.std.specs.contracts.alloc.Global as heap_rows
use Rattle.std.specs.contracts.impls.GlobalAllocator.TheImpl.{ghosts}
use Rattle.std_alloc.proofs.RawLayout.{as_raw}
use Rattle.std_alloc.proofs.VecSteps.Shapes.{after}
use Rattle.core.proofs.alloc.Calls.{Goes-blank}
use Rattle.core.proofs.mem.Param.{El, R, elτ, args}
use Rattle.core.proofs.slots.Leases.{uncapped, block_ty, block_size, block_align}
use Rattle.firm_arena.specs.contracts.block.Block.free as f
use Rattle.firm_arena.proofs.Heap.{Giving, gives, gives_goes, gives_ends}
use Rattle.firm_arena.proofs.Parts.{BlockOf, Row, places_own, parts}
use Rattle.firm_arena.proofs.Rows.{room_of_places}
use Rattle.firm_arena.proofs.block.Block.free.Statement.{statement}
use Rattle.firm_arena.proofs.block.Block.free.Code as code

pub free_spec : {M : Type 1} → statement M
free_spec 𝓤 𝓛 𝓜 𝓡 wired T laws =
    let E : El = record { row = T; laws = laws } in
    let ended = f.ended T in
    let c = f.clauses T 𝓛 𝓜.mem 𝓡.returns in
    let stayed : Stays ended.signature.params ended.kept = (
      stay_dropped (plain (λ _. BlockOf E)) no,
      (stay_dropped (RefOf (0 ∷ []) tt (plain (λ _. heap_rows.the_row)) (λ _. tt)) yes, tt),
    ) in
    let 𝓣 = tables 𝓤 𝓛.H 𝓜 𝓡 𝓡.env in let W = walk_of 𝓛 ended stayed c in
    let fn = inst_fn (args E) code.function in
    proved_at 𝓛 ended stayed c 𝓜 𝓡 (
      Goes-blank 𝓛 2 (plain (λ _. BlockOf E)) no (λ κs x w. tt),
      (Goes-dropped 𝓛 2 (RefOf (0 ∷ []) tt (plain (λ _. heap_rows.the_row)) (λ _. tt)) yes (λ κs x w. refl), tt),
    )
    (f.Key.name (args E)) fn (code.unfolded 𝓤 𝓛.H 𝓜 𝓡 wired (T, tt))
    (λ y are.
    let κs = y.0.0 in let qs = y.0.1 in let a = y.0.3 in let words = y.0.4 in
    let κ = κs.0 in let q = qs.0 in let row = a.0 in let heap = a.1.0 in let capacity = length row in
    let heap_is : words.1.0 ≡ shr_vals heap = shr_Tells (named 0) κ heap_rows.the_row heap words.1.0 are.1.0 in
    qed 𝓛 (((‵ (flft κ q) ⊛ ‵ (flft κs.1.0 qs.1.0) ⊛ ‵ ftrue) ⊛ ‵ ((BlockOf E).own_val row words.0) ⊛ ‵
    ((ShrRef (named 0) κ heap_rows.the_row).own_val heap words.1.0) ⊛ ‵ ftrue)
    ∷ (raw (fact 𝓤 (κs.1.0 ⊑ T.lives)) ⊛ raw (fact 𝓤 (row ≡ replicate (length row) None))) ∷ []) ∵
    split ! $ move ! (2 ∷ []) $ split ! $ heard ! _ (λ _. heard ! _ (λ empty.
    move ! (1 ∷ []) $ split ! $ move ! (1 ∷ []) $ split ! $ move ! (3 ∷ []) $ split ! $ keep ! (4 ∷ 2 ∷ 0 ∷ 1 ∷ []) $
    rewrite ! 1 (λ (ws : List Val). ‵ ((ShrRef (named 0) κ heap_rows.the_row).own_val heap ws)) heap_is refl $
    -- [self; the handle; the token of its lifetime; the other tokens]
    parts E ! row words.0 (λ memory byte range small word.
    let s = type_size (R E) in let bytes : capacity * s < 2 ^ 64 =
    omega (arith, small) in let wide : capacity < 2 ^ 64 = omega (arith, range) in
    let alignment : ℕ = capped (align (elτ E)) in let τ = block_ty E capacity in
    regoal ! (λ (ws : List Val). prop (WpFn 𝓤 𝓛.H 𝓣.C 𝓣.Λ fn ws (W.post y))) (λ j. word j ++ (heap_is j ++ [])) refl $
    move ! (2 ∷ []) $ drop ! $ rewrite ! 0 (λ (cs : Row E). ‵ (places_own E memory byte capacity cs)) empty refl $
    use1 𝓛 (‵ (froom (ty_array (elτ E) capacity) memory byte)) (room_of_places E 𝓛 memory byte capacity) $ as_raw !
    (ty_array (elτ E) capacity) memory byte $
    move ! (1 ∷ []) $ fpick !
    (λ any. use1 𝓛 (‵ (ghosts.dealloc_token heap.now τ (block_ptr memory byte))) (id⊢ 𝓤 _) $ move ! (1 ∷ []) $
    -- [the room; the right to give it back; the handle; the token of its lifetime; the other tokens]
    enter ! _ _ _ _ _ $ alloc_all ! (λ l. pass_all ! refl ((tt, (tt, (record { fits = range }, tt))), ((tt, tt), tt)) $
    sets ! (of_opd ! (get_in ! (fld ! refl (stop !)) (sub ! 0 refl (whole !)))) refl (tt, tt) $
    sets ! (of_opd ! (get_in ! (fld ! refl (stop !)) (sub ! 1 refl (whole !)))) refl (tt, record { fits = range }) $
    sets ! (un ! (get ! refl) (record { fits = wide })) refl (tt, record { fits = wide }) $
    sets ! (is ! (bin ! (get ! refl) (size_word !)
    (record { fits = subst (λ (k : ℕ). k < 2 ^ 64) (sym (uncapped capacity s bytes)) bytes }))
    (ap (vint w64) (uncapped capacity s bytes)))
    refl (tt, record { fits = bytes }) $
    first ! $ blocks ! $ sets ! (of_opd ! (get ! refl)) refl (tt, tt) $
    let asks = gives 𝓛 𝓜.mem 𝓡.returns κ q heap memory byte (capacity * s) alignment τ in
    group ! 4 $ use1 𝓛 (raw ((Giving 𝓛 𝓜.mem 𝓡.returns).pre asks))
    (gives_goes 𝓛 𝓜.mem 𝓡.returns κ q heap memory byte (capacity * s) alignment τ
    (block_size E capacity bytes, block_align E capacity) bytes (capped_fits (align (elτ E))))
    $
    calls_at_last ! (framed 𝓤 𝓛.H 𝓜 𝓣) (Giving 𝓛 𝓜.mem 𝓡.returns)
    (met 𝓤 𝓛 𝓜 𝓡 (code.calls-std_heap::GlobalAllocator::deallocate 𝓡.env wired)) asks
    (and_then ! (get ! refl)
    (and_then ! (get ! refl) (and_then ! (get ! refl) (and_then ! (align_word !) (no_more !)))))
    (λ v.
    use1 𝓛 (later (given (v ≡ vunit) (‵ (flft κ q))))
    (gives_ends 𝓛 𝓜.mem 𝓡.returns κ q heap memory byte (capacity * s) alignment τ v) $ await ! tt $ learn ! (λ is_unit.
    lands_last ! refl (subst (λ (w : Val). Passes (has_ty ty_unit w) × WT w) (sym is_unit) (tt, tt)) $ exec ! 𝓣.C 𝓣.Λ
    (env fn.locals l) (after 5 fn.body) (at_ret _ (W.post y)) $
    sets ! (of_opd ! (unit_lit !)) refl (tt, tt) $ returns ! (look_at ! 0 refl) $ free_all ! refl $
    suffices ! _ (ends_at 𝓛 ended stayed c y vunit tt (tt, (tt, tt)) (tt, (tt, tt))) $
    join ! $ feq_i ! (List Val) (vunit ∷ []) (vunit ∷ []) refl $ nothing ! $ nothing ! $ join ! $ nothing ! $ join ! $
    join ! $
    move ! (1 ∷ 0 ∷ []) $ join ! $ nothing ! $ move ! (1 ∷ 0 ∷ []) $ done !))))))))
