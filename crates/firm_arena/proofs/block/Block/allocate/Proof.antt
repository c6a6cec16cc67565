-- `allocate`: the heap's memory becomes empty places, and its right to be given back goes with them.
use lib.Dec.{lit<}
use lib.ListN.{replicate, length-replicate}
use mathlib.Core.Bool.{true, false}
use mathlib.Core.List.{[], ◌∷◌}
use mathlib.Core.Path.{◌≡◌, refl, sym, ap, subst}
use native.Mathlib.Omega.{arith}
use Prim.Native.Nat.{ℕ, ◌*◌, ◌<◌, ◌^◌}
use mir.MapTy.{inst_fn}
use mir.Syntax.{Body, named, w32, w64, ty_array}
use mir.Val.{Val, vint, vptr, vstruct, vcons, vnil}
use base.Fml.{ftrue, flft}
use contract.BorrowLft.{◌⊑◌}
use contract.Monad.{fact}
use contract.Running.{tables}
use prog.Capped.{capped_fits}
use prog.Memory.{align, capped}
use prog.Wp.{Wp, after_seq, at_return}
use types.Match.{live, vrt, in_variant}
use types.Kit.{‵, raw, ◌⊛◌, some, later, at_ret, any_q, prop, Post as After, Sq, ◌$◌, ◌∵◌, !, qed, await, done, move}
use types.Kit.{keep, use1, use2, use3, pick, split, join, frame, fpack, suffices}
use types.Part.{whole, agg}
use types.Run.{enter, first, bin, un, size_word, align_word, of_opd, lit, fld, stop, and_then, no_more, switches_on}
use types.Run.{exec, returns}
use types.ByLocal.{alloc_all, pass_all, free_all, look_at, get, get_in, get_tag, sets, sets_last, is, lands_as, env}
use denote.Builtin.{u32, RefOf}
use denote.Exit.{yes}
use denote.Laws.{Is}
use denote.Param.{layout}
use denote.Plain.{uint_vals, uint_Tells}
use denote.RattleType.{RattleType}
use denote.RawPtr.{block_ptr, rawptr_pure}
use denote.Ref.{ShrRef, shr_vals, shr_Tells}
use denote.Signature.{plain}
use denote.Steps.{nothing, heard, owned}
use denote.Struct.Declared as Declared
use denote.Struct.Owning.{shape}
use denote.Struct.Struct.{Struct, Struct-Makes}
use denote.Triple.Call.{calls_at}
use denote.Triple.Table.{framed}
use denote.Triple.Walked.{Stays, stay_dropped, Goes-dropped, walk_of, ends_at, says}
use Rattle.std.proofs.raw_atomic.Walks.{proved}
use Rattle.std.proofs.impls.GlobalAllocator.allocate.Met.{met}
use Rattle.std.specs.Global.{Global}
use Rattle.std.specs.Mem.{type_size}
use Rattle.std.specs.Prelude.{None, Ok, Err, IfOk}
use Rattle.std.specs.Vec.Ownership.{FitsInBlock}
use Rattle.std.specs.contracts.alloc.Global as heap_rows
use Rattle.std.specs.contracts.impls.GlobalAllocator.TheImpl.{ghosts}
use Rattle.std_alloc.proofs.RcSteps.{Good, first_Good}
use Rattle.std_alloc.proofs.RawLayout.{as_written}
use Rattle.std_alloc.proofs.ResultValues.{ok_of, err_of}
use Rattle.std_alloc.proofs.VecSteps.Shapes.{after, head, arm_body}
use Rattle.core.proofs.alloc.Calls.{Answer-typed}
use Rattle.core.proofs.mem.Param.{El, R, elτ, args}
use Rattle.core.proofs.slots.Leases.{uncapped, block_ty, block_size, block_align}
use Rattle.core.specs.contracts.alloc.AllocError as error_rows
use Rattle.core.specs.contracts.result.Result as result_rows
use Rattle.firm_arena.specs.contracts.block.Block.TheInside as inside
use Rattle.firm_arena.specs.contracts.block.Block.allocate as f
use Rattle.firm_arena.proofs.Heap.{Taking, takes, Taken, takes_goes, takes_ends, answer_of}
use Rattle.firm_arena.proofs.Parts.{BlockOf, FieldsOf, block_word, places_own, joins}
use Rattle.firm_arena.proofs.Rows.{places_of_room}
use Rattle.firm_arena.proofs.block.Block.allocate.Statement.{statement}
use Rattle.firm_arena.proofs.block.Block.allocate.Code as code

pub allocate_spec : {M : Type 1} → statement M
allocate_spec 𝓤 𝓛 𝓜 𝓡 wired T laws =
    let E : El = record { row = T; laws = laws } in
    let ended = f.ended T in
    let c = f.clauses T 𝓛 𝓜.mem 𝓡.returns in
    let stayed : Stays ended.signature.params ended.kept = (
      stay_dropped (RefOf (0 ∷ []) tt (plain (λ _. heap_rows.the_row)) (λ _. tt)) yes,
      (stay_dropped (plain (λ _. u32)) yes, tt),
    ) in
    let 𝓣 = tables 𝓤 𝓛.H 𝓜 𝓡 𝓡.env in let W = walk_of 𝓛 ended stayed c in
    let fn = inst_fn (args E) code.function in
    let Outcome : RattleType = result_rows.the_row (BlockOf E) error_rows.the_row in
    proved 𝓛 ended stayed c 𝓜 𝓡 (
      Goes-dropped 𝓛 2 (RefOf (0 ∷ []) tt (plain (λ _. heap_rows.the_row)) (λ _. tt)) yes (λ κs x w. refl),
      (Goes-dropped 𝓛 2 (plain (λ _. u32)) yes (λ κs x w. refl), tt),
    )
    (f.Key.name (args E)) fn (code.unfolded 𝓤 𝓛.H 𝓜 𝓡 wired (T, tt))
    (λ κs. (shr_vals, (uint_vals w32, tt))) (λ κs. (shr_Tells (named 0) κs.0 heap_rows.the_row, (uint_Tells w32, tt)))
    (λ κs qs bounds a _ are.
    let κ = κs.0 in let q = qs.0 in let heap = a.0 in let capacity = a.1.0 in let range = are.1.0.1 in
    let y : W.Ghost = ((κs, qs, bounds, a, (shr_vals heap, (uint_vals w32 capacity, tt))), tt) in
    let others = ‵ (flft κs.1.0 qs.1.0) ⊛ ‵ ftrue in
    let Empty : Outcome.Denot → Type 0 = λ r. IfOk r (λ block. block ≡ replicate capacity None) in
    let out : (r : Outcome.Denot) (v : Val) → Empty r
    → Sq 𝓛 (‵ (Outcome.own_val r (v ∷ [])) ∷ ‵ (flft κ q) ∷ others ∷ []) (prop (W.post y v)) = λ r v empty.
    suffices ! _ (ends_at 𝓛 ended stayed c y v r (tt, (tt, tt)) (tt, (tt, tt))) $ says ! empty $
    move ! (1 ∷ 2 ∷ []) $ join ! $ frame ! $ nothing ! $ nothing ! $ join ! $ nothing ! $ join ! $ frame ! $ done ! in
    qed 𝓛 (((‵ (flft κ q) ⊛ others) ⊛ ‵ ((ShrRef (named 0) κ heap_rows.the_row).own_val heap (shr_vals heap)) ⊛ ‵
    (u32.own_val capacity (uint_vals w32 capacity)) ⊛ ‵ ftrue)
    ∷ (raw (fact 𝓤 (κs.1.0 ⊑ T.lives)) ⊛ raw (fact 𝓤 (FitsInBlock (R E) capacity))) ∷ []) ∵
    split ! $ move ! (2 ∷ []) $ split ! $ heard ! _ (λ _. heard ! _ (λ asked.
    move ! (1 ∷ []) $ split ! $ move ! (2 ∷ []) $ split ! $ move ! (2 ∷ 0 ∷ 1 ∷ []) $ keep ! (0 ∷ 1 ∷ 2 ∷ []) $
    -- [the handle; the token of its lifetime; the other tokens]
    let s = type_size (R E) in let small : capacity * s < 2 ^ 63 = asked.0 in let bytes : capacity * s < 2 ^ 64 =
    omega (arith, small) in
    let wide : capacity < 2 ^ 64 = omega (arith, range) in
    let alignment : ℕ = capped (align (elτ E)) in let τ = block_ty E capacity in
    enter ! _ _ _ _ _ $ alloc_all ! (λ l. pass_all ! refl ((tt, tt), ((tt, record { fits = range }), tt)) $
    let En = env fn.locals l in let both : Body = head (after 3 fn.body) in
    let then : After 𝓤 𝓛.H =
    any_q (after_seq 𝓤 𝓛.H (Wp 𝓤 𝓛.H 𝓣.C 𝓣.Λ En (after 4 fn.body) (at_return 𝓤 𝓛.H En (W.post y)))
    (at_return 𝓤 𝓛.H En (W.post y))) in
    sets ! (un ! (get ! refl) (record { fits = wide })) refl (tt, record { fits = wide }) $
    sets ! (is ! (bin ! (get ! refl) (size_word !)
    (record { fits = subst (λ (k : ℕ). k < 2 ^ 64) (sym (uncapped capacity s bytes)) bytes }))
    (ap (vint w64) (uncapped capacity s bytes)))
    refl (tt, record { fits = bytes }) $
    let asks = takes 𝓛 𝓜.mem 𝓡.returns κ q heap (capacity * s) alignment τ in
    use2 𝓛 (raw ((Taking 𝓛 𝓜.mem 𝓡.returns).pre asks))
    (takes_goes 𝓛 𝓜.mem 𝓡.returns κ q heap (capacity * s) alignment τ
    (block_size E capacity bytes, block_align E capacity) bytes (capped_fits (align (elτ E))))
    $
    calls_at ! (framed 𝓤 𝓛.H 𝓜 𝓣) (Taking 𝓛 𝓜.mem 𝓡.returns)
    (met 𝓤 𝓛 𝓜 𝓡 (code.calls-std_heap::GlobalAllocator::allocate 𝓡.env wired)) asks
    (and_then ! (get ! refl) (and_then ! (get ! refl) (and_then ! (align_word !) (no_more !)))) (λ v.
    use1 𝓛 (later (some (Taken 𝓛 𝓜.mem 𝓡.returns κ q heap τ v)))
    (takes_ends 𝓛 𝓜.mem 𝓡.returns κ q heap (capacity * s) alignment τ v) $ await ! tt $ pick ! (λ r.
    split ! $ move ! (1 ∷ []) $ split ! $ move ! (2 ∷ 0 ∷ []) $ answer_of ! heap.now τ v r
    (λ memory byte e.
    let word : Val = block_word E memory byte capacity in let made : Val = live 0 (vcons word vnil) in let row =
    replicate capacity None in
    let good : Good (layout (BlockOf E)) word = (tt, (tt, (record { fits = range }, tt))) in let tagged =
    first_Good (layout (BlockOf E)) word good in
    -- [the room; the right to give it back; the token; the other tokens]
    lands_as ! e refl (Answer-typed true memory byte) $ first ! $ switches_on !
    (get_tag ! (vrt ! refl (fld ! refl (stop !))) (whole !)) $ exec ! 𝓣.C 𝓣.Λ En (arm_body 0 both) then $
    sets ! (of_opd ! (get_in ! (vrt ! refl (fld ! refl (stop !))) (in_variant ! 0 0 refl refl (whole !)))) refl (tt, tt)
    $ sets ! (of_opd ! (get ! refl)) refl (tt, tt) $
    sets ! (agg ! (and_then ! (get ! refl) (and_then ! (get ! refl) (no_more !)))) refl good $
    sets_last ! (agg ! (and_then ! (lit ! tt) (and_then ! (get ! refl) (no_more !)))) refl tagged $
    exec ! 𝓣.C 𝓣.Λ En (after 4 fn.body) (at_ret En (W.post y)) $ sets ! (of_opd ! (get ! refl)) refl tagged $
    as_written ! (ty_array (elτ E) capacity) memory byte $ use1 𝓛 (‵ (places_own E memory byte capacity row))
    (places_of_room E 𝓛 memory byte capacity) $
    move ! (1 ∷ []) $ fpack ! Global (λ (any : Global). ghosts.dealloc_token any τ (block_ptr memory byte)) heap.now $
    owned ! (FieldsOf E) (Is (FieldsOf E))
    (Struct-Makes 𝓛 (shape (inside.the_type (R E))) (rawptr_pure, ((λ _ _. (tt, tt)), tt)))
    (block_ptr memory byte, (capacity, tt)) (word ∷ [])
    ((vptr memory byte ∷ [], (vint w32 capacity ∷ [], tt)), (refl, (refl, ((refl, range), tt)))) $
    move ! (2 ∷ 1 ∷ 0 ∷ []) $ use3 𝓛 (‵ ((BlockOf E).own_val row (word ∷ [])))
    (joins E 𝓛 memory byte capacity row (word ∷ []) (length-replicate capacity None) range small) $
    use1 𝓛 (‵ (Outcome.own_val (Ok row) (made ∷ []))) (ok_of 𝓛 (BlockOf E) error_rows.the_row row word) $
    returns ! (look_at ! 0 refl) $ free_all ! refl $ out (Ok row) made refl)
    (λ e.
    let Refusal : RattleType = Struct (Declared.shape error_rows.the_type) in let made : Val =
    live 1 (vcons (vstruct vnil) vnil) in
    lands_as ! e refl (Answer-typed false 0 0) $ first ! $ switches_on !
    (get_tag ! (vrt ! refl (fld ! refl (stop !))) (whole !)) $ exec ! 𝓣.C 𝓣.Λ En (arm_body 1 both) then $
    sets ! (of_opd ! (get_in ! (vrt ! refl (fld ! refl (stop !))) (in_variant ! 1 0 refl refl (whole !)))) refl (tt, tt)
    $
    sets_last ! (agg ! (and_then ! (lit ! tt) (and_then ! (get ! refl) (no_more !)))) refl
    (tt, (record { fits = lit< tt }, (tt, tt))) $
    exec ! 𝓣.C 𝓣.Λ En (after 4 fn.body) (at_ret En (W.post y)) $ sets ! (of_opd ! (get ! refl)) refl
    (tt, (record { fits = lit< tt }, (tt, tt))) $
    owned ! Refusal (Is Refusal) (Struct-Makes 𝓛 (Declared.shape error_rows.the_type) tt) tt (vstruct vnil ∷ [])
    (tt, (refl, tt)) $
    use1 𝓛 (‵ (Outcome.own_val (Err (record {})) (made ∷ [])))
    (err_of 𝓛 (BlockOf E) error_rows.the_row (record {}) (vstruct vnil)) $
    returns ! (look_at ! 0 refl) $ free_all ! refl $ out (Err (record {})) made tt)))))))
