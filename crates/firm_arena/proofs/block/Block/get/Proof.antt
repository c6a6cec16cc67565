-- `get`: the pointer is read through the `&`, and leads to a value that the `&` reaches.
use lib.ListN.{length, get_or}
use mathlib.Core.List.{List, [], ◌∷◌}
use mathlib.Core.Path.{refl}
use Prim.Native.Nat.{◌+◌}
use mir.MapTy.{inst_fn}
use mir.Syntax.{named, w32}
use mir.Val.{Val, vptr}
use base.Fml.{ftrue, flft}
use contract.BorrowLft.{◌⊑◌}
use contract.Monad.{fact}
use contract.Running.{tables}
use types.Kit.{‵, raw, ◌⊛◌, at_ret, ◌$◌, ◌∵◌, !, qed, done, move, keep, drop, use1, split, join, frame, fsplit, fjoin}
use types.Kit.{feq_i, suffices}
use types.Run.{enter, first, blocks, bin, un, size_lit, of_opd, load, look, addr, fld, stop, exec, returns}
use types.ByLocal.{alloc_all, pass_all, free_all, look_at, get, through, sets, sets_last, env}
use denote.Builtin.{u32, RefOf}
use denote.Exit.{yes}
use denote.Memory.{hidden_shr}
use denote.Opens.{hide, shr_dup}
use denote.Plain.{uint_vals, uint_Tells}
use denote.RawPtr.{Ptr, RawPtr, block_ptr, ptr_row_laws}
use denote.Ref.{ShrRef, shr_vals, shr_Tells}
use denote.Signature.{plain}
use denote.Steps.{nothing, heard}
use denote.Triple.Walked.{Stays, stay_dropped, Goes-dropped, walk_of, ends_at, says}
use Rattle.std.proofs.raw_atomic.Walks.{proved}
use Rattle.std.specs.Mem.{type_size}
use Rattle.std.specs.Prelude.{Some, None, IsSome}
use Rattle.std_alloc.proofs.VecSteps.Shapes.{after}
use Rattle.std_alloc.proofs.Words.{pointer_in, pointer_out}
use Rattle.core.proofs.mem.Param.{El, R, args}
use Rattle.firm_arena.specs.inner.Ownership.{place_lends}
use Rattle.firm_arena.specs.contracts.block.Block.get as f
use Rattle.firm_arena.proofs.Parts.{BlockOf, parts_lent}
use Rattle.firm_arena.proofs.Rows.{at, place_seen, some_place, its_value, in_reach}
use Rattle.firm_arena.proofs.block.Block.get.Statement.{statement}
use Rattle.firm_arena.proofs.block.Block.get.Code as code

pub get_spec : {M : Type 1} → statement M
get_spec 𝓤 𝓛 𝓜 𝓡 wired T laws =
    let E : El = record { row = T; laws = laws } in
    let ended = f.ended T in
    let c = f.clauses T 𝓛 𝓜.mem 𝓡.returns in
    let stayed : Stays ended.signature.params ended.kept = (
      stay_dropped (RefOf (0 ∷ []) tt (plain (λ _. BlockOf E)) (λ _. tt)) yes,
      (stay_dropped (plain (λ _. u32)) yes, tt),
    ) in
    let 𝓣 = tables 𝓤 𝓛.H 𝓜 𝓡 𝓡.env in let W = walk_of 𝓛 ended stayed c in
    let fn = inst_fn (args E) code.function in
    proved 𝓛 ended stayed c 𝓜 𝓡 (
      Goes-dropped 𝓛 2 (RefOf (0 ∷ []) tt (plain (λ _. BlockOf E)) (λ _. tt)) yes (λ κs x w. refl),
      (Goes-dropped 𝓛 2 (plain (λ _. u32)) yes (λ κs x w. refl), tt),
    )
    (f.Key.name (args E)) fn (code.unfolded 𝓤 𝓛.H 𝓜 𝓡 wired (T, tt))
    (λ κs. (shr_vals, (uint_vals w32, tt))) (λ κs. (shr_Tells (named 0) κs.0 (BlockOf E), (uint_Tells w32, tt)))
    (λ κs qs bounds a _ are.
    let κ = κs.0 in let b = a.0.ref_ptr.0 in let o = a.0.ref_ptr.1 in let row = a.0.now in let place = a.1.0 in let vs =
    shr_vals a.0 in
    let y : W.Ghost = ((κs, qs, bounds, a, (vs, (uint_vals w32 place, tt))), tt) in
    qed 𝓛 (((‵ (flft κ qs.0) ⊛ ‵ (flft κs.1.0 qs.1.0) ⊛ ‵ ftrue) ⊛ ‵ ((ShrRef (named 0) κ (BlockOf E)).own_val a.0 vs) ⊛
    ‵ (u32.own_val place (uint_vals w32 place)) ⊛ ‵ ftrue)
    ∷ (raw (fact 𝓤 (κs.1.0 ⊑ T.lives)) ⊛ raw (fact 𝓤 (IsSome (get_or row place None)))) ∷ []) ∵
    split ! $ move ! (2 ∷ []) $ split ! $ heard ! _ (λ _. heard ! _ (λ there.
    move ! (1 ∷ []) $ split ! $ move ! (2 ∷ []) $ split ! $ move ! (2 ∷ 0 ∷ 1 ∷ []) $ keep ! (0 ∷ 1 ∷ 2 ∷ []) $ fsplit !
    $ drop ! $
    -- [what self reaches; the token of its lifetime; the other tokens]
    let value = (its_value _ there).0 in let is = (its_value _ there).1 in let within = some_place row place there in
    enter ! _ _ _ _ _ $ alloc_all ! (λ l. pass_all ! refl ((tt, tt), ((tt, record { fits = are.1.0.1 }), tt)) $
    parts_lent E ! row κ b o (λ memory byte range small.
    let s = type_size (R E) in let capacity = length row in let fits =
    in_reach place capacity s within range small in let from = at E 𝓛 memory byte place in
    let start : Ptr = block_ptr memory byte in
    -- [what is lent of the places; the pointer; the token; the other tokens]
    first ! $ blocks ! $ move ! (1 ∷ 2 ∷ []) $
    pointer_in ! tt start tt b (o + 0)
    (qed 𝓛 (‵ (hidden_shr RawPtr κ start b (o + 0)) ∷ []) ∵ shr_dup ! RawPtr ptr_row_laws start b (o + 0) κ $ done !)
    (λ q.
    sets ! (of_opd ! (load ! (through ! refl (fld ! refl (stop !))) (look ! 1 refl))) refl (tt, tt) $ pointer_out ! tt
    start tt b (o + 0) $
    sets ! (un ! (get ! refl) (record { fits = fits.0 })) refl (tt, record { fits = fits.0 }) $
    sets ! (bin ! (get ! refl) (size_lit ! (record { fits = fits.1 })) (record { fits = fits.2 })) refl
    (tt, record { fits = fits.2 }) $
    sets ! (bin ! (get ! refl) (get ! refl) tt) refl (tt, tt) $
    move ! (2 ∷ []) $ use1 𝓛 (‵ (place_lends (R E) memory byte κ place (Some value)))
    (place_seen E 𝓛 memory byte κ capacity place row (Some value) is within) $ hide ! $
    sets_last ! (addr ! (through ! refl (stop !))) refl (tt, tt) $
    exec ! 𝓣.C 𝓣.Λ (env fn.locals l) (after 1 fn.body) (at_ret _ (W.post y)) $ sets ! (of_opd ! (get ! refl)) refl
    (tt, tt) $
    -- [the loan of the value; the token; the pointer; the other tokens]
    returns ! (look_at ! 0 refl) $ free_all ! refl $
    suffices ! _ (ends_at 𝓛 ended stayed c y (vptr memory from) (record { ref_ptr = (memory, from); now = value })
    (tt, (tt, tt)) (tt, (tt, tt)))
    $ says ! is $
    feq_i ! (List Val) (vptr memory from ∷ []) (vptr memory from ∷ []) refl $ fjoin ! $ nothing ! $ nothing ! $ join ! $
    nothing ! $ join ! $
    keep ! (2 ∷ 4 ∷ 0 ∷ 1 ∷ []) $ join ! $ frame ! $ frame ! $ done !))))))
