-- `write`: the room of an empty place takes the bytes of the value, and the place owns it.
use lib.ListN.{length, set, get_or, length-set}
use mathlib.Core.List.{List, [], ◌∷◌, ◌++◌}
use mathlib.Core.Path.{◌≡◌, refl, sym}
use Prim.Native.Nat.{◌<◌}
use mir.MapTy.{inst_fn}
use mir.Syntax.{named, w32}
use mir.Val.{Val, vunit}
use base.Fraction.{full_share}
use base.Fml.{ftrue, flft}
use prog.Wp.{WpFn}
use contract.BorrowLft.{◌⊑◌}
use contract.Monad.{fact}
use contract.Running.{tables}
use types.Kit.{‵, raw, ◌⊛◌, at_ret, prop, ◌$◌, ◌∵◌, !, qed, done, move, keep, use1, use2, use3, split, join, group}
use types.Kit.{frame, fsplit3, feq_i, rewrite, regoal, suffices}
use types.Part.{whole, sub, look_in}
use types.Run.{enter, first, blocks, bin, un, size_lit, unit_lit, of_opd, load, init, assigns_last, fld, stop, exec}
use types.Run.{returns}
use types.ByLocal.{alloc_all, pass_all, free_all, look_at, get, through, sets, env}
use borrow.Table.OneValue.{part_in}
use denote.Builtin.{u32}
use denote.Exit.{yes, no}
use denote.Memory.{cell_at}
use denote.Plain.{uint_vals, uint_Tells}
use denote.Ref.{MutRef, mut_vals, mut_Tells}
use denote.Signature.{plain}
use denote.Steps.{nothing, heard, opens, closes}
use denote.Triple.Walked.{Stays, stay_ref, stay_dropped, Goes-ref, Goes-dropped, walk_of, ends_at, says}
use Rattle.std.proofs.raw_atomic.Walks.{proved_at}
use Rattle.std.specs.Mem.{type_size}
use Rattle.std.specs.Prelude.{Some, None}
use Rattle.std_alloc.proofs.RawLayout.{as_written}
use Rattle.std_alloc.proofs.VecSteps.Shapes.{after}
use Rattle.core.proofs.mem.Param.{El, R, args, elτ, one, lawful}
use Rattle.firm_arena.specs.inner.Ownership.{place_owns}
use Rattle.firm_arena.specs.contracts.block.Block.write as f
use Rattle.firm_arena.proofs.Parts.{BlockOf, places_own, parts, joins}
use Rattle.firm_arena.proofs.Rows.{at, others_own, place_out, place_in, in_reach}
use Rattle.firm_arena.proofs.block.Block.write.Statement.{statement}
use Rattle.firm_arena.proofs.block.Block.write.Code as code

pub write_spec : {M : Type 1} → statement M
write_spec 𝓤 𝓛 𝓜 𝓡 wired T laws =
    let E : El = record { row = T; laws = laws } in
    let ended = f.ended T in
    let c = f.clauses T 𝓛 𝓜.mem 𝓡.returns in
    let stayed : Stays ended.signature.params ended.kept = (
      stay_ref (0 ∷ []) tt (plain (λ _. BlockOf E)),
      (stay_dropped (plain (λ _. u32)) yes, (stay_dropped (plain (λ _. R E)) no, tt)),
    ) in
    let 𝓣 = tables 𝓤 𝓛.H 𝓜 𝓡 𝓡.env in let W = walk_of 𝓛 ended stayed c in
    let fn = inst_fn (args E) code.function in
    proved_at 𝓛 ended stayed c 𝓜 𝓡 (
      Goes-ref 𝓛 2 0 tt (plain (λ _. BlockOf E)),
      (
        Goes-dropped 𝓛 2 (plain (λ _. u32)) yes (λ κs x w. refl),
        (Goes-dropped 𝓛 2 (plain (λ _. R E)) no (λ κs x w. refl), tt),
      ),
    )
    (f.Key.name (args E)) fn (code.unfolded 𝓤 𝓛.H 𝓜 𝓡 wired (T, tt))
    (λ y are.
    let κs = y.0.0 in let qs = y.0.1 in let a = y.0.3 in let words = y.0.4 in
    let b = a.0.ref_ptr.0 in let o = a.0.ref_ptr.1 in let row = a.0.now in let place = a.1.0 in let value = a.1.1.0 in
    -- of the value only that it is one machine word is known
    let alone = one E words.1.1.0 ((lawful E 𝓛).typed value words.1.1.0 are.1.1.0) in let v = alone.0 in let good =
    alone.2 in
    let self_is : words.0 ≡ mut_vals a.0 = mut_Tells (named 0) κs.0 (BlockOf E) a.0 words.0 are.0 in
    let place_is : words.1.0 ≡ uint_vals w32 place = uint_Tells w32 place words.1.0 are.1.0 in
    qed 𝓛 (((‵ (flft κs.0 qs.0) ⊛ ‵ (flft κs.1.0 qs.1.0) ⊛ ‵ ftrue)
    ⊛ ‵ ((MutRef (named 0) κs.0 (BlockOf E)).own_val a.0 words.0) ⊛ ‵ (u32.own_val place words.1.0) ⊛ ‵
    (T.own_val value words.1.1.0) ⊛ ‵ ftrue)
    ∷ (raw (fact 𝓤 (κs.1.0 ⊑ T.lives)) ⊛ raw (fact 𝓤 (place < length row)) ⊛ raw
    (fact 𝓤 (get_or row place None ≡ None))) ∷ [])
    ∵
    regoal ! (λ (ws : List Val). prop (WpFn 𝓤 𝓛.H 𝓣.C 𝓣.Λ fn ws (W.post y)))
    (λ j. self_is j ++ (place_is j ++ (alone.1 j ++ []))) refl $
    split ! $ move ! (2 ∷ []) $ split ! $ heard ! _ (λ _. split ! $ heard ! _ (λ within. heard ! _ (λ empty.
    move ! (1 ∷ []) $ split ! $ move ! (1 ∷ []) $ split ! $ move ! (1 ∷ []) $ split ! $ move ! (4 ∷ []) $ split ! $
    move ! (5 ∷ 0 ∷ 1 ∷ 2 ∷ []) $ keep ! (0 ∷ 1 ∷ 2 ∷ 3 ∷ []) $ rewrite ! 3 (λ (ws : List Val). ‵ (T.own_val value ws))
    alone.1 refl $
    -- [self; the token of its lifetime; the other tokens; the value]
    enter ! _ _ _ _ _ $ alloc_all ! (λ l. pass_all ! refl ((tt, tt), ((tt, record { fits = are.1.0.1 }), (good, tt))) $
    fsplit3 ! $ move ! (1 ∷ 2 ∷ 3 ∷ []) $ opens ! tt (BlockOf E)
    {h = row} b o (λ us. move ! (1 ∷ []) $ parts E ! row us (λ memory byte range small word.
    let s = type_size (R E) in let capacity = length row in let fits = in_reach place capacity s within range small in
    let new = set row place (Some value) in
    -- [the places; the right to free them; the fields; the block's word; the open borrow, in three entries; self's
    -- first part; the other tokens; the value]
    rewrite ! 3 (λ (ws : List Val). ‵ (cell_at full_share (BlockOf E).mir ws b o)) word refl $ first ! $ blocks ! $
    sets ! (of_opd ! (load ! (through ! refl (fld ! refl (stop !))) (look_in ! 3 (sub ! 0 refl (whole !))))) refl
    (tt, tt) $
    sets ! (un ! (get ! refl) (record { fits = fits.0 })) refl (tt, record { fits = fits.0 }) $
    sets ! (bin ! (get ! refl) (size_lit ! (record { fits = fits.1 })) (record { fits = fits.2 })) refl
    (tt, record { fits = fits.2 }) $
    sets ! (bin ! (get ! refl) (get ! refl) tt) refl (tt, tt) $ sets ! (of_opd ! (get ! refl)) refl good $
    use1 𝓛 (‵ (place_owns (R E) memory byte place None) ⊛ ‵ (others_own E 𝓛 memory byte capacity place row))
    (place_out E 𝓛 memory byte capacity place row None empty within) $ split ! $
    as_written ! (elτ E) memory (at E 𝓛 memory byte place) $ assigns_last ! (of_opd ! (get ! refl))
    (through ! refl (stop !)) (init ! 0 refl good) $
    exec ! 𝓣.C 𝓣.Λ (env fn.locals l) (after 1 fn.body) (at_ret _ (W.post y)) $ sets ! (of_opd ! (unit_lit !)) refl
    (tt, tt) $
    move ! (0 ∷ 10 ∷ []) $ use2 𝓛 (‵ (place_owns (R E) memory byte place (Some value)))
    (part_in 𝓛 (R E) refl full_share value memory (at E 𝓛 memory byte place) v) $
    use2 𝓛 (‵ (places_own E memory byte capacity new))
    (place_in E 𝓛 memory byte capacity place row (Some value) refl within) $
    use3 𝓛 (‵ ((BlockOf E).own_val new us))
    (joins E 𝓛 memory byte capacity new us (length-set row place (Some value)) range small) $
    rewrite ! 1 (λ (ws : List Val). ‵ (cell_at full_share (BlockOf E).mir ws b o)) (sym word) refl $
    -- [the block; its word; the open borrow, in three entries; self's first part; the other tokens]
    move ! (1 ∷ 0 ∷ []) $ closes ! tt (BlockOf E) new us b o $
    returns ! (look_at ! 0 refl) $ free_all ! refl $
    suffices ! _ (ends_at 𝓛 ended stayed c y vunit tt (new, (tt, (tt, tt))) (tt, (tt, (tt, tt)))) $ says ! refl $
    move ! (3 ∷ 0 ∷ 1 ∷ []) $ group ! 3 $ nothing ! $ nothing ! $ join ! $ nothing ! $ join ! $ move ! (1 ∷ 0 ∷ []) $
    join ! $
    move ! (1 ∷ 2 ∷ []) $ join ! $ frame ! $ frame ! $ feq_i ! (List Val) (vunit ∷ []) (vunit ∷ []) refl $ done !)))))))
