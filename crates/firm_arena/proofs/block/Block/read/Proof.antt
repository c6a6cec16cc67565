-- `read`: the bytes of the value go to the caller, and their place is left as room.
use lib.ListN.{length, set, get_or, length-set}
use mathlib.Core.List.{List, [], ◌∷◌}
use mathlib.Core.Path.{refl, sym}
use mir.MapTy.{inst_fn}
use mir.Syntax.{named, w32}
use mir.Val.{Val}
use base.Fraction.{full_share}
use base.Fml.{ftrue, fat, froom, flft}
use contract.BorrowLft.{◌⊑◌}
use contract.Monad.{fact}
use contract.Running.{tables}
use types.Kit.{‵, raw, ◌⊛◌, some, at_ret, ◌$◌, ◌∵◌, !, qed, done, move, keep, use1, use2, use3, pick, split, join}
use types.Kit.{group, frame, fsplit3, rewrite, suffices}
use types.Part.{whole, sub, look_in}
use types.Run.{enter, first, blocks, bin, un, size_lit, of_opd, load, look, well_typed, fld, stop, exec, returns}
use types.ByLocal.{alloc_all, pass_all, free_all, look_at, get, through, sets, sets_last, env}
use borrow.Table.OneValue.{part_out}
use denote.Builtin.{u32}
use denote.Exit.{yes}
use denote.Memory.{cell_at}
use denote.Plain.{uint_vals, uint_Tells}
use denote.Ref.{MutRef, mut_vals, mut_Tells}
use denote.Signature.{plain}
use denote.Steps.{nothing, heard, opens, closes}
use denote.Triple.Walked.{Stays, stay_ref, stay_dropped, Goes-ref, Goes-dropped, walk_of, ends_at}
use Rattle.std.proofs.raw_atomic.Walks.{proved}
use Rattle.std.specs.Mem.{type_size}
use Rattle.std.specs.Prelude.{Some, None, IsSome}
use Rattle.std_alloc.proofs.RawLayout.{as_raw}
use Rattle.std_alloc.proofs.VecSteps.Shapes.{after}
use Rattle.core.proofs.mem.Facts.{says_two}
use Rattle.core.proofs.mem.Param.{El, R, args, elτ}
use Rattle.firm_arena.specs.inner.Ownership.{place_owns}
use Rattle.firm_arena.specs.contracts.block.Block.read as f
use Rattle.firm_arena.proofs.Parts.{BlockOf, places_own, parts, joins}
use Rattle.firm_arena.proofs.Rows.{at, others_own, place_out, place_in, some_place, its_value, in_reach}
use Rattle.firm_arena.proofs.block.Block.read.Statement.{statement}
use Rattle.firm_arena.proofs.block.Block.read.Code as code

pub read_spec : {M : Type 1} → statement M
read_spec 𝓤 𝓛 𝓜 𝓡 wired T laws =
    let E : El = record { row = T; laws = laws } in
    let ended = f.ended T in
    let c = f.clauses T 𝓛 𝓜.mem 𝓡.returns in
    let stayed : Stays ended.signature.params ended.kept =
    (stay_ref (0 ∷ []) tt (plain (λ _. BlockOf E)), (stay_dropped (plain (λ _. u32)) yes, tt)) in
    let 𝓣 = tables 𝓤 𝓛.H 𝓜 𝓡 𝓡.env in let W = walk_of 𝓛 ended stayed c in
    let fn = inst_fn (args E) code.function in
    proved 𝓛 ended stayed c 𝓜 𝓡
    (Goes-ref 𝓛 2 0 tt (plain (λ _. BlockOf E)), (Goes-dropped 𝓛 2 (plain (λ _. u32)) yes (λ κs x w. refl), tt))
    (f.Key.name (args E)) fn (code.unfolded 𝓤 𝓛.H 𝓜 𝓡 wired (T, tt))
    (λ κs. (mut_vals, (uint_vals w32, tt))) (λ κs. (mut_Tells (named 0) κs.0 (BlockOf E), (uint_Tells w32, tt)))
    (λ κs qs bounds a _ are.
    let b = a.0.ref_ptr.0 in let o = a.0.ref_ptr.1 in let row = a.0.now in let place = a.1.0 in let vs = mut_vals a.0 in
    let y : W.Ghost = ((κs, qs, bounds, a, (vs, (uint_vals w32 place, tt))), tt) in
    qed 𝓛 (((‵ (flft κs.0 qs.0) ⊛ ‵ (flft κs.1.0 qs.1.0) ⊛ ‵ ftrue) ⊛ ‵
    ((MutRef (named 0) κs.0 (BlockOf E)).own_val a.0 vs) ⊛ ‵ (u32.own_val place (uint_vals w32 place)) ⊛ ‵ ftrue)
    ∷ (raw (fact 𝓤 (κs.1.0 ⊑ T.lives)) ⊛ raw (fact 𝓤 (IsSome (get_or row place None)))) ∷ []) ∵
    split ! $ move ! (2 ∷ []) $ split ! $ heard ! _ (λ _. heard ! _ (λ there.
    move ! (1 ∷ []) $ split ! $ move ! (2 ∷ []) $ split ! $ move ! (2 ∷ 0 ∷ 1 ∷ []) $ keep ! (0 ∷ 1 ∷ 2 ∷ []) $
    -- [self; the token of its lifetime; the other tokens]
    let value = (its_value _ there).0 in let is = (its_value _ there).1 in let within = some_place row place there in
    enter ! _ _ _ _ _ $ alloc_all ! (λ l. pass_all ! refl ((tt, tt), ((tt, record { fits = are.1.0.1 }), tt)) $
    fsplit3 ! $ move ! (1 ∷ 2 ∷ 3 ∷ []) $ opens ! tt (BlockOf E)
    {h = row} b o (λ us. move ! (1 ∷ []) $ parts E ! row us (λ memory byte range small word.
    let s = type_size (R E) in let capacity = length row in
    let fits = in_reach place capacity s within range small in let from = at E 𝓛 memory byte place in
    let new = set row place None in
    -- [the places; the right to free them; the fields; the block's word; the open borrow, in three entries; self's
    -- first part; the other tokens]
    rewrite ! 3 (λ (ws : List Val). ‵ (cell_at full_share (BlockOf E).mir ws b o)) word refl $ first ! $ blocks ! $
    sets ! (of_opd ! (load ! (through ! refl (fld ! refl (stop !))) (look_in ! 3 (sub ! 0 refl (whole !))))) refl
    (tt, tt) $
    sets ! (un ! (get ! refl) (record { fits = fits.0 })) refl (tt, record { fits = fits.0 }) $
    sets ! (bin ! (get ! refl) (size_lit ! (record { fits = fits.1 })) (record { fits = fits.2 })) refl
    (tt, record { fits = fits.2 }) $
    sets ! (bin ! (get ! refl) (get ! refl) tt) refl (tt, tt) $
    use1 𝓛 (‵ (place_owns (R E) memory byte place (Some value)) ⊛ ‵ (others_own E 𝓛 memory byte capacity place row))
    (place_out E 𝓛 memory byte capacity place row (Some value) is within) $ split ! $
    use1 𝓛 (some (λ (v : Val). ‵ (fat full_share (elτ E) memory from v) ⊛ ‵ (T.own_val value (v ∷ []))))
    (part_out 𝓛 (R E) refl full_share value memory from) $
    pick ! (λ v. split ! $ well_typed ! (λ good.
    sets_last ! (of_opd ! (load ! (through ! refl (stop !)) (look ! 0 refl))) refl good $
    exec ! 𝓣.C 𝓣.Λ (env fn.locals l) (after 1 fn.body) (at_ret _ (W.post y)) $ sets ! (of_opd ! (get ! refl)) refl good
    $
    use1 𝓛 (‵ (froom (elτ E) memory from)) (𝓛.laws.at_room (elτ E) memory from v) $ as_raw ! (elτ E) memory from $
    move ! (0 ∷ 2 ∷ []) $ use2 𝓛 (‵ (places_own E memory byte capacity new))
    (place_in E 𝓛 memory byte capacity place row None refl within) $
    move ! (0 ∷ 2 ∷ 3 ∷ []) $ use3 𝓛 (‵ ((BlockOf E).own_val new us))
    (joins E 𝓛 memory byte capacity new us (length-set row place None) range small) $
    rewrite ! 2 (λ (ws : List Val). ‵ (cell_at full_share (BlockOf E).mir ws b o)) (sym word) refl $
    -- [the block; the value; the block's word; the open borrow, in three entries; self's first part; the other tokens]
    move ! (2 ∷ 0 ∷ 3 ∷ 4 ∷ 5 ∷ []) $ closes ! tt (BlockOf E) new us b o $
    returns ! (look_at ! 0 refl) $ free_all ! refl $
    suffices ! _ (ends_at 𝓛 ended stayed c y v value (new, (tt, tt)) (tt, (tt, tt))) $ says_two ! (is, refl) $
    move ! (4 ∷ 0 ∷ 1 ∷ []) $ group ! 3 $ nothing ! $ nothing ! $ join ! $ move ! (1 ∷ 0 ∷ []) $ join ! $
    move ! (1 ∷ 3 ∷ []) $ join ! $ frame ! $ frame ! $ done !))))))))
