-- `get_mut`: one place's value leaves on loan, and what the borrow ends with makes the block whole again.
use lib.ListN.{length, set, get_or, length-set}
use mathlib.Core.List.{List, [], ◌∷◌}
use mathlib.Core.Path.{refl, sym}
use Prim.Native.Nat.{ℕ, ◌*◌, ◌<◌, ◌^◌}
use seplogic.Ra.Ura.{Ura}
use mir.MapTy.{inst_fn}
use mir.Syntax.{named, w32}
use mir.Val.{Val, vptr}
use base.Fraction.{full_share}
use base.Fml.{Fml, GName, fsep, ftrue, flft}
use base.Logic.{ent, sep, id⊢}
use contract.BorrowLft.{◌⊑◌}
use contract.Monad.{fact}
use contract.Running.{tables}
use types.Logic.{Logic, sem}
use types.Kit.{‵, raw, ◌⊛◌, some, later, at_ret, ◌$◌, ◌∵◌, !, qed, await, done, move, keep, use1, use2, use3, pick}
use types.Kit.{split, join, group, frame, fsplit, fsplit3, fjoin, fpack, rewrite, suffices}
use types.Part.{whole, sub, look_in}
use types.Run.{enter, first, blocks, bin, un, size_lit, of_opd, load, addr, fld, stop, exec, returns}
use types.ByLocal.{alloc_all, pass_all, free_all, look_at, get, through, sets, sets_last, env}
use denote.Builtin.{u32}
use denote.Exit.{yes, no}
use denote.Follow.{follows, Part, lends_Part}
use denote.Memory.{mem, cell_at, part_of}
use denote.Plain.{uint_vals, uint_Tells}
use denote.RawPtr.{block_ptr}
use denote.Ref.{MutBor, MutRef, mut_vals, mut_Tells}
use denote.Signature.{plain, mut_ref_to}
use denote.Steps.{nothing, heard, opens}
use denote.Triple.Walked.{Stays, stay_dropped, Goes-spent_ref, Goes-dropped, walk_of, ends_at, says}
use Rattle.std.proofs.raw_atomic.Walks.{proved}
use Rattle.std.specs.Mem.{type_size}
use Rattle.std.specs.Prelude.{Some, None, IsSome}
use Rattle.std_alloc.proofs.VecSteps.Shapes.{after}
use Rattle.core.proofs.mem.Param.{El, R, args, el_x}
use Rattle.firm_arena.specs.inner.Ownership.{place_owns, freeable}
use Rattle.firm_arena.specs.contracts.block.Block.get_mut as f
use Rattle.firm_arena.proofs.Parts.{BlockOf, Row, places_own, fields_own, parts, joins}
use Rattle.firm_arena.proofs.Rows.{at, others_own, place_out, place_in, some_place, its_value, in_reach}
use Rattle.firm_arena.proofs.block.Block.get_mut.Statement.{statement}
use Rattle.firm_arena.proofs.block.Block.get_mut.Code as code

module _ (E : El) {M : Type 1}
    {𝓤 : Ura M} (𝓛 : Logic 𝓤) (row : Row E) (place : ℕ) (us : List Val) (b o memory byte : ℕ) where
  abbrev with_value : el_x E → Row E
  with_value value = set row place (Some value)

  -- what stays behind while the value is lent
  abbrev behind : Fml
  behind =
      fsep (cell_at full_share (BlockOf E).mir us b o)
      (fsep (fields_own E memory byte (length row) us)
      (fsep (freeable (R E) (length row) (block_ptr memory byte)) (others_own E 𝓛 memory byte (length row) place row)))

  -- the value that comes back makes it a block again
  comes_back : place < length row → length row < 2 ^ 32 → length row * type_size (R E) < 2 ^ 63 → (value : el_x E)
      → ent 𝓤 (sep 𝓤 (sem 𝓛 ((mem (R E)).own_at value memory (at E 𝓛 memory byte place))) (sem 𝓛 behind))
      (sem 𝓛 ((mem (BlockOf E)).own_at (with_value value) b o))
  unfolding part_of
  comes_back within range small value =
      let capacity = length row in
      qed 𝓛 (‵ (place_owns (R E) memory byte place (Some value)) ∷ ‵ behind ∷ []) ∵ move ! (1 ∷ []) $ fsplit3 ! $ move !
      (2 ∷ []) $ fsplit ! $
      -- [the right to free the places; the other places; the word; the fields; the value]
      move ! (4 ∷ 1 ∷ []) $ use2 𝓛 (‵ (places_own E memory byte capacity (with_value value)))
      (place_in E 𝓛 memory byte capacity place row (Some value) refl within) $
      move ! (0 ∷ 1 ∷ 3 ∷ []) $ use3 𝓛 (‵ ((BlockOf E).own_val (with_value value) us))
      (joins E 𝓛 memory byte capacity (with_value value) us (length-set row place (Some value)) range small) $
      move ! (1 ∷ 0 ∷ []) $ fjoin ! $ fpack ! (List Val)
      (λ (ws : List Val). fsep (cell_at full_share (BlockOf E).mir ws b o) ((BlockOf E).own_val (with_value value) ws))
      us $ done !

pub get_mut_spec : {M : Type 1} → statement M
get_mut_spec 𝓤 𝓛 𝓜 𝓡 wired T laws =
    let E : El = record { row = T; laws = laws } in
    let ended = f.ended T in
    let c = f.clauses T 𝓛 𝓜.mem 𝓡.returns in
    let stayed : Stays ended.signature.params ended.kept =
    (stay_dropped (mut_ref_to (0 ∷ []) tt (plain (λ _. BlockOf E))) no, (stay_dropped (plain (λ _. u32)) yes, tt)) in
    let 𝓣 = tables 𝓤 𝓛.H 𝓜 𝓡 𝓡.env in let W = walk_of 𝓛 ended stayed c in
    let fn = inst_fn (args E) code.function in
    proved 𝓛 ended stayed c 𝓜 𝓡 (
      Goes-spent_ref 𝓛 2 (0 ∷ []) tt (plain (λ _. BlockOf E)),
      (Goes-dropped 𝓛 2 (plain (λ _. u32)) yes (λ κs x w. refl), tt),
    )
    (f.Key.name (args E)) fn (code.unfolded 𝓤 𝓛.H 𝓜 𝓡 wired (T, tt))
    (λ κs. (mut_vals, (uint_vals w32, tt))) (λ κs. (mut_Tells (named 0) κs.0 (BlockOf E), (uint_Tells w32, tt)))
    (λ κs qs bounds a _ are.
    let b = a.0.ref_ptr.0 in let o = a.0.ref_ptr.1 in let γ = a.0.ghost_name in let row = a.0.now in let place =
    a.1.0 in let vs = mut_vals a.0 in
    let y : W.Ghost = ((κs, qs, bounds, a, (vs, (uint_vals w32 place, tt))), tt) in
    qed 𝓛 (((‵ (flft κs.0 qs.0) ⊛ ‵ (flft κs.1.0 qs.1.0) ⊛ ‵ ftrue) ⊛ ‵
    ((MutRef (named 0) κs.0 (BlockOf E)).own_val a.0 vs) ⊛ ‵ (u32.own_val place (uint_vals w32 place)) ⊛ ‵ ftrue)
    ∷ (raw (fact 𝓤 (κs.1.0 ⊑ T.lives)) ⊛ raw (fact 𝓤 (IsSome (get_or row place None)))) ∷ []) ∵
    split ! $ move ! (2 ∷ []) $ split ! $ heard ! _ (λ _. heard ! _ (λ there.
    move ! (1 ∷ []) $ split ! $ move ! (2 ∷ []) $ split ! $ move ! (2 ∷ 0 ∷ 1 ∷ []) $ keep ! (0 ∷ 1 ∷ 2 ∷ []) $
    -- [self; the token of its lifetime; the other tokens]
    let value = (its_value _ there).0 in let is = (its_value _ there).1 in let within = some_place row place there in
    enter ! _ _ _ _ _ $ alloc_all ! (λ l. pass_all ! refl ((tt, tt), ((tt, record { fits = are.1.0.1 }), tt)) $
    fsplit3 ! $ move ! (1 ∷ 2 ∷ 3 ∷ []) $ opens ! tt (BlockOf E)
    {h = row} b o (λ us. move ! (1 ∷ []) $ parts E ! row us (λ memory byte range small word.
    let s = type_size (R E) in let capacity = length row in let fits =
    in_reach place capacity s within range small in let from = at E 𝓛 memory byte place in
    let ends : T.Denot → (BlockOf E).Denot = with_value E 𝓛 row place us b o memory byte in let kept =
    behind E 𝓛 row place us b o memory byte in
    let way = comes_back E 𝓛 row place us b o memory byte within range small in let code_now =
    (BlockOf E).coded.code row in
    -- [the places; the right to free them; the fields; the block's word; the open borrow, in three entries; self's
    -- first part; the other tokens]
    rewrite ! 3 (λ (ws : List Val). ‵ (cell_at full_share (BlockOf E).mir ws b o)) word refl $ first ! $ blocks ! $
    sets ! (of_opd ! (load ! (through ! refl (fld ! refl (stop !))) (look_in ! 3 (sub ! 0 refl (whole !))))) refl
    (tt, tt) $
    sets ! (un ! (get ! refl) (record { fits = fits.0 })) refl (tt, record { fits = fits.0 }) $
    sets ! (bin ! (get ! refl) (size_lit ! (record { fits = fits.1 })) (record { fits = fits.2 })) refl
    (tt, record { fits = fits.2 }) $
    sets ! (bin ! (get ! refl) (get ! refl) tt) refl (tt, tt) $
    use1 𝓛 (‵ (place_owns (R E) memory byte place (Some value)) ⊛ ‵ (others_own E 𝓛 memory byte capacity place row))
    (place_out E 𝓛 memory byte capacity place row (Some value) is within) $ split ! $
    sets_last ! (addr ! (through ! refl (stop !))) refl (tt, tt) $
    exec ! 𝓣.C 𝓣.Λ (env fn.locals l) (after 1 fn.body) (at_ret _ (W.post y)) $ sets ! (of_opd ! (get ! refl)) refl
    (tt, tt) $
    rewrite ! 4 (λ (ws : List Val). ‵ (cell_at full_share (BlockOf E).mir ws b o)) (sym word) refl $
    move ! (2 ∷ 1 ∷ []) $ fjoin ! $ move ! (2 ∷ 0 ∷ []) $ fjoin ! $ move ! (2 ∷ 0 ∷ []) $ fjoin ! $ move !
    (2 ∷ 3 ∷ 4 ∷ 1 ∷ 0 ∷ []) $ group ! 5 $
    -- [the open borrow with the value and what stays behind; self's first part; the other tokens]
    use1 𝓛 (later (some
    (λ (δ : GName).
    raw (Part 𝓛 (BlockOf E) (R E) ends (named 0) κs.0 qs.0 b o memory from γ (sem 𝓛 kept) way value δ))))
    (lends_Part 𝓛 (BlockOf E) (R E) ends (named 0) κs.0 qs.0 b o memory from γ (sem 𝓛 kept) way code_now code_now value)
    $ await ! tt $ pick ! (λ δ.
    let lent : MutBor T.Denot = record { ref_ptr = (memory, from); ghost_name = δ; now = value } in
    use1 𝓛 (‵ ((MutRef (named 0) κs.0 (R E)).own_val lent (vptr memory from ∷ [])) ⊛ ‵ (flft κs.0 qs.0) ⊛ ‵
    (follows (BlockOf E) (R E) γ δ ends))
    (id⊢ 𝓤 _) $
    returns ! (look_at ! 0 refl) $ free_all ! refl $
    suffices ! _ (ends_at 𝓛 ended stayed c y (vptr memory from) lent (tt, (tt, tt)) (tt, (tt, tt))) $
    split ! $ move ! (1 ∷ []) $ split ! $ move ! (2 ∷ []) $ nothing ! $ nothing ! $ join ! $ nothing ! $ join ! $ join !
    $
    move ! (1 ∷ 4 ∷ []) $ join ! $ join ! $ frame ! $ keep ! (0 ∷ []) $ says ! is $ done !)))))))
