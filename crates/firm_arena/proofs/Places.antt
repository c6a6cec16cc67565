-- Statements about each of many places, and how one place's part is replaced by another.
use mathlib.Core.Path.{◌≡◌, refl, sym, ap, ◌∙◌}
use mathlib.Core.Logic.{inl, inr}
use mathlib.Core.List.{[], ◌∷◌}
use Prim.Native.Nat.{ℕ, zero, suc, ◌+◌, ◌<◌, ◌≤◌}
use native.Mathlib.Omega.{arith}
use seplogic.Ra.Ura.{Ura}
use base.Logic.{ent, sep}
use base.Fml.{Fml, ftrue, fsep}
use types.Logic.{Logic, sem}
use types.Kit.{‵, ◌⊛◌, ◌$◌, ◌∵◌, !, qed, by, move, drop, use2, split, frame, fsplit, fjoin, rewrite, done}
use denote.Steps.{nothing}
use Rattle.std.specs.Prelude.{◌≢◌}
use Rattle.std.proofs.lemmas.Bool.{cases_eq}
use Rattle.firm_arena.specs.inner.Ownership.{each_place}

-- the same of each place but one
abbrev pub but_for : ℕ → (ℕ → Fml) → ℕ → Fml
but_for zero says zero = ftrue
but_for zero says (suc i) = says (suc i)
but_for (suc place) says zero = says zero
but_for (suc place) says (suc i) = but_for place (λ k. says (suc k)) i

but_for-same : (place : ℕ) (says : ℕ → Fml) → but_for place says place ≡ ftrue
but_for-same zero says = refl
but_for-same (suc place) says = but_for-same place (λ k. says (suc k))

but_for-other : (place i : ℕ) (says : ℕ → Fml) → i ≢ place → but_for place says i ≡ says i
but_for-other zero zero says apart = absurd (apart refl)
but_for-other zero (suc i) says apart = refl
but_for-other (suc place) zero says apart = refl
but_for-other (suc place) (suc i) says apart = but_for-other place i (λ k. says (suc k)) (λ e. apart (ap suc e))

each_place-same : (F G : ℕ → Fml) (first count : ℕ) → ((i : ℕ) → first ≤ i → F i ≡ G i)
    → each_place F first count ≡ each_place G first count
each_place-same F G first zero same = refl
each_place-same F G first (suc count) same =
    λ j. fsep (same first (omega arith) j)
    (each_place-same F G (suc first) count (λ i past. same i (omega (arith, past))) j)

module _ {M : Type 1} {𝓤 : Ura M} (𝓛 : Logic 𝓤) where
  -- two families that differ at one place: its part goes out as the one says it, and comes in as the other does
  pub exchange : (F G : ℕ → Fml) (place : ℕ) → ((i : ℕ) → i ≢ place → F i ≡ G i) → (first count : ℕ) → first ≤ place
      → place < first + count
      → ent 𝓤 (sep 𝓤 (sem 𝓛 (each_place F first count)) (sem 𝓛 (G place)))
      (sep 𝓤 (sem 𝓛 (F place)) (sem 𝓛 (each_place G first count)))
  exchange F G place same first zero from within = absurd (omega arith)
  exchange F G place same first (suc count) from within = elim (cases_eq first place) [
    | inl here ↦ qed 𝓛 (‵ (each_place F first (suc count)) ∷ ‵ (G place) ∷ []) ∵ fsplit ! $
        rewrite ! 0 (λ (i : ℕ). ‵ (F i)) here refl $ frame ! $
        rewrite ! 0 (λ (says : Fml). ‵ says)
        (each_place-same F G (suc first) count (λ i past. same i (λ e. absurd (omega arith)))) refl $
        rewrite ! 1 (λ (i : ℕ). ‵ (G i)) (sym here) refl $ move ! (1 ∷ 0 ∷ []) $ fjoin ! $ done !
    | inr apart ↦ qed 𝓛 (‵ (each_place F first (suc count)) ∷ ‵ (G place) ∷ []) ∵ fsplit ! $
        rewrite ! 0 (λ (says : Fml). ‵ says) (same first apart) refl $ move ! (1 ∷ 2 ∷ []) $
        use2 𝓛 (‵ (F place) ⊛ ‵ (each_place G (suc first) count))
        (exchange F G place same (suc first) count (omega (arith, from, apart)) (omega (arith, within))) $ split ! $
        frame ! $ move ! (1 ∷ 0 ∷ []) $ fjoin ! $ done !
  ]

  -- one place's part, with the rest
  pub taken_out : (F : ℕ → Fml) (place count : ℕ) → place < count
      → ent 𝓤 (sem 𝓛 (each_place F 0 count)) (sep 𝓤 (sem 𝓛 (F place)) (sem 𝓛 (each_place (but_for place F) 0 count)))
  taken_out F place count within = qed 𝓛 (‵ (each_place F 0 count) ∷ []) ∵ nothing ! $
      rewrite ! 0 (λ (says : Fml). ‵ says) (sym (but_for-same place F)) refl $ move ! (1 ∷ 0 ∷ []) $
      by ! (exchange F (but_for place F) place (λ i apart. sym (but_for-other place i F apart)) 0 count (omega arith)
      (omega (arith, within)))

  pub put_back : (F G : ℕ → Fml) (place count : ℕ) → ((i : ℕ) → i ≢ place → F i ≡ G i) → place < count
      → ent 𝓤 (sep 𝓤 (sem 𝓛 (G place)) (sem 𝓛 (each_place (but_for place F) 0 count))) (sem 𝓛 (each_place G 0 count))
  put_back F G place count same within =
      qed 𝓛 (‵ (G place) ∷ ‵ (each_place (but_for place F) 0 count) ∷ []) ∵ move ! (1 ∷ 0 ∷ []) $
      use2 𝓛 (‵ (but_for place F place) ⊛ ‵ (each_place G 0 count))
      (exchange (but_for place F) G place (λ i apart. but_for-other place i F apart ∙ same i apart) 0 count
      (omega arith) (omega (arith, within)))
      $ split ! $ drop ! $ done !
