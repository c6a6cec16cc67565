-- Lists of arcs: what they contain, and a list without an arc.
use Rattle.std.proofs.Common.{◌≡◌, ◌≢◌, zero, suc, ◌+◌, ◌⊎◌, inl, inr, not, List, [], ◌∷◌}
use Rattle.std.proofs.Common.{length, Contains, refl, sym, ap, ◌∙◌, subst, arith}
use Rattle.firm_net.specs.declared.row.ArcId.{ArcId}
use Rattle.firm_net.specs.Net.{EachOnce, same_arc, without_arc}
use Rattle.firm_net.specs.Laws.{same_arc_or_not, same_arc_self, same_arc_other}
use Rattle.std.proofs.lemmas.Bool.{cond-true, cond-false}

pub contains-here : (a : ArcId) (rest : List ArcId) → Contains (a ∷ rest) a
contains-here a rest = (0, omega arith, refl)

pub contains-there : (b : ArcId) (rest : List ArcId) (a : ArcId) → Contains rest a → Contains (b ∷ rest) a
contains-there b rest a (k, below, is) = (suc k, omega arith, is)

pub contains-nothing : (a : ArcId) → Contains [] a → ⊥
contains-nothing a (k, below, is) = omega arith

pub contains-cases : (b : ArcId) (rest : List ArcId) (a : ArcId) → Contains (b ∷ rest) a → (b ≡ a) ⊎ Contains rest a
contains-cases b rest a (zero, below, is) = inl is
contains-cases b rest a (suc k, below, is) = inr (k, omega arith, is)

-- a list that does not begin with the arc keeps its first without it
pub without_arc-other : (a b : ArcId) (rest : List ArcId) → a ≢ b → without_arc a (b ∷ rest) ≡ b ∷ without_arc a rest
without_arc-other a b rest other =
    cond-true (not (same_arc a b)) (b ∷ without_arc a rest) (without_arc a rest) (ap not (same_arc_other a b other))

pub without_arc-skips : (a : ArcId) (rest : List ArcId) → without_arc a (a ∷ rest) ≡ without_arc a rest
without_arc-skips a rest =
    cond-false (not (same_arc a a)) (a ∷ without_arc a rest) (without_arc a rest) (ap not (same_arc_self a))

-- a list without an arc that it has not is the list
pub without_arc-absent : (a : ArcId) (ids : List ArcId) → (Contains ids a → ⊥) → without_arc a ids ≡ ids
without_arc-absent a [] absent = refl
without_arc-absent a (b ∷ rest) absent =
    elim (same_arc_or_not a b) [
      | inl same ↦ absurd (absent (subst (λ (c : ArcId). Contains (b ∷ rest) c) (sym same) (contains-here b rest)))
      | inr other ↦
          without_arc-other a b rest other
          ∙ ap (λ (l : List ArcId). b ∷ l) (without_arc-absent a rest (λ h. absent (contains-there b rest a h)))
    ]

-- the list after its first arc, where that arc occurs once
pub without_arc-first : (a : ArcId) (rest : List ArcId) → (Contains rest a → ⊥) → without_arc a (a ∷ rest) ≡ rest
without_arc-first a rest absent = without_arc-skips a rest ∙ without_arc-absent a rest absent

-- what a list without an arc contains
pub contains-without : (a : ArcId) (ids : List ArcId) (b : ArcId) → Contains (without_arc a ids) b
    → (a ≢ b) × Contains ids b
contains-without a [] b h = absurd (contains-nothing b h)
contains-without a (c ∷ rest) b h =
    elim (same_arc_or_not a c) [
      | inl same ↦
          let shorter : without_arc a (c ∷ rest) ≡ without_arc a rest =
          subst (λ (d : ArcId). without_arc a (d ∷ rest) ≡ without_arc a rest) same (without_arc-skips a rest) in
          let further : (a ≢ b) × Contains rest b =
          contains-without a rest b (subst (λ (l : List ArcId). Contains l b) shorter h) in
          (further.0, contains-there c rest b further.1)
      | inr other ↦
          elim (contains-cases c (without_arc a rest) b
          (subst (λ (l : List ArcId). Contains l b) (without_arc-other a c rest other) h)) [
            | inl is ↦
                (λ e. other (e ∙ sym is), subst (λ (d : ArcId). Contains (c ∷ rest) d) is (contains-here c rest))
            | inr later ↦
                let further : (a ≢ b) × Contains rest b = contains-without a rest b later in
                (further.0, contains-there c rest b further.1)
          ]
    ]

pub without-contains : (a : ArcId) (ids : List ArcId) (b : ArcId) → a ≢ b → Contains ids b
    → Contains (without_arc a ids) b
without-contains a [] b other h = absurd (contains-nothing b h)
without-contains a (c ∷ rest) b other h =
    elim (same_arc_or_not a c) [
      | inl same ↦
          let shorter : without_arc a (c ∷ rest) ≡ without_arc a rest =
          subst (λ (d : ArcId). without_arc a (d ∷ rest) ≡ without_arc a rest) same (without_arc-skips a rest) in
          elim (contains-cases c rest b h) [
            | inl is ↦ absurd (other (same ∙ is))
            | inr later ↦ subst (λ (l : List ArcId). Contains l b) (sym shorter) (without-contains a rest b other later)
          ]
      | inr differ ↦
          subst (λ (l : List ArcId). Contains l b) (sym (without_arc-other a c rest differ))
          (elim (contains-cases c rest b h) [
            | inl is ↦
                subst (λ (d : ArcId). Contains (c ∷ without_arc a rest) d) is (contains-here c (without_arc a rest))
            | inr later ↦ contains-there c (without_arc a rest) b (without-contains a rest b other later)
          ])
    ]

pub once-without : (a : ArcId) (ids : List ArcId) → EachOnce ids → EachOnce (without_arc a ids)
once-without a [] once = tt
once-without a (c ∷ rest) once =
    elim (same_arc_or_not a c) [
      | inl same ↦
          let shorter : without_arc a (c ∷ rest) ≡ without_arc a rest =
          subst (λ (d : ArcId). without_arc a (d ∷ rest) ≡ without_arc a rest) same (without_arc-skips a rest) in
          subst (λ (l : List ArcId). EachOnce l) (sym shorter) (once-without a rest once.1)
      | inr differ ↦
          subst (λ (l : List ArcId). EachOnce l) (sym (without_arc-other a c rest differ))
          (λ h. once.0 (contains-without a rest c h).1, once-without a rest once.1)
    ]

-- one arc fewer
pub length-without : (a : ArcId) (ids : List ArcId) → EachOnce ids → Contains ids a
    → length (without_arc a ids) + 1 ≡ length ids
length-without a [] once h = absurd (contains-nothing a h)
length-without a (c ∷ rest) once h =
    elim (same_arc_or_not a c) [
      | inl same ↦
          let shorter : without_arc a (c ∷ rest) ≡ rest =
          subst (λ (d : ArcId). without_arc a (d ∷ rest) ≡ without_arc a rest) same (without_arc-skips a rest)
          ∙ without_arc-absent a rest (λ k. once.0 (subst (λ (d : ArcId). Contains rest d) same k)) in
          omega (arith, ap (λ (l : List ArcId). length l) shorter)
      | inr differ ↦
          elim (contains-cases c rest a h) [
            | inl is ↦ absurd (differ (sym is))
            | inr later ↦
                omega (
                  arith,
                  ap (λ (l : List ArcId). length l) (without_arc-other a c rest differ),
                  length-without a rest once.1 later,
                )
          ]
    ]
