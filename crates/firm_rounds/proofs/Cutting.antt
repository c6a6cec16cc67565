-- The shares that the keeping seat has while passes are cut.
use Rattle.std.proofs.Common.{◌≡◌, ℕ, zero, suc, ◌+◌, ◌-◌, ◌<◌, ◌≤◌, List, [], ◌∷◌, ◌++◌, sym, ap, ◌∙◌, arith}
use Rattle.firm_rounds.specs.declared.protocol.Share.{Share}
use Rattle.firm_rounds.specs.declared.protocol.Sight.{Sight}
use Rattle.firm_rounds.specs.Rounds.{share, beyond}
use Rattle.firm_rounds.specs.inner.Seats.{opening, sight, fresh, with_new_share, grown_to, held_from}
use Rattle.firm_rounds.specs.inner.Seats.{without_second, second}
use Rattle.firm_rounds.specs.inner.Seats.{left_over, cut_off}
use Rattle.firm_rounds.proofs.Fairs.{grown_to_more}

pub fresh_cons : (k m : ℕ) → fresh k (suc m) ≡ share k 0 [] ∷ fresh (k + 1) m
fresh_cons k zero = let same : k + 0 ≡ k = omega arith in ap (λ (j : ℕ). share j 0 [] ∷ []) same
fresh_cons k (suc m) =
    let same : k + suc m ≡ k + 1 + m = omega arith in
    ap (λ (xs : List Share). xs ++ share (k + suc m) 0 [] ∷ []) (fresh_cons k m)
    ∙ ap (λ (j : ℕ). share k 0 [] ∷ (fresh (k + 1) m ++ share j 0 [] ∷ [])) same

held_shares : (k n : ℕ) → k < n → fresh k (n - k) ≡ share k 0 [] ∷ fresh (k + 1) (n - (k + 1))
held_shares k n low = let m : n - k ≡ suc (n - (k + 1)) = omega arith in ap (fresh k) m ∙ fresh_cons k (n - (k + 1))

pub held_left : (v : Sight) (k n : ℕ) → v ≡ held_from k n → k < n → left_over v ≡ held_from (k + 1) n
held_left v k n e low =
    ap left_over e
    ∙ ap (λ (xs : List Share). sight (n + 1) (without_second (share beyond 0 [] ∷ xs))) (held_shares k n low)

pub held_cut : (v : Sight) (k n : ℕ) → v ≡ held_from k n → k < n → cut_off v ≡ sight v.all (share k 0 [] ∷ [])
held_cut v k n e low =
    let a : v.all ≡ n + 1 = ap (λ (x : Sight). x.all) e in
    ap cut_off e ∙ (ap (λ (xs : List Share). sight (n + 1) (second (share beyond 0 [] ∷ xs))) (held_shares k n low)
    ∙ ap (λ (j : ℕ). sight j (share k 0 [] ∷ [])) (sym a))

pub grown_on : (v : Sight) (k c : ℕ) → v ≡ grown_to (k + c) → with_new_share v ≡ grown_to (k + (c + 1))
grown_on v k c e =
    let same : k + c + 1 ≡ k + (c + 1) = omega arith in ap with_new_share e ∙ (grown_to_more (k + c) ∙ ap grown_to same)

-- a seat that holds shares, at how many places it counts itself
pub held_again : (v : Sight) (k n : ℕ) → v ≡ held_from k (n - 1) → v.all ≡ n → v ≡ held_from k (v.all - 1)
held_again v k n e same = e ∙ ap (λ (m : ℕ). held_from k (m - 1)) (sym same)

pub held_on : (v : Sight) (from k m n : ℕ) → v ≡ held_from (from + k + 1) (m - 1) → m ≡ n
    → v ≡ held_from (from + (k + 1)) (n - 1)
held_on v from k m n e same =
    let on : from + k + 1 ≡ from + (k + 1) = omega arith in
    e ∙ (ap (λ (j : ℕ). held_from j (m - 1)) on ∙ ap (λ (j : ℕ). held_from (from + (k + 1)) (j - 1)) same)

pub one_share : (v : Sight) (n : ℕ) (x : Share) → v ≡ sight n (x ∷ []) → v ≡ sight v.all (x ∷ [])
one_share v n x e = e ∙ ap (λ (j : ℕ). sight j (x ∷ [])) (sym (ap (λ (w : Sight). w.all) e))

-- the seat that holds no more shares of places
pub last_share : (v : Sight) (k n : ℕ) → v ≡ held_from k n → n ≤ k → v ≡ sight v.all (share beyond 0 [] ∷ [])
last_share v k n e past =
    let none : n - k ≡ 0 = omega arith in
    one_share v (n + 1) (share beyond 0 [])
    (e ∙ ap (λ (m : ℕ). sight (n + 1) (share beyond 0 [] ∷ fresh k m)) none)

-- the number of places at which a seat with shares of this many places counts itself
pub grown_start : (v : Sight) → v ≡ opening → v ≡ grown_to (v.all - 1)
grown_start v e = e ∙ ap (λ (n : ℕ). grown_to (n - 1)) (sym (ap (λ (w : Sight). w.all) e))

pub grown_again : (v : Sight) (n : ℕ) → v ≡ grown_to n → v ≡ grown_to (v.all - 1)
grown_again v n e =
    let a : v.all ≡ n + 1 = ap (λ (w : Sight). w.all) e in
    let same : n ≡ v.all - 1 = omega (arith, a) in e ∙ ap grown_to same

pub held_grown : (v : Sight) (n : ℕ) → v ≡ grown_to n → v ≡ held_from 0 (v.all - 1)
held_grown v n e =
    let same : v.all - 1 ≡ v.all - 1 - 0 = omega arith in
    grown_again v n e ∙ ap (λ (m : ℕ). sight (v.all - 1 + 1) (share beyond 0 [] ∷ fresh 0 m)) same

-- all shares of a queue's places and of its passes that get jobs
pub all_grown : (first second third : Sight) (puts pops : ℕ) → first ≡ opening
    → second ≡ grown_to (first.all - 1 + puts)
    → third ≡ grown_to (second.all - 1 + (pops - 1)) → 0 < pops → third.all ≡ puts + pops
all_grown first second third puts pops e f g some =
    let a : first.all ≡ 1 = ap (λ (w : Sight). w.all) e in
    let b : second.all ≡ first.all - 1 + puts + 1 = ap (λ (w : Sight). w.all) f in
    let d : third.all ≡ second.all - 1 + (pops - 1) + 1 = ap (λ (w : Sight). w.all) g in omega (arith, a, b, d)
