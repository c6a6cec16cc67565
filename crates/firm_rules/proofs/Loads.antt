-- The machines of a placement, in order.
use Rattle.std.proofs.Common.{◌≡◌, ℕ, zero, suc, ◌+◌, ◌<◌, ◌≤◌, Bool, true, false, ◌&&◌, List, [], ◌∷◌, length, map}
use Rattle.std.proofs.Common.{refl, sym, ap, ◌∙◌, arith}
use Rattle.std.specs.Prelude.{nat_le, slice_index}
use Rattle.std.specs.List.{list_all}
use Rattle.std.proofs.lemmas.Bool.{le-leb, lt-leb}
use Rattle.firm_rules.specs.declared.book.Machine.{Machine}
use Rattle.firm_rules.specs.declared.rounds.Choice.{Choice}
use Rattle.firm_rules.specs.Placement.{numbers, load}
use Rattle.firm_rules.proofs.Legals.{list_all-append}

-- the machines from place `j` on have room for their loads
abbrev pub roomy : List Choice → ℕ → List Machine → Bool
roomy placement j [] = true
roomy placement j (machine ∷ machines) = nat_le (load placement j) machine.slots && roomy placement (j + 1) machines

abbrev slots : List Machine → List ℕ
slots machines = map (λ machine. machine.slots) machines

all_front : (f : ℕ → Bool) (n : ℕ) → list_all f (numbers (suc n)) ≡ (f 0 && list_all (λ j. f (suc j)) (numbers n))
all_front f zero = refl
all_front f (suc n) =
    list_all-append f (numbers (suc n)) (suc n ∷ [])
    ∙ ap (λ b. b && (f (suc n) && true)) (all_front f n)
    ∙ regroup (f 0) (list_all (λ j. f (suc j)) (numbers n)) (f (suc n) && true)
    ∙ ap (λ b. f 0 && b) (sym (list_all-append (λ (j : ℕ). f (suc j)) (numbers n) (n ∷ [])))
  where
    regroup : (a b c : Bool) → ((a && b) && c) ≡ (a && (b && c))
    regroup true b c = refl
    regroup false b c = refl

all_same : (f g : ℕ → Bool) (js : List ℕ) → ((j : ℕ) → f j ≡ g j) → list_all f js ≡ list_all g js
all_same f g [] h = refl
all_same f g (j ∷ js) h = ap (λ b. b && list_all f js) (h j) ∙ ap (λ b. g j && b) (all_same f g js h)

-- the load of machine `k + j` fits the slots of machine `j` of those given
abbrev fits : List Choice → ℕ → List Machine → ℕ → Bool
fits placement k ms j = nat_le (load placement (k + j)) (slice_index (slots ms) j)

roomy_from : (placement : List Choice) (k : ℕ) (ms : List Machine)
    → roomy placement k ms ≡ list_all (fits placement k ms) (numbers (length ms))
roomy_from placement k [] = refl
roomy_from placement k (m ∷ ms) =
    ap (λ b. nat_le (load placement k) m.slots && b) (roomy_from placement (k + 1) ms)
    ∙ ap (λ j. nat_le (load placement j) m.slots && list_all (fits placement (k + 1) ms) (numbers (length ms)))
    (let e : k ≡ k + 0 = omega arith in e)
    ∙ ap (λ b. nat_le (load placement (k + 0)) m.slots && b)
    (all_same (fits placement (k + 1) ms) (λ (j : ℕ). fits placement k (m ∷ ms) (suc j)) (numbers (length ms))
    (λ j. ap (λ i. nat_le (load placement i) (slice_index (slots ms) j))
    (let e : k + 1 + j ≡ k + suc j = omega arith in e)))
    ∙ sym (all_front (fits placement k (m ∷ ms)) (length ms))

pub roomy_all : (placement : List Choice) (machines : List Machine)
    → roomy placement 0 machines
    ≡ list_all (λ j. nat_le (load placement j) (slice_index (map (λ machine. machine.slots) machines) j))
    (numbers (length machines))
roomy_all placement machines =
    roomy_from placement 0 machines
    ∙ all_same (fits placement 0 machines) (λ (j : ℕ). nat_le (load placement j) (slice_index (slots machines) j))
    (numbers (length machines))
    (λ j. ap (λ i. nat_le (load placement i) (slice_index (slots machines) j)) (let e : 0 + j ≡ j = omega arith in e))

-- a machine with room leaves the rest to judge, one without settles it
pub room_there : (placement : List Choice) (j : ℕ) (all rest : List Machine) (machine : Machine) → all ≡ machine ∷ rest
    → load placement j ≤ machine.slots → roomy placement j all ≡ roomy placement (j + 1) rest
room_there placement j all rest machine e h =
    ap (roomy placement j) e ∙ ap (λ b. b && roomy placement (j + 1) rest) (le-leb (load placement j) machine.slots h)

pub no_room : (placement : List Choice) (j : ℕ) (all rest : List Machine) (machine : Machine) → all ≡ machine ∷ rest
    → machine.slots < load placement j → roomy placement j all ≡ false
no_room placement j all rest machine e h =
    ap (roomy placement j) e ∙ ap (λ b. b && roomy placement (j + 1) rest) (lt-leb (load placement j) machine.slots h)
