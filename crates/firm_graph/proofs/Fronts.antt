-- Tables that begin with arcs and are empty past them.
use Rattle.std.proofs.Common.{◌≡◌, ℕ, zero, suc, ◌+◌, ◌-◌, ◌<◌, ◌≤◌, Option, Some, None, List, [], ◌∷◌, ◌++◌, map}
use Rattle.std.proofs.Common.{length, set, replicate, append_assoc, length-append, arith, refl, sym, ap, ◌∙◌}
use Rattle.std.specs.List.{remove}
use Rattle.std.proofs.lemmas.List.{replicate_more, set_at}
use Rattle.std.proofs.lemmas.List.Edits.{length-remove}
use Rattle.firm_net.specs.declared.row.ArcId.{ArcId}
use Rattle.firm_graph.specs.inner.Tables.{arcs_in, padded, AreFront}

-- the arcs, and a number of empty places behind them
abbrev front : List ArcId → ℕ → List (Option ArcId)
front xs m = map Some xs ++ replicate m None

arcs-front : (xs : List ArcId) (m : ℕ) → arcs_in (front xs m) ≡ xs
arcs-front [] zero = refl
arcs-front [] (suc m) = refl
arcs-front (x ∷ xs) m = ap (λ (l : List ArcId). x ∷ l) (arcs-front xs m)

length-front : (xs : List ArcId) (m : ℕ) → length (front xs m) ≡ length xs + m
length-front [] zero = refl
length-front [] (suc m) = omega (arith, length-front [] m)
length-front (x ∷ xs) m = omega (arith, length-front xs m)

-- a table of this form is one that begins with these arcs
pub are-front : (table : List (Option ArcId)) (xs : List ArcId) (count : ℕ) → table ≡ padded xs → length xs ≡ count
    → count ≤ 4 → AreFront table count
are-front table xs count e counted few =
    let same : arcs_in table ≡ xs = ap arcs_in e ∙ arcs-front xs (4 - length xs) in
    record {
      rest = e ∙ ap padded (sym same);
      counted = ap (λ (l : List ArcId). length l) same ∙ counted;
      few = omega (arith, ap (λ (l : List ArcId). length l) same, counted, few);
    }

pub arcs-padded : (table : List (Option ArcId)) (xs : List ArcId) → table ≡ padded xs → arcs_in table ≡ xs
arcs-padded table xs e = ap arcs_in e ∙ arcs-front xs (4 - length xs)

pub front-few : (table : List (Option ArcId)) (count : ℕ) → AreFront table count → count ≤ 4
front-few table count is = omega (arith, is.counted, is.few)

-- one arc more
set-front : (xs : List ArcId) (m : ℕ) (arc : ArcId)
    → set (front xs (suc m)) (length xs) (Some arc) ≡ front (xs ++ arc ∷ []) m
set-front [] m arc = refl
set-front (x ∷ xs) m arc = ap (λ (l : List (Option ArcId)). Some x ∷ l) (set-front xs m arc)

pub front-added : (table : List (Option ArcId)) (count : ℕ) (arc : ArcId) → AreFront table count → count < 4
    → set table count (Some arc) ≡ padded (arcs_in table ++ arc ∷ [])
front-added table count arc is room =
    let xs : List ArcId = arcs_in table in
    let m : ℕ = 4 - (length xs + 1) in
    let more : 4 - length xs ≡ suc m = omega (arith, is.counted, room) in
    let less : m ≡ 4 - length (xs ++ arc ∷ []) = omega (arith, is.counted, room, length-append xs (arc ∷ [])) in
    ap (λ (t : List (Option ArcId)). set t count (Some arc)) is.rest
    ∙ ap (λ (k : ℕ). set (front xs k) count (Some arc)) more
    ∙ ap (λ (k : ℕ). set (front xs (suc m)) k (Some arc)) (sym is.counted)
    ∙ set-front xs m arc
    ∙ ap (front (xs ++ arc ∷ [])) less

-- one arc less: the places from its own on are turned by one, and the last is emptied
remove-front : (xs : List ArcId) (m i : ℕ) → i < length xs → remove (front xs m) i ≡ front (remove xs i) m
remove-front [] m i below = absurd (omega arith)
remove-front (x ∷ xs) m zero below = refl
remove-front (x ∷ xs) m (suc i) below =
    ap (λ (l : List (Option ArcId)). Some x ∷ l) (remove-front xs m i (omega arith))

pub front-removed : (table : List (Option ArcId)) (count place : ℕ) (last : Option ArcId) → AreFront table count
    → place < count → set (remove table place ++ last ∷ []) 3 None ≡ padded (remove (arcs_in table) place)
front-removed table count place last is below =
    let xs : List ArcId = arcs_in table in
    let m : ℕ = 4 - length xs in
    let left : List ArcId = remove xs place in
    let here : place < length xs = omega (arith, below, is.counted) in
    let removed : remove table place ≡ front left m =
    ap (λ (t : List (Option ArcId)). remove t place) is.rest ∙ remove-front xs m place here in
    let three : length (front left m) ≡ 3 = omega (arith, length-front left m, length-remove xs place here) in
    let more : m + 1 ≡ 4 - length left = omega (arith, is.few, here, length-remove xs place here) in
    ap (λ (t : List (Option ArcId)). set (t ++ last ∷ []) 3 None) removed
    ∙ set_at (front left m) last [] None 3 three
    ∙ append_assoc (map Some left) (replicate m None) (None ∷ [])
    ∙ ap (λ (l : List (Option ArcId)). map Some left ++ l) (replicate_more m None)
    ∙ ap (front left) more

pub removed-counted : (table : List (Option ArcId)) (count place : ℕ) → AreFront table count → place < count
    → length (remove (arcs_in table) place) ≡ count - 1
removed-counted table count place is below =
    omega (arith, length-remove (arcs_in table) place (omega (arith, below, is.counted)), is.counted)

pub added-counted : (table : List (Option ArcId)) (count : ℕ) (arc : ArcId) → AreFront table count
    → length (arcs_in table ++ arc ∷ []) ≡ count + 1
added-counted table count arc is = omega (arith, length-append (arcs_in table) (arc ∷ []), is.counted)

pub front-length : (table : List (Option ArcId)) (count : ℕ) → AreFront table count → length table ≡ 4
front-length table count is =
    omega (
      arith,
      ap (λ (t : List (Option ArcId)). length t) is.rest,
      length-front (arcs_in table) (4 - length (arcs_in table)),
    )
