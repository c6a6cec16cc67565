-- Each step keeps the law of a tray.
use Rattle.std.proofs.Common.{◌≡◌, ℕ, ◌+◌, zero, suc, ◌==◌, List, [], ◌∷◌, ◌++◌, slice_set, get_or}
use Rattle.std.proofs.Common.{Option, Some, None, sym, refl, ap, ◌∙◌, subst, true, false}
use Rattle.std.proofs.lemmas.Bool.{true≢false}
use mathlib.Core.Option.{some, some-injective, some-ne-none}
use lib.ListN.{get_elem?}
use prog.Atomic.{either}
use Rattle.atomic_table.specs.Table.{Act, keeps, takes, gives, step, Valid, stepped, carried_after, Allows}
use Rattle.atomic_table.specs.Table.{rest}
use Rattle.firm_rules.specs.Book.{Book}
use Rattle.firm_tray.specs.declared.protocol.Stage.{Stage}
use Rattle.firm_tray.specs.declared.protocol.Stage.TheVariants.{Opening, Holding, Open, Spent, Asked, Taken}
use Rattle.firm_tray.specs.declared.protocol.TraySight.{TraySight}
use Rattle.firm_tray.specs.declared.protocol.Solved.{Solved}
use Rattle.firm_tray.specs.Solved.{IsSolved}
use Rattle.firm_tray.specs.Rule.{asking_sight, tray_sight, Phase, fresh, dealt, waiting, answered, gone, Tray, tray_at}
use Rattle.firm_tray.specs.Rule.{IsFair, KeepsRule}
use Rattle.firm_tray.specs.inner.Steps.{Hand, open_sight, asked_sight, takes_slot, gives_answer, looks}

-- what a step at the word owes in the state s
abbrev Goes : Book → ℕ → Hand → (ℕ → ℕ) → (ℕ → Hand → Type 0) → Tray → Type 0
Goes b id me f then s =
    (w : TraySight) × (a : Act _) × Valid s.homes me.1 a
    × KeepsRule b (stepped s 0 (f (get_or s.words 0 0)) id me.1 w a)
    × then (get_or s.words 0 0) (w, carried_after me.1 a)

by_phase : (b : Book) (slots id : ℕ) (me : Hand) (f : ℕ → ℕ) (then : ℕ → Hand → Type 0)
    → ((p : Phase) → IsFair b p → get_elem? (tray_at b p).views id ≡ some me.0 → Goes b id me f then (tray_at b p))
    → Allows (KeepsRule b) slots id me 0 f then
by_phase b slots id me f then go s k _ at _ =
    subst (Goes b id me f then) (sym k.1) (go k.0 k.2 (ap (λ (t : Tray). get_elem? t.views id) (sym k.1) ∙ at))

-- a seat does not stand at two stages
abbrev number : Stage → ℕ
number Opening = 0
number Holding = 1
number Open = 2
number Spent = 3
number Asked = 4
number Taken = 5

same_number : (x : Stage) → (number x == number x) ≡ true
same_number Opening = refl
same_number Holding = refl
same_number Open = refl
same_number Spent = refl
same_number Asked = refl
same_number Taken = refl

elsewhere : {G : Type 0} (b : Book) {m n : ℕ} (x y : Stage) → (number x == number y) ≡ false
    → some (asking_sight x m b) ≡ some (asking_sight y n b) → G
elsewhere b {m} {n} x y other e =
    let same =
    ap (λ (v : TraySight). number x == number v.stage) (some-injective (asking_sight x m b) (asking_sight y n b) e) in
    absurd (true≢false (sym (same_number x) ∙ (same ∙ other)))

-- the stage of the seat that stands there
abbrev Stands : Book → ℕ → Phase → Stage → Type 0
Stands b id p stage = get_elem? (tray_at b p).views id ≡ some (tray_sight stage b)

-- what the seat with the slot knows, and the tray once that seat has parted into two sides
abbrev holding_sight : Book → TraySight
holding_sight b = tray_sight Holding b

abbrev parted : Tray → ℕ → TraySight → Tray
parted s id seat =
    record {
      words = s.words;
      homes = s.homes;
      views = slice_set s.views id (open_sight seat) ++ asked_sight seat ∷ [];
    }

nowhere : {G : Type 0} (v : TraySight) → mathlib.Core.Option.none ≡ some v → G
nowhere v e = absurd (some-ne-none v (sym e))

deals : (b : Book) (id : ℕ) (p : Phase) → IsFair b p → Stands b id p Opening
    → Goes b id (tray_sight Opening b, []) (λ n. n) (λ n m. m ≡ (tray_sight Holding b, (0, None) ∷ [])) (tray_at b p)
deals b zero fresh fair at = (tray_sight Holding b, takes 0 None, refl, (dealt, refl, tt), refl)
deals b (suc id) fresh fair at = nowhere _ at
deals b zero dealt fair at = elsewhere b Holding Opening refl at
deals b (suc id) dealt fair at = nowhere _ at
deals b zero (waiting vain) fair at = elsewhere b Open Opening refl at
deals b (suc zero) (waiting vain) fair at = elsewhere b Asked Opening refl at
deals b (suc (suc id)) (waiting vain) fair at = nowhere _ at
deals b zero (answered vain x) fair at = elsewhere b Spent Opening refl at
deals b (suc zero) (answered vain x) fair at = elsewhere b Asked Opening refl at
deals b (suc (suc id)) (answered vain x) fair at = nowhere _ at
deals b zero (gone vain) fair at = elsewhere b Spent Opening refl at
deals b (suc zero) (gone vain) fair at = elsewhere b Taken Opening refl at
deals b (suc (suc id)) (gone vain) fair at = nowhere _ at

fills : (b : Book) (x : Solved) → IsSolved b x → (id : ℕ) (p : Phase) → IsFair b p → Stands b id p Open
    → Goes b id (tray_sight Open b, (0, Some x) ∷ []) (λ n. 1) (λ n m. m ≡ (tray_sight Spent b, [])) (tray_at b p)
fills b x r zero fresh fair at = elsewhere b Opening Open refl at
fills b x r (suc id) fresh fair at = nowhere _ at
fills b x r zero dealt fair at = elsewhere b Holding Open refl at
fills b x r (suc id) dealt fair at = nowhere _ at
fills b x r zero (waiting vain) fair at = (tray_sight Spent b, gives, tt, (answered vain x, refl, r), refl)
fills b x r (suc zero) (waiting vain) fair at = elsewhere b Asked Open refl at
fills b x r (suc (suc id)) (waiting vain) fair at = nowhere _ at
fills b x r zero (answered vain y) fair at = elsewhere b Spent Open refl at
fills b x r (suc zero) (answered vain y) fair at = elsewhere b Asked Open refl at
fills b x r (suc (suc id)) (answered vain y) fair at = nowhere _ at
fills b x r zero (gone vain) fair at = elsewhere b Spent Open refl at
fills b x r (suc zero) (gone vain) fair at = elsewhere b Taken Open refl at
fills b x r (suc (suc id)) (gone vain) fair at = nowhere _ at

sees : (b : Book) (vain id : ℕ) (p : Phase) → IsFair b p
    → get_elem? (tray_at b p).views id ≡ some (asking_sight Asked vain b)
    → Goes b id (asking_sight Asked vain b, []) (λ n. either (n == 1) 2 n)
    (λ n m. looks (step 1 0 1 2 mathlib.Core.Option.none) (asking_sight Asked vain b, []) n m) (tray_at b p)
sees b vain zero fresh fair at = elsewhere b Opening Asked refl at
sees b vain (suc id) fresh fair at = nowhere _ at
sees b vain zero dealt fair at = elsewhere b Holding Asked refl at
sees b vain (suc id) dealt fair at = nowhere _ at
sees b vain zero (waiting n) fair at = elsewhere b Open Asked refl at
sees b vain (suc zero) (waiting n) fair at =
    (asking_sight Asked (vain + 1) b, keeps, tt, (waiting (vain + 1), refl, tt), (refl, refl))
sees b vain (suc (suc id)) (waiting n) fair at = nowhere _ at
sees b vain zero (answered n x) fair at = elsewhere b Spent Asked refl at
sees b vain (suc zero) (answered n x) fair at =
    (asking_sight Taken vain b, takes 0 (Some x), refl, (gone vain, refl, tt), (x, fair, refl))
sees b vain (suc (suc id)) (answered n x) fair at = nowhere _ at
sees b vain zero (gone n) fair at = elsewhere b Spent Asked refl at
sees b vain (suc zero) (gone n) fair at = elsewhere b Taken Asked refl at
sees b vain (suc (suc id)) (gone n) fair at = nowhere _ at

-- the seat that holds the slot parts into the two sides
sides : (b : Book) (id : ℕ) (p : Phase) → Stands b id p Holding
    → KeepsRule b (parted (tray_at b p) id (holding_sight b))
sides b zero fresh at = elsewhere b Opening Holding refl at
sides b (suc id) fresh at = nowhere _ at
sides b zero dealt at = (waiting 0, refl, tt)
sides b (suc id) dealt at = nowhere _ at
sides b zero (waiting vain) at = elsewhere b Open Holding refl at
sides b (suc zero) (waiting vain) at = elsewhere b Asked Holding refl at
sides b (suc (suc id)) (waiting vain) at = nowhere _ at
sides b zero (answered vain x) at = elsewhere b Spent Holding refl at
sides b (suc zero) (answered vain x) at = elsewhere b Asked Holding refl at
sides b (suc (suc id)) (answered vain x) at = nowhere _ at
sides b zero (gone vain) at = elsewhere b Spent Holding refl at
sides b (suc zero) (gone vain) at = elsewhere b Taken Holding refl at
sides b (suc (suc id)) (gone vain) at = nowhere _ at

pub sides_as : (b key : Book) (seat : TraySight) (id : ℕ) (s : Tray) → key ≡ b → seat ≡ holding_sight b
    → KeepsRule key s → get_elem? s.views id ≡ some seat → KeepsRule key (parted s id seat)
sides_as b key seat id s k e =
    rw (k, e) (λ (kept : KeepsRule b s) (at : get_elem? s.views id ≡ some (holding_sight b)).
    subst (λ (t : Tray). KeepsRule b (parted t id (holding_sight b))) (sym kept.1)
    (sides b id kept.0 (ap (λ (t : Tray). get_elem? t.views id) (sym kept.1) ∙ at)))

pub deals_allowed : (b : Book) (slots id : ℕ)
    → Allows (KeepsRule b) slots id (tray_sight Opening b, []) 0 (λ n. n)
    (takes_slot (step slots 0 0 0 mathlib.Core.Option.none) (tray_sight Opening b, []))
deals_allowed b slots id =
    by_phase b slots id (tray_sight Opening b, []) (λ n. n) (λ n m. m ≡ (tray_sight Holding b, (0, None) ∷ []))
    (deals b id)

pub fills_allowed : (b : Book) (x : Solved) (slots id : ℕ) → IsSolved b x
    → Allows (KeepsRule b) slots id (tray_sight Open b, (0, Some x) ∷ []) 0 (λ n. 1)
    (λ n. gives_answer (step slots 0 1 0 mathlib.Core.Option.none) (tray_sight Open b, (0, Some x) ∷ []) 1)
fills_allowed b x slots id r =
    by_phase b slots id (tray_sight Open b, (0, Some x) ∷ []) (λ n. 1) (λ n m. m ≡ (tray_sight Spent b, []))
    (fills b x r id)

pub sees_allowed : (b : Book) (vain slots id : ℕ)
    → Allows (KeepsRule b) slots id (asking_sight Asked vain b, []) 0 (λ n. either (n == 1) 2 n)
    (looks (step slots 0 1 2 mathlib.Core.Option.none) (asking_sight Asked vain b, []))
sees_allowed b vain slots id =
    by_phase b slots id (asking_sight Asked vain b, []) (λ n. either (n == 1) 2 n)
    (λ n m. looks (step slots 0 1 2 mathlib.Core.Option.none) (asking_sight Asked vain b, []) n m) (sees b vain id)

-- the same where key and seat are equal to those
pub deals_as : (b key : Book) (me : Hand) (slots id : ℕ) → key ≡ b → me ≡ (tray_sight Opening b, [])
    → Allows (KeepsRule key) slots id me 0 (λ n. n) (takes_slot (step slots 0 0 0 mathlib.Core.Option.none) me)
deals_as b key me slots id k e = rw (k, e) (deals_allowed b slots id)

pub fills_as : (b key : Book) (me : Hand) (x : Solved) (slots id : ℕ) → key ≡ b
    → me ≡ (tray_sight Open b, (0, Some x) ∷ []) → IsSolved b x
    → Allows (KeepsRule key) slots id me 0 (λ n. 1) (λ n. gives_answer (step slots 0 1 0 mathlib.Core.Option.none) me 1)
fills_as b key me x slots id k e r = rw (k, e) (fills_allowed b x slots id r)

pub sees_as : (b : Book) (vain : ℕ) (key : Book) (me : Hand) (slots id : ℕ) → key ≡ b
    → me ≡ (asking_sight Asked vain b, [])
    → Allows (KeepsRule key) slots id me 0 (λ n. either (n == 1) 2 n)
    (looks (step slots 0 1 2 mathlib.Core.Option.none) me)
sees_as b vain key me slots id k e = rw (k, e) (sees_allowed b vain slots id)

one_carried : (y : Option Solved) (v : TraySight) (m : Hand) → m ≡ (v, (0, y) ∷ []) → m.1 ≡ (0, y) ∷ rest m.1
one_carried y v m e = rw e refl

-- where the word was 1, the slot is out with the asking seat
pub slot_seen : (m m' : Hand) (n : ℕ) → looks (step 1 0 1 2 mathlib.Core.Option.none) m n m' → n ≡ 1
    → (x : Option Solved) × (m'.1 ≡ (0, x) ∷ rest m'.1)
slot_seen m m' n h e =
    let l : looks (step 1 0 1 2 mathlib.Core.Option.none) m 1 m' =
    subst (λ (k : ℕ). looks (step 1 0 1 2 mathlib.Core.Option.none) m k m') e h in
    (Some l.0, one_carried (Some l.0) _ m' l.2)

abbrev first_item : List (ℕ × Option Solved) → Option Solved
first_item [] = None
first_item (item ∷ items) = item.1

same_first : (xs ys : List (ℕ × Option Solved)) (x y : Solved) → (0, Some x) ∷ xs ≡ (0, Some y) ∷ ys → x ≡ y
same_first xs ys x y e = let items : Some x ≡ Some y = ap first_item e in cc

-- where the word was 1, what is taken out of the slot is the round of the book
pub solved_seen : (b : Book) (m m' : Hand) (n : ℕ) (got : Option Solved) (x : Solved) → m.0.book ≡ b
    → looks (step 1 0 1 2 mathlib.Core.Option.none) m n m' → n ≡ 1 → m'.1 ≡ (0, got) ∷ rest m'.1 → got ≡ Some x
    → IsSolved b x
solved_seen b m m' n got x same h e carried is =
    let l : looks (step 1 0 1 2 mathlib.Core.Option.none) m 1 m' =
    subst (λ (k : ℕ). looks (step 1 0 1 2 mathlib.Core.Option.none) m k m') e h in
    let put : (0, Some x) ∷ rest m'.1 ≡ (0, got) ∷ rest m'.1 =
    ap (λ (g : Option Solved). (0, g) ∷ rest m'.1) (sym is) in
    let both : (0, Some x) ∷ rest m'.1 ≡ (0, Some l.0) ∷ rest m'.1 =
    put ∙ (sym carried ∙ one_carried (Some l.0) _ m' l.2) in
    subst (λ (y : Solved). IsSolved b y) (sym (same_first _ _ x l.0 both))
    (subst (λ (c : Book). IsSolved c l.0) same l.1)
