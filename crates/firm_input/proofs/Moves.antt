-- Each step keeps the rule.
use Rattle.std.proofs.Common.{◌≡◌, ℕ, zero, suc, ◌==◌, List, [], ◌∷◌, ◌++◌, get_or, Option, Some, None, sym, refl, ap}
use Rattle.std.proofs.Common.{◌∙◌, subst}
use Rattle.std.specs.Io.KnownBytes.{Keeps}
use mathlib.Core.Option.{some, some-injective, some-ne-none}
use lib.ListN.{get_elem?}
use prog.Atomic.{either}
use Rattle.atomic_table.specs.Table.{Act, keeps, takes, gives, step, Valid, stepped, carried_after, Allows, Splits}
use Rattle.atomic_table.specs.Table.{rest}
use Rattle.firm_input.specs.declared.turns.Stage.{Stage}
use Rattle.firm_input.specs.declared.turns.Stage.TheVariants.{Opening, Holding, Reads, Lends, Rests, Takes}
use Rattle.firm_input.specs.declared.turns.Sight.{Sight}
use Rattle.firm_input.specs.Rule.{Left, sight, Phase, fresh, dealt, home, asked, taken, read, closed, Turn, turn}
use Rattle.firm_input.specs.Rule.{turn_at, IsFair, KeepsRule}
use Rattle.firm_input.specs.inner.Steps.{Hand, told, takes_slot, lends, takes_reader, returns_reader, takes_back}
use Rattle.firm_input.specs.inner.Steps.{closes, StandsAt, reading_sight, resting_sight}
use Rattle.std.specs.Prelude.{false, true}
use Rattle.std.specs.Option.{is_some}
use Rattle.std.proofs.lemmas.Bool.{true≢false}

-- what a step at the word owes in the state s
abbrev Goes : ℕ → Hand → (ℕ → ℕ) → (ℕ → Hand → Type 0) → Turn → Type 0
Goes id me f then s =
    (w : Sight) × (a : Act _) × Valid s.homes me.1 a
    × KeepsRule (stepped s 0 (f (get_or s.words 0 0)) id me.1 w a)
    × then (get_or s.words 0 0) (w, carried_after me.1 a)

by_phase : (slots id : ℕ) (me : Hand) (f : ℕ → ℕ) (then : ℕ → Hand → Type 0)
    → ((p : Phase) → IsFair p → get_elem? (turn_at p).views id ≡ some me.0 → Goes id me f then (turn_at p))
    → Allows KeepsRule slots id me 0 f then
by_phase slots id me f then go s k _ at _ =
    subst (Goes id me f then) (sym k.1) (go k.0 k.2 (ap (λ (t : Turn). get_elem? t.views id) (sym k.1) ∙ at))

-- a seat does not stand at two stages
abbrev number : Stage → ℕ
number Opening = 0
number Holding = 1
number Reads = 2
number Lends = 3
number Rests = 4
number Takes = 5

same_number : (x : Stage) → (number x == number x) ≡ true
same_number Opening = refl
same_number Holding = refl
same_number Reads = refl
same_number Lends = refl
same_number Rests = refl
same_number Takes = refl

elsewhere : {G : Type 0} (x y : Stage) (l k : Left) → (number x == number y) ≡ false
    → some (sight x l) ≡ some (sight y k) → G
elsewhere x y l k other e =
    let same = ap (λ (v : Sight). number x == number v.stage) (some-injective (sight x l) (sight y k) e) in
    absurd (true≢false (sym (same_number x) ∙ (same ∙ other)))

left_in : (x y : Sight) → some x ≡ some y → x.left ≡ y.left
left_in x y e = ap (λ (v : Sight). v.left) (some-injective x y e)

-- the seat that stands there
abbrev Stands : ℕ → Phase → Sight → Type 0
Stands id p seen = get_elem? (turn_at p).views id ≡ some seen

nowhere : {G : Type 0} (v : Sight) → mathlib.Core.Option.none ≡ some v → G
nowhere v e = absurd (some-ne-none v (sym e))

kept_by : (l k r : Left) → l ≡ k → Keeps l r → Keeps k r
kept_by l k r e = subst (λ (x : Left). Keeps x r) e

deals : (l : Left) (id : ℕ) (p : Phase) → IsFair p → Stands id p (sight Opening l)
    → Goes id (sight Opening l, []) (λ n. n) (λ n m. m ≡ (sight Holding l, (0, None) ∷ [])) (turn_at p)
deals l zero (fresh k) fair at = (sight Holding l, takes 0 None, refl, (dealt l, refl, tt), refl)
deals l (suc id) (fresh k) fair at = nowhere _ at
deals l zero (dealt k) fair at = elsewhere Holding Opening _ _ refl at
deals l (suc id) (dealt k) fair at = nowhere _ at
deals l zero (home k) fair at = elsewhere Reads Opening _ _ refl at
deals l (suc zero) (home k) fair at = elsewhere Rests Opening _ _ refl at
deals l (suc (suc id)) (home k) fair at = nowhere _ at
deals l zero (asked k r) fair at = elsewhere Lends Opening _ _ refl at
deals l (suc zero) (asked k r) fair at = elsewhere Rests Opening _ _ refl at
deals l (suc (suc id)) (asked k r) fair at = nowhere _ at
deals l zero (taken k) fair at = elsewhere Lends Opening _ _ refl at
deals l (suc zero) (taken k) fair at = elsewhere Takes Opening _ _ refl at
deals l (suc (suc id)) (taken k) fair at = nowhere _ at
deals l zero (read k r) fair at = elsewhere Lends Opening _ _ refl at
deals l (suc zero) (read k r) fair at = elsewhere Rests Opening _ _ refl at
deals l (suc (suc id)) (read k r) fair at = nowhere _ at
deals l zero (closed k) fair at = elsewhere Reads Opening _ _ refl at
deals l (suc zero) (closed k) fair at = elsewhere Rests Opening _ _ refl at
deals l (suc (suc id)) (closed k) fair at = nowhere _ at

-- the source, which has its reader, lends it or closes
reads : (word : ℕ) (l : Left) (me : Hand) (then : ℕ → Hand → Type 0) → me.0 ≡ sight Reads l
    → ((k : Left) (n : ℕ)
    → Goes 0 me (λ n. word) then (turn n mathlib.Core.Option.none (sight Reads k ∷ sight Rests None ∷ [])))
    → (id : ℕ) (p : Phase) → IsFair p → Stands id p me.0 → Goes id me (λ n. word) then (turn_at p)
reads word l me then is go zero (fresh k) fair at = elsewhere Opening Reads _ _ refl (at ∙ ap some is)
reads word l me then is go (suc id) (fresh k) fair at = nowhere _ at
reads word l me then is go zero (dealt k) fair at = elsewhere Holding Reads _ _ refl (at ∙ ap some is)
reads word l me then is go (suc id) (dealt k) fair at = nowhere _ at
reads word l me then is go zero (home k) fair at = go k 0
reads word l me then is go (suc zero) (home k) fair at = elsewhere Rests Reads _ _ refl (at ∙ ap some is)
reads word l me then is go (suc (suc id)) (home k) fair at = nowhere _ at
reads word l me then is go zero (asked k r) fair at = elsewhere Lends Reads _ _ refl (at ∙ ap some is)
reads word l me then is go (suc zero) (asked k r) fair at = elsewhere Rests Reads _ _ refl (at ∙ ap some is)
reads word l me then is go (suc (suc id)) (asked k r) fair at = nowhere _ at
reads word l me then is go zero (taken k) fair at = elsewhere Lends Reads _ _ refl (at ∙ ap some is)
reads word l me then is go (suc zero) (taken k) fair at = elsewhere Takes Reads _ _ refl (at ∙ ap some is)
reads word l me then is go (suc (suc id)) (taken k) fair at = nowhere _ at
reads word l me then is go zero (read k r) fair at = elsewhere Lends Reads _ _ refl (at ∙ ap some is)
reads word l me then is go (suc zero) (read k r) fair at = elsewhere Rests Reads _ _ refl (at ∙ ap some is)
reads word l me then is go (suc (suc id)) (read k r) fair at = nowhere _ at
reads word l me then is go zero (closed k) fair at = go k 3
reads word l me then is go (suc zero) (closed k) fair at = elsewhere Rests Reads _ _ refl (at ∙ ap some is)
reads word l me then is go (suc (suc id)) (closed k) fair at = nowhere _ at

-- the thread, which rests, looks
looks : (id : ℕ) (p : Phase) → IsFair p → Stands id p (sight Rests None)
    → Goes id (sight Rests None, []) (λ n. n)
    (λ n m. takes_reader (step 1 0 0 0 mathlib.Core.Option.none) (sight Rests None, []) n m) (turn_at p)
looks zero (fresh k) fair at = elsewhere Opening Rests _ _ refl at
looks (suc id) (fresh k) fair at = nowhere _ at
looks zero (dealt k) fair at = elsewhere Holding Rests _ _ refl at
looks (suc id) (dealt k) fair at = nowhere _ at
looks zero (home k) fair at = elsewhere Reads Rests _ _ refl at
looks (suc zero) (home k) fair at = (sight Rests None, keeps, tt, (home k, refl, tt), refl)
looks (suc (suc id)) (home k) fair at = nowhere _ at
looks zero (asked k r) fair at = elsewhere Lends Rests _ _ refl at
looks (suc zero) (asked k r) fair at = (sight Takes k, takes 0 (Some r), refl, (taken k, refl, tt), (k, r, fair, refl))
looks (suc (suc id)) (asked k r) fair at = nowhere _ at
looks zero (taken k) fair at = elsewhere Lends Rests _ _ refl at
looks (suc zero) (taken k) fair at = elsewhere Takes Rests _ _ refl at
looks (suc (suc id)) (taken k) fair at = nowhere _ at
looks zero (read k r) fair at = elsewhere Lends Rests _ _ refl at
looks (suc zero) (read k r) fair at = (sight Rests None, keeps, tt, (read k r, refl, fair), refl)
looks (suc (suc id)) (read k r) fair at = nowhere _ at
looks zero (closed k) fair at = elsewhere Reads Rests _ _ refl at
looks (suc zero) (closed k) fair at = (sight Rests None, keeps, tt, (closed k, refl, tt), refl)
looks (suc (suc id)) (closed k) fair at = nowhere _ at

-- the thread, which has the reader, gives it back
returns : (l r : Left) → Keeps l r → (id : ℕ) (p : Phase) → IsFair p → Stands id p (sight Takes l)
    → Goes id (sight Takes l, (0, Some r) ∷ []) (λ n. 2) (λ n m. m ≡ (sight Rests None, [])) (turn_at p)
returns l r kept zero (fresh k) fair at = elsewhere Opening Takes _ _ refl at
returns l r kept (suc id) (fresh k) fair at = nowhere _ at
returns l r kept zero (dealt k) fair at = elsewhere Holding Takes _ _ refl at
returns l r kept (suc id) (dealt k) fair at = nowhere _ at
returns l r kept zero (home k) fair at = elsewhere Reads Takes _ _ refl at
returns l r kept (suc zero) (home k) fair at = elsewhere Rests Takes _ _ refl at
returns l r kept (suc (suc id)) (home k) fair at = nowhere _ at
returns l r kept zero (asked k s) fair at = elsewhere Lends Takes _ _ refl at
returns l r kept (suc zero) (asked k s) fair at = elsewhere Rests Takes _ _ refl at
returns l r kept (suc (suc id)) (asked k s) fair at = nowhere _ at
returns l r kept zero (taken k) fair at = elsewhere Lends Takes _ _ refl at
returns l r kept (suc zero) (taken k) fair at =
    (sight Rests None, gives, tt, (read k r, refl, kept_by l k r (sym (left_in _ _ at)) kept), refl)
returns l r kept (suc (suc id)) (taken k) fair at = nowhere _ at
returns l r kept zero (read k s) fair at = elsewhere Lends Takes _ _ refl at
returns l r kept (suc zero) (read k s) fair at = elsewhere Rests Takes _ _ refl at
returns l r kept (suc (suc id)) (read k s) fair at = nowhere _ at
returns l r kept zero (closed k) fair at = elsewhere Reads Takes _ _ refl at
returns l r kept (suc zero) (closed k) fair at = elsewhere Rests Takes _ _ refl at
returns l r kept (suc (suc id)) (closed k) fair at = nowhere _ at

-- the source, whose reader is lent, looks
waits : (l : Left) (id : ℕ) (p : Phase) → IsFair p → Stands id p (sight Lends l)
    → Goes id (sight Lends l, []) (λ n. either (n == 2) 0 n)
    (λ n m. takes_back (step 1 0 2 0 mathlib.Core.Option.none) (sight Lends l, []) n m) (turn_at p)
waits l zero (fresh k) fair at = elsewhere Opening Lends _ _ refl at
waits l (suc id) (fresh k) fair at = nowhere _ at
waits l zero (dealt k) fair at = elsewhere Holding Lends _ _ refl at
waits l (suc id) (dealt k) fair at = nowhere _ at
waits l zero (home k) fair at = elsewhere Reads Lends _ _ refl at
waits l (suc zero) (home k) fair at = elsewhere Rests Lends _ _ refl at
waits l (suc (suc id)) (home k) fair at = nowhere _ at
waits l zero (asked k r) fair at =
    (sight Lends l, keeps, tt, (asked l r, refl, kept_by k l r (left_in _ _ at) fair), refl)
waits l (suc zero) (asked k r) fair at = elsewhere Rests Lends _ _ refl at
waits l (suc (suc id)) (asked k r) fair at = nowhere _ at
waits l zero (taken k) fair at = (
  sight Lends l,
  keeps,
  tt,
  (
    taken l,
    ap (λ (x : Left). turn 1 mathlib.Core.Option.none (sight Lends l ∷ sight Takes x ∷ []))
        (left_in (sight Lends k) (sight Lends l) at),
    tt,
  ),
  refl,
)
waits l (suc zero) (taken k) fair at = elsewhere Takes Lends _ _ refl at
waits l (suc (suc id)) (taken k) fair at = nowhere _ at
waits l zero (read k r) fair at = (
  sight Reads l,
  takes 0 (Some r),
  refl,
  (home l, refl, tt),
  (r, kept_by k l r (left_in _ _ at) fair, refl),
)
waits l (suc zero) (read k r) fair at = elsewhere Rests Lends _ _ refl at
waits l (suc (suc id)) (read k r) fair at = nowhere _ at
waits l zero (closed k) fair at = elsewhere Reads Lends _ _ refl at
waits l (suc zero) (closed k) fair at = elsewhere Rests Lends _ _ refl at
waits l (suc (suc id)) (closed k) fair at = nowhere _ at

kept_told : (l r : Left) → Keeps (told l r) r
kept_told None r = tt
kept_told (Some bytes) None = tt
kept_told (Some bytes) (Some more) = refl

-- a reader that has left what was left tells just that
pub told_kept : (l r : Left) → Keeps l r → told l r ≡ l
told_kept None r kept = refl
told_kept (Some bytes) None kept = absurd kept
told_kept (Some bytes) (Some more) kept = ap Some kept

pub told_same : (l : Left) → told l l ≡ l
told_same None = refl
told_same (Some bytes) = refl

pub deals_as : (l : Left) (me : Hand) (slots id : ℕ) → me ≡ (sight Opening l, [])
    → Allows KeepsRule slots id me 0 (λ n. n) (takes_slot (step slots 0 0 0 mathlib.Core.Option.none) me)
deals_as l me slots id e =
    rw e
    (by_phase slots id (sight Opening l, []) (λ n. n) (λ n m. m ≡ (sight Holding l, (0, None) ∷ [])) (deals l id))

pub lends_as : (l r : Left) (me : Hand) (slots id : ℕ) → me ≡ (sight Reads l, (0, Some r) ∷ [])
    → Allows KeepsRule slots id me 0 (λ n. 1) (λ n. lends (step slots 0 1 0 mathlib.Core.Option.none) me 1)
lends_as l r me slots id e =
    rw e
    (by_phase slots id (sight Reads l, (0, Some r) ∷ []) (λ n. 1) (λ n m. m ≡ (sight Lends (told l r), []))
    (reads 1 l (sight Reads l, (0, Some r) ∷ []) (λ n m. m ≡ (sight Lends (told l r), [])) refl
    (λ k n. (sight Lends (told l r), gives, tt, (asked (told l r) r, refl, kept_told l r), refl)) id))

pub closes_as : (l : Left) (me : Hand) (slots id : ℕ) → me ≡ (sight Reads l, (0, None) ∷ [])
    → Allows KeepsRule slots id me 0 (λ n. 3) (λ n. closes (step slots 0 3 0 mathlib.Core.Option.none) me 3)
closes_as l me slots id e =
    rw e
    (by_phase slots id (sight Reads l, (0, None) ∷ []) (λ n. 3) (λ n m. m ≡ (sight Reads l, (0, None) ∷ []))
    (reads 3 l (sight Reads l, (0, None) ∷ []) (λ n m. m ≡ (sight Reads l, (0, None) ∷ [])) refl
    (λ k n. (sight Reads l, keeps, tt, (closed l, refl, tt), refl)) id))

pub looks_as : (me : Hand) (slots id : ℕ) → me ≡ (sight Rests None, [])
    → Allows KeepsRule slots id me 0 (λ n. n) (takes_reader (step slots 0 0 0 mathlib.Core.Option.none) me)
looks_as me slots id e =
    rw e
    (by_phase slots id (sight Rests None, []) (λ n. n)
    (λ n m. takes_reader (step 1 0 0 0 mathlib.Core.Option.none) (sight Rests None, []) n m) (looks id))

pub returns_as : (l r : Left) (me : Hand) (slots id : ℕ) → Keeps l r → me ≡ (sight Takes l, (0, Some r) ∷ [])
    → Allows KeepsRule slots id me 0 (λ n. 2) (λ n. returns_reader (step slots 0 2 0 mathlib.Core.Option.none) me 2)
returns_as l r me slots id kept e =
    rw e
    (by_phase slots id (sight Takes l, (0, Some r) ∷ []) (λ n. 2) (λ n m. m ≡ (sight Rests None, []))
    (returns l r kept id))

pub waits_as : (l : Left) (me : Hand) (slots id : ℕ) → me ≡ (sight Lends l, [])
    → Allows KeepsRule slots id me 0 (λ n. either (n == 2) 0 n)
    (takes_back (step slots 0 2 0 mathlib.Core.Option.none) me)
waits_as l me slots id e =
    rw e
    (by_phase slots id (sight Lends l, []) (λ n. either (n == 2) 0 n)
    (λ n m. takes_back (step 1 0 2 0 mathlib.Core.Option.none) (sight Lends l, []) n m) (waits l id))

divides : (l : Left) (id : ℕ) (p : Phase) → Stands id p (sight Holding l)
    → KeepsRule record {
      words = (turn_at p).words;
      homes = (turn_at p).homes;
      views = Rattle.std.proofs.Common.set (turn_at p).views id (sight Reads l) ++ sight Rests None ∷ [];
    }
divides l zero (fresh k) at = elsewhere Opening Holding _ _ refl at
divides l (suc id) (fresh k) at = nowhere _ at
divides l zero (dealt k) at = (home l, refl, tt)
divides l (suc id) (dealt k) at = nowhere _ at
divides l zero (home k) at = elsewhere Reads Holding _ _ refl at
divides l (suc zero) (home k) at = elsewhere Rests Holding _ _ refl at
divides l (suc (suc id)) (home k) at = nowhere _ at
divides l zero (asked k r) at = elsewhere Lends Holding _ _ refl at
divides l (suc zero) (asked k r) at = elsewhere Rests Holding _ _ refl at
divides l (suc (suc id)) (asked k r) at = nowhere _ at
divides l zero (taken k) at = elsewhere Lends Holding _ _ refl at
divides l (suc zero) (taken k) at = elsewhere Takes Holding _ _ refl at
divides l (suc (suc id)) (taken k) at = nowhere _ at
divides l zero (read k r) at = elsewhere Lends Holding _ _ refl at
divides l (suc zero) (read k r) at = elsewhere Rests Holding _ _ refl at
divides l (suc (suc id)) (read k r) at = nowhere _ at
divides l zero (closed k) at = elsewhere Reads Holding _ _ refl at
divides l (suc zero) (closed k) at = elsewhere Rests Holding _ _ refl at
divides l (suc (suc id)) (closed k) at = nowhere _ at

divides_as : (l : Left) (id : ℕ) → Splits KeepsRule id (sight Holding l) (sight Reads l) (sight Rests None)
divides_as l id s k at =
    subst
    (λ (t : Turn). KeepsRule record {
      words = t.words;
      homes = t.homes;
      views = Rattle.std.proofs.Common.set t.views id (sight Reads l) ++ sight Rests None ∷ [];
    })
    (sym k.1) (divides l id k.0 (ap (λ (t : Turn). get_elem? t.views id) (sym k.1) ∙ at))

-- what a seat that looked knows where it found the word that it looked for
pub reader_seen : (m m' : Hand) (n : ℕ) → takes_reader (step 1 0 0 0 mathlib.Core.Option.none) m n m' → n ≡ 1
    → (left reader : Left) × Keeps left reader × (m' ≡ (sight Takes left, (0, Some reader) ∷ []))
reader_seen m m' n h e = subst (λ (k : ℕ). takes_reader (step 1 0 0 0 mathlib.Core.Option.none) m k m') e h

pub reader_back : (m m' : Hand) (n : ℕ) → takes_back (step 1 0 2 0 mathlib.Core.Option.none) m n m' → n ≡ 2
    → (reader : Left) × Keeps m.0.left reader × (m' ≡ (sight Reads m.0.left, (0, Some reader) ∷ []))
reader_back m m' n h e = subst (λ (k : ℕ). takes_back (step 1 0 2 0 mathlib.Core.Option.none) m k m') e h

pub slot_held : (v : Sight) (x : Option Left) (m : Hand) → m ≡ (v, (0, x) ∷ [])
    → (y : Option Left) × (m.1 ≡ (0, y) ∷ rest m.1)
slot_held v x m e = (x, rw e refl)

-- the slot of the seat, after its reader was exchanged once or twice
pub put_once : (v : Sight) (x y : Option Left) (m m' : Hand) → m ≡ (v, (0, x) ∷ []) → m' ≡ (m.0, (0, y) ∷ rest m.1)
    → m' ≡ (v, (0, y) ∷ [])
put_once v x y m m' e e' = rw (e', e) refl

abbrev first_item : List (ℕ × Option Left) → Option Left
first_item [] = None
first_item (item ∷ items) = item.1

-- what was taken out of the slot is what was seen in it
pub same_item : (v : Sight) (m : Hand) (got x : Option Left) → m ≡ (v, (0, x) ∷ []) → m.1 ≡ (0, got) ∷ rest m.1
    → got ≡ x
same_item v m got x e carried = ap first_item (sym carried ∙ ap (λ (h : Hand). h.1) e)

pub same_reader : (x y : Left) → Some x ≡ Some y → x ≡ y
same_reader x y e = cc

-- the seat of a source whose reader is lent, and of one that has it
pub lent : (me : Hand) (reader : Option Left) → is_some reader ≡ false → StandsAt me reader
    → me ≡ (sight Lends me.0.left, [])
lent me None e stands = stands
lent me (Some reader) e stands = cc

pub has : (me : Hand) (reader : Option Left) (found : Left) → reader ≡ Some found → StandsAt me reader
    → me ≡ (sight Reads me.0.left, (0, None) ∷ [])
has me None found e stands = cc
has me (Some reader) found e stands = stands

pub divides_at : (l : Left) (seen : Sight) (id : ℕ) → seen ≡ sight Holding l
    → Splits KeepsRule id seen (reading_sight seen) (resting_sight seen)
divides_at l seen id e = rw e (divides_as l id)
