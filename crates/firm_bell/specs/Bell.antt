-- The rule of a hall's bell: no worker sleeps on while a round that was put waits, or once the bell is shut.
use Rattle.std.specs.Prelude.{◌≡◌, ◌≢◌, ◌⊎◌, ◌+◌, ◌%◌, ◌^◌, ◌<◌, ◌≤◌, ℕ, Bool, false, true, List, [], ◌∷◌}
use mathlib.Core.Option.{some}
use lib.ListN.{get_elem?}
use Rattle.atomic_table.specs.Table.{State}
use Rattle.firm_bell.specs.declared.rule.Stage.{Stage}
use Rattle.firm_bell.specs.declared.rule.Stage.TheVariants.{Awake, Putting, Announced, Resting, Ended}
use Rattle.firm_bell.specs.declared.rule.BellSight.{BellSight}

-- The words: how many rounds wait or are being put; whether a wake is owed; how many workers have announced a rest; and
-- how many wakes no worker has used yet.
pub record BellWords : Type 0 where
  pub waiting : ℕ
  pub owes : ℕ
  pub resting : ℕ
  pub wakes : ℕ

-- a word and what fills its cache line
abbrev pub line : ℕ → List ℕ → List ℕ
line word rest = word ∷ 0 ∷ 0 ∷ 0 ∷ 0 ∷ 0 ∷ 0 ∷ 0 ∷ rest

abbrev pub laid : BellWords → List ℕ
laid w = line w.waiting (line w.owes (line w.resting (line w.wakes [])))

-- as many wakes as no use lowers
abbrev pub everyone : ℕ
everyone = 65536

-- The bell is shut: it has wakes that no use lowers, so each rest ends.
abbrev pub IsShut : BellWords → Type 0
IsShut w = w.wakes ≡ everyone

-- a caller or a worker that has just come
abbrev pub newcomer : BellSight
newcomer =
    record {
      stage = Awake;
      owes_call = false;
      owes_ring = false;
      knows_shut = false;
      is_late = false;
      counted = 0;
      took = 0;
      left = 0;
    }

-- the same seat at this stage, with this debt and this knowledge
abbrev pub seen : BellSight → Stage → Bool → Bool → Bool → BellSight
seen v stage owes_call knows_shut is_late =
    record {
      stage = stage;
      owes_call = owes_call;
      owes_ring = v.owes_ring;
      knows_shut = knows_shut;
      is_late = is_late;
      counted = v.counted;
      took = v.took;
      left = v.left;
    }

-- 1 at a seat that puts a round, 0 at others
abbrev pub puts : Stage → ℕ
puts Awake = 0
puts Putting = 1
puts Announced = 0
puts Resting = 0
puts Ended = 0

-- 1 at a worker that has announced a rest and not ended it, 0 at others
abbrev pub in_rest : Stage → ℕ
in_rest Awake = 0
in_rest Putting = 0
in_rest Announced = 1
in_rest Resting = 1
in_rest Ended = 0

-- 1 at a worker that sleeps until a wake, 0 at others
abbrev pub rests : Stage → ℕ
rests Awake = 0
rests Putting = 0
rests Announced = 0
rests Resting = 1
rests Ended = 0

-- how many seats there are of some stages
abbrev pub seats : (Stage → ℕ) → List BellSight → ℕ
seats kind [] = 0
seats kind (view ∷ rest) = kind view.stage + seats kind rest

-- how many the seats have of something, in all
abbrev pub total : (BellSight → ℕ) → List BellSight → ℕ
total of [] = 0
total of (view ∷ rest) = of view + total of rest

abbrev pub Each : (BellSight → Type 0) → List BellSight → Type 0
Each Is views = (id : ℕ) (v : BellSight) → get_elem? views id ≡ some v → Is v

abbrev pub Any : (BellSight → Type 0) → List BellSight → Type 0
Any Is views = (id : ℕ) × (v : BellSight) × (get_elem? views id ≡ some v) × Is v

-- No worker rests; or a wake is under way; or one is owed until a caller rings; or a caller or worker has still to wake
-- a worker. A worker that solves a round does not: it could take long.
pub data IsHeard (owes wakes : ℕ) (views : List BellSight) : Type 0 where
  none_rests : seats rests views ≡ 0 → IsHeard owes wakes views
  wake_comes : wakes ≢ 0 → IsHeard owes wakes views
  wake_is_owed : owes ≢ 0 → IsHeard owes wakes views
  call_is_owed : Any (λ v. v.owes_call ≡ true) views → IsHeard owes wakes views

-- If more rounds wait than are still being put, they are heard; a caller that puts one has still to look whether a
-- worker rests. The bell is shut if and only if a seat knows so: the one that shut it, or one that learnt it. A worker
-- has ended only once the bell was shut, when no round waited; and none waits now, unless a seat raised their count
-- once the bell was shut. A wake is owed only while a caller has still to ring. The rounds that wait are those that
-- were counted and not taken, modulo 2^64.
pub record IsKept (w : BellWords) (views : List BellSight) : Type 0 where
  pub heard : seats puts views < w.waiting → IsHeard w.owes w.wakes views
  pub shut : IsShut w → Any (λ v. v.knows_shut ≡ true) views
  pub ended : Each (λ v. v.stage ≡ Ended → IsShut w
      × ((w.waiting ≡ 0) ⊎ Any (λ u. u.is_late ≡ true) views)) views
  pub knew : Each (λ v. v.knows_shut ≡ true → IsShut w) views
  pub late : Each (λ v. v.is_late ≡ true → IsShut w) views
  pub counted : seats in_rest views ≡ w.resting
  pub few : w.wakes ≤ everyone
  pub rung : w.owes ≢ 0 → Any (λ v. v.owes_ring ≡ true) views
  pub exact : (w.waiting + total (λ v. v.took) views) % 2 ^ 64 ≡ total (λ v. v.counted) views % 2 ^ 64

abbrev pub BellState : Type 0
BellState = State (Unit {0}) BellSight

abbrev pub KeepsRule : BellState → Type 0
KeepsRule state = (w : BellWords) × (state.words ≡ laid w) × IsKept w state.views
