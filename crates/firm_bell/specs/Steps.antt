-- The effect of each step on the seat that takes it.
use Rattle.std.specs.Prelude.{◌≡◌, ◌≢◌, ℕ, ◌+◌, ◌-◌, Bool, false, true}
use Rattle.atomic_table.specs.Table.{Me, Step}
use Rattle.atomic_table.specs.Seated.{TableId}
use Rattle.atomic_table.specs.declared.shared.Seat.{Seat}
use Rattle.firm_bell.specs.declared.rule.Stage.{Stage}
use Rattle.firm_bell.specs.declared.rule.Stage.TheVariants.{Awake, Putting, Announced, Resting, Ended}
use Rattle.firm_bell.specs.declared.rule.BellSight.{BellSight}
use Rattle.firm_bell.specs.Bell.{everyone, newcomer, seen}

abbrev pub Hand : Type 0
Hand = Me (Unit {0}) BellSight

abbrev pub BellStep : Type 0
BellStep = Step (Unit {0})

-- the seat at this stage; as it owes no call, and as it owes one; and the seat as it knows that the bell is shut
abbrev pub at_stage : Stage → BellSight → BellSight
at_stage stage v = seen v stage v.owes_call v.knows_shut v.is_late

abbrev pub free : Stage → BellSight → BellSight
free stage v = seen v stage false v.knows_shut v.is_late

abbrev pub owing : Stage → BellSight → BellSight
owing stage v = seen v stage true v.knows_shut v.is_late

abbrev pub knowing : BellSight → BellSight
knowing v = seen v Awake v.owes_call true v.is_late

-- the seat as it has still to ring, or has rung; and with these numbers of rounds counted and taken, and of wakes left
abbrev pub ringing : Bool → BellSight → BellSight
ringing owes v =
    record {
      stage = v.stage;
      owes_call = v.owes_call;
      owes_ring = owes;
      knows_shut = v.knows_shut;
      is_late = v.is_late;
      counted = v.counted;
      took = v.took;
      left = v.left;
    }

abbrev pub tallied : ℕ → ℕ → ℕ → BellSight → BellSight
tallied counted took left v =
    record {
      stage = v.stage;
      owes_call = v.owes_call;
      owes_ring = v.owes_ring;
      knows_shut = v.knows_shut;
      is_late = v.is_late;
      counted = counted;
      took = took;
      left = left;
    }

abbrev pub one_taken : BellSight → BellSight
one_taken v = tallied v.counted (v.took + 1) v.left v

-- one thing where the word was this number, another where not
abbrev pub Found : ℕ → ℕ → Type 0 → Type 0 → Type 0
Found word number Is IsElse = (word ≡ number → Is) × (word ≢ number → IsElse)

abbrev pub comes : BellStep → Hand → ℕ → Hand → Type 0
comes step before word after = after.0 ≡ newcomer

-- it may come late
abbrev pub expects : BellStep → Hand → ℕ → Hand → Type 0
expects step before word after =
    after.0 ≡ tallied (before.0.counted + 1) before.0.took before.0.left
    (seen before.0 Putting before.0.owes_call before.0.knows_shut after.0.is_late)

abbrev pub looks_for_rest : BellStep → Hand → ℕ → Hand → Type 0
looks_for_rest step before word after =
    Found word 0 (after.0 ≡ free Awake before.0) (after.0 ≡ owing Awake before.0)

abbrev pub looks_for_round : BellStep → Hand → ℕ → Hand → Type 0
looks_for_round step before word after = Found word 0 (after.0 ≡ free Awake before.0) (after.0 ≡ before.0)

abbrev pub discharges : BellStep → Hand → ℕ → Hand → Type 0
discharges step before word after =
    after.0 ≡ tallied before.0.counted before.0.took (before.0.left + (step.first - word)) (free Awake before.0)

abbrev pub owes : BellStep → Hand → ℕ → Hand → Type 0
owes step before word after = after.0 ≡ ringing true (free Awake before.0)

abbrev pub rings : BellStep → Hand → ℕ → Hand → Type 0
rings step before word after =
    Found word 0 (after.0 ≡ ringing false before.0) (after.0 ≡ ringing false (owing Awake before.0))

abbrev pub shuts : BellStep → Hand → ℕ → Hand → Type 0
shuts step before word after = after.0 ≡ knowing newcomer

abbrev pub learns_shut : BellStep → Hand → ℕ → Hand → Type 0
learns_shut step before word after = Found word everyone (after.0 ≡ knowing before.0) (after.0 ≡ before.0)

abbrev pub announces : BellStep → Hand → ℕ → Hand → Type 0
announces step before word after =
    Found word step.first (after.0 ≡ at_stage Announced before.0) (after.0 ≡ before.0)

abbrev pub lies_down : BellStep → Hand → ℕ → Hand → Type 0
lies_down step before word after = Found word 0 (after.0 ≡ free Resting before.0) (after.0 ≡ before.0)

abbrev pub wakes_up : BellStep → Hand → ℕ → Hand → Type 0
wakes_up step before word after =
    Found word step.first (after.0 ≡ owing Announced before.0) (after.0 ≡ before.0)

abbrev pub ends_rest : BellStep → Hand → ℕ → Hand → Type 0
ends_rest step before word after = after.0 ≡ at_stage Awake before.0

-- where no round was counted, it owes a call, and may come late
abbrev pub takes : BellStep → Hand → ℕ → Hand → Type 0
takes step before word after =
    Found word 0
    (after.0 ≡ one_taken (seen before.0 Awake true before.0.knows_shut after.0.is_late))
    (after.0 ≡ one_taken before.0)

abbrev pub ends : BellStep → Hand → ℕ → Hand → Type 0
ends step before word after = Found word 0 (after.0 ≡ free Ended before.0) (after.0 ≡ before.0)

abbrev pub BellSeat : Type 0
BellSeat = Seat (Unit {0}) BellSight

-- the seat is of this bell and knows this
abbrev pub Knows : TableId → BellSight → BellSeat → Type 0
Knows bell v seat = (seat.table_id ≡ bell) × (seat.me.0 ≡ v)

-- the seat is of this bell and stands at this stage
abbrev pub StandsAt : TableId → Stage → BellSeat → Type 0
StandsAt bell stage seat = (seat.table_id ≡ bell) × (seat.me.0.stage ≡ stage)

-- the seat owes no call, and left this many wakes so far; it is otherwise as it was
abbrev pub HasWoken : TableId → BellSight → ℕ → BellSeat → Type 0
HasWoken bell v left seat = Knows bell (tallied v.counted v.took left (free Awake v)) seat

-- the caller has counted this many rounds, has woken whom it had to wake, and rings if it owes that
abbrev pub HasCalled : TableId → ℕ → BellSeat → Type 0
HasCalled bell counted seat =
    StandsAt bell Awake seat × (seat.me.0.owes_call ≡ false) × (seat.me.0.counted ≡ counted)

-- it owes nothing
abbrev pub OwesNothing : BellSeat → Type 0
OwesNothing seat =
    (seat.me.0.stage ≡ Awake) × (seat.me.0.owes_call ≡ false) × (seat.me.0.owes_ring ≡ false)

-- the worker took this many rounds more, and knows as before whether the bell is shut
abbrev pub HasTaken : ℕ → BellSeat → BellSeat → Type 0
HasTaken more old new =
    (new.me.0.took ≡ old.me.0.took + more) × (new.me.0.knows_shut ≡ old.me.0.knows_shut)
