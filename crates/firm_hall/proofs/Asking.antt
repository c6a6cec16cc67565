-- The number of rounds that a command adds to those requested.
use Rattle.std.proofs.Common.{◌≡◌, ℕ, ◌+◌, ◌<◌, ◌≤◌, refl, arith, ⊎_elim}
use Rattle.std.specs.Prelude.{Bool, true, false, ◌⊎◌, if◌then◌else◌}
use Rattle.std.proofs.lemmas.Bool.{lt-leb}
use Rattle.firm_rules.specs.Book.{Book}
use Rattle.firm_rules.specs.declared.commands.Command.{Command}
use Rattle.firm_rules.specs.declared.commands.Command.TheVariants.{AddMachine, AddJob, AddTask, Drain, CloseJob, Done}
use Rattle.firm_rules.specs.declared.commands.Command.TheVariants.{Find, Show, Costs, Round, Faulty}
use Rattle.firm_rules.specs.declared.replies.Reply.{Reply}
use Rattle.firm_rules.specs.declared.replies.Outcome.TheVariants.{Refused}
use Rattle.firm_rules.specs.declared.replies.Refusal.TheVariants.{Worn, Memory}
use Rattle.firm_tenant.specs.Step.{step, is_memory}
use Rattle.firm_table.specs.Interleaving.{is_round}
use Rattle.firm_hall.specs.Counts.{is_worn, round_in}
use Rattle.firm_hall.specs.inner.Reckoned.{asks}

-- a command is one round at most
one_round : (command : Command) (reply : Reply) → round_in command reply ≤ 1
one_round command reply = by (is_round command) (is_worn reply.outcome)
  where
    by : (round worn : Bool) → (if round then (if worn then 0 else 1) else 0) ≤ 1
    by true true = omega arith
    by true false = omega arith
    by false worn = omega arith

-- only a round that is refused memory may go unrequested
pub asks_least : (command : Command) (reply : Reply) (asked : Bool) → asks command reply asked ≤ round_in command reply
asks_least command reply asked = by (is_memory reply) asked (round_in command reply)
  where
    by : (memory asked : Bool) (count : ℕ) → (if memory then (if asked then count else 0) else count) ≤ count
    by true true count = omega arith
    by true false count = omega arith
    by false asked count = omega arith

pub asks_most : (command : Command) (reply : Reply) (asked : Bool)
    → round_in command reply ≤ asks command reply asked + (if is_memory reply then 1 else 0)
asks_most command reply asked = by (is_memory reply) asked (round_in command reply) (one_round command reply)
  where
    by : (memory asked : Bool) (count : ℕ) → count ≤ 1
        → count ≤ (if memory then (if asked then count else 0) else count) + (if memory then 1 else 0)
    by true true count few = omega arith
    by true false count few = omega arith
    by false asked count few = omega arith

-- a refused round counts only where memory was refused
refused_counts : (command : Command) (reply : Reply)
    → (command ≡ Round → (reply.outcome ≡ Refused Worn) ⊎ (reply.outcome ≡ Refused Memory))
    → round_in command reply ≤ (if is_memory reply then 1 else 0)
refused_counts command reply why =
    elim (is_round command) as (λ b. is_round command ≡ b
    → round_in command reply ≤ (if is_memory reply then 1 else 0)) [
      | true ↦ λ e. ⊎_elim
          (λ (worn : reply.outcome ≡ Refused Worn). rw (e, worn) (omega arith))
          (λ (memory : reply.outcome ≡ Refused Memory). rw (e, memory) (omega arith))
          (why (is_a_round command e))
      | false ↦ λ e. rw e (omega arith)
    ] refl
  where
    is_a_round : (c : Command) → is_round c ≡ true → c ≡ Round
    is_a_round Round e = refl
    is_a_round (AddMachine name answers) e = cc
    is_a_round (AddJob name weight) e = cc
    is_a_round (AddTask job name preferred) e = cc
    is_a_round (Drain name) e = cc
    is_a_round (CloseJob name) e = cc
    is_a_round (Done name) e = cc
    is_a_round (Find name) e = cc
    is_a_round Show e = cc
    is_a_round Costs e = cc
    is_a_round (Faulty fault) e = cc

-- what a desk answers itself asks for none
pub answered_asks : (command : Command) (reply : Reply)
    → (command ≡ Round → (reply.outcome ≡ Refused Worn) ⊎ (reply.outcome ≡ Refused Memory))
    → 0 ≡ asks command reply false
answered_asks command reply why = by (is_memory reply) (round_in command reply) (refused_counts command reply why)
  where
    by : (memory : Bool) (count : ℕ) → count ≤ (if memory then 1 else 0)
        → 0 ≡ (if memory then (if false then count else 0) else count)
    by true count few = refl
    by false count few = omega arith

-- a round for which life is left counts
pub round_asks : (b : Book) (mark : Bool) → b.given < b.rows.limits.life
    → 1 ≡ asks Round (step b Round mark).0 true
round_asks b mark left = by (is_memory (step b Round mark).0) (round_in Round (step b Round mark).0) (counts mark)
  where
    counts : (mark : Bool) → round_in Round (step b Round mark).0 ≡ 1
    counts true = rw (lt-leb b.rows.limits.life b.given left) refl
    counts false = rw (lt-leb b.rows.limits.life b.given left) refl

    by : (memory : Bool) (count : ℕ) → count ≡ 1 → 1 ≡ (if memory then (if true then count else 0) else count)
    by true count one = omega arith
    by false count one = omega arith
