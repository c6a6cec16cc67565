-- Rounds of a tenant, computed from its commands: each reply as it is written out beside the command.
use Rattle.std.proofs.Common.{◌≡◌, ℕ, ◌+◌, false, true, List, [], ◌∷◌, ◌++◌, refl, codes}
use Rattle.std.specs.Prelude.{pos}
use Rattle.firm_rules.specs.Book.{Book, opening_book}
use Rattle.firm_rules.specs.declared.commands.Command.{Command}
use Rattle.firm_rules.specs.declared.commands.Command.TheVariants.{AddMachine, AddJob, AddTask, Drain, Done, Find, Show}
use Rattle.firm_rules.specs.declared.commands.Command.TheVariants.{Costs as Ask, Round}
use Rattle.firm_rules.specs.declared.replies.Reply.{Reply}
use Rattle.firm_rules.specs.declared.replies.Outcome.{Outcome}
use Rattle.firm_rules.specs.declared.replies.Outcome.TheVariants.{Plain, Evicted, At, Waits, Shown, Costs}
use Rattle.firm_rules.specs.declared.replies.Outcome.TheVariants.{Round as Rounded, Refused}
use Rattle.firm_rules.specs.declared.replies.Refusal.TheVariants.{Worn, Memory}
use Rattle.firm_rules.specs.declared.rounds.Change.TheVariants.{Start, Move, Preempt}
use Rattle.firm_tenant.specs.Step.{step}

-- the replies to commands, of which none is refused for lack of memory
abbrev replies : Book → List Command → List Reply
replies book [] = []
replies book (command ∷ commands) = let after = step book command false in after.0 ∷ replies after.1 commands

abbrev outcomes : ℕ → List Outcome → List Reply
outcomes number [] = []
outcomes number (outcome ∷ more) = record { number = number; outcome = outcome } ∷ outcomes (number + 1) more

abbrev tenant : ℕ → ℕ → ℕ → ℕ → ℕ → Book
tenant nodes arcs life spread churn =
    opening_book (record {
      nodes = nodes;
      arcs = arcs;
      life = life;
      spread = spread;
      churn = churn;
      remote = 0;
      patience = 1000000;
    })

-- two tasks on two machines, one each, and then a third
spreading : replies (tenant 9 24 100 1 2)
    (AddMachine (codes "m1") 2 ∷ AddMachine (codes "m2") 2 ∷ AddJob (codes "j") 10
    ∷ AddTask (codes "j") (codes "a") [] ∷ AddTask (codes "j") (codes "b") [] ∷ Round
    ∷ AddTask (codes "j") (codes "c") [] ∷ Round ∷ [])
    ≡ outcomes 1 (Plain ∷ Plain ∷ Plain ∷ Plain ∷ Plain
    ∷ Rounded (pos 0) (Start (codes "a") (codes "m1") ∷ Start (codes "b") (codes "m2") ∷ [])
    ∷ Plain ∷ Rounded (pos 1) (Start (codes "c") (codes "m1") ∷ []) ∷ [])
spreading = refl

-- a wait grows until it costs as much as a second task on the machine: the tenth round is a tie, and the machine ranks
-- first
growing : replies (tenant 8 30 100 10 20)
    (AddMachine (codes "m1") 2 ∷ AddJob (codes "j") 1 ∷ AddTask (codes "j") (codes "x") []
    ∷ AddTask (codes "j") (codes "y") []
    ∷ Round ∷ Round ∷ Round ∷ Round ∷ Round ∷ Round ∷ Round ∷ Round ∷ Round ∷ Round ∷ [])
    ≡ outcomes 1 (Plain ∷ Plain ∷ Plain ∷ Plain
    ∷ Rounded (pos 1) (Start (codes "x") (codes "m1") ∷ [])
    ∷ Rounded (pos 2) [] ∷ Rounded (pos 3) [] ∷ Rounded (pos 4) [] ∷ Rounded (pos 5) [] ∷ Rounded (pos 6) []
    ∷ Rounded (pos 7) [] ∷ Rounded (pos 8) [] ∷ Rounded (pos 9) []
    ∷ Rounded (pos 10) (Start (codes "y") (codes "m1") ∷ []) ∷ [])
growing = refl

-- a task that waits for more than the one that runs, and churn, preempts it
preempting : replies (tenant 8 30 100 0 3)
    (AddMachine (codes "m1") 1 ∷ AddJob (codes "low") 2 ∷ AddTask (codes "low") (codes "l") [] ∷ Round
    ∷ AddJob (codes "high") 20 ∷ AddTask (codes "high") (codes "h") [] ∷ Round ∷ [])
    ≡ outcomes 1 (Plain ∷ Plain ∷ Plain ∷ Rounded (pos 0) (Start (codes "l") (codes "m1") ∷ [])
    ∷ Plain ∷ Plain ∷ Rounded (pos 5) (Preempt (codes "l") (codes "m1") ∷ Start (codes "h") (codes "m1") ∷ []) ∷ [])
preempting = refl

-- a task moves to a new machine where churn costs less than the load, and without churn the first one stays
abbrev crowding : List Command
crowding =
    AddMachine (codes "m1") 2 ∷ AddJob (codes "j") 50 ∷ AddTask (codes "j") (codes "p") []
    ∷ AddTask (codes "j") (codes "q") []
    ∷ Round ∷ AddMachine (codes "m2") 2 ∷ Round ∷ []

moving : replies (tenant 8 30 100 10 3) crowding
    ≡ outcomes 1 (Plain ∷ Plain ∷ Plain ∷ Plain
    ∷ Rounded (pos 10) (Start (codes "p") (codes "m1") ∷ Start (codes "q") (codes "m1") ∷ [])
    ∷ Plain ∷ Rounded (pos 3) (Move (codes "q") (codes "m1") (codes "m2") ∷ []) ∷ [])
moving = refl

free : replies (tenant 8 30 100 10 0) crowding
    ≡ outcomes 1 (Plain ∷ Plain ∷ Plain ∷ Plain
    ∷ Rounded (pos 10) (Start (codes "p") (codes "m1") ∷ Start (codes "q") (codes "m1") ∷ [])
    ∷ Plain ∷ Rounded (pos 0) (Move (codes "q") (codes "m1") (codes "m2") ∷ []) ∷ [])
free = refl

-- a machine or a task that is added again goes last
again : replies (tenant 8 30 100 1 1)
    (AddMachine (codes "m1") 1 ∷ AddMachine (codes "m2") 1 ∷ AddMachine (codes "m3") 1 ∷ Drain (codes "m1")
    ∷ AddMachine (codes "m1") 1 ∷ AddJob (codes "j") 5 ∷ AddTask (codes "j") (codes "x") []
    ∷ AddTask (codes "j") (codes "y") []
    ∷ Round ∷ Done (codes "x") ∷ AddTask (codes "j") (codes "x") [] ∷ Drain (codes "m3") ∷ Round ∷ [])
    ≡ outcomes 1 (Plain ∷ Plain ∷ Plain ∷ Evicted 0 ∷ Plain ∷ Plain ∷ Plain ∷ Plain
    ∷ Rounded (pos 0) (Start (codes "x") (codes "m2") ∷ Start (codes "y") (codes "m3") ∷ [])
    ∷ Plain ∷ Plain ∷ Evicted 1
    ∷ Rounded (pos 0) (Start (codes "y") (codes "m2") ∷ Start (codes "x") (codes "m1") ∷ []) ∷ [])
again = refl

-- two tasks whose waits take turns on one slot; the third round is a tie
turns : replies (tenant 8 30 100 0 0)
    (AddMachine (codes "m1") 1 ∷ AddJob (codes "light") 1 ∷ AddJob (codes "heavy") 3
    ∷ AddTask (codes "light") (codes "x") [] ∷ AddTask (codes "heavy") (codes "y") []
    ∷ Round ∷ Round ∷ Round ∷ Round ∷ [])
    ≡ outcomes 1 (Plain ∷ Plain ∷ Plain ∷ Plain ∷ Plain
    ∷ Rounded (pos 1) (Start (codes "y") (codes "m1") ∷ []) ∷ Rounded (pos 2) []
    ∷ Rounded (pos 3) (Start (codes "x") (codes "m1") ∷ Preempt (codes "y") (codes "m1") ∷ [])
    ∷ Rounded (pos 1) (Preempt (codes "x") (codes "m1") ∷ Start (codes "y") (codes "m1") ∷ []) ∷ [])
turns = refl

-- tasks thrown out of their machine wait from 0, and run again when it is back; each round's cost is recorded
draining : replies (tenant 8 30 100 1 1)
    (AddMachine (codes "m1") 2 ∷ AddJob (codes "j") 9 ∷ AddTask (codes "j") (codes "x") []
    ∷ AddTask (codes "j") (codes "y") []
    ∷ Round ∷ Find (codes "x") ∷ Drain (codes "m1") ∷ Find (codes "x") ∷ Show ∷ Round ∷ Ask
    ∷ AddMachine (codes "m1") 2 ∷ Round ∷ [])
    ≡ outcomes 1 (Plain ∷ Plain ∷ Plain ∷ Plain
    ∷ Rounded (pos 1) (Start (codes "x") (codes "m1") ∷ Start (codes "y") (codes "m1") ∷ [])
    ∷ At (codes "m1") ∷ Evicted 2 ∷ Waits 0 ∷ Shown 0 1 2 0 5 8 7 30
    ∷ Rounded (pos 18) [] ∷ Costs (pos 1 ∷ pos 18 ∷ [])
    ∷ Plain ∷ Rounded (pos 1) (Start (codes "x") (codes "m1") ∷ Start (codes "y") (codes "m1") ∷ []) ∷ [])
draining = refl

-- a tenant without machines, jobs and tasks has rounds too, until it is worn
empty : replies (tenant 2 0 3 0 0) (Show ∷ Ask ∷ Round ∷ Show ∷ Round ∷ [])
    ≡ outcomes 1 (Shown 0 0 0 0 2 2 0 0 ∷ Costs [] ∷ Rounded (pos 0) [] ∷ Refused Worn ∷ [])
    ++ outcomes 4 (Refused Worn ∷ [])
empty = refl

-- of nine rounds, the costs of the last eight are recorded
eight : replies (tenant 8 30 100 0 0)
    (AddJob (codes "j") 1 ∷ AddTask (codes "j") (codes "x") []
    ∷ Round ∷ Round ∷ Round ∷ Round ∷ Round ∷ Round ∷ Round ∷ Round ∷ Round ∷ Ask ∷ [])
    ≡ outcomes 1 (Plain ∷ Plain
    ∷ Rounded (pos 1) [] ∷ Rounded (pos 2) [] ∷ Rounded (pos 3) [] ∷ Rounded (pos 4) [] ∷ Rounded (pos 5) []
    ∷ Rounded (pos 6) [] ∷ Rounded (pos 7) [] ∷ Rounded (pos 8) [] ∷ Rounded (pos 9) []
    ∷ Costs (pos 2 ∷ pos 3 ∷ pos 4 ∷ pos 5 ∷ pos 6 ∷ pos 7 ∷ pos 8 ∷ pos 9 ∷ []) ∷ [])
eight = refl

-- a task waits longer with each round, and from 0 once it ran
ageing : replies (tenant 8 30 100 0 0)
    (AddJob (codes "j") 5 ∷ AddTask (codes "j") (codes "x") [] ∷ Round ∷ Round ∷ Find (codes "x")
    ∷ AddMachine (codes "m1") 1 ∷ Round ∷ Find (codes "x") ∷ Drain (codes "m1") ∷ Find (codes "x") ∷ [])
    ≡ outcomes 1 (Plain ∷ Plain ∷ Rounded (pos 5) [] ∷ Rounded (pos 6) [] ∷ Waits 2 ∷ Plain
    ∷ Rounded (pos 0) (Start (codes "x") (codes "m1") ∷ []) ∷ At (codes "m1") ∷ Evicted 1 ∷ Waits 0 ∷ [])
ageing = refl

-- a round that memory was refused is counted and changes nothing
refused_round : (step (tenant 2 0 3 0 0) Round true).0 ≡ record { number = 1; outcome = Refused Memory }
refused_round = refl

after_it : (step (tenant 2 0 3 0 0) Round true).1 ≡ record (tenant 2 0 3 0 0) { given = 1 }
after_it = refl

abbrev near : ℕ → Book
near remote =
    opening_book (record {
      nodes = 9;
      arcs = 30;
      life = 100;
      spread = 0;
      churn = 0;
      remote = remote;
      patience = 1000000;
    })

abbrev preferring : List Command
preferring =
    AddMachine (codes "m1") 1 ∷ AddMachine (codes "m2") 1 ∷ AddJob (codes "j") 20
    ∷ AddTask (codes "j") (codes "x") (codes "m2" ∷ []) ∷ AddTask (codes "j") (codes "y") (codes "m2" ∷ []) ∷ Round ∷ []

-- one of two tasks pays for a machine that it does not prefer, stays there for nothing, and forgets one that is drained
local : replies (near 7)
    (preferring ++ Done (codes "y") ∷ Round ∷ Show ∷ Drain (codes "m2") ∷ Show ∷ AddMachine (codes "m2") 1 ∷ Show ∷ [])
    ≡ outcomes 1 (Plain ∷ Plain ∷ Plain ∷ Plain ∷ Plain
    ∷ Rounded (pos 7) (Start (codes "x") (codes "m1") ∷ Start (codes "y") (codes "m2") ∷ [])
    ∷ Plain ∷ Rounded (pos 0) [] ∷ Shown 2 1 1 1 6 9 9 30 ∷ Evicted 0 ∷ Shown 1 1 1 1 5 9 6 30
    ∷ Plain ∷ Shown 2 1 1 1 6 9 8 30 ∷ [])
local = refl

-- where that costs more than a wait, one task waits, and in the next round the other
remote : replies (near 50) (preferring ++ Round ∷ [])
    ≡ outcomes 1 (Plain ∷ Plain ∷ Plain ∷ Plain ∷ Plain
    ∷ Rounded (pos 20) (Start (codes "x") (codes "m2") ∷ [])
    ∷ Rounded (pos 20) (Preempt (codes "x") (codes "m2") ∷ Start (codes "y") (codes "m2") ∷ []) ∷ [])
remote = refl
