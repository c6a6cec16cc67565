-- The replies of a tenant alone, computed at worked examples.
use Rattle.std.proofs.Common.{◌≡◌, ℕ, true, false, List, [], ◌∷◌, map, Some, None, refl, codes}
use Rattle.firm_rules.specs.Limits.{TenantLimits}
use Rattle.firm_rules.specs.declared.commands.Command.{Command}
use Rattle.firm_rules.specs.declared.commands.Command.TheVariants.{AddMachine, AddJob, AddTask, Drain, CloseJob, Done}
use Rattle.firm_rules.specs.declared.commands.Command.TheVariants.{Find, Show, Faulty}
use Rattle.firm_rules.specs.declared.commands.LineFault.TheVariants.{BadCommand, BadName, BadNumber}
use Rattle.firm_rules.specs.declared.replies.Reply.{Reply}
use Rattle.firm_rules.specs.declared.replies.Outcome.{Outcome}
use Rattle.firm_rules.specs.declared.replies.Outcome.TheVariants.{Plain, Evicted, At, Waits, Shown, Refused}
use Rattle.firm_rules.specs.declared.replies.Refusal.{Refusal}
use Rattle.firm_rules.specs.declared.replies.Refusal.TheVariants.{Worn, BadCommand as NoCommand, BadName as NoName}
use Rattle.firm_rules.specs.declared.replies.Refusal.TheVariants.{BadNumber as NoNumber, MachineExists, NoSuchMachine}
use Rattle.firm_rules.specs.declared.replies.Refusal.TheVariants.{JobExists, NoSuchJob, TaskExists, NoSuchTask}
use Rattle.firm_rules.specs.declared.replies.Refusal.TheVariants.{JobHasTasks, ArenaNodes, ArenaArcs, Memory}
use Rattle.firm_tenant.specs.Alone.{alone, alone_marked, replies_from}
use Rattle.firm_rules.specs.Book.{Book}

abbrev limits : ℕ → ℕ → ℕ → TenantLimits
limits nodes arcs life =
    record { nodes = nodes; arcs = arcs; life = life; spread = 1; churn = 2; remote = 3; patience = 1000000 }

abbrev reply : ℕ → Outcome → Reply
reply number outcome = record { number = number; outcome = outcome }

abbrev ok : ℕ → Reply
ok number = reply number Plain

abbrev no : ℕ → Refusal → Reply
no number refusal = reply number (Refused refusal)

abbrev m1 : List ℕ
m1 = codes "m1"

abbrev j : List ℕ
j = codes "j"

abbrev a : List ℕ
a = codes "a"

abbrev b : List ℕ
b = codes "b"

abbrev c : List ℕ
c = codes "c"

-- one of each: 5 of 6 nodes and 7 of 11 arcs
one_of_each : alone (limits 6 11 100) (AddMachine m1 2 ∷ AddJob j 5 ∷ AddTask j a [] ∷ Show ∷ [])
    ≡ ok 1 ∷ ok 2 ∷ ok 3 ∷ reply 4 (Shown 1 1 1 0 5 6 7 11) ∷ []
one_of_each = refl

-- a third task finds no node until a task is done
no_node_left : alone (limits 6 11 100)
    (AddMachine m1 2 ∷ AddJob j 5 ∷ AddTask j a [] ∷ AddTask j b [] ∷ AddTask j c [] ∷ Done a ∷ AddTask j c [] ∷ [])
    ≡ ok 1 ∷ ok 2 ∷ ok 3 ∷ ok 4 ∷ no 5 ArenaNodes ∷ ok 6 ∷ ok 7 ∷ []
no_node_left = refl

-- a second task finds two arcs of the three that it takes, and leaves nothing behind
no_arcs_left : alone (limits 9 9 100) (AddMachine m1 2 ∷ AddJob j 1 ∷ AddTask j a [] ∷ AddTask j b [] ∷ Show ∷ [])
    ≡ ok 1 ∷ ok 2 ∷ ok 3 ∷ no 4 ArenaArcs ∷ reply 5 (Shown 1 1 1 0 5 9 7 9) ∷ []
no_arcs_left = refl

-- two commands, and the replies after them keep one number
a_life_of_two : alone (limits 2 0 2) (Show ∷ Faulty BadCommand ∷ Show ∷ Show ∷ [])
    ≡ reply 1 (Shown 0 0 0 0 2 2 0 0) ∷ no 2 NoCommand ∷ no 3 Worn ∷ no 3 Worn ∷ []
a_life_of_two = refl

-- a machine of 64 slots takes 65 arcs
widest_machine : alone (limits 3 64 10) (AddMachine m1 64 ∷ AddMachine m1 63 ∷ []) ≡ no 1 ArenaArcs ∷ ok 2 ∷ []
widest_machine = refl

-- where nodes and arcs both do not fit, the nodes are named
nodes_first : alone (limits 2 0 10) (AddMachine m1 1 ∷ AddJob j 1 ∷ []) ≡ no 1 ArenaNodes ∷ no 2 ArenaNodes ∷ []
nodes_first = refl

-- names are looked up before the arena is, and a task's job before its own name
names_first : alone (limits 5 7 100)
    (AddTask j a [] ∷ AddMachine m1 2 ∷ AddMachine m1 2 ∷ AddJob j 5 ∷ AddJob j 5 ∷ AddTask j a [] ∷ AddTask j a []
    ∷ AddTask b a [] ∷ [])
    ≡ no 1 NoSuchJob ∷ ok 2 ∷ no 3 MachineExists ∷ ok 4 ∷ no 5 JobExists ∷ ok 6 ∷ no 7 TaskExists ∷ no 8 NoSuchJob ∷ []
names_first = refl

-- machines, jobs and tasks have separate name spaces
three_name_spaces : alone (limits 6 20 100) (AddMachine a 2 ∷ AddJob a 5 ∷ AddTask a a [] ∷ [])
    ≡ ok 1 ∷ ok 2 ∷ ok 3 ∷ []
three_name_spaces = refl

-- what is added again, what is not there, and a job that is closed only once its tasks are done
known_or_not : alone (limits 8 30 100)
    (AddJob j 5 ∷ AddJob j 5 ∷ AddTask j a [] ∷ AddTask j a [] ∷ AddTask b a [] ∷ CloseJob j ∷ Drain m1 ∷ Find b ∷ Done
    a ∷ CloseJob j
    ∷ CloseJob j ∷ Done a ∷ [])
    ≡ ok 1 ∷ no 2 JobExists ∷ ok 3 ∷ no 4 TaskExists ∷ no 5 NoSuchJob ∷ no 6 JobHasTasks ∷ no 7 NoSuchMachine ∷ no 8
    NoSuchTask
    ∷ ok 9 ∷ ok 10 ∷ no 11 NoSuchJob ∷ no 12 NoSuchTask ∷ []
known_or_not = refl

-- a task waits, also once the only machine is gone
a_drain_of_a_free_machine : alone (limits 8 30 100)
    (AddMachine m1 2 ∷ AddJob j 5 ∷ AddTask j a [] ∷ Find a ∷ Drain m1 ∷ Show ∷ Drain m1 ∷ [])
    ≡ ok 1 ∷ ok 2 ∷ ok 3 ∷ reply 4 (Waits 0) ∷ reply 5 (Evicted 0) ∷ reply 6 (Shown 0 1 1 0 4 8 4 30) ∷ no 7
    NoSuchMachine ∷ []
a_drain_of_a_free_machine = refl

abbrev m2 : List ℕ
m2 = codes "m2"

-- a runs on m1, b on m2, and c has waited for 3 rounds
abbrev running : Book
running = record {
  rows = record {
    limits = limits 9 30 9;
    machines = record { name = m1; slots = 2 } ∷ record { name = m2; slots = 1 } ∷ [];
    jobs = record { name = j; weight = 5 } ∷ [];
    tasks =
        record { name = a; job = j; preferred = []; machine = Some m1; waited = 0 } ∷ record {
          name = b;
          job = j;
          preferred = [];
          machine = Some m2;
          waited = 0;
        }
        ∷ record { name = c; job = j; preferred = []; machine = None; waited = 3 } ∷ [];
  };
  costs = [];
  given = 1;
}

abbrev replies : List Command → List Reply
replies commands = replies_from running (map (λ command. (command, false)) commands)

-- the machine's tasks alone wait again; a machine that comes back under its name has none of them
a_drain : replies (Show ∷ Find a ∷ Find c ∷ Drain m1 ∷ Find a ∷ Find b ∷ Find c ∷ AddMachine m1 1 ∷ Find a ∷ [])
    ≡ reply 2 (Shown 2 1 3 2 8 9 15 30) ∷ reply 3 (At m1) ∷ reply 4 (Waits 3) ∷ reply 5 (Evicted 1) ∷ reply 6 (Waits 0)
    ∷ reply 7 (At m2) ∷ reply 8 (Waits 3) ∷ ok 9 ∷ no 10 Worn ∷ []
a_drain = refl

-- a running task that is done leaves its machine free
a_running_task_is_done : replies (Done a ∷ Show ∷ Drain m1 ∷ Find a ∷ [])
    ≡ ok 2 ∷ reply 3 (Shown 2 1 2 1 7 9 12 30) ∷ reply 4 (Evicted 0) ∷ no 5 NoSuchTask ∷ []
a_running_task_is_done = refl

-- these verbs grow nothing, so a lack of memory is never their answer
marks_change_nothing : alone_marked (limits 8 30 100)
    ((AddJob j 5, false) ∷ (AddTask j a [], false) ∷ (Find a, true) ∷ (Done a, true) ∷ (CloseJob j, true) ∷ (
      Drain m1,
      true,
    ) ∷ [])
    ≡ ok 1 ∷ ok 2 ∷ reply 3 (Waits 0) ∷ ok 4 ∷ ok 5 ∷ no 6 NoSuchMachine ∷ []
marks_change_nothing = refl

-- each fault of a line has its refusal
faults : alone (limits 2 0 100) (Faulty BadCommand ∷ Faulty BadName ∷ Faulty BadNumber ∷ [])
    ≡ no 1 NoCommand ∷ no 2 NoName ∷ no 3 NoNumber ∷ []
faults = refl

-- a lack of memory is answered to a growth alone, after every other refusal, and leaves the rows as they were
marked : alone_marked (limits 4 10 7)
    ((AddMachine m1 2, true) ∷ (AddMachine m1 2, false) ∷ (AddMachine m1 2, true) ∷ (Show, true) ∷ (
      Faulty BadName,
      true,
    )
    ∷ (AddMachine b 64, true) ∷ (AddJob j 1, true) ∷ (AddJob j 1, true) ∷ [])
    ≡ no 1 Memory ∷ ok 2 ∷ no 3 MachineExists ∷ reply 4 (Shown 1 0 0 0 3 4 3 10) ∷ no 5 NoName
    ∷ no 6 ArenaArcs ∷ no 7 Memory ∷ no 8 Worn ∷ []
marked = refl

-- the machines that a task prefers are looked up first
preferred_first : alone (limits 9 30 100)
    (AddTask j a (m1 ∷ []) ∷ AddMachine m1 2 ∷ AddTask j a (m1 ∷ m2 ∷ []) ∷ AddTask j a (m1 ∷ []) ∷ AddJob j 5
    ∷ AddTask j a (m1 ∷ []) ∷ AddTask j a (m2 ∷ []) ∷ AddTask j a (m1 ∷ []) ∷ [])
    ≡ no 1 NoSuchMachine ∷ ok 2 ∷ no 3 NoSuchMachine ∷ no 4 NoSuchJob ∷ ok 5 ∷ ok 6 ∷ no 7 NoSuchMachine
    ∷ no 8 TaskExists ∷ []
preferred_first = refl

-- and each of them takes an arc, which the machine takes along when it is gone
preferred_arcs : alone (limits 9 6 100)
    (AddMachine m1 1 ∷ AddJob j 1 ∷ AddTask j a (m1 ∷ []) ∷ AddTask j a [] ∷ Done a ∷ Drain m1 ∷ AddMachine m2 1
    ∷ AddTask j a (m1 ∷ []) ∷ [])
    ≡ ok 1 ∷ ok 2 ∷ no 3 ArenaArcs ∷ ok 4 ∷ ok 5 ∷ reply 6 (Evicted 0) ∷ ok 7 ∷ no 8 NoSuchMachine ∷ []
preferred_arcs = refl
