-- Lengths of a task's wait, computed from commands.
use Rattle.std.proofs.Common.{◌≡◌, Bool, false, true, List, [], ◌∷◌, map, length, count_by, refl, codes}
use Rattle.firm_rules.specs.Book.{TenantRows, opening_book}
use Rattle.firm_rules.specs.Limits.{TenantLimits}
use Rattle.firm_rules.specs.declared.commands.Command.{Command}
use Rattle.firm_rules.specs.declared.commands.Command.TheVariants.{AddMachine, AddJob, AddTask, Round}
use Rattle.firm_tenant.specs.Starvation.{longest_wait, rounds_among, had_machine, runs_after}

abbrev limits : TenantLimits
limits =
    record {
      nodes = 6;
      arcs = 9;
      life = 100;
      spread = 0;
      churn = 1;
      remote = 0;
      patience = 8;
    }

abbrev marked : Bool → Command → Command × Bool
marked mark command = (command, mark)

-- two tasks and one slot: the one submitted last has it in the third round, the last but five that it may be
longest : longest_wait limits 1 ≡ 8
longest = refl

in-turn : map (runs_after (codes "b")) (rounds_among (opening_book limits) (map (marked false)
    (AddMachine (codes "m1") 1 ∷ AddJob (codes "j") 1 ∷ AddTask (codes "j") (codes "a") []
    ∷ AddTask (codes "j") (codes "b") [] ∷ Round ∷ Round ∷ Round ∷ [])))
    ≡ false ∷ false ∷ true ∷ []
in-turn = refl

-- of four rounds one was refused, and two were over a book with a machine
abbrev counted : List (TenantRows × TenantRows)
counted =
    rounds_among (opening_book limits)
    ((Round, false) ∷ (AddMachine (codes "m1") 1, false) ∷ (Round, true) ∷ (Round, false) ∷ (Round, false) ∷ [])

rounds : length counted ≡ 3
rounds = refl

with-machine : count_by had_machine counted ≡ 2
with-machine = refl
