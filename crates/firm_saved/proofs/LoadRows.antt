-- The number of tasks that run on each machine, after one more task.
use Rattle.std.proofs.Common.{◌≡◌, ◌<◌, ◌≤◌, ◌+◌, ℕ, zero, suc, true, false, cond, ◌&&◌, List, [], ◌∷◌, ◌++◌, length}
use Rattle.std.proofs.Common.{map}
use Rattle.std.proofs.Common.{get_or, refl, sym, ap, subst, ◌∙◌, arith, inl, inr, Some, None, true≢false, bytes_eq}
use Rattle.std.specs.Prelude.{nat_le, nat_lt, count_by, set}
use Rattle.std.specs.List.{list_all, AllByRecursion, IsDistinct}
use Rattle.std.proofs.lemmas.Bool.{le-leb, lt-leb, lt-ltb, le-ltb, cases_lt}
use Rattle.std.proofs.lemmas.List.{length-map}
use Rattle.std.proofs.lemmas.List.Elements.{All-from_recursion}
use Rattle.std.proofs.lemmas.List.Sums.{sum_by-append, sum_by-cons}
use Rattle.std.proofs.lemmas.Slice.Eq.{bytes_eq-Decides}
use Rattle.firm_rules.specs.Book.{is_on, name_at}
use Rattle.firm_rules.specs.declared.book.Machine.{Machine}
use Rattle.firm_rules.specs.declared.book.Task.{Task}

-- how many of the tasks run on a machine
abbrev pub load : List Task → Machine → ℕ
load tasks machine = count_by (λ task. is_on machine.name task.machine) tasks

flipped : (xs ys : List ℕ) → bytes_eq xs ys ≡ false → bytes_eq ys xs ≡ false
flipped xs ys e = elim (bytes_eq ys xs) as (λ b. bytes_eq ys xs ≡ b → b ≡ false) [
  | true ↦ λ f. absurd (true≢false (sym ((bytes_eq-Decides xs ys).1 (sym ((bytes_eq-Decides ys xs).0 f))) ∙ e))
  | false ↦ λ f. refl
] refl

module _ (tasks : List Task) (t : Task) where
  abbrev after : List Task
  after = tasks ++ t ∷ []

  one_more : (machine : Machine) → load after machine ≡ load tasks machine + cond (is_on machine.name t.machine) 1 0
  one_more machine =
      let f : Task → ℕ = λ (task : Task). cond (is_on machine.name task.machine) 1 0 in
      omega (arith, sum_by-append f tasks (t ∷ []), sum_by-cons f t [])

  same_load : (machine : Machine) → is_on machine.name t.machine ≡ false → load after machine ≡ load tasks machine
  same_load machine e = one_more machine ∙ ap (λ b. load tasks machine + cond b 1 0) e ∙ omega arith

  more_load : (machine : Machine) → is_on machine.name t.machine ≡ true → load after machine ≡ load tasks machine + 1
  more_load machine e = one_more machine ∙ ap (λ b. load tasks machine + cond b 1 0) e

  -- a task that waits is on none
  pub loads_wait : t.machine ≡ None → (machines : List Machine) → map (load tasks) machines ≡ map (load after) machines
  loads_wait waits [] = refl
  loads_wait waits (machine ∷ machines) =
      ap (λ n. n ∷ map (load tasks) machines) (sym (same_load machine (ap (is_on machine.name) waits)))
      ∙ ap (λ l. load after machine ∷ l) (loads_wait waits machines)

  module _ (home : List ℕ) (runs : t.machine ≡ Some home) where
    elsewhere : (machine : Machine) → bytes_eq machine.name home ≡ false → load after machine ≡ load tasks machine
    elsewhere machine other = same_load machine (ap (is_on machine.name) runs ∙ other)

    there : (machine : Machine) → machine.name ≡ home → load after machine ≡ load tasks machine + 1
    there machine is = more_load machine (ap (is_on machine.name) runs ∙ (bytes_eq-Decides machine.name home).1 is)

    loads_other : (machines : List Machine)
        → AllByRecursion (λ name. bytes_eq home name ≡ false) (map (λ machine. machine.name) machines)
        → map (load tasks) machines ≡ map (load after) machines
    loads_other [] differ = refl
    loads_other (machine ∷ machines) differ =
        ap (λ n. n ∷ map (load tasks) machines) (sym (elsewhere machine (flipped home machine.name differ.0)))
        ∙ ap (λ l. load after machine ∷ l) (loads_other machines differ.1)

    room_other : (machines : List Machine)
        → AllByRecursion (λ name. bytes_eq home name ≡ false) (map (λ machine. machine.name) machines)
        → AllByRecursion (λ machine. load tasks machine ≤ machine.slots) machines
        → list_all (λ machine. nat_le (load after machine) machine.slots) machines ≡ true
    room_other [] differ room = refl
    room_other (machine ∷ machines) differ room =
        rw (le-leb (load after machine) machine.slots
        (let same = elsewhere machine (flipped home machine.name differ.0) in let few = room.0 in omega arith))
        (room_other machines differ.1 room.1)

    -- the loads, where one more task runs on the machine at a place
    pub loads_run : (machines : List Machine) (place : ℕ) (d : ℕ)
        → IsDistinct bytes_eq (map (λ machine. machine.name) machines)
        → place < length machines → name_at (map (λ machine. machine.name) machines) place ≡ home
        → set (map (load tasks) machines) place (get_or (map (load tasks) machines) place d + 1)
        ≡ map (load after) machines
    unfolding IsDistinct
    loads_run [] place d differ below is = absurd (omega arith)
    loads_run (machine ∷ machines) zero d differ below is =
        ap (λ n. n ∷ map (load tasks) machines) (sym (there machine is))
        ∙ ap (λ l. load after machine ∷ l)
        (loads_other machines (subst (λ n. AllByRecursion (λ name. bytes_eq n name ≡ false)
        (map (λ machine. machine.name) machines)) is differ.0))
    loads_run (machine ∷ machines) (suc place) d differ below is =
        let apart : bytes_eq machine.name (name_at (map (λ machine. machine.name) machines) place) ≡ false =
        All-from_recursion (λ name. bytes_eq machine.name name ≡ false)
        (map (λ machine. machine.name) machines) differ.0
        place [] (omega (arith, length-map machines (λ (m : Machine). m.name))) in
        ap (λ n. n ∷ set (map (load tasks) machines) place (get_or (map (load tasks) machines) place d + 1))
        (sym (elsewhere machine (ap (bytes_eq machine.name) (sym is) ∙ apart)))
        ∙ ap (λ l. load after machine ∷ l) (loads_run machines place d differ.1 (omega arith) is)

    -- the load of the machine at that place decides whether there is room
    pub room_at : (machines : List Machine) (place : ℕ) (d : Machine)
        → IsDistinct bytes_eq (map (λ machine. machine.name) machines)
        → place < length machines → name_at (map (λ machine. machine.name) machines) place ≡ home
        → AllByRecursion (λ machine. load tasks machine ≤ machine.slots) machines
        → list_all (λ machine. nat_le (load after machine) machine.slots) machines
        ≡ nat_lt (load tasks (get_or machines place d)) (get_or machines place d).slots
    unfolding IsDistinct
    room_at [] place d differ below is room = absurd (omega arith)
    room_at (machine ∷ machines) zero d differ below is room =
        rw (
          there machine is,
          room_other machines (subst (λ n. AllByRecursion (λ name. bytes_eq n name ≡ false)
              (map (λ machine. machine.name) machines)) is differ.0) room.1,
        ) (fits (load tasks machine) machine.slots)
      where
        fits : (load slots : ℕ) → (nat_le (load + 1) slots && true) ≡ nat_lt load slots
        fits load slots = elim (cases_lt load slots) [
          | inl less ↦ rw (le-leb (load + 1) slots (omega arith), lt-ltb load slots less) refl
          | inr full ↦ rw (lt-leb (load + 1) slots (omega arith), le-ltb load slots full) refl
        ]
    room_at (machine ∷ machines) (suc place) d differ below is room =
        let apart : bytes_eq machine.name (name_at (map (λ machine. machine.name) machines) place) ≡ false =
        All-from_recursion (λ name. bytes_eq machine.name name ≡ false)
        (map (λ machine. machine.name) machines) differ.0
        place [] (omega (arith, length-map machines (λ (m : Machine). m.name))) in
        rw (le-leb (load after machine) machine.slots
        (let same = elsewhere machine (ap (bytes_eq machine.name) (sym is) ∙ apart) in let few = room.0 in omega arith))
        (room_at machines place d differ.1 (omega arith) is room.1)
