-- Whether a machine has a slot left for a task, told by its load.
use Rattle.std.proofs.Common.{◌≡◌, ◌<◌, ◌≤◌, ◌+◌, ◌∙◌, ℕ, Bool, true, cond, List, Some, None}
use Rattle.std.proofs.Common.{sym, ap, arith, get_or, length, []}
use Rattle.std.specs.Prelude.{nat_lt, set, slice_get}
use Rattle.std.proofs.lemmas.Bool.{le-ltb}
use Rattle.std.proofs.lemmas.List.{get_or-map, get_or-set_same, length-map}
use Rattle.std.proofs.lemmas.List.Elements.{recursion_from_All}
use Rattle.std.proofs.lemmas.Option.{get_or_from_slice_get}
use Rattle.firm_rules.specs.Book.{Book, TenantRows, machine_names, name_at, running_on, with_restored}
use Rattle.firm_rules.specs.Names.{is_among}
use Rattle.firm_rules.specs.Sound.{AreSound}
use Rattle.firm_rules.specs.SoundBook.{may_run, most_rounds}
use Rattle.firm_rules.specs.declared.book.Machine.{Machine}
use Rattle.firm_rules.specs.declared.book.Task.{Task}
use Rattle.firm_saved.specs.declared.faults.FaultKind.TheVariants as fault
use Rattle.firm_saved.specs.Drafts.{running_fault, slot_fault}
use Rattle.firm_saved.specs.inner.Loads.{loads_of}
use Rattle.firm_saved.proofs.LoadRows.{load, loads_run, loads_wait, room_at}

module _ (rows : TenantRows) (sound : AreSound rows) (loads : List ℕ) (kept : loads ≡ loads_of rows) (name : List ℕ)
    (place : ℕ) (below : place < length rows.machines) (named : name_at (machine_names rows) place ≡ name) where
  -- the load at a place is that of the machine there
  at_place : (x : ℕ) (d : Machine) → x ≡ get_or loads place x → x ≡ load rows.tasks (get_or rows.machines place d)
  at_place x d is =
      is ∙ ap (λ (l : List ℕ). get_or l place x) kept ∙ get_or-map (load rows.tasks) rows.machines place d x below

  pub told : (task : Task) (m : Machine) (x : ℕ) → task.machine ≡ Some name → is_among (machine_names rows) name ≡ true
      → slice_get rows.machines place ≡ Some m
      → x ≡ get_or loads place x → task.waited ≤ 0
      → running_fault rows task (Some name) ≡ cond (nat_lt x m.slots) None (Some fault.NoRoom)
  told task m x runs there get is idle =
      let here : get_or rows.machines place m ≡ m = get_or_from_slice_get rows.machines place m m get in
      let own : load rows.tasks m ≡ x = ap (load rows.tasks) (sym here) ∙ sym (at_place x m is) in
      let room = room_at rows.tasks task name runs rows.machines place m sound.machine_names_differ below named
      (recursion_from_All (λ (machine : Machine). running_on rows machine.name ≤ machine.slots) rows.machines
      sound.room) in
      rw (there, le-ltb 0 task.waited idle)
      (ap (λ (b : Bool). cond b None (Some fault.NoRoom))
      (room ∙ ap (λ (machine : Machine). nat_lt (load rows.tasks machine) machine.slots) here
      ∙ ap (λ n. nat_lt n m.slots) own))

  pub small : (x : ℕ) (d : Machine) → x ≡ get_or loads place x → x ≤ 64
  small x d is =
      let machine : Machine = get_or rows.machines place d in
      let own = at_place x d is in
      let room = sound.room place d below in
      let slots = (sound.slots place d below).1 in
      omega arith

  pub added : (task : Task) (x : ℕ) → task.machine ≡ Some name → x ≡ get_or loads place x
      → set loads place (x + 1) ≡ loads_of (with_restored rows task)
  added task x runs is =
      ap (λ (l : List ℕ). set l place (x + 1)) kept
      ∙ ap (λ n. set (loads_of rows) place (n + 1)) (is ∙ ap (λ (l : List ℕ). get_or l place x) kept)
      ∙ loads_run rows.tasks task name runs rows.machines place x sound.machine_names_differ below named

  -- with one more task there
  pub beside : (task : Task) (x : ℕ) → task.machine ≡ Some name → x ≡ get_or loads place x
      → x + 1 ≡ running_on (with_restored rows task) name
  beside task x runs is =
      let d : Machine = record { name = []; slots = 0 } in
      let on : List ℕ → ℕ = running_on (with_restored rows task) in
      let low : place < length loads =
      omega (arith, below, ap (λ (l : List ℕ). length l) kept, length-map rows.machines (load rows.tasks)) in
      sym (get_or-set_same loads place (x + 1) 0 low)
      ∙ ap (λ (l : List ℕ). get_or l place 0) (added task x runs is)
      ∙ get_or-map (λ (machine : Machine). on machine.name) rows.machines place d 0 below
      ∙ ap on (sym (get_or-map (λ (machine : Machine). machine.name) rows.machines place d [] below) ∙ named)

  -- its load decides whether it may run there
  pub stood : (book : Book) (task : Task) (x : ℕ) → book.rows ≡ with_restored rows task → task.machine ≡ Some name
      → x ≡ get_or loads place x
      → slot_fault book task task.machine
      ≡ cond (may_run rows (most_rounds book) task name (x + 1)) None (Some fault.Crowded)
  stood book task x grown runs is =
      ap (slot_fault book task) runs
      ∙ ap (λ (r : TenantRows). cond (may_run r (most_rounds book) task name (running_on r name)) None
      (Some fault.Crowded)) grown
      ∙ ap (λ (n : ℕ). cond (may_run rows (most_rounds book) task name n) None (Some fault.Crowded))
      (sym (beside task x runs is))

-- a task that waits adds to no load
pub idle : (rows : TenantRows) (task : Task) → task.machine ≡ None → loads_of rows ≡ loads_of (with_restored rows task)
idle rows task waits = loads_wait rows.tasks task waits rows.machines
