-- A task that may stand where it does may run there beside fewer tasks, and after more rounds.
use Rattle.std.proofs.Common.{◌≡◌, ◌≤◌, ◌+◌, ◌-◌, ℕ, Bool, true, false, ◌&&◌, ◌||◌, List, Option, Some, None, cond, ap}
use Rattle.std.proofs.Common.{arith, refl, ◌∙◌}
use Rattle.std.specs.Prelude.{nat_le}
use Rattle.std.proofs.lemmas.Bool.{and_from, and_parts, le-leb, leb-true, or_left, or_right}
use Rattle.firm_rules.specs.Book.{Book, TenantRows, running_on}
use Rattle.firm_rules.specs.SoundBook.{cost_of_wait, last_slot_cost, may_pay, may_stand, may_start, may_stay}
use Rattle.firm_rules.specs.SoundBook.{most_rounds, slot_price, start_cost}
use Rattle.firm_rules.specs.SlotCosts.{LaterSlotsCostNoLess}
use Rattle.firm_rules.specs.declared.book.Task.{Task}
use Rattle.firm_saved.specs.Drafts.{slot_fault}
use Rattle.firm_saved.specs.declared.faults.FaultKind.TheVariants as fault

either-still : (a b c d : Bool) → (a ≡ true → c ≡ true) → (b ≡ true → d ≡ true) → (a || b) ≡ true → (c || d) ≡ true
either-still true b c d first second e = or_left c d (first refl)
either-still false b c d first second e = or_right c d (second e)

below : (a b c d : ℕ) → c ≤ a → b ≤ d → nat_le a b ≡ true → nat_le c d ≡ true
below a b c d less more e = le-leb c d (omega (arith, leb-true a b e, less, more))

module _ (rows : TenantRows) (rounds more : ℕ) (task : Task) (later : rounds ≤ more) where
  cheaper : (machine : List ℕ) (lower price : ℕ) → lower ≤ price → may_pay rows rounds task machine price ≡ true
      → may_pay rows more task machine lower ≡ true
  cheaper machine lower price less =
      let start : ℕ = start_cost rows task machine in
      let most : ℕ = cost_of_wait rows task 0 + rows.limits.churn in
      let two : Bool = nat_le 2 rounds in
      let slots : Bool = nat_le price most in
      let starts : Bool = nat_le start (cost_of_wait rows task (rounds - 2)) in
      either-still (may_start rows rounds task machine price) (may_stay rows rounds task machine price)
      (may_start rows more task machine lower) (may_stay rows more task machine lower)
      (below (price + start) (cost_of_wait rows task (rounds - 1)) (lower + start) (cost_of_wait rows task (more - 1))
      (omega (arith, less)) (omega (arith, later)))
      (λ e. let both = and_parts (two && slots) starts e in
      let first = and_parts two slots both.0 in
      and_from (nat_le 2 more && nat_le lower most) (nat_le start (cost_of_wait rows task (more - 2)))
      (and_from (nat_le 2 more) (nat_le lower most) (below 2 rounds 2 more (omega arith) later first.0)
      (below price most lower most less (omega arith) first.1))
      (below start (cost_of_wait rows task (rounds - 2)) start (cost_of_wait rows task (more - 2)) (omega arith)
      (omega (arith, later)) both.1))

  -- so of the tasks that are read it has no fault
  pub lighter : LaterSlotsCostNoLess → (book : Book) (tasks : List Task) (home : Option (List ℕ))
      → book.rows ≡ record rows { tasks = tasks } → most_rounds book ≡ more
      → ((machine : List ℕ) → running_on (record rows { tasks = tasks }) machine ≤ running_on rows machine)
      → may_stand rows rounds task home ≡ true → slot_fault book task home ≡ None
  lighter rises book tasks None grown many fewer may = refl
  lighter rises book tasks (Some machine) grown many fewer may =
      let now : TenantRows = record rows { tasks = tasks } in
      let slot : last_slot_cost rows (running_on now machine) ≤ last_slot_cost rows (running_on rows machine) =
      rises rows.limits.spread (running_on now machine - 1) (running_on rows machine - 1)
      (omega (arith, fewer machine)) in
      ap (λ (r : TenantRows). cond (may_pay r (most_rounds book) task machine
      (last_slot_cost r (running_on r machine))) None (Some fault.Crowded)) grown
      ∙ ap (λ (n : ℕ). cond (may_pay now n task machine (last_slot_cost now (running_on now machine))) None
      (Some fault.Crowded)) many
      ∙ ap (λ (b : Bool). cond b None (Some fault.Crowded))
      (cheaper machine (last_slot_cost rows (running_on now machine))
      (slot_price rows machine (running_on rows machine)) (omega (arith, slot)) may)
