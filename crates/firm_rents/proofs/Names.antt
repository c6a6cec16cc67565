-- Places of names, and where a round's tasks are.
use Rattle.std.proofs.Common.{◌≡◌, ℕ, ◌<◌, ◌≤◌, Bool, true, false, cond, not, List, [], ◌∷◌, length, map, get_or}
use Rattle.std.proofs.Common.{bytes_eq}
use Rattle.std.proofs.Common.{Some, None, true≢false, refl, sym, ap, ◌∙◌, arith}
use Rattle.std.specs.Prelude.{position, nat_lt}
use Rattle.std.specs.List.{position_or_len, IsDistinct, All}
use Rattle.std.proofs.lemmas.Bool.{ltb-false}
use Rattle.std.proofs.lemmas.List.{length-map}
use Rattle.std.proofs.lemmas.List.Elements.{All-head, All-tail}
use Rattle.std.proofs.lemmas.List.Sums.{position_or_len_is, prefix_len-le-length}
use Rattle.std.proofs.lemmas.Map.Keys.{apart_from_distinct}
use Rattle.std.proofs.lemmas.Slice.Eq.{bytes_eq-Decides}
use Rattle.firm_rules.specs.declared.book.Machine.{Machine}
use Rattle.firm_rules.specs.declared.book.Task.{Task}
use Rattle.firm_rules.specs.declared.rounds.Choice.{Choice}
use Rattle.firm_rules.specs.declared.rounds.Choice.TheVariants.{On, Wait}
use Rattle.firm_rules.specs.Book.{TenantRows, machine_names}
use Rattle.firm_rules.specs.Placement.{IsPlace}
use Rattle.firm_rules.specs.Round.{machine_at, place_of, rows_after, task_after, zipped}
use Rattle.firm_rents.specs.Placed.{choice_of, placement_of}

apart : (a b : List ℕ) → bytes_eq a b ≡ false → bytes_eq b a ≡ false
apart a b e = elim (bytes_eq b a) as (λ v. bytes_eq b a ≡ v → v ≡ false) [
  | true ↦ λ f. absurd (true≢false (sym ((bytes_eq-Decides a b).1 (sym ((bytes_eq-Decides b a).0 f))) ∙ e))
  | false ↦ λ f. refl
] refl

-- the machine at a place has that place by its name
found_there : (rows : TenantRows) (j : ℕ) → IsDistinct bytes_eq (machine_names rows) → j < length rows.machines
    → place_of rows (machine_at rows j) ≡ j
found_there rows j differ l =
    let there : j < length (machine_names rows) =
    omega (arith, length-map rows.machines (λ (machine : Machine). machine.name)) in
    position_or_len_is (bytes_eq (machine_at rows j)) (machine_names rows) j [] (omega arith)
    (λ k h. apart (get_or (machine_names rows) k []) (machine_at rows j)
    (apart_from_distinct bytes_eq (machine_names rows) k j [] differ h there))
    (λ _. (bytes_eq-Decides (machine_at rows j) (machine_at rows j)).1 refl)

-- a round leaves each task where its choice puts it
module _ (rows : TenantRows) (differ : IsDistinct bytes_eq (machine_names rows)) where
  its_choice : (task : Task) (choice : Choice) → IsPlace (length rows.machines) choice
      → choice_of rows (task_after rows task choice).machine ≡ choice
  its_choice task (On j) place = ap On (found_there rows j differ place)
  its_choice task Wait place = refl

  all_choices : (tasks : List Task) (placement : List Choice) → length placement ≡ length tasks
      → All (IsPlace (length rows.machines)) placement
      → map (λ task. choice_of rows task.machine) (zipped (task_after rows) tasks placement) ≡ placement
  all_choices [] [] e places = refl
  all_choices [] (choice ∷ placement) e places = absurd (omega arith)
  all_choices (task ∷ tasks) [] e places = absurd (omega arith)
  all_choices (task ∷ tasks) (choice ∷ placement) e places =
      ap (λ (c : Choice). c ∷ map (λ task. choice_of rows task.machine) (zipped (task_after rows) tasks placement))
      (its_choice task choice (All-head (IsPlace (length rows.machines)) choice placement places))
      ∙ ap (λ (rest : List Choice). choice ∷ rest)
      (all_choices tasks placement (omega arith) (All-tail (IsPlace (length rows.machines)) choice placement places))

  pub placement_left : (placement : List Choice) → length placement ≡ length rows.tasks
      → All (IsPlace (length rows.machines)) placement → placement_of (rows_after rows placement) ≡ placement
  placement_left placement e places = all_choices rows.tasks placement e places
