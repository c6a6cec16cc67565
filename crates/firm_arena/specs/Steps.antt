-- The effect of a sequence of calls on an arena.
use Rattle.std.specs.Prelude.{ℕ, List, [], ◌∷◌, is_some, if◌then◌else◌}
use Rattle.firm_arena.specs.declared.Id.{Id}
use Rattle.firm_arena.specs.Arena.{Arena, find, with_put, without, with_value}

-- a value is put at a place, an id is taken, or a value is written under an id
pub data Step (X : Type 0) : Type 0 where
  Put : ℕ → X → Step X
  Take : Id → Step X
  Write : Id → X → Step X

module _ {X : Type 0} where
  -- the arena after a step; an id that finds nothing changes nothing
  abbrev pub after_step : Arena X → Step X → Arena X
  after_step a (Put place value) = with_put a place value
  after_step a (Take id) = if is_some (find a id) then without a id.place else a
  after_step a (Write id value) = if is_some (find a id) then with_value a id value else a

  -- the arena after these steps
  abbrev pub after : Arena X → List (Step X) → Arena X
  after a [] = a
  after a (step ∷ steps) = after (after_step a step) steps
