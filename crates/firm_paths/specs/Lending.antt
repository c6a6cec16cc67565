-- The `Scratch` after the path that borrows it ends.
use Rattle.std.specs.Prelude.{◌≡◌, ℕ, ⊤}
use Rattle.std.specs.Borrow.{follows_so, MutBor, Fml}
use mathlib.Core.Option.{none}
use Rattle.firm_paths.specs.Workspace.{Workspace, HasSearched}
use Rattle.firm_paths.specs.contracts.scratch.Scratch.{the_row}

-- it has counted one search, in a net with that number of arcs
abbrev pub Rests : MutBor Workspace → ℕ → Fml
Rests s arcs = follows_so the_row the_row s.ghost_name none (λ _ _. ⊤) (λ last. HasSearched s.now last 1 arcs)

-- it is what it was
abbrev pub RestsAsItWas : MutBor Workspace → Fml
RestsAsItWas s = follows_so the_row the_row s.ghost_name none (λ _ _. ⊤) (λ last. last ≡ s.now)
