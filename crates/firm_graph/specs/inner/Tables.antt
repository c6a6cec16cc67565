-- How a task's preferred arcs are kept.
use Rattle.std.specs.Prelude.{◌≡◌, ℕ, ◌-◌, ◌≤◌, List, [], ◌∷◌, ◌++◌, map, length, replicate, Option, Some, None}
use Rattle.firm_net.specs.declared.row.ArcId.{ArcId}

-- the arcs of a table, up to its first empty place
abbrev pub arcs_in : List (Option ArcId) → List ArcId
arcs_in [] = []
arcs_in (None ∷ table) = []
arcs_in (Some arc ∷ table) = arc ∷ arcs_in table

-- the arcs, and empty places up to 4
abbrev pub padded : List ArcId → List (Option ArcId)
padded arcs = map Some arcs ++ replicate (4 - length arcs) None

-- a table of 4 that begins with this number of arcs and is empty past them
pub record AreFront (table : List (Option ArcId)) (count : ℕ) : Type 0 where
  pub rest : table ≡ padded (arcs_in table)
  pub counted : length (arcs_in table) ≡ count
  pub few : length (arcs_in table) ≤ 4
