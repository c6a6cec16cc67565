-- The costs of a tenant's last rounds.
use Rattle.std.specs.Prelude.{ℤ, ◌-◌, List, [], ◌∷◌, ◌++◌, length, drop}

-- the last 8 of some costs
abbrev pub last_eight : List ℤ → List ℤ
last_eight costs = drop (length costs - 8) costs

-- the costs with one more, the newest of 8 at most
abbrev pub with_cost : List ℤ → ℤ → List ℤ
with_cost costs cost = last_eight (costs ++ cost ∷ [])
