-- The machines that a task prefers, by name.
use Rattle.std.specs.Prelude.{ℕ, not, List, ◌∷◌, [], ◌++◌, filter, bytes_eq, if◌then◌else◌}
use Rattle.firm_rules.specs.Names.{is_among}

-- the greatest number of machines that a task may prefer
abbrev pub most_preferences : ℕ
most_preferences = 4

-- the preferences with one more last; a machine that is among them counts once
abbrev pub with_preference : List (List ℕ) → List ℕ → List (List ℕ)
with_preference names name = if is_among names name then names else names ++ name ∷ []

-- the preferences without the machine of this name
abbrev pub without_preference : List ℕ → List (List ℕ) → List (List ℕ)
without_preference name names = filter (λ other. not (bytes_eq name other)) names
