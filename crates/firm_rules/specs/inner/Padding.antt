-- How names, preferences and costs are kept: in tables of one length, padded past those that are there.
use Rattle.std.specs.Prelude.{◌≡◌, ℕ, ℤ, pos, ◌-◌, ◌≤◌, List, ◌++◌, length, take, replicate, bytes_eq, codes, IsTrue}
use Rattle.std.specs.List.{IsDistinct}
use Rattle.firm_rules.specs.Names.{is_name}
use Rattle.firm_rules.specs.Preferences.{most_preferences}

-- the bytes, and zeros up to 16
abbrev pub padded_name : List ℕ → List ℕ
padded_name name = name ++ replicate (16 - length name) 0

-- 16 bytes that begin with a name of this length and are 0 past it
pub record IsPaddedName (bytes : List ℕ) (name_length : ℕ) : Type 0 where
  pub zeros : bytes ≡ padded_name (take name_length bytes)
  pub counted : length (take name_length bytes) ≡ name_length
  pub formed : IsTrue (is_name (take name_length bytes))

-- the preferences, and a name that stands for none up to 4
abbrev pub padded_preferences : List (List ℕ) → List (List ℕ)
padded_preferences names = names ++ replicate (most_preferences - length names) (codes "-")

-- a table of 4 that begins with this number of different names and has none past them
pub record ArePreferences (table : List (List ℕ)) (count : ℕ) : Type 0 where
  pub rest : table ≡ padded_preferences (take count table)
  pub counted : length (take count table) ≡ count
  pub few : count ≤ most_preferences
  pub differ : IsDistinct bytes_eq (take count table)

-- the costs, and zeros up to 8
abbrev pub padded_costs : List ℤ → List ℤ
padded_costs costs = costs ++ replicate (8 - length costs) (pos 0)

-- a table of 8 that begins with this number of costs and is 0 past them
pub record AreRecentCosts (table : List ℤ) (count : ℕ) : Type 0 where
  pub zeros : table ≡ padded_costs (take count table)
  pub counted : length (take count table) ≡ count
