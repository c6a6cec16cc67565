use Rattle.std.proofs.Common.{◌≡◌, ◌++◌, drop}
use Rattle.firm_rules.specs.Preferences.{without_preference}
use Rattle.firm_rules.proofs.preferences.Preferred.without.Given as goal

-- what is kept so far, and what is still to be seen, are what is kept of all
abbrev pub invariant-loop-other : goal.invariant-loop-other
invariant-loop-other l =
    l.left ++ without_preference l.name (drop l.other-index l.other-items) ≡ without_preference l.name l.other-items
