-- The work of a proposal and its check.
use Rattle.std.specs.Prelude.{◌≡◌, ℕ, Bool, true, ◌≤◌, ◌+◌}

-- how many searches and looks were made, how many of both are allowed, and whether one was refused
pub record Spent : Type 0 where
  pub searches : ℕ
  pub looks : ℕ
  pub most : ℕ × ℕ
  pub is_short : Bool

-- no more than are allowed
pub record IsWithin (spent : Spent) : Type 0 where
  pub searches : spent.searches ≤ spent.most.0
  pub looks : spent.looks ≤ spent.most.1

-- after this many more searches and looks
abbrev pub after : Spent → ℕ → ℕ → Spent
after spent searches looks =
    record {
      searches = spent.searches + searches;
      looks = spent.looks + looks;
      most = spent.most;
      is_short = spent.is_short;
    }

-- nothing more: there was no room for it
abbrev pub refused : Spent → Spent
refused spent =
    record { searches = spent.searches; looks = spent.looks; most = spent.most; is_short = true }

-- the same work at a later time: as many are allowed, and the looks made so far are still counted
pub record GoesOn (old new : Spent) : Type 0 where
  pub most : new.most ≡ old.most
  pub looks : old.looks ≤ new.looks
