-- All of a file, by the front of it that is read: at least one byte more than the longest that is taken.
use Rattle.std.proofs.Common.{◌≡◌, ◌∙◌, ◌≤◌, ◌<◌, ◌+◌, ℕ, List, ap, arith, inl, inr, length, refl, sym, take}
use Rattle.std.proofs.lemmas.Bool.{cases_lt, lt-ltb}
use Rattle.std.proofs.lemmas.List.{length-take, length-take-le, take_all}
use Rattle.std.specs.Prelude.{◌⊎◌, Bool, true, false, Option, Some, None, Err, if◌then◌else◌}
use Rattle.firm_text.specs.Rosters.{longest_roster, roster_of}
use Rattle.firm_text.specs.declared.faults.RosterFault.TheVariants.{Row}
use Rattle.firm_program.specs.Files.{IsFrontOf, IsTextOf, IsTooLong, longest_state}

chosen : {A : Type 0} (b : Bool) (x y : A) → b ≡ true → (if b then x else y) ≡ x
chosen true x y is = refl
chosen false x y is = absurd (cc)

-- a text that is longer than a roster may be
is_long : (text : List ℕ) → longest_roster < length text → roster_of text ≡ Err Row
is_long text long = chosen _ (Err Row) _ (lt-ltb longest_roster (length text) long)

same_roster : (bytes : List ℕ) → roster_of (take 65537 bytes) ≡ roster_of bytes
same_roster bytes = by (cases_lt 65537 (length bytes))
  where
    by : (65537 < length bytes) ⊎ (length bytes ≤ 65537) → roster_of (take 65537 bytes) ≡ roster_of bytes
    by (inl long) =
        is_long (take 65537 bytes) (let cut = length-take-le 65537 bytes (omega (arith, long)) in omega (arith, cut))
        ∙ sym (is_long bytes (omega (arith, long)))
    by (inr short) = ap roster_of (take_all 65537 bytes short)

-- all of a roster's file, which is judged as its front
pub record WholeRoster (file : Option (List ℕ)) (front : List ℕ) : Type 0 where
  pub text : List ℕ
  pub all : IsTextOf file text
  pub same : roster_of front ≡ roster_of text

pub whole_roster : (file : Option (List ℕ)) (front : List ℕ) → IsFrontOf file 65537 front → WholeRoster file front
whole_roster None front is = record { text = front; all = tt; same = refl }
whole_roster (Some bytes) front is =
    record { text = bytes; all = refl; same = ap roster_of is ∙ same_roster bytes }

-- all of a state's file, of which that many bytes at the most were read
pub whole_state : (file : Option (List ℕ)) (front : List ℕ) → IsFrontOf file (longest_state + 1) front
    → length front ≤ longest_state → IsTextOf file front
whole_state None front is within = tt
whole_state (Some bytes) front is within = is ∙ by (cases_lt (longest_state + 1) (length bytes))
  where
    by : (longest_state + 1 < length bytes) ⊎ (length bytes ≤ longest_state + 1)
        → take (longest_state + 1) bytes ≡ bytes
    by (inl long) =
        let cut = length-take-le (longest_state + 1) bytes (omega (arith, long)) in
        absurd (omega (arith, cut, ap length is, within))
    by (inr short) = take_all (longest_state + 1) bytes short

-- a state's file of which more were read
pub long_state : (file : Option (List ℕ)) (front : List ℕ) → IsFrontOf file (longest_state + 1) front
    → longest_state < length front → IsTooLong file
long_state None front is beyond = record { text = front; all = tt; beyond = beyond }
long_state (Some bytes) front is beyond = record {
  text = bytes;
  all = refl;
  beyond = omega (arith, beyond, ap length is, length-take (longest_state + 1) bytes);
}
