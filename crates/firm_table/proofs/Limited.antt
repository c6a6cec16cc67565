-- In a roster's service every stay began with the opening book of its limits.
use Rattle.std.proofs.Common.{◌≡◌, ℕ, zero, suc, ◌+◌, ◌-◌, List, [], ◌∷◌, ◌++◌, refl, subst, length}
use Rattle.std.specs.Prelude.{Bool, true, false, Option, Some, None, Result, Ok, Err, map, option_map, replicate}
use Rattle.std.specs.Prelude.{slice_index_or, slice_set, if◌then◌else◌}
use Rattle.firm_rules.specs.Book.{opening_book}
use Rattle.firm_rules.specs.Limits.{TenantLimits}
use Rattle.firm_text.specs.Registers.{place_for}
use Rattle.firm_text.specs.Rosters.{RosterRow, most_places}
use Rattle.firm_text.specs.declared.inputs.Line.TheVariants.{Nothing, Long, Nameless, For, Operator}
use Rattle.firm_text.specs.declared.operator.OperatorLine.TheVariants.{Admit, Retire, Faulty}
use Rattle.firm_text.specs.declared.operator.OperatorRefusal.{OperatorRefusal}
use Rattle.firm_table.specs.Places.{Given, MarkedLine, Stay, Place, new_stay, limits_of, unused_place, place_of_row}
use Rattle.firm_table.specs.Places.{opening_places, is_stay_of, stay_of, with_command, commanded, left_by}
use Rattle.firm_table.specs.Places.{register_of, admission, retirement, after_line, after_lines}
use Rattle.firm_table.specs.Isolation.{StaysOpenWithLimits}

-- the stay began so, if there is a stay
abbrev Opens : Option Stay → Type 0
Opens None = Unit {0}
Opens (Some stay) = stay.opening ≡ opening_book (limits_of stay)

-- all stays at these places did
abbrev AllOpen : List Place → Type 0
AllOpen [] = Unit {0}
AllOpen (place ∷ rest) = Opens place.stay × AllOpen rest

all_mapped : (change : Place → Place) (places : List Place)
    → ((place : Place) → Opens place.stay → Opens (change place).stay) → AllOpen places → AllOpen (map change places)
all_mapped change [] keeps all = tt
all_mapped change (place ∷ rest) keeps all = (keeps place all.0, all_mapped change rest keeps all.1)

all_set : (places : List Place) (at : ℕ) (new : Place) → Opens new.stay → AllOpen places
    → AllOpen (slice_set places at new)
all_set [] at new here all = tt
all_set (place ∷ rest) zero new here all = (here, all.1)
all_set (place ∷ rest) (suc at) new here all = (all.0, all_set rest at new here all.1)

opens_commanded : (name : List ℕ) (given : Given) (place : Place) → Opens place.stay
    → Opens (commanded name given place).stay
opens_commanded name given place here = by (is_stay_of name place.stay)
  where
    more : (stay : Option Stay) → Opens stay → Opens (option_map (with_command given) stay)
    more None opens = tt
    more (Some stay) opens = opens

    changed : Place
    changed = record place { stay = option_map (with_command given) place.stay }

    by : (b : Bool) → Opens (if b then changed else place).stay
    by true = more place.stay here
    by false = here

opens_left : (name : List ℕ) (place : Place) → Opens place.stay → Opens (left_by name place).stay
opens_left name place here = by (is_stay_of name place.stay)
  where
    gone : Place
    gone = record place { stay = None }

    by : (b : Bool) → Opens (if b then gone else place).stay
    by true = tt
    by false = here

opens_admission : (places : List Place) (name : List ℕ) (limits : TenantLimits) (found : Result ℕ OperatorRefusal)
    (mark : Bool) → AllOpen places → AllOpen (admission places name limits found mark).1
opens_admission places name limits (Err refusal) mark all = all
opens_admission places name limits (Ok at) true all = all
opens_admission places name limits (Ok at) false all =
    let new : Place = record {
      admissions = (slice_index_or places at unused_place).admissions + 1;
      stay = Some (new_stay name limits);
    } in
    all_set places at new refl all

opens_retirement : (places : List Place) (name : List ℕ) (stay : Option Stay) → AllOpen places
    → AllOpen (retirement places name stay).1
opens_retirement places name None all = all
opens_retirement places name (Some stay) all = all_mapped (left_by name) places (opens_left name) all

opens_line : (places : List Place) (given : MarkedLine) → AllOpen places → AllOpen (after_line places given)
opens_line places (Nothing, mark) all = all
opens_line places (Long, mark) all = all
opens_line places (Nameless, mark) all = all
opens_line places (For name command, mark) all =
    all_mapped (commanded name (command, mark)) places (opens_commanded name (command, mark)) all
opens_line places (Operator (Admit name limits), mark) all =
    opens_admission places name limits (place_for (register_of places) name) mark all
opens_line places (Operator (Retire name), mark) all = opens_retirement places name (stay_of places name) all
opens_line places (Operator (Faulty refusal), mark) all = all

opens_lines : (places : List Place) (lines : List MarkedLine) → AllOpen places → AllOpen (after_lines places lines)
opens_lines places [] all = all
opens_lines places (given ∷ rest) all = opens_lines (after_line places given) rest (opens_line places given all)

opens_here : (name : List ℕ) (places : List Place) → AllOpen places → Opens (stay_of places name)
opens_here name [] all = tt
opens_here name (place ∷ rest) all = by (is_stay_of name place.stay) (opens_here name rest all.1)
  where
    by : (b : Bool) → Opens (stay_of rest name) → Opens (if b then place.stay else stay_of rest name)
    by true behind = all.0
    by false behind = behind

-- and so at first
opens_roster : (roster : List RosterRow) (n : ℕ) → AllOpen (map place_of_row roster ++ replicate n unused_place)
opens_roster [] zero = tt
opens_roster [] (suc n) = (tt, opens_roster [] n)
opens_roster (row ∷ rest) n = (refl, opens_roster rest n)

pub stays_open_with_limits : StaysOpenWithLimits
stays_open_with_limits roster lines name stay is =
    let all = opens_lines (opening_places roster) lines (opens_roster roster (most_places - length roster)) in
    subst Opens is (opens_here name (after_lines (opening_places roster) lines) all)
