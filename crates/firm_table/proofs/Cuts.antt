-- A service that goes on from its saved state answers as before.
use Rattle.std.proofs.Common.{◌≡◌, ℕ, ◌+◌, List, [], ◌∷◌, ◌++◌, refl, sym, ap, ◌∙◌, get_or}
use Rattle.std.specs.Prelude.{Bool, true, false, Option, Some, None, Result, Ok, Err, map, option_map, set}
use Rattle.std.specs.Prelude.{if◌then◌else◌}
use Rattle.std.proofs.Math.ListN.{get_or-map}
use Rattle.std.proofs.lemmas.List.{map-set}
use Rattle.firm_rules.specs.Book.{Book}
use Rattle.firm_rules.specs.Limits.{TenantLimits}
use Rattle.firm_text.specs.Registers.{place_for}
use Rattle.firm_text.specs.declared.inputs.Line.TheVariants.{Nothing, Long, Nameless, For, Operator}
use Rattle.firm_text.specs.declared.operator.OperatorLine.{OperatorLine}
use Rattle.firm_text.specs.declared.operator.OperatorLine.TheVariants.{Admit, Retire, Faulty}
use Rattle.firm_text.specs.declared.operator.OperatorRefusal.{OperatorRefusal}
use Rattle.firm_text.specs.declared.operator.OperatorReply.{OperatorReply}
use Rattle.firm_text.specs.declared.registers.Entry.{Entry}
use Rattle.firm_saved.specs.declared.saved.SavedPlace.{SavedPlace}
use Rattle.firm_saved.specs.Saved.{untouched}
use Rattle.firm_table.specs.Places.{Given, MarkedLine, Stay, Place, opened_stay, new_stay, book_of, unused_place}
use Rattle.firm_table.specs.Places.{restored_place, restored_places, saved_place, saved_after, is_stay_of, stay_of}
use Rattle.firm_table.specs.Places.{with_command, commanded, left_by, entered_at, registered, register_of, admission}
use Rattle.firm_table.specs.Places.{retirement, obeyed, after_line, after_lines}
use Rattle.firm_table.specs.Answers.{reply_answer, answer_to_command, answer_of}
use Rattle.firm_table.specs.declared.answers.LineAnswer.{LineAnswer}
use Rattle.firm_table.specs.declared.answers.LineAnswer.TheVariants.{ToOperator}
use Rattle.firm_table.specs.Output.{answers_from}
use Rattle.firm_saved.specs.Saved.{saved_with}
use Rattle.firm_table.specs.Cutting.{SavedIsKept, AnswersGoOnFrom, StatesGoOnFrom}
use Rattle.firm_table.proofs.Alones.{book_of-more, last_reply-more}
use Rattle.firm_table.proofs.Stays.{after_lines-append, answers_from-append}

-- the places that are opened again from their saved state
abbrev again : List Place → List Place
again places = restored_places (saved_after places)

-- and a stay
abbrev stay_again : Option Stay → Option Stay
stay_again stay =
    option_map (λ (t : List ℕ × Book). opened_stay t.0 t.1) (option_map (λ (s : Stay). (s.name, book_of s)) stay)

-- what is saved is kept
saved_again : (tenant : Option (List ℕ × Book))
    → option_map (λ (s : Stay). (s.name, book_of s)) (option_map (λ (t : List ℕ × Book). opened_stay t.0 t.1) tenant)
    ≡ tenant
saved_again None = refl
saved_again (Some (name, book)) = refl

places_kept : (saved : List SavedPlace) → saved_after (restored_places saved) ≡ saved
places_kept [] = refl
places_kept (place ∷ rest) =
    ap (λ (tenant : Option (List ℕ × Book)). let first : SavedPlace =
    record { admissions = place.admissions; tenant = tenant } in first ∷ saved_after (restored_places rest))
    (saved_again place.tenant)
    ∙ ap (λ (saved : List SavedPlace). place ∷ saved) (places_kept rest)

-- the register is the same
named_again : (stay : Option Stay)
    → option_map (λ (s : Stay). s.name) (stay_again stay) ≡ option_map (λ (s : Stay). s.name) stay
named_again None = refl
named_again (Some stay) = refl

register_again : (places : List Place) → register_of (again places) ≡ register_of places
register_again [] = refl
register_again (place ∷ rest) =
    ap (λ (tenant : Option (List ℕ)). let first : Entry =
    record { tenant = tenant; admissions = place.admissions } in first ∷ register_of (again rest))
    (named_again place.stay)
    ∙ ap (λ (entries : List Entry). registered place ∷ entries) (register_again rest)

-- so is who stays
is_stay_again : (name : List ℕ) (stay : Option Stay) → is_stay_of name (stay_again stay) ≡ is_stay_of name stay
is_stay_again name None = refl
is_stay_again name (Some stay) = refl

either_again : (b : Bool) (stay rest other : Option Stay) → other ≡ stay_again rest
    → (if b then stay_again stay else other) ≡ stay_again (if b then stay else rest)
either_again true stay rest other same = refl
either_again false stay rest other same = same

stay_of-again : (places : List Place) (name : List ℕ) → stay_of (again places) name ≡ stay_again (stay_of places name)
stay_of-again [] name = refl
stay_of-again (place ∷ rest) name =
    ap (λ (b : Bool). if b then stay_again place.stay else stay_of (again rest) name) (is_stay_again name place.stay)
    ∙ either_again (is_stay_of name place.stay) place.stay (stay_of rest name) (stay_of (again rest) name)
    (stay_of-again rest name)

-- each line has the same answer
command_again : (name : List ℕ) (stay : Option Stay) (given : Given)
    → answer_to_command name (stay_again stay) given ≡ answer_to_command name stay given
command_again name None given = refl
command_again name (Some stay) given =
    ap (reply_answer name)
    (last_reply-more (opened_stay stay.name (book_of stay)) given ∙ sym (last_reply-more stay given))

admission_again : (places : List Place) (name : List ℕ) (limits : TenantLimits) (found : Result ℕ OperatorRefusal)
    (mark : Bool) → (admission (again places) name limits found mark).0 ≡ (admission places name limits found mark).0
admission_again places name limits (Err refusal) mark = refl
admission_again places name limits (Ok at) true = refl
admission_again places name limits (Ok at) false = refl

retirement_again : (places : List Place) (name : List ℕ) (stay : Option Stay)
    → (retirement (again places) name (stay_again stay)).0 ≡ (retirement places name stay).0
retirement_again places name None = refl
retirement_again places name (Some stay) = refl

obeyed_again : (places : List Place) (request : OperatorLine) (mark : Bool)
    → (obeyed (again places) request mark).0 ≡ (obeyed places request mark).0
obeyed_again places (Admit name limits) mark =
    ap (λ (register : List Entry). (admission (again places) name limits (place_for register name) mark).0)
    (register_again places)
    ∙ admission_again places name limits (place_for (register_of places) name) mark
obeyed_again places (Retire name) mark =
    ap (λ (stay : Option Stay). (retirement (again places) name stay).0) (stay_of-again places name)
    ∙ retirement_again places name (stay_of places name)
obeyed_again places (Faulty refusal) mark = refl

answer_again : (places : List Place) (given : MarkedLine) → answer_of (again places) given ≡ answer_of places given
answer_again places (Nothing, mark) = refl
answer_again places (Long, mark) = refl
answer_again places (Nameless, mark) = refl
answer_again places (For name command, mark) =
    ap (λ (stay : Option Stay). answer_to_command name stay (command, mark)) (stay_of-again places name)
    ∙ command_again name (stay_of places name) (command, mark)
answer_again places (Operator request, mark) =
    ap (λ (reply : OperatorReply). ToOperator reply) (obeyed_again places request mark)

-- and the state after it is the same
module _ (change : Place → Place)
    (same : (place : Place)
    → saved_place (change (restored_place (saved_place place))) ≡ saved_place (change place)) where
  mapped_again : (places : List Place) → saved_after (map change (again places)) ≡ saved_after (map change places)
  mapped_again [] = refl
  mapped_again (place ∷ rest) =
      ap (λ (first : SavedPlace). first ∷ saved_after (map change (again rest))) (same place)
      ∙ ap (λ (saved : List SavedPlace). saved_place (change place) ∷ saved) (mapped_again rest)

-- a place of these parts
abbrev place_is : ℕ → Option Stay → Place
place_is admissions stay = record { admissions = admissions; stay = stay }

commanded_by : (given : Given) (b : Bool) (admissions : ℕ) (stay : Option Stay)
    → saved_place (if b then place_is admissions (option_map (with_command given) (stay_again stay))
    else place_is admissions (stay_again stay))
    ≡ saved_place (if b then place_is admissions (option_map (with_command given) stay) else place_is admissions stay)
commanded_by given true admissions None = refl
commanded_by given true admissions (Some stay) =
    ap (λ (book : Book). let saved : SavedPlace =
    record { admissions = admissions; tenant = Some (stay.name, book) } in saved)
    (book_of-more (opened_stay stay.name (book_of stay)) given ∙ sym (book_of-more stay given))
commanded_by given false admissions None = refl
commanded_by given false admissions (Some stay) = refl

commanded_again : (name : List ℕ) (given : Given) (place : Place)
    → saved_place (commanded name given (restored_place (saved_place place))) ≡ saved_place (commanded name given place)
commanded_again name given place =
    ap (λ (b : Bool). saved_place (if b
    then place_is place.admissions (option_map (with_command given) (stay_again place.stay))
    else place_is place.admissions (stay_again place.stay))) (is_stay_again name place.stay)
    ∙ commanded_by given (is_stay_of name place.stay) place.admissions place.stay

left_as : (b : Bool) (admissions : ℕ) (stay : Option Stay)
    → saved_place (if b then place_is admissions None else place_is admissions (stay_again stay))
    ≡ saved_place (if b then place_is admissions None else place_is admissions stay)
left_as true admissions stay = refl
left_as false admissions None = refl
left_as false admissions (Some stay) = refl

left_again : (name : List ℕ) (place : Place)
    → saved_place (left_by name (restored_place (saved_place place))) ≡ saved_place (left_by name place)
left_again name place =
    ap (λ (b : Bool). saved_place (if b then place_is place.admissions None
    else place_is place.admissions (stay_again place.stay))) (is_stay_again name place.stay)
    ∙ left_as (is_stay_of name place.stay) place.admissions place.stay

entered_again : (at : ℕ) (name : List ℕ) (limits : TenantLimits) (places : List Place)
    → saved_after (entered_at at name limits (again places)) ≡ saved_after (entered_at at name limits places)
entered_again at name limits places =
    let new : ℕ → Place = λ n. place_is (n + 1) (Some (new_stay name limits)) in
    let before : ℕ = (get_or (again places) at unused_place).admissions in
    let now : ℕ = (get_or places at unused_place).admissions in
    let same : before ≡ now =
    ap (λ (p : Place). p.admissions) (get_or-map restored_place (saved_after places) at untouched)
    ∙ ap (λ (s : SavedPlace). s.admissions) (get_or-map saved_place places at unused_place) in
    map-set saved_place (again places) at (new before)
    ∙ ap (λ (saved : List SavedPlace). set saved at (saved_place (new before))) (places_kept (saved_after places))
    ∙ ap (λ (n : ℕ). set (saved_after places) at (saved_place (new n))) same
    ∙ sym (map-set saved_place places at (new now))

admitted_again : (places : List Place) (name : List ℕ) (limits : TenantLimits) (found : Result ℕ OperatorRefusal)
    (mark : Bool)
    → saved_after (admission (again places) name limits found mark).1
    ≡ saved_after (admission places name limits found mark).1
admitted_again places name limits (Err refusal) mark = places_kept (saved_after places)
admitted_again places name limits (Ok at) true = places_kept (saved_after places)
admitted_again places name limits (Ok at) false = entered_again at name limits places

retired_again : (places : List Place) (name : List ℕ) (stay : Option Stay)
    → saved_after (retirement (again places) name (stay_again stay)).1
    ≡ saved_after (retirement places name stay).1
retired_again places name None = places_kept (saved_after places)
retired_again places name (Some stay) = mapped_again (left_by name) (left_again name) places

state_again : (places : List Place) (given : MarkedLine)
    → saved_after (after_line (again places) given) ≡ saved_after (after_line places given)
state_again places (Nothing, mark) = places_kept (saved_after places)
state_again places (Long, mark) = places_kept (saved_after places)
state_again places (Nameless, mark) = places_kept (saved_after places)
state_again places (For name command, mark) =
    mapped_again (commanded name (command, mark)) (commanded_again name (command, mark)) places
state_again places (Operator (Admit name limits), mark) =
    ap (λ (register : List Entry). saved_after (admission (again places) name limits (place_for register name) mark).1)
    (register_again places)
    ∙ admitted_again places name limits (place_for (register_of places) name) mark
state_again places (Operator (Retire name), mark) =
    ap (λ (stay : Option Stay). saved_after (retirement (again places) name stay).1) (stay_of-again places name)
    ∙ retired_again places name (stay_of places name)
state_again places (Operator (Faulty refusal), mark) = places_kept (saved_after places)

-- and so line by line
answers_again : (places : List Place) (lines : List MarkedLine)
    → answers_from (again places) lines ≡ answers_from places lines
answers_again places [] = refl
answers_again places (given ∷ rest) =
    ap (λ (answer : LineAnswer). answer ∷ answers_from (after_line (again places) given) rest)
    (answer_again places given)
    ∙ ap (λ (answers : List LineAnswer). answer_of places given ∷ answers)
    (sym (answers_again (after_line (again places) given) rest)
    ∙ ap (λ (saved : List SavedPlace). answers_from (restored_places saved) rest) (state_again places given)
    ∙ answers_again (after_line places given) rest)

states_again : (places : List Place) (lines : List MarkedLine)
    → saved_after (after_lines (again places) lines) ≡ saved_after (after_lines places lines)
states_again places [] = places_kept (saved_after places)
states_again places (given ∷ rest) =
    sym (states_again (after_line (again places) given) rest)
    ∙ ap (λ (saved : List SavedPlace). saved_after (after_lines (restored_places saved) rest))
    (state_again places given)
    ∙ states_again (after_line places given) rest

pub answers_go_on_from : AnswersGoOnFrom
answers_go_on_from places lines more =
    answers_from-append places lines more
    ∙ ap (λ (answers : List LineAnswer). answers_from places lines ++ answers)
    (sym (answers_again (after_lines places lines) more))

pub states_go_on_from : StatesGoOnFrom
states_go_on_from places lines more =
    ap saved_after (after_lines-append places lines more) ∙ sym (states_again (after_lines places lines) more)

pub saved_is_kept : SavedIsKept
saved_is_kept saved = ap (saved_with saved.heading) (places_kept saved.places)
