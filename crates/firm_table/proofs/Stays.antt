-- Each tenant gets the replies of one that is alone.
use Rattle.std.proofs.Common.{◌≡◌, ℕ, ◌+◌, List, [], ◌∷◌, ◌++◌, refl, sym, ap, subst, ◌∙◌}
use Rattle.std.specs.Prelude.{Bool, true, false, Option, Some, None, Result, Ok, Err, map, bytes_eq, option_map}
use Rattle.std.specs.Prelude.{position, slice_index_or, if◌then◌else◌}
use Rattle.std.specs.Option.{is_some}
use Rattle.firm_rules.specs.Book.{Book}
use Rattle.firm_rules.specs.Limits.{TenantLimits}
use Rattle.firm_rules.specs.declared.commands.Command.{Command}
use Rattle.firm_rules.specs.declared.replies.Reply.{Reply}
use Rattle.firm_tenant.specs.Step.{step}
use Rattle.firm_tenant.specs.Alone.{alone_marked, replies_from}
use Rattle.firm_text.specs.Registers.{is_free, place_for, place_in}
use Rattle.firm_text.specs.declared.inputs.Line.TheVariants.{Nothing, Long, Nameless, For, Operator}
use Rattle.firm_text.specs.declared.operator.OperatorLine.TheVariants.{Admit, Retire, Faulty}
use Rattle.firm_text.specs.declared.operator.OperatorRefusal.{OperatorRefusal}
use Rattle.firm_saved.specs.declared.saved.SavedPlace.{SavedPlace}
use Rattle.firm_table.specs.SavedIsolation.{of_roster}
use Rattle.firm_table.specs.Places.{Given, MarkedLine, Stay, Place, opened_stay, new_stay, limits_of, book_of}
use Rattle.firm_table.specs.Places.{unused_place, opening_places, restored_places, is_stay_of, stay_of, with_command}
use Rattle.firm_table.specs.Places.{commanded, left_by, entered_at}
use Rattle.firm_table.specs.Places.{register_of, admission, retirement, after_line, after_lines}
use Rattle.firm_table.specs.Answers.{reply_answer, answer_to_command, answer_of}
use Rattle.firm_table.specs.declared.answers.LineAnswer.{LineAnswer}
use Rattle.firm_table.specs.declared.answers.LineAnswer.TheVariants.{Replied, ToOperator}
use Rattle.firm_table.specs.Output.{answers_from, replies_with, replies_behind}
use Rattle.firm_table.specs.Isolation.{AnswersLineByLine, RepliesAreAlone, StaysAreIsolated, StaysAreServedAlone}
use Rattle.firm_table.specs.Isolation.{line_to}
use Rattle.firm_table.specs.SavedIsolation.{AnswersGoOn, SavedRepliesAreAlone, SavedStaysAreIsolated, saved_alone}
use Rattle.firm_table.specs.SavedIsolation.{SavedStaysAreServedAlone}
use Rattle.firm_table.proofs.Limited.{stays_open_with_limits}
use Rattle.firm_table.proofs.Lookups.{Which, same, other, which, eq_same, stay_of-commanded, stay_of-commanded-other}
use Rattle.firm_table.proofs.Lookups.{stay_of-left, stay_of-left-other}
use Rattle.firm_table.proofs.Lookups.{stay_of-entered, stay_of-entered-other}
use Rattle.firm_table.proofs.Registering.{none_there, given_place, is_nowhere}
use Rattle.firm_table.proofs.Saving.{rosters_are_saved}
use Rattle.firm_table.proofs.Alones.{replies_in, replies_in-more, book_of-more, last_reply-more}

-- lines behind lines
pub after_lines-append : (places : List Place) (lines more : List MarkedLine) → after_lines places (lines ++ more)
    ≡ after_lines (after_lines places lines) more
after_lines-append places [] more = refl
after_lines-append places (given ∷ rest) more = after_lines-append (after_line places given) rest more

pub answers_from-append : (places : List Place) (lines more : List MarkedLine)
    → answers_from places (lines ++ more) ≡ answers_from places lines ++ answers_from (after_lines places lines) more
answers_from-append places [] more = refl
answers_from-append places (given ∷ rest) more =
    ap (λ (answers : List LineAnswer). answer_of places given ∷ answers)
    (answers_from-append (after_line places given) rest more)

pub answers_go_on : AnswersGoOn
answers_go_on places lines given = answers_from-append places lines (given ∷ [])

pub line_by_line : AnswersLineByLine
line_by_line roster lines given = answers_go_on (opening_places roster) lines given

-- the tenant, if it stays, has these replies
abbrev Has : List ℕ → List Reply → List Place → Type 0
Has name replies places = (stay : Stay) → stay_of places name ≡ Some stay → replies ≡ replies_in stay

module _ (name : List ℕ) (replies : List Reply) (places : List Place) (has : Has name replies places) where
  -- the same places, as far as this tenant goes
  alike : (after : List Place) → stay_of after name ≡ stay_of places name → Has name replies after
  alike after e stay is = has stay (sym e ∙ is)

  -- an answer to a command of another tenant
  quiet : (tenant : List ℕ) (stay : Option Stay) (given : Given) → bytes_eq tenant name ≡ false
      → replies_with name replies (answer_to_command tenant stay given) ≡ replies
  quiet tenant None given out = refl
  quiet tenant (Some stay) given out = rw (last_reply-more stay given, out) refl

  heard_same : (given : Given) (stay : Option Stay) → stay_of places name ≡ stay
      → Has name (replies_with name replies (answer_to_command name stay given)) (map (commanded name given) places)
  heard_same given None none stay is =
      let no : stay_of (map (commanded name given) places) name ≡ None = stay_of-commanded places name given
      ∙ ap (option_map (with_command given)) none in
      cc
  heard_same given (Some now) some stay is =
      let after : stay_of (map (commanded name given) places) name ≡ Some (with_command given now) =
      stay_of-commanded places name given ∙ ap (option_map (with_command given)) some in
      let same_stay : with_command given now ≡ stay = cc in
      rw (last_reply-more now given, eq_same name)
      (ap (λ (rs : List Reply). rs ++ (step (book_of now) given.0 given.1).0 ∷ []) (has now some)
      ∙ sym (replies_in-more now given) ∙ ap replies_in same_stay)

  heard_command : (tenant : List ℕ) (command : Command) (mark : Bool) → Which tenant name
      → Has name (replies_with name replies (answer_of places (For tenant command, mark)))
      (after_line places (For tenant command, mark))
  heard_command tenant command mark (same _) = heard_same (command, mark) (stay_of places name) refl
  heard_command tenant command mark (other _ _ out back) =
      rw (quiet tenant (stay_of places tenant) (command, mark) out)
      (alike (map (commanded tenant (command, mark)) places)
      (stay_of-commanded-other places tenant name (command, mark) out))

  heard_left : (tenant : List ℕ) → Which tenant name → Has name replies (map (left_by tenant) places)
  heard_left tenant (same _) = λ stay is. let no : stay_of (map (left_by name) places) name ≡ None =
      stay_of-left places name in cc
  heard_left tenant (other _ _ out back) =
      alike (map (left_by tenant) places) (stay_of-left-other places tenant name out)

  heard_retire : (tenant : List ℕ) (stay : Option Stay)
      → Has name (replies_with name replies (ToOperator (retirement places tenant stay).0))
      (retirement places tenant stay).1
  heard_retire tenant None = has
  heard_retire tenant (Some stay) = heard_left tenant (which tenant name)

  heard_entered : (tenant : List ℕ) (limits : TenantLimits) (at : ℕ) → Which tenant name
      → place_for (register_of places) tenant ≡ Ok at
      → Has name (if bytes_eq tenant name then [] else replies) (entered_at at tenant limits places)
  heard_entered tenant limits at (same _) given =
      let free = given_place (is_some (place_in (register_of places) name))
      (position is_free (register_of places)) at given in
      let nowhere = none_there places name (is_nowhere (place_in (register_of places) name) free.0) in
      let new : Place = record {
        admissions = (slice_index_or places at unused_place).admissions + 1;
        stay =
            Some (new_stay name limits);
      } in
      rw (eq_same name) (λ stay is.
      let here = stay_of-entered places name at new free.1 nowhere (eq_same name) in
      let same_stay : new_stay name limits ≡ stay = cc in ap replies_in same_stay)
  heard_entered tenant limits at (other _ _ out back) given =
      let free = given_place (is_some (place_in (register_of places) tenant))
      (position is_free (register_of places)) at given in
      let new : Place = record {
        admissions = (slice_index_or places at unused_place).admissions + 1;
        stay =
            Some (new_stay tenant limits);
      } in
      rw out (alike (entered_at at tenant limits places) (stay_of-entered-other places name at new free.1 out))

  heard_admit : (tenant : List ℕ) (limits : TenantLimits) (found : Result ℕ OperatorRefusal) (mark : Bool)
      → place_for (register_of places) tenant ≡ found
      → Has name (replies_with name replies (ToOperator (admission places tenant limits found mark).0))
      (admission places tenant limits found mark).1
  heard_admit tenant limits (Err refusal) mark is = has
  heard_admit tenant limits (Ok at) true is = has
  heard_admit tenant limits (Ok at) false is = heard_entered tenant limits at (which tenant name) is

  heard : (given : MarkedLine)
      → Has name (replies_with name replies (answer_of places given)) (after_line places given)
  heard (Nothing, mark) = has
  heard (Long, mark) = has
  heard (Nameless, mark) = has
  heard (For tenant command, mark) = heard_command tenant command mark (which tenant name)
  heard (Operator (Admit tenant limits), mark) =
      heard_admit tenant limits (place_for (register_of places) tenant) mark refl
  heard (Operator (Retire tenant), mark) = heard_retire tenant (stay_of places tenant)
  heard (Operator (Faulty refusal), mark) = has

heard_all : (name : List ℕ) (replies : List Reply) (places : List Place) (lines : List MarkedLine)
    → Has name replies places
    → Has name (replies_behind name replies (answers_from places lines)) (after_lines places lines)
heard_all name replies places [] has = has
heard_all name replies places (given ∷ rest) has =
    heard_all name (replies_with name replies (answer_of places given)) (after_line places given) rest
    (heard name replies places has given)

-- before the first line nobody has replies
begins_at : (name : List ℕ) (tenant : Option (List ℕ × Book)) (rest : Option Stay) (stay : Stay)
    → (rest ≡ Some stay → [] ≡ replies_in stay)
    → (if is_stay_of name (option_map (λ t. opened_stay t.0 t.1) tenant)
    then option_map (λ t. opened_stay t.0 t.1) tenant else rest) ≡ Some stay
    → [] ≡ replies_in stay
begins_at name None rest stay behind is = behind is
begins_at name (Some tenant) rest stay behind is =
    elim (bytes_eq tenant.0 name) as (λ b. bytes_eq tenant.0 name ≡ b → [] ≡ replies_in stay) [
      | true ↦ λ e. let first : opened_stay tenant.0 tenant.1 ≡ stay = let it = rw e at is in cc in ap replies_in first
      | false ↦ λ e. behind (rw e at is)
    ] refl

begins_empty : (name : List ℕ) (saved : List SavedPlace) → Has name [] (restored_places saved)
begins_empty name [] stay is = cc
begins_empty name (place ∷ rest) stay is =
    begins_at name place.tenant (stay_of (restored_places rest) name) stay (begins_empty name rest stay) is

pub saved_replies_are_alone : SavedRepliesAreAlone
saved_replies_are_alone saved lines name stay is =
    heard_all name [] (restored_places saved) lines (begins_empty name saved) stay is

pub saved_stays_are_isolated : SavedStaysAreIsolated
saved_stays_are_isolated saved other_saved lines other_lines name stay another is other_is openings commands =
    saved_replies_are_alone saved lines name stay is
    ∙ ap (λ (book : Book). replies_from book stay.commands) openings
    ∙ ap (λ (cs : List Given). replies_from another.opening cs) commands
    ∙ sym (saved_replies_are_alone other_saved other_lines name another other_is)

-- and so of a roster
pub replies_are_alone : RepliesAreAlone
replies_are_alone roster lines name stay is =
    let nobody : Has name [] (opening_places roster) =
    subst (Has name []) (rosters_are_saved roster) (begins_empty name (of_roster roster)) in
    heard_all name [] (opening_places roster) lines nobody stay is
    ∙ ap (λ (book : Book). replies_from book stay.commands) (stays_open_with_limits roster lines name stay is)

pub stays_are_isolated : StaysAreIsolated
stays_are_isolated roster other_roster lines other_lines name stay another is other_is limits commands =
    replies_are_alone roster lines name stay is
    ∙ ap (λ (l : TenantLimits). alone_marked l stay.commands) limits
    ∙ ap (λ (cs : List Given). alone_marked (limits_of another) cs) commands
    ∙ sym (replies_are_alone other_roster other_lines name another other_is)

-- a tenant that is given commands alone
alone_answers : (name : List ℕ) (places : List Place) (stay : Stay) (commands : List Given) → stay_of places name
    ≡ Some stay
    → answers_from places (map (line_to name) commands) ≡ map (Replied name) (replies_from (book_of stay) commands)
alone_answers name places stay [] is = refl
alone_answers name places stay (given ∷ rest) is =
    let reply = (step (book_of stay) given.0 given.1).0 in
    let here : answer_of places (line_to name given) ≡ Replied name reply =
    ap (λ (s : Option Stay). answer_to_command name s given) is
    ∙ ap (reply_answer name) (last_reply-more stay given) in
    let after : stay_of (map (commanded name given) places) name ≡ Some (with_command given stay) =
    stay_of-commanded places name given ∙ ap (option_map (with_command given)) is in
    ap (λ (a : LineAnswer). a ∷ answers_from (map (commanded name given) places) (map (line_to name) rest)) here
    ∙ ap (λ (answers : List LineAnswer). Replied name reply ∷ answers)
    (alone_answers name (map (commanded name given) places) (with_command given stay) rest after)
    ∙ ap (λ book. Replied name reply ∷ map (Replied name) (replies_from book rest)) (book_of-more stay given)

pub saved_stays_are_served_alone : SavedStaysAreServedAlone
saved_stays_are_served_alone saved lines name stay is =
    let opening : stay_of (restored_places (saved_alone name stay.opening)) name
    ≡ Some (opened_stay name stay.opening) =
    rw (eq_same name) refl in
    ap (map (Replied name)) (saved_replies_are_alone saved lines name stay is)
    ∙ sym (alone_answers name (restored_places (saved_alone name stay.opening))
    (opened_stay name stay.opening) stay.commands opening)

pub stays_are_served_alone : StaysAreServedAlone
stays_are_served_alone roster lines name stay is =
    let limits = limits_of stay in
    let opening : stay_of (opening_places ((name, limits) ∷ [])) name ≡ Some (new_stay name limits) =
    rw (eq_same name) refl in
    ap (map (Replied name)) (replies_are_alone roster lines name stay is)
    ∙ sym (alone_answers name (opening_places ((name, limits) ∷ [])) (new_stay name limits) stay.commands opening)
