-- A stay that begins while the service runs.
use Rattle.std.proofs.Common.{◌≡◌, ℕ, ◌+◌, List, [], ◌∷◌, ◌++◌, refl, ap, ◌∙◌}
use Rattle.std.specs.Prelude.{Bool, true, false, Some, Result, Ok, Err, option_map, position, slice_index_or}
use Rattle.std.specs.Option.{is_some}
use Rattle.firm_rules.specs.Limits.{TenantLimits}
use Rattle.firm_text.specs.Registers.{is_free, place_for, place_in}
use Rattle.firm_text.specs.declared.inputs.Line.{Line}
use Rattle.firm_text.specs.declared.inputs.Line.TheVariants.{Operator}
use Rattle.firm_text.specs.declared.operator.OperatorLine.TheVariants.{Admit}
use Rattle.firm_text.specs.declared.operator.OperatorRefusal.{OperatorRefusal}
use Rattle.firm_text.specs.declared.operator.OperatorReply.TheVariants.{Admitted}
use Rattle.firm_table.specs.Places.{Place, new_stay, unused_place, opening_places, restored_places, stay_of}
use Rattle.firm_table.specs.Places.{register_of}
use Rattle.firm_table.specs.Places.{admission, after_line, after_lines}
use Rattle.firm_table.specs.Answers.{answer_of}
use Rattle.firm_table.specs.declared.answers.LineAnswer.TheVariants.{ToOperator}
use Rattle.firm_table.specs.Output.{answers_from}
use Rattle.firm_table.specs.Isolation.{commands_to, with_commands, NoneIsOperatorsFor}
use Rattle.firm_table.specs.Isolation.{AdmissionsAreIsolated, StaysBeginAnew}
use Rattle.firm_table.specs.SavedIsolation.{PlacesBeginAnew, SavedAdmissionsAreIsolated}
use Rattle.firm_table.proofs.Lines.{holds_lines}
use Rattle.firm_table.proofs.Lookups.{eq_same, stay_of-entered}
use Rattle.firm_table.proofs.Registering.{none_there, given_place, is_nowhere}
use Rattle.firm_table.proofs.Stays.{after_lines-append, stays_are_isolated, saved_stays_are_isolated}

-- a tenant that was admitted stays, and was given nothing yet
admitted : (places : List Place) (name : List ℕ) (limits : TenantLimits) (found : Result ℕ OperatorRefusal)
    (mark : Bool)
    → place_for (register_of places) name ≡ found
    → ToOperator (admission places name limits found mark).0 ≡ ToOperator (Admitted name)
    → stay_of (admission places name limits found mark).1 name ≡ Some (new_stay name limits)
admitted places name limits (Err refusal) mark is told = cc
admitted places name limits (Ok at) true is told = cc
admitted places name limits (Ok at) false is told =
    let free = given_place (is_some (place_in (register_of places) name))
    (position is_free (register_of places)) at is in
    let nowhere = none_there places name (is_nowhere (place_in (register_of places) name) free.0) in
    let new : Place = record {
      admissions = (slice_index_or places at unused_place).admissions + 1;
      stay = Some (new_stay name limits);
    } in
    stay_of-entered places name at new free.1 nowhere (eq_same name)

begun : (places : List Place) (line : Line) (mark : Bool) (name : List ℕ) (limits : TenantLimits)
    → line ≡ Operator (Admit name limits) → answer_of places (line, mark) ≡ ToOperator (Admitted name)
    → stay_of (after_line places (line, mark)) name ≡ Some (new_stay name limits)
begun places line mark name limits is told =
    rw is (admitted places name limits (place_for (register_of places) name) mark refl (rw is at told))

pub places_begin_anew : PlacesBeginAnew
places_begin_anew opening lines later (line, mark) name limits begins =
    let places : List Place = after_lines opening lines in
    let behind : after_lines opening (lines ++ (line, mark) ∷ []) ≡ after_line places (line, mark) =
    after_lines-append opening lines ((line, mark) ∷ []) in
    let later_none : NoneIsOperatorsFor name (answers_from (after_line places (line, mark)) later) =
    rw behind at begins.stays in
    ap (λ (ps : List Place). stay_of ps name) (after_lines-append opening lines ((line, mark) ∷ later))
    ∙ holds_lines name (after_line places (line, mark)) later later_none
    ∙ ap (option_map (with_commands (commands_to name later)))
    (begun places line mark name limits begins.asks begins.admits)

pub saved_admissions_are_isolated : SavedAdmissionsAreIsolated
saved_admissions_are_isolated saved other_saved lines later other_lines other_later admission other_admission name
    limits begins other_begins same =
    saved_stays_are_isolated saved other_saved (lines ++ admission ∷ later)
    (other_lines ++ other_admission ∷ other_later) name
    (with_commands (commands_to name later) (new_stay name limits))
    (with_commands (commands_to name other_later) (new_stay name limits))
    (places_begin_anew (restored_places saved) lines later admission name limits begins)
    (places_begin_anew (restored_places other_saved) other_lines other_later other_admission name limits other_begins)
    refl same

-- and so of a roster
pub stays_begin_anew : StaysBeginAnew
stays_begin_anew roster = places_begin_anew (opening_places roster)

pub admissions_are_isolated : AdmissionsAreIsolated
admissions_are_isolated roster other_roster lines later other_lines other_later admission other_admission name limits
    begins other_begins same =
    stays_are_isolated roster other_roster (lines ++ admission ∷ later) (other_lines ++ other_admission ∷ other_later)
    name (with_commands (commands_to name later) (new_stay name limits))
    (with_commands (commands_to name other_later) (new_stay name limits))
    (stays_begin_anew roster lines later admission name limits begins)
    (stays_begin_anew other_roster other_lines other_later other_admission name limits other_begins)
    refl same
