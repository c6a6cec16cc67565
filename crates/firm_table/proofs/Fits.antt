-- The limits of each tenant fit the heading of its service.
use Rattle.std.proofs.Common.{◌≡◌, ◌∙◌, ℕ, ◌-◌, Bool, true, false, List, [], ◌∷◌, ◌++◌, Option, Some, None, Result}
use Rattle.std.proofs.Common.{Ok, Err}
use Rattle.std.proofs.Common.{All, length, map, refl, sym, ap, subst}
use Rattle.std.specs.Prelude.{IfSome, bytes_eq, option_map, replicate, set, if◌then◌else◌}
use Rattle.std.specs.List.{AllByRecursion}
use Rattle.std.proofs.lemmas.List.Elements.{All-append, All-from_recursion, All-replicate, All-set, recursion_from_All}
use Rattle.firm_rules.specs.Book.{Book}
use Rattle.firm_rules.specs.Limits.{TenantLimits}
use Rattle.firm_tenant.specs.Alone.{book_after}
use Rattle.firm_tenant.specs.Laws.{StepsCountOnce}
use Rattle.firm_tenant.specs.Step.{step}
use Rattle.firm_text.specs.Inputs.{input_lines, line_under}
use Rattle.firm_text.specs.LineLaws.{AdmitsWhatFits}
use Rattle.firm_text.specs.Lines.{lines}
use Rattle.firm_text.specs.Registers.{place_for}
use Rattle.firm_text.specs.Rosters.{FitsHeading, RosterRow, most_places}
use Rattle.firm_text.specs.declared.headings.Heading.{Heading}
use Rattle.firm_text.specs.declared.inputs.Line.{Line}
use Rattle.firm_text.specs.declared.inputs.Line.TheVariants.{Nothing, Long, Nameless, For, Operator}
use Rattle.firm_text.specs.declared.operator.OperatorLine.TheVariants.{Admit, Retire, Faulty}
use Rattle.firm_text.specs.declared.operator.OperatorRefusal.{OperatorRefusal}
use Rattle.firm_saved.specs.Saved.{PlaceFits}
use Rattle.firm_saved.specs.declared.saved.SavedPlace.{SavedPlace}
use Rattle.firm_table.specs.Ends.{ServedTo, TenantsFit, tenants_state}
use Rattle.firm_table.specs.Opened.{Opened}
use Rattle.firm_table.specs.Output.{unmarked}
use Rattle.firm_table.specs.Places.{Given, MarkedLine, Place, Stay, StayFits, admission, after_line, after_lines}
use Rattle.firm_table.specs.Places.{book_of, commanded, entered_at, is_stay_of, left_by, limits_of, new_stay}
use Rattle.firm_table.specs.Places.{opening_places, place_of_row, register_of, restored_place, restored_places}
use Rattle.firm_table.specs.Places.{retirement, saved_after, saved_place, stay_of, unused_place, with_command}
use Rattle.firm_table.specs.Service.{Device}
use Rattle.firm_table.specs.Tenants.{TenantsState}

-- what holds of each element holds of what it becomes
mapped : {A B : Type 0} (P : A → Type 0) (Q : B → Type 0) (f : A → B) → ((a : A) → P a → Q (f a)) → (xs : List A)
    → AllByRecursion P xs → AllByRecursion Q (map f xs)
mapped P Q f each [] all = tt
mapped P Q f each (x ∷ xs) all = (each x all.0, mapped P Q f each xs all.1)

all_mapped : {A B : Type 0} (P : A → Type 0) (Q : B → Type 0) (f : A → B) → ((a : A) → P a → Q (f a)) → (xs : List A)
    → All P xs → All Q (map f xs)
all_mapped P Q f each xs all =
    All-from_recursion Q (map f xs) (mapped P Q f each xs (recursion_from_All P xs all))

-- a roster's places fit its heading where its rows do
pub roster_fits : (heading : Heading) (rows : List RosterRow)
    → All (λ (row : RosterRow). FitsHeading heading row.1) rows
    → All (StayFits heading) (opening_places rows)
roster_fits heading rows fit =
    All-append (StayFits heading) (map place_of_row rows) (replicate (most_places - length rows) unused_place)
    (all_mapped (λ (row : RosterRow). FitsHeading heading row.1) (StayFits heading) place_of_row (λ row fits. fits) rows
    fit)
    (All-replicate (StayFits heading) (most_places - length rows) unused_place tt)

-- and those of a state
pub state_fits : (heading : Heading) (saved : List SavedPlace) → All (PlaceFits heading) saved
    → All (StayFits heading) (restored_places saved)
state_fits heading saved fit = all_mapped (PlaceFits heading) (StayFits heading) restored_place one saved fit
  where
    one : (place : SavedPlace) → PlaceFits heading place → StayFits heading (restored_place place)
    one place fits = by place.tenant fits
      where
        by : (tenant : Option (List ℕ × Book))
            → IfSome tenant (λ (t : List ℕ × Book). FitsHeading heading t.1.rows.limits)
            → StayFits heading (restored_place (record { admissions = place.admissions; tenant = tenant }))
        by None fits = tt
        by (Some tenant) fits = fits

-- where a line admits a tenant, its limits fit
abbrev LineFits : Heading → Line → Type 0
LineFits heading Nothing = Unit {0}
LineFits heading Long = Unit {0}
LineFits heading Nameless = Unit {0}
LineFits heading (For name command) = Unit {0}
LineFits heading (Operator (Admit name limits)) = FitsHeading heading limits
LineFits heading (Operator (Retire name)) = Unit {0}
LineFits heading (Operator (Faulty refusal)) = Unit {0}

line_fits : AdmitsWhatFits → (heading : Heading) (text : List ℕ) → LineFits heading (line_under heading text)
line_fits law heading text = by (line_under heading text) refl
  where
    by : (line : Line) → line_under heading text ≡ line → LineFits heading line
    by Nothing is = tt
    by Long is = tt
    by Nameless is = tt
    by (For name command) is = tt
    by (Operator (Admit name limits)) is = law heading text name limits is
    by (Operator (Retire name)) is = tt
    by (Operator (Faulty refusal)) is = tt

module _ (heading : Heading) where
  fit_commanded : (name : List ℕ) (given : Given) (place : Place) → StayFits heading place
      → StayFits heading (commanded name given place)
  fit_commanded name given place fits = by place.stay fits (is_stay_of name place.stay)
    where
      by : (stay : Option Stay) → IfSome stay (λ s. FitsHeading heading (limits_of s)) → (b : Bool)
          → StayFits heading (if b then record place { stay = option_map (with_command given) stay }
          else record place { stay = stay })
      by None fits true = tt
      by None fits false = tt
      by (Some stay) fits true = fits
      by (Some stay) fits false = fits

  fit_left : (name : List ℕ) (place : Place) → StayFits heading place → StayFits heading (left_by name place)
  fit_left name place fits = by (is_stay_of name place.stay)
    where
      by : (b : Bool) → StayFits heading (if b then record place { stay = None } else place)
      by true = tt
      by false = fits

  fit_admitted : (places : List Place) (name : List ℕ) (limits : TenantLimits) (found : Result ℕ OperatorRefusal)
      (mark : Bool) → FitsHeading heading limits → All (StayFits heading) places
      → All (StayFits heading) (admission places name limits found mark).1
  fit_admitted places name limits (Err refusal) mark fits all = all
  fit_admitted places name limits (Ok at) true fits all = all
  fit_admitted places name limits (Ok at) false fits all = All-set (StayFits heading) places at _ fits all

  fit_retired : (places : List Place) (name : List ℕ) (stay : Option Stay) → All (StayFits heading) places
      → All (StayFits heading) (retirement places name stay).1
  fit_retired places name None all = all
  fit_retired places name (Some stay) all =
      all_mapped (StayFits heading) (StayFits heading) (left_by name) (fit_left name) places all

  fit_after : (places : List Place) (line : Line) (mark : Bool) → LineFits heading line → All (StayFits heading) places
      → All (StayFits heading) (after_line places (line, mark))
  fit_after places Nothing mark fits all = all
  fit_after places Long mark fits all = all
  fit_after places Nameless mark fits all = all
  fit_after places (For name command) mark fits all =
      all_mapped (StayFits heading) (StayFits heading) (commanded name (command, mark))
      (fit_commanded name (command, mark)) places all
  fit_after places (Operator (Admit name limits)) mark fits all =
      fit_admitted places name limits (place_for (register_of places) name) mark fits all
  fit_after places (Operator (Retire name)) mark fits all = fit_retired places name (stay_of places name) all
  fit_after places (Operator (Faulty refusal)) mark fits all = all

  fit_lines : AdmitsWhatFits → (texts : List (List ℕ)) (places : List Place) → All (StayFits heading) places
      → All (StayFits heading) (after_lines places (map unmarked (map (line_under heading) texts)))
  fit_lines law [] places all = all
  fit_lines law (text ∷ rest) places all =
      fit_lines law rest (after_line places (unmarked (line_under heading text)))
      (fit_after places (line_under heading text) false (line_fits law heading text) all)

  -- steps keep limits
  kept_limits : StepsCountOnce → (book : Book) (commands : List Given)
      → (book_after book commands).rows.limits ≡ book.rows.limits
  kept_limits law book [] = refl
  kept_limits law book (given ∷ rest) =
      kept_limits law (step book given.0 given.1).1 rest ∙ (law book given.0 given.1).limits

  fit_saved : StepsCountOnce → (place : Place) → StayFits heading place → PlaceFits heading (saved_place place)
  fit_saved law place fits = by place.stay fits
    where
      by : (stay : Option Stay) → IfSome stay (λ s. FitsHeading heading (limits_of s))
          → PlaceFits heading (saved_place (record { admissions = place.admissions; stay = stay }))
      by None fits = tt
      by (Some stay) fits =
          subst (FitsHeading heading) (sym (kept_limits law stay.opening stay.commands)) fits

-- so do those of the tenants with which a service ends
pub ends_fit : AdmitsWhatFits → StepsCountOnce → (opened : Opened) (most : ℕ) (reader writer : Device)
    (after : TenantsState) → All (StayFits opened.heading) opened.places → ServedTo opened most reader writer after
    → TenantsFit opened.heading after
ends_fit law steps opened most reader writer after fit served =
    let heading : Heading = opened.heading in
    let texts : List (List ℕ) = lines served.served.input in
    let all = fit_lines heading law texts opened.places fit in
    let whole : saved_after (after_lines opened.places (map unmarked (map (line_under heading) texts)))
    ≡ tenants_state after =
    sym (served.state
    ∙ ap (λ (given : List MarkedLine). saved_after (after_lines opened.places given)) served.granted) in
    subst (All (PlaceFits heading)) whole
    (all_mapped (StayFits heading) (PlaceFits heading) saved_place (fit_saved heading steps)
    (after_lines opened.places (map unmarked (map (line_under heading) texts))) all)
