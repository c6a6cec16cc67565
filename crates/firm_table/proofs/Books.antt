-- The effect of each line on the tenants' register and books.
use Rattle.std.proofs.Common.{◌≡◌, ℕ, zero, suc, ◌+◌, ◌-◌, ◌<◌, ◌≤◌, List, [], ◌∷◌, ◌++◌, refl, sym, ap, subst, ◌∙◌}
use Rattle.std.proofs.Common.{length, get_or}
use Rattle.std.specs.Prelude.{Bool, true, false, Option, Some, None, Result, Ok, Err, map, option_map, replicate, set}
use Rattle.std.specs.Prelude.{slice_get, slice_index_or}
use Rattle.std.proofs.Math.ListN.{get_or-map}
use Rattle.std.proofs.lemmas.List.{map-set}
use Rattle.firm_rules.specs.Book.{Book, opening_book}
use Rattle.firm_rules.specs.Limits.{TenantLimits}
use Rattle.firm_rules.specs.declared.commands.Command.{Command}
use Rattle.firm_rules.specs.declared.replies.Reply.{Reply}
use Rattle.firm_tenant.specs.Step.{step, is_memory}
use Rattle.firm_text.specs.Registers.{IsRegister, first_places, occupied, place_for, place_in, vacant, with_tenant}
use Rattle.firm_text.specs.Registers.{without_tenant}
use Rattle.firm_text.specs.Rosters.{RosterRow, most_places}
use Rattle.firm_text.specs.declared.operator.OperatorLine.TheVariants.{Admit}
use Rattle.firm_text.specs.declared.operator.OperatorRefusal.{OperatorRefusal}
use Rattle.firm_text.specs.declared.operator.OperatorReply.{OperatorReply}
use Rattle.firm_text.specs.declared.operator.OperatorReply.TheVariants.{Refused}
use Rattle.firm_text.specs.declared.registers.Entry.{Entry}
use Rattle.firm_table.specs.Places.{Given, Stay, Place, new_stay, unused_place, place_of_row, opening_places, stay_of}
use Rattle.firm_table.specs.Places.{book_of, with_command, commanded, left_by, register_of, admission, retirement}
use Rattle.firm_table.specs.Places.{obeyed}
use Rattle.firm_table.specs.Answers.{reply_answer, answer_to_command, is_operator_memory}
use Rattle.firm_table.specs.declared.answers.LineAnswer.TheVariants.{Replied, ToOperator}
use Rattle.firm_table.specs.Adding.{TenantsAreAnswered, StrangersAreAnswered, AdmissionsAreAnswered}
use Rattle.firm_table.specs.Adding.{AdmissionsFindNoMemory, AdmissionsAreRefused, RetirementsAreAnswered}
use Rattle.firm_table.specs.Adding.{RetirementsAreRefused}
use Rattle.firm_table.specs.Tenants.{TenantsState, tenants_are}
use Rattle.firm_table.specs.Progress.{books_of, Shows}
use Rattle.firm_table.proofs.Alones.{book_of-more, last_reply-more}
use Rattle.firm_table.proofs.Lookups.{not_here}
use Rattle.firm_table.proofs.Opened.{opened_at, opened_is}
use Rattle.firm_table.proofs.Registering.{none_there, StaysAt, stays_there, changed_once, register_commanded}
use Rattle.firm_table.proofs.Registering.{register_left, register_entered}

pub books_at : (places : List Place) (at : ℕ) → get_or (books_of places) at None
    ≡ option_map book_of (get_or places at unused_place).stay
books_at places at = get_or-map (λ (place : Place). option_map book_of place.stay) places at unused_place

books_set : (places : List Place) (at : ℕ) (new : Place) → books_of (set places at new)
    ≡ set (books_of places) at (option_map book_of new.stay)
books_set places at new = map-set (λ (place : Place). option_map book_of place.stay) places at new

-- a command of a tenant that is there
module _ (tenants : TenantsState) (name : List ℕ) (command : Command) (at : ℕ) (book after : Book) (reply : Reply)
    (sound : IsRegister tenants.register)
    (found : place_in tenants.register name ≡ Some at) (here : slice_index_or tenants.books at None ≡ Some book)
    (stepped : (reply, after)
    ≡ step book command (is_memory reply)) (places : List Place) (shows : Shows tenants places) where
  there : StaysAt places name at
  there = stays_there places name at (ap (λ (r : List Entry). place_in r name) shows.register ∙ found)

  its_book : book_of there.stay ≡ book
  its_book =
      let known : Some (book_of there.stay) ≡ Some book =
      sym (ap (option_map book_of) (there.at_place unused_place)) ∙ sym (books_at places at)
      ∙ ap (λ (bs : List (Option Book)). get_or bs at None) shows.books ∙ here in
      cc

  its_reply : Replied name reply ≡ answer_to_command name (stay_of places name) (command, is_memory reply)
  its_reply =
      let last = last_reply-more there.stay (command, is_memory reply) in
      let now : (step (book_of there.stay) command (is_memory reply)).0 ≡ reply =
      ap (λ (b : Book). (step b command (is_memory reply)).0) its_book
      ∙ sym (ap (λ (p : Reply × Book). p.0) stepped) in
      sym (ap (λ (s : Option Stay). answer_to_command name s (command, is_memory reply)) there.is
      ∙ ap (reply_answer name) last ∙ ap (Replied name) now)

  its_books : books_of (map (commanded name (command, is_memory reply)) places) ≡ set tenants.books at (Some after)
  its_books =
      let more : Place → Place =
      λ place. record place { stay = option_map (with_command (command, is_memory reply)) place.stay } in
      let once = changed_once places name more at unused_place (rw shows.register sound.apart)
      (ap (λ (r : List Entry). place_in r name) shows.register ∙ found) in
      let new : option_map book_of
      (option_map (with_command (command, is_memory reply)) (get_or places at unused_place).stay) ≡ Some after =
      ap (λ (s : Option Stay). option_map book_of (option_map (with_command (command, is_memory reply)) s))
      (there.at_place unused_place)
      ∙ ap (λ (b : Book). Some b) (book_of-more there.stay (command, is_memory reply)
      ∙ ap (λ (b : Book). (step b command (is_memory reply)).1) its_book
      ∙ sym (ap (λ (p : Reply × Book). p.1) stepped)) in
      ap books_of once ∙ books_set places at (more (get_or places at unused_place))
      ∙ ap (set (books_of places) at) new ∙ ap (λ (bs : List (Option Book)). set bs at (Some after)) shows.books

pub tenants_are_answered : TenantsAreAnswered
tenants_are_answered tenants name command at book after reply sound found here stepped = record {
  answers = its_reply tenants name command at book after reply sound found here stepped;
  leaves = λ places shows. record {
    register = register_commanded places name (command, is_memory reply) ∙ shows.register;
    books = its_books tenants name command at book after reply sound found here stepped places shows;
  };
}

-- and of one that is not
nowhere : (tenants : TenantsState) (name : List ℕ) (places : List Place) → place_in tenants.register name ≡ None
    → Shows tenants places → stay_of places name ≡ None
nowhere tenants name places none shows =
    none_there places name (ap (λ (r : List Entry). place_in r name) shows.register ∙ none)

unchanged : (places : List Place) (name : List ℕ) (given : Given) → stay_of places name ≡ None
    → map (commanded name given) places ≡ places
unchanged [] name given none = refl
unchanged (place ∷ rest) name given none =
    let parts = not_here name place.stay (stay_of rest name) none in
    rw parts.0 (ap (λ (ps : List Place). place ∷ ps) (unchanged rest name given parts.1))

pub strangers_are_answered : StrangersAreAnswered
strangers_are_answered tenants name command none = record {
  answers = λ places shows. sym
      (ap (λ (s : Option Stay). answer_to_command name s (command, false)) (nowhere tenants name places none shows));
  leaves = λ places shows. subst (Shows tenants)
      (sym (unchanged places name (command, false) (nowhere tenants name places none shows))) shows;
}

-- a line that admits a tenant
admits : (tenants : TenantsState) (name : List ℕ) (limits : TenantLimits) (found : Result ℕ OperatorRefusal)
    (mark : Bool)
    (places : List Place) → place_for tenants.register name ≡ found
    → Shows tenants places → obeyed places (Admit name limits) mark ≡ admission places name limits found mark
admits tenants name limits found mark places is shows =
    ap (λ (r : Result ℕ OperatorRefusal). admission places name limits r mark)
    (ap (λ (r : List Entry). place_for r name) shows.register ∙ is)

pub admissions_are_answered : AdmissionsAreAnswered
admissions_are_answered tenants name limits at given = record {
  answers = λ places shows. sym
      (ap (λ (p : OperatorReply × List Place). ToOperator p.0)
      (admits tenants name limits (Ok at) false places given shows));
  leaves = λ places shows.
      let new : Place = record {
        admissions = (get_or places at unused_place).admissions + 1;
        stay =
            Some (new_stay name limits);
      } in
      subst (Shows (tenants_are (with_tenant tenants.register at name)
      (set tenants.books at (Some (opening_book limits)))))
      (sym (ap (λ (p : OperatorReply × List Place). p.1)
      (admits tenants name limits (Ok at) false places given shows))) (record {
        register = register_entered places at name limits
            ∙ ap (λ (r : List Entry). with_tenant r at name) shows.register;
        books = books_set places at new
            ∙ ap (λ (bs : List (Option Book)). set bs at (Some (opening_book limits))) shows.books;
      });
}

pub admissions_find_no_memory : AdmissionsFindNoMemory
admissions_find_no_memory tenants name limits at given = record {
  answers = λ places shows. sym
      (ap (λ (p : OperatorReply × List Place). ToOperator p.0)
      (admits tenants name limits (Ok at) true places given shows));
  leaves = λ places shows. subst (Shows tenants)
      (sym (ap (λ (p : OperatorReply × List Place). p.1)
      (admits tenants name limits (Ok at) true places given shows))) shows;
}

pub admissions_are_refused : AdmissionsAreRefused
admissions_are_refused tenants name limits refusal refused =
    let mark : Bool = is_operator_memory (Refused refusal) in record {
      answers = λ places shows. sym
          (ap (λ (p : OperatorReply × List Place). ToOperator p.0)
          (admits tenants name limits (Err refusal) mark places refused shows));
      leaves = λ places shows. subst (Shows tenants)
          (sym (ap (λ (p : OperatorReply × List Place). p.1)
          (admits tenants name limits (Err refusal) mark places refused shows))) shows;
    }

-- a line that retires one
pub retirements_are_answered : RetirementsAreAnswered
retirements_are_answered tenants name at sound found = record {
  answers = λ places shows. sym
      (ap (λ (s : Option Stay). ToOperator (retirement places name s).0) (there places shows).is);
  leaves = λ places shows.
      let gone : Place = record (get_or places at unused_place) { stay = None } in
      let once : map (left_by name) places ≡ set places at gone =
      changed_once places name (λ (place : Place). let left : Place =
      record place { stay = None } in left) at unused_place (rw shows.register sound.apart)
      (ap (λ (r : List Entry). place_in r name) shows.register ∙ found) in
      subst (Shows (tenants_are (without_tenant tenants.register at) (set tenants.books at None)))
      (sym (ap (λ (s : Option Stay). (retirement places name s).1) (there places shows).is)) (record {
        register = ap register_of once ∙ register_left places at
            ∙ ap (λ (r : List Entry). without_tenant r at) shows.register;
        books = ap books_of once ∙ books_set places at gone
            ∙ ap (λ (bs : List (Option Book)). set bs at None) shows.books;
      });
}
  where
    there : (places : List Place) → Shows tenants places → StaysAt places name at
    there places shows = stays_there places name at (ap (λ (r : List Entry). place_in r name) shows.register
        ∙ found)

pub retirements_are_refused : RetirementsAreRefused
retirements_are_refused tenants name none = record {
  answers = λ places shows. sym
      (ap (λ (s : Option Stay). ToOperator (retirement places name s).0) (nowhere tenants name places none shows));
  leaves = λ places shows.
      subst (Shows tenants) (sym
      (ap (λ (s : Option Stay). (retirement places name s).1) (nowhere tenants name places none shows))) shows;
}

-- before the first line each tenant of a roster has its place, and no other is given
register_opening : (roster : List RosterRow) (n : ℕ) → register_of (map place_of_row roster ++ replicate n unused_place)
    ≡ map (λ row. occupied row.0 1) roster ++ replicate n (vacant 0)
register_opening [] zero = refl
register_opening [] (suc n) = ap (λ (r : List Entry). vacant 0 ∷ r) (register_opening [] n)
register_opening (row ∷ rest) n = ap (λ (r : List Entry). occupied row.0 1 ∷ r) (register_opening rest n)

pub roster_register : (roster : List RosterRow) → register_of (opening_places roster) ≡ first_places roster
roster_register roster = register_opening roster (most_places - length roster)

pub book_opened : (roster : List RosterRow) → length roster ≤ most_places → (place : ℕ) → place < most_places
    → option_map (λ (row : RosterRow). opening_book row.1) (slice_get roster place)
    ≡ option_map book_of (get_or (opening_places roster) place unused_place).stay
book_opened roster few place within =
    by (slice_get roster place)
    ∙ sym (ap (λ (p : Place). option_map book_of p.stay) (opened_is place_of_row unused_place roster few place within))
  where
    by : (row : Option RosterRow) → option_map (λ (r : RosterRow). opening_book r.1) row
        ≡ option_map book_of (opened_at place_of_row unused_place row).stay
    by None = refl
    by (Some row) = refl

pub row_opened : (roster : List RosterRow) → length roster ≤ most_places → (place : ℕ) → place < most_places
    → (row : Option RosterRow) → slice_get roster place ≡ row
    → get_or (opening_places roster) place unused_place ≡ opened_at place_of_row unused_place row
row_opened roster few place within row is =
    opened_is place_of_row unused_place roster few place within
    ∙ ap (opened_at place_of_row unused_place) is
