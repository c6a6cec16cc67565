-- The operator's request is obeyed, and claimed.
use Rattle.std.proofs.Common.{◌≡◌, ℕ, ◌+◌, ◌<◌, List, [], ◌∷◌, ◌++◌, length, set, get_or, refl, sym, ap, ◌∙◌, subst}
use Rattle.std.proofs.Common.{arith}
use Rattle.std.specs.Prelude.{Bool, true, false, map, Option, Some, None, Ok, Err}
use Rattle.std.specs.Option.{ok_or}
use Rattle.std.proofs.lemmas.List.{map-set, set-get_or}
use Rattle.firm_table.specs.Opened.{Opened}
use Rattle.firm_rules.specs.Limits.{TenantLimits}
use Rattle.firm_rules.specs.Book.{Book, opening_book}
use Rattle.firm_text.specs.Registers.{IsRegister, admissions_at, occupied, place_for, place_in, vacant}
use Rattle.firm_text.specs.Registers.{with_tenant, without_tenant}
use Rattle.firm_text.specs.Rosters.{most_places}
use Rattle.firm_text.specs.declared.inputs.Line.TheVariants.{Operator}
use Rattle.firm_text.specs.declared.operator.OperatorLine.{OperatorLine}
use Rattle.firm_text.specs.declared.operator.OperatorLine.TheVariants.{Admit, Retire, Faulty}
use Rattle.firm_text.specs.declared.operator.OperatorRefusal.{OperatorRefusal}
use Rattle.firm_text.specs.declared.operator.OperatorRefusal.TheVariants.{NoSuchTenant, Memory}
use Rattle.firm_text.specs.declared.operator.OperatorReply.{OperatorReply}
use Rattle.firm_text.specs.declared.operator.OperatorReply.TheVariants.{Admitted, Retired, Refused}
use Rattle.firm_text.specs.declared.registers.Entry.{Entry}
use Rattle.firm_table.specs.declared.answers.LineAnswer.TheVariants.{ToOperator}
use Rattle.firm_table.specs.Tenants.{tenants_are}
use Rattle.firm_table.specs.Adding.{OneMoreIsTold, AdmissionsAreAnswered, AdmissionsFindNoMemory}
use Rattle.firm_table.specs.Adding.{AdmissionsAreRefused, RetirementsAreAnswered, RetirementsAreRefused}
use Rattle.firm_rounds.specs.Rounds.{weigh}
use Rattle.firm_rounds.specs.Passes.{QueueId}
use Rattle.firm_held.specs.Held.{NoneWaits}
use Rattle.firm_hall.specs.inner.DeskStates.{IsAdmitted, IsBack, IsRetired}
use Rattle.firm_hall.specs.inner.Serving.{AreDeskStates, DeskStateIs, Fits, asked_at, book_at, desk_state_counts}
use Rattle.firm_hall.specs.inner.Serving.{place_counts}
use Rattle.firm_hall.specs.declared.desk_states.DeskState.{DeskState}
use Rattle.firm_hall.specs.declared.desk_states.DeskState.TheVariants.{Home, Away, Empty, Gone}
use Rattle.firm_held.specs.declared.held.HeldAnswer.{HeldAnswer}
use Rattle.firm_held.specs.declared.held.HeldAnswer.TheVariants.{Known}
use Rattle.firm_hall.proofs.Fitting.{counts_at}
use Rattle.firm_hall.proofs.DeskStates.{asked_set, books_set, desk_states_set}
use Rattle.firm_hall.proofs.Taking.{Tells, changed_told, known_told}

-- the held answers once the operator has its reply: one line more is claimed
abbrev pub Told : Opened → List Entry → List Entry → List DeskState → List DeskState → List HeldAnswer → List ℕ
    → OperatorLine → OperatorReply → Type 0
Told opening register later desk_states after answers output request reply =
    Tells opening register later desk_states after answers (answers ++ Known (ToOperator reply) ∷ []) output
    (Operator request)

module _ (one_more : OneMoreIsTold) (opening : Opened) (register : List Entry) (desk_states : List DeskState)
    (answers : List HeldAnswer) (output : List ℕ) where
  -- a line of the operator that asks for nothing
  pub faulty_told : (refusal : OperatorRefusal)
      → Told opening register register desk_states desk_states answers output (Faulty refusal) (Refused refusal)
  faulty_told refusal =
      known_told one_more opening register desk_states answers output (Operator (Faulty refusal))
      (ToOperator (Refused refusal))
      (λ books. record { answers = λ places shows. refl; leaves = λ places shows. shows }) refl

  -- an admission to which the register gives no place, or memory is refused
  pub admission_refused : AdmissionsAreRefused → (name : List ℕ) (limits : TenantLimits) (refusal : OperatorRefusal)
      → place_for register name ≡ Err refusal
      → Told opening register register desk_states desk_states answers output (Admit name limits) (Refused refusal)
  admission_refused refused name limits refusal none_given =
      known_told one_more opening register desk_states answers output (Operator (Admit name limits))
      (ToOperator (Refused refusal))
      (λ books. refused (tenants_are register books) name limits refusal none_given) refl

  pub admission_found_no_memory : AdmissionsFindNoMemory → (name : List ℕ) (limits : TenantLimits) (place : ℕ)
      → place_for register name ≡ Ok place
      → Told opening register register desk_states desk_states answers output (Admit name limits) (Refused Memory)
  admission_found_no_memory none name limits place given =
      known_told one_more opening register desk_states answers output (Operator (Admit name limits))
      (ToOperator (Refused Memory))
      (λ books. none (tenants_are register books) name limits place given) refl

  -- a retirement of a tenant that is not there
  pub retirement_refused : RetirementsAreRefused → (name : List ℕ) → place_in register name ≡ None
      → Told opening register register desk_states desk_states answers output (Retire name) (Refused NoSuchTenant)
  retirement_refused refused name none =
      known_told one_more opening register desk_states answers output (Operator (Retire name))
      (ToOperator (Refused NoSuchTenant))
      (λ books. refused (tenants_are register books) name none) refl

  -- a tenant that came, or left
  pub admission_told : AdmissionsAreAnswered → (after : List DeskState) (name : List ℕ) (limits : TenantLimits)
      (place : ℕ) → place_for register name ≡ Ok place → NoneWaits place answers
      → weigh asked_at after ≡ weigh asked_at desk_states
      → map book_at after ≡ set (map book_at desk_states) place (Some (opening_book limits))
      → Told opening register (with_tenant register place name) desk_states after answers output (Admit name limits)
      (Admitted name)
  admission_told answered after name limits place given none asked books =
      changed_told one_more opening register desk_states answers output (Operator (Admit name limits))
      (with_tenant register place name) after (ToOperator (Admitted name)) place (Some (opening_book limits)) none books
      asked (λ bs. answered (tenants_are register bs) name limits place given) refl

  pub retirement_told : RetirementsAreAnswered → (after : List DeskState) (name : List ℕ) (place : ℕ)
      → IsRegister register → place_in register name ≡ Some place → NoneWaits place answers
      → weigh asked_at after ≡ weigh asked_at desk_states
      → map book_at after ≡ set (map book_at desk_states) place None
      → Told opening register (without_tenant register place) desk_states after answers output (Retire name)
      (Retired name)
  retirement_told answered after name place sound found none asked books =
      changed_told one_more opening register desk_states answers output (Operator (Retire name))
      (without_tenant register place) after (ToOperator (Retired name)) place None none books asked
      (λ bs. answered (tenants_are register bs) name place sound found) refl

-- a desk state changed, and its entry in the register with it
module _ (queue : QueueId) (register : List Entry) (answers : List HeldAnswer) (desk_states : List DeskState)
    (are : AreDeskStates queue answers desk_states) (fit : Fits register desk_states) (place : ℕ)
    (before default : DeskState) (low : place < most_places) (at : before ≡ get_or desk_states place default) where
  within : place < length desk_states
  within = omega (arith, are.long)

  here : DeskStateIs queue place answers before
  here = subst (DeskStateIs queue place answers) (sym at) (are.each place default low)

  pub record Changed (last : DeskState) (new : Entry) (book : Option Book) : Type 0 where
    pub desk_states_are : AreDeskStates queue answers (set desk_states place last)
    pub fits : Fits (set register place new) (set desk_states place last)
    pub asked : weigh asked_at (set desk_states place last) ≡ weigh asked_at desk_states
    pub books : map book_at (set desk_states place last) ≡ set (map book_at desk_states) place book
    pub none : NoneWaits place answers

  changed : (last : DeskState) (new : Entry) (book : Option Book) → DeskStateIs queue place answers last
      → desk_state_counts last ≡ place_counts new → asked_at last ≡ asked_at before
      → book_at last ≡ book → NoneWaits place answers → Changed last new book
  changed last new book is counts asked books none = record {
    desk_states_are = desk_states_set desk_states place before last default within at queue answers answers are is
        (λ other desk_state differ was. was);
    fits = map-set desk_state_counts desk_states place last
        ∙ ap (λ (cs : List (Bool × ℕ)). set cs place (desk_state_counts last)) fit
        ∙ ap (set (map place_counts register) place) counts
        ∙ sym (map-set place_counts register place new);
    asked =
        let turn = asked_set desk_states place before last default within at in
        omega (arith, turn, asked);
    books = books_set desk_states place before last default within at
        ∙ ap (set (map book_at desk_states) place) books;
    none = none;
  }

  admissions_here : (desk_state_counts before).1 ≡ admissions_at register place
  admissions_here = ap (λ (c : Bool × ℕ). c.1) (counts_at register desk_states fit place before default within at)

  -- a tenant came
  pub came : (name : List ℕ) (limits : TenantLimits) (last : DeskState) → IsAdmitted before limits true last
      → Changed last (occupied name (admissions_at register place + 1)) (Some (opening_book limits))
  came name limits last admitted = by before here refl admissions_here admitted
    where
      by : (desk_state : DeskState) → DeskStateIs queue place answers desk_state → asked_at desk_state ≡ asked_at before
          → (desk_state_counts desk_state).1 ≡ admissions_at register place → IsAdmitted desk_state limits true last
          → Changed last (occupied name (admissions_at register place + 1)) (Some (opening_book limits))
      by (Home desk waits) is asked count admitted = absurd admitted
      by (Away away) is asked count admitted = absurd admitted
      by (Empty empty) is asked count admitted =
          changed last (occupied name (admissions_at register place + 1)) (Some (opening_book limits))
          (subst (DeskStateIs queue place answers) (sym admitted) (is.0, is.1, λ idle. is.2))
          (ap desk_state_counts admitted ∙ ap (λ (n : ℕ). (true, n + 1)) count)
          (ap asked_at admitted ∙ asked)
          (ap book_at admitted) is.2
      by Gone is asked count admitted = absurd admitted

  -- the tenant left
  pub left : (last : DeskState) → IsBack before → IsRetired before last
      → Changed last (vacant (admissions_at register place)) None
  left last back retired = by before here back refl admissions_here retired
    where
      by : (desk_state : DeskState) → DeskStateIs queue place answers desk_state → IsBack desk_state
          → asked_at desk_state ≡ asked_at before
          → (desk_state_counts desk_state).1 ≡ admissions_at register place → IsRetired desk_state last
          → Changed last (vacant (admissions_at register place)) None
      by (Home desk waits) is back asked count retired =
          changed last (vacant (admissions_at register place)) None
          (subst (DeskStateIs queue place answers) (sym retired) (is.0, is.1, is.2 back))
          (ap desk_state_counts retired ∙ ap (λ (n : ℕ). (false, n)) count)
          (ap asked_at retired ∙ asked)
          (ap book_at retired) (is.2 back)
      by (Away away) is back asked count retired = absurd retired
      by (Empty empty) is back asked count retired = absurd retired
      by Gone is back asked count retired = absurd retired

  -- nobody came, and all is as it was
  pub nobody_came : (limits : TenantLimits) (last : DeskState) → IsAdmitted before limits false last
      → set desk_states place last ≡ desk_states
  nobody_came limits last admitted = by before at admitted
    where
      by : (desk_state : DeskState) → desk_state ≡ get_or desk_states place default
          → IsAdmitted desk_state limits false last
          → set desk_states place last ≡ desk_states
      by (Home desk waits) is admitted = absurd admitted
      by (Away away) is admitted = absurd admitted
      by (Empty empty) is admitted = ap (set desk_states place) (admitted ∙ is) ∙ set-get_or desk_states place default
      by Gone is admitted = absurd admitted

-- what the register's answer to a retirement says
pub left_place : (found : Option ℕ) (at : ℕ) → Ok at ≡ ok_or {E = OperatorRefusal} found NoSuchTenant → found ≡ Some at
left_place None at e = absurd (cc)
left_place (Some place) at e = cc

pub not_left : (found : Option ℕ) (refusal : OperatorRefusal)
    → Err refusal ≡ ok_or {E = OperatorRefusal} found NoSuchTenant → (found ≡ None) × (refusal ≡ NoSuchTenant)
not_left None refusal e = (refl, cc)
not_left (Some place) refusal e = absurd (cc)
