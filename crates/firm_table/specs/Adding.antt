-- How answers add up: laws from which a clerk learns that its answers are right.
use Rattle.std.specs.Prelude.{◌≡◌, ℕ, List, [], ◌∷◌, ◌++◌, Option, Some, None, Ok, Err, slice_index_or, slice_set}
use Rattle.std.specs.Io.KnownBytes.{Appends}
use Rattle.firm_rules.specs.Book.{Book, opening_book}
use Rattle.firm_rules.specs.Limits.{TenantLimits}
use Rattle.firm_rules.specs.declared.commands.Command.{Command}
use Rattle.firm_rules.specs.declared.replies.Reply.{Reply}
use Rattle.firm_tenant.specs.Step.{step, is_memory}
use Rattle.firm_text.specs.Inputs.{input_lines}
use Rattle.firm_text.specs.Registers.{IsRegister, place_for, place_in, with_tenant, without_tenant}
use Rattle.firm_text.specs.declared.inputs.Line.{Line}
use Rattle.firm_text.specs.declared.inputs.Line.TheVariants.{For, Operator}
use Rattle.firm_text.specs.declared.operator.OperatorLine.TheVariants.{Admit, Retire}
use Rattle.firm_text.specs.declared.operator.OperatorRefusal.{OperatorRefusal}
use Rattle.firm_text.specs.declared.operator.OperatorRefusal.TheVariants.{NoSuchTenant, Memory}
use Rattle.firm_text.specs.declared.operator.OperatorReply.TheVariants.{Admitted, Retired, Refused}
use Rattle.firm_table.specs.Answers.{tells_memory}
use Rattle.firm_table.specs.declared.answers.LineAnswer.TheVariants.{UnknownTenant, Replied, ToOperator}
use Rattle.firm_table.specs.Output.{answers_from}
use Rattle.firm_table.specs.Opened.{Opened}
use Rattle.firm_table.specs.Service.{AnswersFrom, BeginsAnswersFrom}
use Rattle.firm_table.specs.Tenants.{TenantsState, tenants_are}
use Rattle.firm_table.specs.Progress.{IsAnswer, IsRight, State, Told, state_is, tenants_at}

-- before the first line nothing is to be written
abbrev pub NothingIsTold : Type 0
NothingIsTold =
    (opened : Opened) (written : Option (List ℕ))
    → (told : Told (state_is opened (tenants_at opened.places) []) [] written written) × (told.lines ≡ [])

-- one more line was answered: the line and its answer come after the earlier ones
abbrev pub OneMoreIsTold : Type 0
OneMoreIsTold =
    (state : State) (text after : List ℕ) (written now : Option (List ℕ)) (tenants : TenantsState) (pending : List ℕ)
    (line : Line) → (before : Told state text written now)
    → input_lines state.opening.heading after ≡ input_lines state.opening.heading text ++ line ∷ []
    → (answered : IsAnswer state.tenants tenants line state.pending pending)
    → (told : Told (state_is state.opening tenants pending) after written now)
    × (told.lines ≡ before.lines ++ (line, tells_memory answered.answer) ∷ [])
    × (answers_from state.opening.places told.lines
    ≡ answers_from state.opening.places before.lines ++ answered.answer ∷ [])

-- the front of what was to be written was written
abbrev pub FrontIsWritten : Type 0
FrontIsWritten =
    (state : State) (text : List ℕ) (written now later : Option (List ℕ)) (front held : List ℕ)
    → Told state text written now → state.pending ≡ front ++ held → Appends now later front
    → Told (state_is state.opening state.tenants held) text written later

-- what was written begins the output
abbrev pub ToldBegins : Type 0
ToldBegins =
    (state : State) (text : List ℕ) (written now : Option (List ℕ)) → Told state text written now
    → BeginsAnswersFrom state.opening text written now

-- and is the output, if nothing is left to be written
abbrev pub AllIsWritten : Type 0
AllIsWritten =
    (state : State) (text : List ℕ) (written now : Option (List ℕ)) → Told state text written now → state.pending ≡ []
    → AnswersFrom state.opening text written now

-- what was written begins the output for one more line, which was not answered
abbrev pub OneMoreBegins : Type 0
OneMoreBegins =
    (state : State) (text after : List ℕ) (written now : Option (List ℕ)) (line : Line) → Told state text written now
    → input_lines state.opening.heading after ≡ input_lines state.opening.heading text ++ line ∷ []
    → BeginsAnswersFrom state.opening after written now

-- a command of the tenant at this place is answered by its step
abbrev pub TenantsAreAnswered : Type 0
TenantsAreAnswered =
    (tenants : TenantsState) (name : List ℕ) (command : Command) (place : ℕ) (book after : Book) (reply : Reply)
    → IsRegister tenants.register → place_in tenants.register name ≡ Some place
    → slice_index_or tenants.books place None ≡ Some book → (reply, after) ≡ step book command (is_memory reply)
    → IsRight tenants (tenants_are tenants.register (slice_set tenants.books place (Some after))) (For name command)
    (Replied name reply)

-- a command of a tenant that is not there changes nothing
abbrev pub StrangersAreAnswered : Type 0
StrangersAreAnswered =
    (tenants : TenantsState) (name : List ℕ) (command : Command) → place_in tenants.register name ≡ None
    → IsRight tenants tenants (For name command) UnknownTenant

-- a tenant admitted to the place that the register gives it has its opening book there
abbrev pub AdmissionsAreAnswered : Type 0
AdmissionsAreAnswered =
    (tenants : TenantsState) (name : List ℕ) (limits : TenantLimits) (place : ℕ)
    → place_for tenants.register name ≡ Ok place
    → IsRight tenants (tenants_are (with_tenant tenants.register place name)
    (slice_set tenants.books place (Some (opening_book limits)))) (Operator (Admit name limits))
    (ToOperator (Admitted name))

-- an admission that is refused memory changes nothing
abbrev pub AdmissionsFindNoMemory : Type 0
AdmissionsFindNoMemory =
    (tenants : TenantsState) (name : List ℕ) (limits : TenantLimits) (place : ℕ)
    → place_for tenants.register name ≡ Ok place
    → IsRight tenants tenants (Operator (Admit name limits)) (ToOperator (Refused Memory))

-- and so does one to which the register gives no place
abbrev pub AdmissionsAreRefused : Type 0
AdmissionsAreRefused =
    (tenants : TenantsState) (name : List ℕ) (limits : TenantLimits) (refusal : OperatorRefusal)
    → place_for tenants.register name ≡ Err refusal
    → IsRight tenants tenants (Operator (Admit name limits)) (ToOperator (Refused refusal))

-- a retired tenant leaves its place, and its book is dropped
abbrev pub RetirementsAreAnswered : Type 0
RetirementsAreAnswered =
    (tenants : TenantsState) (name : List ℕ) (place : ℕ) → IsRegister tenants.register
    → place_in tenants.register name ≡ Some place
    → IsRight tenants (tenants_are (without_tenant tenants.register place) (slice_set tenants.books place None))
    (Operator (Retire name)) (ToOperator (Retired name))

-- the retirement of a tenant that is not there changes nothing
abbrev pub RetirementsAreRefused : Type 0
RetirementsAreRefused =
    (tenants : TenantsState) (name : List ℕ) → place_in tenants.register name ≡ None
    → IsRight tenants tenants (Operator (Retire name)) (ToOperator (Refused NoSuchTenant))
