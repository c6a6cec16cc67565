-- The answers, computed at worked examples.
use Rattle.std.proofs.Common.{◌≡◌, ℕ, ◌+◌, true, false, List, [], ◌∷◌, ◌++◌, refl, codes}
use Rattle.std.specs.Prelude.{◌/◌, ◌%◌, map, pos}
use Rattle.std.specs.Fmt.{digits}
use Rattle.std.specs.List.{flat_map, range_with_len}
use Rattle.firm_rules.specs.declared.commands.Command.TheVariants.{Show, Round}
use Rattle.firm_rules.specs.declared.replies.Outcome.{Outcome}
use Rattle.firm_rules.specs.declared.replies.Outcome.TheVariants.{Plain, Shown, Refused, Round as Placed}
use Rattle.firm_rules.specs.declared.replies.Refusal.TheVariants.{Memory}
use Rattle.firm_text.specs.Rosters.{RosterRow, roster_with}
use Rattle.firm_text.specs.Inputs.{input_lines, line_of}
use Rattle.firm_text.specs.declared.headings.Heading.TheVariants.{Plain, Extended}
use Rattle.firm_text.specs.declared.operator.OperatorRefusal.TheVariants.{BadCommand, BadRow, BadName, BadNumber}
use Rattle.firm_text.specs.declared.operator.OperatorRefusal.TheVariants.{TenantExists, NoSuchTenant, Full}
use Rattle.firm_text.specs.declared.operator.OperatorRefusal.TheVariants.{Memory as NoMemory}
use Rattle.firm_text.specs.declared.operator.OperatorReply.TheVariants.{Admitted, Retired}
use Rattle.firm_text.specs.declared.operator.OperatorReply.TheVariants.{Refused as NotDone}
use Rattle.firm_table.specs.Answers.{ended}
use Rattle.firm_table.specs.declared.answers.LineAnswer.{LineAnswer}
use Rattle.firm_table.specs.declared.answers.LineAnswer.TheVariants.{UnknownTenant, Replied, ToOperator}
use Rattle.firm_table.specs.Isolation.{BeginsStay, commands_to}
use Rattle.firm_table.specs.Output.{answers_of, output, unmarked}
use Rattle.firm_table.specs.Opened.{opened_roster, opened_state, state_after}
use Rattle.firm_table.specs.Output.{granted_output}
use Rattle.firm_table.specs.Places.{MarkedLine}

abbrev tenant : List ℕ → ℕ → ℕ → ℕ → RosterRow
tenant name nodes arcs life =
    (name, record { nodes = nodes; arcs = arcs; life = life; spread = 1; churn = 2; remote = 0; patience = 1000000 })

abbrev says : List ℕ → ℕ → Outcome → LineAnswer
says name number outcome = Replied name (record { number = number; outcome = outcome })

-- these lines, to none of which memory is refused
abbrev lines_of : List (List ℕ) → List MarkedLine
lines_of lines = map unmarked (input_lines Plain (flat_map ended lines))

-- the answers to these lines
abbrev told : List RosterRow → List (List ℕ) → List LineAnswer
told roster lines = answers_of roster (lines_of lines)

abbrev alpha : List ℕ
alpha = codes "alpha"

abbrev beta : List ℕ
beta = codes "beta"

abbrev two_tenants : List RosterRow
two_tenants = tenant alpha 9 24 100 ∷ tenant beta 8 30 100 ∷ []

-- each tenant counts its own commands
two_in_turn : told two_tenants
    (codes "alpha machine m1 2" ∷ codes "beta machine m1 1" ∷ codes "alpha machine m2 2" ∷ codes "beta job low 2"
    ∷ codes "alpha job j 10" ∷ codes "beta task low l" ∷ codes "alpha task j a" ∷ codes "beta show" ∷ codes "gamma show"
    ∷ codes "alpha show" ∷ [])
    ≡ says alpha 1 Plain ∷ says beta 1 Plain ∷ says alpha 2 Plain ∷ says beta 2 Plain ∷ says alpha 3 Plain
    ∷ says beta 3 Plain ∷ says alpha 4 Plain
    ∷ says beta 4 (Shown 1 1 1 0 5 8 6 30) ∷ UnknownTenant ∷ says alpha 5 (Shown 2 1 1 0 6 9 10 24) ∷ []
two_in_turn = refl

-- and without the other's lines its own are answered alike
one_of_two : told two_tenants
    (codes "alpha machine m1 2" ∷ codes "alpha machine m2 2" ∷ codes "alpha job j 10" ∷ codes "alpha task j a"
    ∷ codes "alpha show" ∷ [])
    ≡ says alpha 1 Plain ∷ says alpha 2 Plain ∷ says alpha 3 Plain ∷ says alpha 4 Plain ∷ says alpha 5
    (Shown 2 1 1 0 6 9 10 24) ∷ []
one_of_two = refl

-- memory refused to one tenant leaves the other as it is
refused_once : answers_of two_tenants
    ((line_of (codes "alpha job j 5"), true) ∷ unmarked (line_of (codes "beta job j 5")) ∷ unmarked
    (line_of (codes "alpha job j 5")) ∷ [])
    ≡ says alpha 1 (Refused Memory) ∷ says beta 1 Plain ∷ says alpha 2 Plain ∷ []
refused_once = refl

-- tenants that come and go
abbrev a : List ℕ
a = codes "a"

abbrev b : List ℕ
b = codes "b"

abbrev one_tenant : List RosterRow
one_tenant = (a, record { nodes = 4; arcs = 9; life = 10; spread = 0; churn = 0; remote = 0; patience = 1000000 }) ∷ []

-- a name is known from its admission to its retirement, and its numbers begin anew; each refusal has its code
coming_and_going : told one_tenant
    (codes "b show" ∷ codes "a job j 5" ∷ codes "+ admit b,2,0,5,0,0" ∷ codes "b show" ∷ codes "+ admit b,2,0,5,0,0"
    ∷ codes "+ retire b" ∷ codes "b show" ∷ codes "+ admit b,3,2,5,0,0,0" ∷ codes "b round" ∷ codes "+ retire c"
    ∷ codes "+ admit c,1,0,1,0,0"
    ∷ codes "+ admit C,1,0,1,0,0" ∷ codes "+ admit c,2,0,1,0" ∷ codes "+ drop b" ∷ codes "+" ∷ codes "a show" ∷ [])
    ≡ UnknownTenant ∷ says a 1 Plain ∷ ToOperator (Admitted b) ∷ says b 1 (Shown 0 0 0 0 2 2 0 0)
    ∷ ToOperator (NotDone TenantExists) ∷ ToOperator (Retired b) ∷ UnknownTenant ∷ ToOperator
    (Admitted b)
    ∷ says b 1 (Placed (pos 0) []) ∷ ToOperator (NotDone NoSuchTenant) ∷ ToOperator (NotDone BadNumber)
    ∷ ToOperator (NotDone BadName) ∷ ToOperator (NotDone BadRow) ∷ ToOperator
    (NotDone BadCommand) ∷ ToOperator (NotDone BadCommand)
    ∷ says a 2 (Shown 0 1 0 0 3 4 1 9) ∷ []
coming_and_going = refl

-- memory refused to an admission leaves the place empty, and the next admission is given it
admitted_later : answers_of one_tenant
    ((line_of (codes "+ admit b,2,0,5,0,0"), true) ∷ unmarked (line_of (codes "b show")) ∷
    (line_of (codes "a job j 5"), true)
    ∷ unmarked (line_of (codes "+ admit b,2,0,5,0,0")) ∷ unmarked (line_of (codes "b show")) ∷ [])
    ≡ ToOperator (NotDone NoMemory) ∷ UnknownTenant ∷ says a 1 (Refused Memory) ∷ ToOperator
    (Admitted b) ∷ says b 1 (Shown 0 0 0 0 2 2 0 0) ∷ []
admitted_later = refl

-- a tenant that comes while the service runs, and to which a refused admission does nothing; before it came no line was
-- its own
abbrev before_it : List MarkedLine
before_it = lines_of (codes "b job i 1" ∷ codes "a job j 5" ∷ [])

abbrev behind_it : List MarkedLine
behind_it = lines_of (codes "b round" ∷ codes "+ admit b,9,9,9,9,9" ∷ codes "a show" ∷ codes "b show" ∷ [])

begins_there : BeginsStay one_tenant before_it (unmarked (line_of (codes "+ admit b,2,0,5,0,0"))) behind_it b
    (record { nodes = 2; arcs = 0; life = 5; spread = 0; churn = 0; remote = 0; patience = 1000000 })
begins_there = record { asks = refl; admits = refl; stays = refl }

its_commands : commands_to b behind_it ≡ (Round, false) ∷ (Show, false) ∷ []
its_commands = refl

-- sixty-four tenants, and one more
abbrev numbered : ℕ → RosterRow
numbered number = tenant (codes "t" ++ (48 + number / 10) ∷ (48 + number % 10) ∷ []) 2 0 1

full : told (map numbered (range_with_len 0 64))
    (codes "+ admit z,2,0,1,0,0" ∷ codes "+ retire t63" ∷ codes "+ admit z,2,0,1,0,0" ∷ [])
    ≡ ToOperator (NotDone Full) ∷ ToOperator (Retired (codes "t63")) ∷ ToOperator
    (Admitted (codes "z")) ∷ []
full = refl

-- a row of eight fields admits a tenant in an extended service alone, also once it has gone on from its state
abbrev eight_fields : List ℕ
eight_fields = ended (codes "+ admit b,2,0,5,0,0,0,3")

extended_admits : output (roster_with Extended one_tenant) eight_fields ≡ codes "+ ok admitted b\n"
extended_admits = refl

plain_refuses : output (roster_with Plain one_tenant) eight_fields ≡ codes "+ no 22 operator-row\n"
unfolding digits
plain_refuses = refl

extended_goes_on : granted_output (opened_state (state_after (opened_roster (roster_with Extended one_tenant))
    (lines_of (codes "+ retire a" ∷ [])))) eight_fields ≡ codes "+ ok admitted b\n"
extended_goes_on = refl

plain_goes_on : granted_output (opened_state (state_after (opened_roster (roster_with Plain one_tenant))
    (lines_of (codes "+ retire a" ∷ [])))) eight_fields ≡ codes "+ no 22 operator-row\n"
unfolding digits
plain_goes_on = refl
