-- The request in the words, and the end of the program.
use Rattle.std.proofs.Common.{◌≡◌, ◌∙◌, ℕ, List, [], ap, codes, refl, subst}
use Rattle.std.specs.Prelude.{◌^◌, Bool, true, false, IfErr, IfOk, IfSome, MatchResult, OnOk, Option, Some, None}
use Rattle.std.specs.Prelude.{Result, Ok, Err}
use Rattle.clap.proofs.WalkLemmas.{one_text-rows}
use Rattle.clap.specs.Words.{AddsArg, app_of, found_of, is_simple, is_simple_and_free, matches_of, new_app, one_of}
use Rattle.clap.specs.Words.{one_text, rows_of}
use Rattle.clap.specs.declared.builder.arg.Arg.{Arg}
use Rattle.clap.specs.declared.builder.command.Command.{Command}
use Rattle.clap.specs.declared.parser.matches.ArgMatches.{ArgMatches}
use Rattle.firm_rules.specs.Names.{is_name}
use Rattle.firm_table.specs.Opened.{Opened}
use Rattle.firm_table.specs.Service.{Device, ServedFrom, StoppedFrom}
use Rattle.firm_table.specs.declared.faults.ServeFault.{ServeFault}
use Rattle.firm_program.specs.Faults.{status_of}
use Rattle.firm_program.specs.Files.{KnownFiles, Opens}
use Rattle.firm_program.specs.Laws.{adds_option, names_file, names_not_one}
use Rattle.firm_program.specs.Options.{HasRule, roster_option, state_option}
use Rattle.firm_program.specs.Runs.{NotServed, ServesFile}
use Rattle.firm_program.specs.declared.faults.Fault.{Fault}
use Rattle.firm_program.specs.declared.words.Named.{Named}
use Rattle.firm_explain.specs.CommandLine.{AskAmiss, AskFor, Gives, IsNoName, NoTask, NoTenant, NotOneFile}
use Rattle.firm_explain.specs.CommandLine.{all_option, command_line, faults_in, machine_option, rows_option}
use Rattle.firm_explain.specs.CommandLine.{IsFlag, rows_given, tenant_option, why_option}
use Rattle.firm_explain.specs.Program.{LosesReasons, StopsExplaining, StopsServing}
use Rattle.firm_explain.specs.declared.options.Given.{Given}
use Rattle.firm_explain.specs.inner.Asking.{AsksFor, EndsAs, IsCommandLine, MisasksFor, NotOne, NoTaskNamed}
use Rattle.firm_explain.specs.inner.Asking.{NoTenantNamed}

-- a command of no argument, to which these seven are added in turn
pub is_command_line : (bare one two three four five six : Command) (roster state tenant why machine all rows : Arg)
    {E : Type 0}
    (result : Result Command E) → app_of bare ≡ new_app (codes "firm_explain")
    → HasRule roster_option roster → HasRule state_option state → HasRule tenant_option tenant
    → HasRule why_option why → HasRule machine_option machine → HasRule all_option all → HasRule rows_option rows
    → AddsArg bare roster one → AddsArg one state two → AddsArg two tenant three → AddsArg three why four
    → AddsArg four machine five → AddsArg five all six → IfOk result (AddsArg six rows)
    → IfOk result IsCommandLine
is_command_line bare one two three four five six roster state tenant why machine all rows (Err error) app
    r s t w m a o first second third fourth fifth sixth last = tt
is_command_line bare one two three four five six roster state tenant why machine all rows (Ok command) app
    r s t w m a o first second third fourth fifth sixth last =
    let named = adds_option _ why_option three four why (adds_option _ tenant_option two three tenant
    (adds_option _ state_option one two state (adds_option _ roster_option bare one roster app r first) s second)
    t third) w fourth in
    let short = adds_option _ machine_option four five machine named m fifth in
    adds_option _ rows_option six command rows (adds_option _ all_option five six all short a sixth) o last

-- what is read of a flag is what the words say of it
pub is_flag : (words : List (List ℕ)) (m : ArgMatches) (flag : Bool)
    → rows_of (found_of m) ≡ matches_of command_line words
    → (one_text (found_of m) (codes "rows") ≡ None → flag ≡ false)
    → (one_text (found_of m) (codes "rows") ≡ Some (codes "true") → flag ≡ true)
    → (one_text (found_of m) (codes "rows") ≡ Some (codes "false") → flag ≡ false)
    → IsFlag (rows_given words) flag
is_flag words m flag found none set not_set =
    let same : one_text (found_of m) (codes "rows") ≡ rows_given words =
    one_text-rows (found_of m) (codes "rows") ∙ ap (one_of (codes "rows")) found in
    record {
      set = λ e. set (same ∙ e);
      not_set = λ e. not_set (same ∙ e);
      not_given = λ e. none (same ∙ e);
    }

pub simple_and_free : is_simple_and_free command_line ≡ true
simple_and_free = refl

pub simple : is_simple command_line ≡ true
simple = refl

-- what the words ask for
pub asks : (words : List (List ℕ)) (given : Given) (named : Named) → faults_in words ≡ []
    → Gives words given.roster given.state given.tenant given.why → AsksFor given named → AskFor words named
asks words given named well gives asked = record {
  file = names_file command_line words given.roster given.state well gives.paths named asked.named_is;
  tenant = subst (λ (word : Option (List ℕ)). IfSome word (λ word. is_name word ≡ true)) gives.tenant_is asked.tenant;
  task = subst (λ (word : Option (List ℕ)). IfSome word (λ word. is_name word ≡ true)) gives.task_is asked.task;
}

-- or they ask for nothing
pub misasks : (words : List (List ℕ)) (given : Given) (fault : Fault) → faults_in words ≡ []
    → Gives words given.roster given.state given.tenant given.why → MisasksFor given fault → AskAmiss words
misasks words given fault well gives (NotOne alike status) =
    NotOneFile (names_not_one command_line words given.roster given.state well gives.paths alike)
misasks words given fault well gives (NoTenantNamed none status) = NoTenant (subst IsNoName gives.tenant_is none)
misasks words given fault well gives (NoTaskNamed none status) = NoTask (subst IsNoName gives.task_is none)

-- with status 2
pub misasked : (given : Given) (fault : Fault) → MisasksFor given fault → status_of fault ≡ 2
misasked given fault (NotOne alike status) = status
misasked given fault (NoTenantNamed none status) = status
misasked given fault (NoTaskNamed none status) = status

-- what becomes of a service that opened with the file that is named
pub explains_or_stops : (files : KnownFiles) (named : Named) (reader replies : Device) (opened : Opened)
    → Opens files named opened
    → (served : Result Bool ServeFault) {A : Type 0} (result : Result A Fault)
    → OnOk served (ServedFrom opened (2 ^ 32) reader replies)
    → IfErr served (StoppedFrom opened (2 ^ 32) reader replies) → EndsAs served result
    → MatchResult result (λ _. ServesFile files named reader replies) (StopsExplaining files named reader replies)
explains_or_stops files named reader replies opened opens (Ok has_lost) (Ok done) serves stops ends =
    record { opened = opened; opens = opens; served = serves }
explains_or_stops files named reader replies opened opens (Ok has_lost) (Err fault) serves stops ends =
    LosesReasons ends.1 (record { opened = opened; opens = opens; served = serves })
explains_or_stops files named reader replies opened opens (Err cause) (Ok done) serves stops ends = absurd ends
explains_or_stops files named reader replies opened opens (Err cause) (Err fault) serves stops ends =
    StopsServing (NotServed (record {
      opened = opened;
      opens = opens;
      stopped = record { cause = cause; is = ends; stopped = stops };
    }))
