-- The request in the words.
use Rattle.std.proofs.Common.{◌≡◌, ◌∙◌, ◌+◌, ◌<◌, ◌++◌, ◌∷◌, [], ℕ, List, All, ap, arith, length, refl, subst}
use Rattle.std.proofs.Common.{sym, take}
use Rattle.std.proofs.Common.{true, false}
use Rattle.std.specs.Prelude.{IfOk, Option, Some, None, Result, Ok, Err, get_or, if◌then◌else◌, option_map, unwrap_or}
use Rattle.std.specs.Borrow.{Bor}
use Rattle.std.proofs.lemmas.List.{length-map, take-map, take_more}
use Rattle.std.proofs.lemmas.List.Elements.{All-push}
use Rattle.clap.proofs.WalkLemmas.{raw_values-rows}
use Rattle.clap.specs.Words.{AddsArg, all_of, app_of, found_of}
use Rattle.clap.specs.Words.{is_simple, is_simple_and_free, matched_of, matches_of, raw_values, rows_of}
use Rattle.clap.specs.declared.builder.arg.Arg.{Arg}
use Rattle.clap.specs.declared.builder.command.Command.{Command}
use Rattle.clap.specs.declared.parser.matches.ArgMatches.{ArgMatches}
use Rattle.firm_rules.specs.Names.{is_name, name_of}
use Rattle.firm_state.specs.CommandLine.{AskAmiss, AskFor, Gives, HasNoName, NoNames, NotOneFile, NotTenants}
use Rattle.firm_state.specs.CommandLine.{command_line, faults_in, merge_option, tenant_option, texts, values_given}
use Rattle.firm_state.specs.CommandLine.{versioned_app}
use Rattle.firm_state.specs.declared.options.Given.{Given}
use Rattle.firm_state.specs.declared.options.Request.{Request}
use Rattle.firm_state.specs.inner.Options.{AreNames, AsksFor, IsCommandLine, MisasksFor, NotNames}
use Rattle.firm_state.specs.inner.Options.{NotOne, asked_by}
use Rattle.firm_program.specs.Options.{HasRule, roster_option, state_option}
use Rattle.firm_program.specs.Laws.{adds_option, names_file, names_not_one}
use Rattle.firm_program.specs.declared.faults.Fault.{Fault}

-- a command of no argument, to which these four are added in turn
pub is_command_line : (bare one two three : Command) (roster state merge tenant : Arg) {E : Type 0}
    (result : Result Command E) → app_of bare ≡ versioned_app → HasRule roster_option roster
    → HasRule state_option state → HasRule merge_option merge → HasRule tenant_option tenant
    → AddsArg bare roster one → AddsArg one state two → AddsArg two merge three
    → IfOk result (AddsArg three tenant)
    → IfOk result IsCommandLine
is_command_line bare one two three roster state merge tenant (Err error) app r s m t first second third fourth = tt
is_command_line bare one two three roster state merge tenant (Ok command) app r s m t first second third fourth =
    adds_option _ tenant_option three command tenant (adds_option _ merge_option two three merge
    (adds_option _ state_option one two state (adds_option _ roster_option bare one roster app r first) s second)
    m third) t fourth

pub simple_and_free : is_simple_and_free command_line ≡ true
simple_and_free = refl

pub simple : is_simple command_line ≡ true
simple = refl

-- all values of an option
pub finds_all : (words : List (List ℕ)) (m : ArgMatches) (name : List ℕ)
    → rows_of (found_of m) ≡ matches_of command_line words
    → unwrap_or (option_map raw_values (matched_of (found_of m) name)) [] ≡ values_given name words
finds_all words m name found =
    ap (λ (o : Option (List (List ℕ))). unwrap_or o []) (raw_values-rows (found_of m) name ∙ ap (all_of name) found)

-- a name that is read is the bytes, which have its form
pub record IsRead (bytes name : List ℕ) : Type 0 where
  pub is : name ≡ bytes
  pub formed : is_name name ≡ true

pub is_read : (bytes name : List ℕ) → Some name ≡ name_of bytes → IsRead bytes name
is_read bytes name read = elim (is_name bytes) as
    (λ b. is_name bytes ≡ b → Some name ≡ (if b then Some bytes else None) → IsRead bytes name) [
      | true ↦ λ form is.
          let same : name ≡ bytes = cc in
          record { is = same; formed = ap is_name same ∙ form }
      | false ↦ λ form is. absurd (cc)
    ] refl read

pub is_not_read : (bytes : List ℕ) → None ≡ name_of bytes → is_name bytes ≡ false
is_not_read bytes read = elim (is_name bytes) as
    (λ b. ◌≡◌ {A = Option (List ℕ)} None (if b then Some bytes else None) → b ≡ false)
    [ true ↦ λ is. absurd (cc) | false ↦ λ is. refl ] read

-- the first words, with one more
pub texts_more : (words : List (Bor (List ℕ))) (at : ℕ) → at < length words
    → texts (take (at + 1) words) ≡ texts (take at words) ++ get_or (texts words) at [] ∷ []
texts_more words at within =
    let now : Bor (List ℕ) → List ℕ = λ (w : Bor (List ℕ)). w.now in
    sym (take-map now (at + 1) words)
    ∙ take_more (texts words) at [] (omega (arith, within, length-map words now))
    ∙ ap (λ (l : List (List ℕ)). l ++ get_or (texts words) at [] ∷ []) (take-map now at words)

-- one more word is a name
pub one_more : (words : List (Bor (List ℕ))) (at : ℕ) (bytes : List ℕ) (names more : List (List ℕ)) (name : List ℕ)
    → at < length words → bytes ≡ get_or (texts words) at [] → Some name ≡ name_of bytes
    → AreNames (texts (take at words)) names → more ≡ names ++ name ∷ []
    → AreNames (texts (take (at + 1) words)) more
one_more words at bytes names more name within is read before pushed =
    let one : IsRead bytes name = is_read bytes name read in
    record {
      same = pushed ∙ ap (λ (l : List (List ℕ)). l ++ name ∷ []) before.same
          ∙ ap (λ (n : List ℕ). texts (take at words) ++ n ∷ []) (one.is ∙ is)
          ∙ sym (texts_more words at within);
      formed = subst (All (λ n. is_name n ≡ true)) (sym pushed)
          (All-push (λ n. is_name n ≡ true) names name before.formed one.formed);
    }

-- this word is no name
pub no_name_at : (words : List (Bor (List ℕ))) (at : ℕ) (bytes : List ℕ) → at < length words
    → bytes ≡ get_or (texts words) at [] → None ≡ name_of bytes → HasNoName (texts words)
no_name_at words at bytes within is read = record {
  at = at;
  within = omega (arith, within, length-map words (λ (w : Bor (List ℕ)). w.now));
  no_name = ap is_name (sym is) ∙ is_not_read bytes read;
}

-- what the words ask for
pub asks : (words : List (List ℕ)) (given : Given) (request : Request) → faults_in words ≡ []
    → Gives words given.roster given.state given.others.items given.tenants.items → AsksFor given request
    → AskFor words (asked_by request)
asks words given request well gives asked = record {
  file = names_file command_line words given.roster given.state well gives.paths request.named asked.named;
  others = asked.others ∙ gives.others_are;
  names = asked.names.same ∙ gives.tenants_are;
  are_names = asked.names.formed;
}

-- or they ask for nothing
pub misasks : (words : List (List ℕ)) (given : Given) (fault : Fault) → faults_in words ≡ []
    → Gives words given.roster given.state given.others.items given.tenants.items → MisasksFor given fault
    → AskAmiss words fault
misasks words given fault well gives (NotOne alike status) =
    NotOneFile (names_not_one command_line words given.roster given.state well gives.paths alike) status
misasks words given fault well gives (NotNames none) =
    NotTenants (subst (λ tenants. NoNames tenants fault) gives.tenants_are none)
