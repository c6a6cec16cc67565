-- A command of the three options `--roster`, `--state` and `--workers`.
use Rattle.std.proofs.Common.{zero, suc, ◌≡◌, ◌≤◌, ◌<◌, ◌∙◌, ◌++◌, ◌||◌, ℕ, List, [], ◌∷◌, Some, Result, Ok, Err}
use Rattle.std.proofs.Common.{true, false}
use Rattle.std.proofs.Common.{length, slice_index, refl, sym, ap, ap₂, subst, inl, inr, codes, arith}
use Rattle.std.specs.Prelude.{IfOk, Option, pos}
use Rattle.std.specs.Str.Parse.{IsNumeral, ParsesUnsigned, digits_value, without_leading_plus}
use Rattle.std.specs.List.{All, slice_index_or}
use Rattle.std.specs.Str.{bytes_eq}
use Rattle.std.proofs.lemmas.List.Elements.{All-nil}
use Rattle.std.proofs.lemmas.Slice.Eq.{bytes_eq-Decides}
use Rattle.clap.proofs.CallerLemmas.{added_plain}
use Rattle.clap.proofs.CallerReads.{signed_reads}
use Rattle.clap.specs.Built.{IsAuto}
use Rattle.clap.specs.Facts.{WantsDefault}
use Rattle.clap.specs.Words.{AddsArg, IsParsedFrom, IsPlain, IsPlainArg, SameRules, app_of, args_of}
use Rattle.clap.specs.Words.{found_of, groups_of, is_simple, is_simple_and_free}
use Rattle.clap.specs.Words.{one_text}
use Rattle.clap.specs.Words.{ReadsOne, with_rule, without_minus}
use Rattle.clap.specs.declared.builder.action.ArgAction.TheVariants.{Set}
use Rattle.clap.specs.declared.builder.arg.Arg.{Arg}
use Rattle.clap.specs.declared.builder.command.Command.{Command}
use Rattle.clap.specs.declared.builder.command.Command.TheViews.{out-Command as fields_of}
use Rattle.clap.specs.declared.builder.value_parser.ValueParser.TheVariants.{Signed}
use Rattle.clap.specs.declared.parser.matches.ArgMatches.{ArgMatches}
use Rattle.firm_program.specs.Options.{IsOption, roster_option, state_option}
use Rattle.firm_words.specs.CommandLine.{command_line, versioned_app, workers_option}
use Rattle.firm_words.specs.inner.Options.{HasNumber, IsCommandLine}
use Rattle.firm_words.proofs.Entries.{default_is_read}

-- the properties of a command without arguments
pub record IsBare (command : Command) : Type 0 where
  pub app : app_of command ≡ versioned_app
  pub arguments : args_of command ≡ []
  pub groups : groups_of command ≡ []
  pub globals : (fields_of command).has_globals ≡ false
  pub negates : (fields_of command).subcommand_negates_reqs ≡ false

-- a command of three arguments, the last with the rules of an option
record IsOfThree (command : Command) (workers : Arg) : Type 0 where
  first : Arg
  second : Arg
  third : Arg
  arguments : args_of command ≡ first ∷ second ∷ third ∷ []
  roster_id : first.id.now ≡ codes "roster"
  state_id : second.id.now ≡ codes "state"
  workers_rules : SameRules workers third
  plain : IsPlain command
  globals : (fields_of command).has_globals ≡ false
  negates : (fields_of command).subcommand_negates_reqs ≡ false

-- a command, once three arguments are added in turn
record IsGrown (bare one two command : Command) (roster state workers : Arg) : Type 0 where
  bare_is : IsBare bare
  roster_is : IsOption roster_option roster
  state_is : IsOption state_option state
  workers_is : IsOption workers_option workers
  first : AddsArg bare roster one
  second : AddsArg one state two
  third : AddsArg two workers command

module _ (bare one two command : Command) (roster state workers : Arg)
    (g : IsGrown bare one two command roster state workers) where
  is_of_three : IsOfThree command workers
  is_of_three = record {
    first = g.first.arg;
    second = g.second.arg;
    third = g.third.arg;
    arguments = g.third.args
        ∙ ap (λ l. l ++ g.third.arg ∷ [])
        (g.second.args ∙ ap (λ l. l ++ g.second.arg ∷ []) (g.first.args
        ∙ ap (λ l. l ++ g.first.arg ∷ []) g.bare_is.arguments));
    roster_id = ap (λ id. id.now) g.first.rules.id ∙ g.roster_is.id;
    state_id = ap (λ id. id.now) g.second.rules.id ∙ g.state_is.id;
    workers_rules = g.third.rules;
    plain = added_plain two command workers g.third (added_plain one two state g.second
        (added_plain bare one roster g.first bare_plain g.roster_is.plain) g.state_is.plain) g.workers_is.plain;
    globals = g.third.globals ∙ ap₂ (λ x y. x || y) (g.second.globals
        ∙ ap₂ (λ x y. x || y) (g.first.globals
        ∙ ap₂ (λ x y. x || y) g.bare_is.globals g.roster_is.global) g.state_is.global) g.workers_is.global;
    negates = g.third.negates ∙ (g.second.negates ∙ (g.first.negates ∙ g.bare_is.negates));
  }
    where
      bare_plain : IsPlain bare
      bare_plain = (subst (All IsPlainArg) (sym g.bare_is.arguments) (All-nil IsPlainArg), g.bare_is.groups)

  app_is : app_of command ≡ command_line
  app_is =
      g.third.shape g.workers_is.global
      ∙ ap₂ with_rule (g.second.shape g.state_is.global
      ∙ ap₂ with_rule (g.first.shape g.roster_is.global ∙ ap₂ with_rule g.bare_is.app g.roster_is.rules)
      g.state_is.rules) g.workers_is.rules

-- an option's argument, at its place in a list in which no other has its name
record Stands (arguments : List Arg) (k : ℕ) (option d : Arg) : Type 0 where
  there : k < length arguments
  alone : (j : ℕ) (e : Arg) → j < length arguments
      → bytes_eq (slice_index_or arguments j e).id.now (slice_index_or arguments k d).id.now ≡ true → j ≡ k
  rules : SameRules option (slice_index_or arguments k d)

-- two arguments whose names differ
differ : (a b : Arg) (first second : List ℕ) → a.id.now ≡ first → b.id.now ≡ second → (first ≡ second → ⊥)
    → bytes_eq a.id.now b.id.now ≡ true → ⊥
differ a b first second one two other same =
    other (sym one ∙ ((bytes_eq-Decides a.id.now b.id.now).0 same ∙ two))

roster_is_not_workers : codes "roster" ≡ codes "workers" → ⊥
roster_is_not_workers is = cc

state_is_not_workers : codes "state" ≡ codes "workers" → ⊥
state_is_not_workers is = cc

module _ (first second third : Arg) (roster : first.id.now ≡ codes "roster") (state : second.id.now ≡ codes "state")
    (workers : third.id.now ≡ codes "workers") where
  alone_third : (j : ℕ) (e : Arg) → j < 3
      → bytes_eq (slice_index_or (first ∷ second ∷ third ∷ []) j e).id.now third.id.now ≡ true → j ≡ 2
  alone_third zero e lt same =
      absurd (differ first third (codes "roster") (codes "workers") roster workers roster_is_not_workers same)
  alone_third (suc zero) e lt same =
      absurd (differ second third (codes "state") (codes "workers") state workers state_is_not_workers same)
  alone_third (suc (suc zero)) e lt same = refl
  alone_third (suc (suc (suc n))) e lt same = absurd (omega arith)

-- the parser adds no option of these names by itself
own : (a : Arg) (name : List ℕ) → a.id.now ≡ name → (name ≡ codes "help" → ⊥) → (name ≡ codes "version" → ⊥)
    → IsAuto a → ⊥
own a name is help version (inl auto) = help (sym is ∙ auto)
own a name is help version (inr auto) = version (sym is ∙ auto)

workers_named : codes "workers" ≡ [] → ⊥
workers_named empty = cc

workers_are_no_help : codes "workers" ≡ codes "help" → ⊥
workers_are_no_help help = cc

no_such_letter : (n : ℕ) → n ≡ 118 → n ≡ 119 → ⊥
no_such_letter n v w = absurd (omega arith)

workers_are_no_version : codes "workers" ≡ codes "version" → ⊥
workers_are_no_version version =
    no_such_letter (slice_index (codes "version") 0) refl (ap (λ text. slice_index text 0) (sym version))

module _ (command : Command) (workers : Arg) (w : IsOption workers_option workers)
    (three : IsOfThree command workers) where
  third_id : three.third.id.now ≡ codes "workers"
  third_id = ap (λ id. id.now) three.workers_rules.id ∙ w.id

  workers_stand : Stands (args_of command) 2 workers workers
  workers_stand = subst (λ l. Stands l 2 workers workers) (sym three.arguments) (record {
    there = omega arith;
    alone = alone_third three.first three.second three.third three.roster_id three.state_id third_id;
    rules = three.workers_rules;
  })

  workers_are_given : WantsDefault workers → (m : ArgMatches) → IsParsedFrom command m → HasNumber m
  workers_are_given wants m p =
      let s = workers_stand in
      let id : (slice_index_or (args_of command) 2 workers).id.now ≡ codes "workers" =
      ap (λ b. b.now) s.rules.id ∙ w.id in
      let parser : workers.value_parser ≡ Some (Signed (pos 1) (pos 8)) = ap (λ rule. rule.parser) w.rules in
      let got = default_is_read command m p three.plain three.globals 2 workers s.there s.alone
      (λ empty. workers_named (sym id ∙ empty))
      (own (slice_index_or (args_of command) 2 workers) (codes "workers") id workers_are_no_help workers_are_no_version)
      (s.rules.ifs ∙ wants.0, rw (s.rules.defaults wants.1) wants.1)
      (s.rules.action Set w.action) (s.rules.val_delim ∙ w.delimiter) (s.rules.least w.action w.least)
      (Signed (pos 1) (pos 8)) (s.rules.parser _ parser) in
      record {
        text = got.0;
        read = subst (λ name. one_text (found_of m) name ≡ Some (without_minus got.0)) id got.1;
        within = got.2;
      }

pub is_command_line : (bare one two command : Command) (roster state workers : Arg) → IsBare bare
    → IsOption roster_option roster → IsOption state_option state → IsOption workers_option workers
    → WantsDefault workers → AddsArg bare roster one → AddsArg one state two → AddsArg two workers command
    → IsCommandLine command
is_command_line bare one two command roster state workers b r s w wants first second third =
    let g : IsGrown bare one two command roster state workers = record {
      bare_is = b;
      roster_is = r;
      state_is = s;
      workers_is = w;
      first = first;
      second = second;
      third = third;
    } in
    let three = is_of_three bare one two command roster state workers g in
    record {
      app = app_is bare one two command roster state workers g;
      workers = workers_are_given command workers w three wants;
    }

pub is_command_line-if : (bare one two : Command) (roster state workers : Arg) {E : Type 0} (result : Result Command E)
    → IsBare bare → IsOption roster_option roster → IsOption state_option state → IsOption workers_option workers
    → WantsDefault workers
    → AddsArg bare roster one → AddsArg one state two → IfOk result (AddsArg two workers)
    → IfOk result IsCommandLine
is_command_line-if bare one two roster state workers (Ok command) b r s w wants first second third =
    is_command_line bare one two command roster state workers b r s w wants first second third
is_command_line-if bare one two roster state workers (Err error) b r s w wants first second third = tt

pub simple_and_free : is_simple_and_free command_line ≡ true
simple_and_free = refl

pub simple : is_simple command_line ≡ true
simple = refl

-- a number from 1 to 8, as it is read
pub record ReadNumber (text : List ℕ) (r : Option ℕ) : Type 0 where
  pub number : ℕ
  pub is : r ≡ Some number
  pub numeral : IsNumeral 10 (without_leading_plus text)
  pub value : number ≡ digits_value 10 (without_leading_plus text)
  pub least : 1 ≤ number
  pub most : number ≤ 8

pub reads_number : {E : Type 0} (G : List ℕ → Result ℕ E → Type 0)
    → ((u : List ℕ) (x : Result ℕ E) → G u x → ParsesUnsigned 8 10 u x)
    → (m : ArgMatches) (h : HasNumber m) (r : Option ℕ)
    → ReadsOne G (without_minus h.text) r → ReadNumber (without_minus h.text) r
reads_number {E} G only m h r read =
    let got = signed_reads E G 8 1 8 h.text r read only (omega arith) h.within in
    let parsed = only (without_minus h.text) (Ok got.0) (subst (ReadsOne G (without_minus h.text)) got.1 read) in
    record {
      number = got.0;
      is = got.1;
      numeral = parsed.0.0;
      value = parsed.1;
      least = got.2;
      most = got.3;
    }
