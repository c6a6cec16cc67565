-- The entry of an argument with a default: a value that the argument's parser took.
use Rattle.std.proofs.Common.{zero, suc, ◌≡◌, ◌∙◌, ◌<◌, ◌≤◌, ℕ, Bool, true, false, List, [], ◌∷◌, length, Some, None}
use Rattle.std.proofs.Common.{refl, sym, subst, ap, inl, inr, arith}
use Rattle.std.specs.Prelude.{◌⊎◌, find, is_some, unwrap_or}
use Rattle.std.specs.Borrow.{Bor}
use Rattle.std.specs.List.{All, Any, slice_index_or}
use Rattle.std.specs.Str.{bytes_eq}
use Rattle.std.proofs.lemmas.List.Elements.{All-get_or, All-drop}
use Rattle.std.proofs.lemmas.Slice.Eq.{bytes_eq-Decides}
use Rattle.clap.proofs.CallerLemmas.{default_present, same_rules_by_id}
use Rattle.clap.specs.Built.{IsAuto}
use Rattle.clap.specs.Facts.{Entry, EntryPasses, HasIn, PassesArg, WantsDefault, least_values, parser_of_value}
use Rattle.clap.specs.Words.{Accepts, IsParsedFrom, IsPlain, SameRules, args_of, found_of, groups_of}
use Rattle.clap.specs.Words.{one_text, parser_of, read_as, reading_of}
use Rattle.clap.specs.declared.builder.action.ArgAction.TheVariants.{Count, Set}
use Rattle.clap.specs.declared.builder.arg.Arg.{Arg}
use Rattle.clap.specs.declared.builder.command.Command.{Command}
use Rattle.clap.specs.declared.builder.command.Command.TheViews.{out-Command as fields_of}
use Rattle.clap.specs.declared.builder.value_parser.Reading.{Reading}
use Rattle.clap.specs.declared.builder.value_parser.ValueParser.{ValueParser}
use Rattle.clap.specs.declared.parser.matches.ArgMatches.{ArgMatches}

-- the first entry of an id, with what holds of every entry
record FirstEntry (P : Entry → Type 0) (entries : List Entry) (id : List ℕ) : Type 0 where
  entry : Entry
  first : find (λ e. bytes_eq e.0.now id) entries ≡ Some entry
  named : entry.0.now ≡ id
  holds : P entry

-- an entry that is not the first of a list stands in the rest
in_rest : (e : Entry) (rest : List Entry) (id : List ℕ) → HasIn (e ∷ rest) id → bytes_eq e.0.now id ≡ false
    → HasIn rest id
in_rest e rest id (zero, lt, at) other =
    let bad : false ≡ true = sym other ∙ at e in
    cc
in_rest e rest id (suc n, lt, at) other = (n, omega arith, at)

first_entry : (P : Entry → Type 0) (entries : List Entry) (id : List ℕ) → HasIn entries id → All P entries
    → FirstEntry P entries id
first_entry P [] id has all = absurd (omega (arith, has.1))
first_entry P (e ∷ rest) id has all =
    go (bytes_eq e.0.now id) refl
    (λ other. first_entry P rest id (in_rest e rest id has other) (All-drop P 1 (e ∷ rest) all))
  where
    go : (is : Bool) → bytes_eq e.0.now id ≡ is → (bytes_eq e.0.now id ≡ false → FirstEntry P rest id)
        → FirstEntry P (e ∷ rest) id
    go true is next = record {
      entry = e;
      first = rw is refl;
      named = (bytes_eq-Decides e.0.now id).0 is;
      holds = All-get_or P (e ∷ rest) 0 e (omega arith) all;
    }
    go false is next = record {
      entry = (next is).entry;
      first = rw is (next is).first;
      named = (next is).named;
      holds = (next is).holds;
    }

module _ (command : Command) (m : ArgMatches) (p : IsParsedFrom command m) (plain : IsPlain command)
    (globals : (fields_of command).has_globals ≡ false) (k : ℕ) (d : Arg) (there : k < length (args_of command))
    (alone : (j : ℕ) (e : Arg) → j < length (args_of command)
    → bytes_eq (slice_index_or (args_of command) j e).id.now (slice_index_or (args_of command) k d).id.now ≡ true
    → j ≡ k)
    (named : (slice_index_or (args_of command) k d).id.now ≡ [] → ⊥)
    (own : IsAuto (slice_index_or (args_of command) k d) → ⊥) where
  abbrev option : Arg
  option = slice_index_or (args_of command) k d

  -- what an argument of this id says in the command that the parser built, where it has the option's rules
  built_option : (Q : Arg → Type 0) (id : List ℕ) → id ≡ option.id.now
      → Any (λ a. (bytes_eq a.id.now id ≡ true) × Q a) (args_of p.built)
      → (a : Arg) × SameRules option a × Q a
  built_option Q id is any =
      let same : bytes_eq any.1.id.now option.id.now ≡ true =
      subst (λ text. bytes_eq any.1.id.now text ≡ true) is any.4.0 in
      (any.1, same_rules_by_id command m p k d there alone own any.0 any.1 any.2 any.3 same, any.4.1)

  no_group : (id : List ℕ) → id ≡ option.id.now → (id ≡ []) ⊎ (0 < length (groups_of p.built)) → ⊥
  no_group id is (inl empty) = named (sym is ∙ empty)
  no_group id is (inr some) =
      let none : groups_of p.built ≡ [] = (p.from.plain plain).1 in
      let bad : 0 < 0 = rw none at some in
      absurd (omega arith)

  -- the option takes a value, so its entry has one
  has_value : (e : Entry) → e.0.now ≡ option.id.now → EntryPasses p.built e → option.action ≡ Some Set
      → option.val_delim ≡ None → 1 ≤ least_values option
      → 0 < length e.1.vals.items
  has_value e is passes set delimiter least = elim passes.1 [
    | inl group ↦ absurd (no_group e.0.now is group.1)
    | inr (inl some) ↦ some
    | inr (inr (inl count)) ↦
        let counts = built_option (λ a. unwrap_or a.action Set ≡ Count) e.0.now is count.1 in
        let bad : Set ≡ Count = rw (counts.1.action Set set) at counts.2 in
        cc
    | inr (inr (inr none)) ↦
        let may = built_option (λ a. (least_values a ≡ 0) ⊎ (is_some a.val_delim ≡ true)) e.0.now is none in
        elim may.2 [
          | inl nothing ↦
              let one = may.1.least set least in
              absurd (omega arith)
          | inr splits ↦
              let bad : false ≡ true = rw (may.1.val_delim, delimiter) at splits in
              cc
        ]
  ]

  -- the parser took each of its values
  takes : (e : Entry) → e.0.now ≡ option.id.now → EntryPasses p.built e → (q : ValueParser)
      → option.value_parser ≡ Some q → (v : Bor (List ℕ)) (rest : List (Bor (List ℕ))) → e.1.vals.items ≡ v ∷ rest
      → Accepts option.ignore_case q v.now
  takes e is passes q parser v rest values = elim passes.0 [
    | inl group ↦ absurd (no_group e.0.now is (passes.3 group))
    | inr all ↦
        let first = All-get_or (λ s. PassesArg p.built e.0.now s.now) (v ∷ rest) 0 v (omega arith)
        (subst (All (λ s. PassesArg p.built e.0.now s.now)) values all) in
        let own = built_option (λ a. Accepts a.ignore_case (parser_of a) v.now) e.0.now is first in
        let by : parser_of own.0 ≡ q = ap parser_of_value (own.1.parser q parser) in
        subst (λ b. Accepts b q v.now) own.1.ignore_case (subst (λ r. Accepts own.0.ignore_case r v.now) by own.2)
  ]

  -- and it is read as the parser says
  read_by : (e : Entry) → e.0.now ≡ option.id.now → EntryPasses p.built e → (q : ValueParser)
      → option.value_parser ≡ Some q → e.1.reading ≡ reading_of q
  read_by e is passes q parser = elim passes.4 [
    | inl group ↦ absurd (no_group e.0.now is (passes.3 group))
    | inr has ↦
        let own = built_option (λ a. reading_of (parser_of a) ≡ e.1.reading) e.0.now is has in
        sym own.2 ∙ ap (λ o. reading_of (parser_of_value o)) (own.1.parser q parser)
  ]

  first_text : (e : Entry) (id : List ℕ) (how : Reading) (v : Bor (List ℕ)) (rest : List (Bor (List ℕ)))
      → find (λ e. bytes_eq e.0.now id) (found_of m).entries.items ≡ Some e → e.1.vals.items ≡ v ∷ rest
      → e.1.reading ≡ how → one_text (found_of m) id ≡ Some (read_as how v.now)
  first_text e id how v rest first values is = rw (first, values, is) refl

  -- a parse reads a value of the option, which its parser took
  pub default_is_read : WantsDefault option → option.action ≡ Some Set → option.val_delim ≡ None
      → 1 ≤ least_values option
      → (q : ValueParser) → option.value_parser ≡ Some q
      → (text : List ℕ) × (one_text (found_of m) option.id.now ≡ Some (read_as (reading_of q) text))
      × Accepts option.ignore_case q text
  default_is_read wants set delimiter least q parser = go e.1.vals.items refl
    where
      found : FirstEntry (EntryPasses p.built) (found_of m).entries.items option.id.now
      found = first_entry _ (found_of m).entries.items option.id.now
          (default_present command m p globals k d there wants)
          (p.parsed (p.from.globals ∙ globals)).values

      e : Entry
      e = found.entry

      go : (values : List (Bor (List ℕ))) → e.1.vals.items ≡ values
          → (text : List ℕ) × (one_text (found_of m) option.id.now ≡ Some (read_as (reading_of q) text))
          × Accepts option.ignore_case q text
      go [] none =
          let some = has_value e found.named found.holds set delimiter least in
          let bad : 0 < 0 = rw none at some in
          absurd (omega arith)
      go (v ∷ rest) values = (
        v.now,
        first_text e option.id.now (reading_of q) v rest found.first values
            (read_by e found.named found.holds q parser),
        takes e found.named found.holds q parser v rest values,
      )
