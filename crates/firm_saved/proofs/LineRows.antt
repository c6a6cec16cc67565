-- The line of a row is read as that row.
use Rattle.std.proofs.Common.{◌≡◌, ◌<◌, ◌≤◌, ◌+◌, ◌-◌, ◌^◌, ℕ, Bool, true, false, cond, ◌||◌, List, [], ◌∷◌, ◌++◌}
use Rattle.std.proofs.Common.{length, map, refl, sym, ap, subst, ◌∙◌, arith, append_assoc, Option, Some, None, Result}
use Rattle.std.proofs.Common.{Ok, Err}
use Rattle.std.proofs.Common.{true≢false, bytes_eq, codes}
use Rattle.std.specs.Prelude.{ℤ, pos, negsuc, IfSome, ◌==◌, nat_le, drop, if◌then◌else◌}
use Rattle.std.specs.Fmt.{decimal, signed_decimal}
use Rattle.std.specs.List.{list_all, AllByRecursion, IsDistinct}
use Rattle.std.specs.Option.{ok_or}
use Rattle.std.proofs.lemmas.Bool.{and_from, and_parts, eqb-true, le-leb, leb-true, lt-ltb}
use Rattle.std.proofs.lemmas.List.{append-nil, length_push}
use Rattle.std.proofs.lemmas.Slice.Eq.{bytes_eq-Decides}
use Rattle.firm_rules.specs.Amounts.{slots_from, weight_from}
use Rattle.firm_rules.specs.Limits.{TenantLimits, are_limits, is_within, longest_patience}
use Rattle.firm_rules.specs.Names.{is_among, is_name}
use Rattle.firm_rules.specs.Preferences.{most_preferences}
use Rattle.firm_rules.specs.Recent.{with_cost}
use Rattle.firm_rules.specs.declared.book.Task.{Task}
use Rattle.firm_text.specs.Commands.{◌>>=◌}
use Rattle.firm_text.specs.Replies.{labelled}
use Rattle.firm_text.specs.Rosters.{FitsHeading}
use Rattle.firm_text.specs.declared.headings.Heading.{Heading}
use Rattle.firm_text.specs.declared.headings.Heading.TheVariants.{Plain, Extended}
use Rattle.firm_rules.specs.SoundBook.{is_cost, most_cost}
use Rattle.firm_saved.specs.StateText.{row_words, words_text, limits_words, patience_words, preference_words}
use Rattle.firm_saved.specs.StateText.{standing_words}
use Rattle.firm_saved.specs.declared.faults.FaultKind.{FaultKind}
use Rattle.firm_saved.specs.declared.faults.FaultKind.TheVariants as fault
use Rattle.firm_saved.specs.declared.rows.Row.{Row}
use Rattle.firm_saved.specs.declared.rows.Row.TheVariants as row
use Rattle.firm_saved.specs.Lines.{checked_at, cost_word, costs_at, labelled_at, limits_at, words_row}
use Rattle.firm_saved.specs.Lines.{name_word, names_at, number_word, preferred_at, row_of, standing_at}
use Rattle.firm_saved.specs.Lines.{names_patience, own_row, patience_at, words_of}
use Rattle.firm_saved.proofs.Clean.{above, decimal_clean, line_above, name_clean, words_split}
use Rattle.firm_saved.proofs.Digits.{number_back}

-- a task whose words are those of a row
pub record IsTaskRow (task : Task) : Type 0 where
  pub named : is_name task.name ≡ true
  pub job : is_name task.job ≡ true
  pub machine : IfSome task.machine (λ name. (is_name name ≡ true) × (task.waited ≡ 0))
  pub waited : task.waited ≤ longest_patience
  pub preferred : list_all is_name task.preferred ≡ true
  pub few : length task.preferred ≤ most_preferences
  pub differ : IsDistinct bytes_eq task.preferred

-- the limits, which fit the heading, and the number of commands
pub record IsTenantRow (heading : Heading) (name : List ℕ) (limits : TenantLimits) (given : ℕ) : Type 0 where
  pub named : is_name name ≡ true
  pub ranges : are_limits limits ≡ true
  pub few : given < 10 ^ 13
  pub fits : FitsHeading heading limits

-- what a row of a sound state of this heading is
abbrev pub IsRow : Heading → Row → Type 0
IsRow heading (row.Place admissions) = admissions < 10 ^ 13
IsRow heading (row.Tenant name limits given) = IsTenantRow heading name limits given
IsRow heading (row.Costs costs) = (length costs ≤ 8) × (list_all is_cost costs ≡ true)
IsRow heading (row.Machine machine) = (is_name machine.name ≡ true) × (1 ≤ machine.slots) × (machine.slots ≤ 64)
IsRow heading (row.Job job) = (is_name job.name ≡ true) × (1 ≤ job.weight) × (job.weight ≤ 1000000)
IsRow heading (row.Task task) = IsTaskRow task
IsRow heading (row.Rows count) = count < 10 ^ 13

number_word_back : (n : ℕ) → n < 10 ^ 13 → number_word (decimal n) ≡ Ok n
number_word_back n small = ap (λ o. ok_or o fault.BadNumber) (number_back n small)

name_word_back : (name : List ℕ) → is_name name ≡ true → name_word name ≡ Ok name
name_word_back name h = rw h refl

labelled_back : (label : List ℕ) (n : ℕ) (rest : List (List ℕ)) → n < 10 ^ 13
    → labelled_at (label ∷ decimal n ∷ rest) ≡ Ok (n, rest)
labelled_back label n rest small = rw (number_word_back n small) refl

-- so is a patience, if the words after it begin with another label
patience_back : (heading : Heading) (limits : TenantLimits) → FitsHeading heading limits → limits.patience < 10 ^ 13
    → (rest : List (List ℕ)) → names_patience rest ≡ false
    → patience_at heading (patience_words limits.patience ++ rest) ≡ Ok (limits.patience, rest)
patience_back Plain limits fits small rest other = rw fits refl
patience_back Extended limits fits small rest other = by (n == longest_patience) refl
  where
    n : ℕ
    n = limits.patience

    by : (b : Bool) → (n == longest_patience) ≡ b
        → patience_at Extended ((if b then [] else labelled (codes "patience") n) ++ rest) ≡ Ok (n, rest)
    by true same = rw other (ap (λ (m : ℕ). Ok (m, rest)) (sym (eqb-true n longest_patience same)))
    by false different = rw (number_word_back n small) refl

-- the words of a patience are between spaces
patience_clean : (n : ℕ) → n ≤ longest_patience → (rest : List (List ℕ)) → list_all (above 32) rest ≡ true
    → list_all (above 32) (patience_words n ++ rest) ≡ true
patience_clean n few rest clean = by (n == longest_patience)
  where
    by : (b : Bool) → list_all (above 32) ((if b then [] else labelled (codes "patience") n) ++ rest) ≡ true
    by true = clean
    by false = rw (decimal_clean n (omega arith)) clean

module _ (limits : TenantLimits) (h : are_limits limits ≡ true) where
  -- the ranges of limits
  pub record AreWithin : Type 0 where
    pub nodes : limits.nodes ≤ 4096
    pub arcs : limits.arcs ≤ 65536
    pub life : limits.life ≤ 2 ^ 40
    pub spread : limits.spread ≤ 1000
    pub churn : limits.churn ≤ 1000000
    pub remote : limits.remote ≤ 1000000
    pub patience : limits.patience ≤ longest_patience

  within : (low high n : ℕ) → is_within low high n ≡ true → n ≤ high
  within low high n e = leb-true n high (and_parts (nat_le low n) (nat_le n high) e).1

  pub limits_within : AreWithin
  limits_within =
      let p = and_parts _ (is_within 0 longest_patience limits.patience) h in
      let a = and_parts _ (is_within 0 1000000 limits.remote) p.0 in
      let b = and_parts _ (is_within 0 1000000 limits.churn) a.0 in
      let c = and_parts _ (is_within 0 1000 limits.spread) b.0 in
      let d = and_parts _ (is_within 1 (2 ^ 40) limits.life) c.0 in
      let e = and_parts (is_within 2 4096 limits.nodes) (is_within 0 65536 limits.arcs) d.0 in
      record {
        nodes = within 2 4096 limits.nodes e.0;
        arcs = within 0 65536 limits.arcs e.1;
        life = within 1 (2 ^ 40) limits.life d.1;
        spread = within 0 1000 limits.spread c.1;
        churn = within 0 1000000 limits.churn b.1;
        remote = within 0 1000000 limits.remote a.1;
        patience = within 0 longest_patience limits.patience p.1;
      }

  -- and the ranges of the first six, whatever the patience
  others_within : are_limits (record limits { patience = longest_patience }) ≡ true
  others_within =
      let p = and_parts _ (is_within 0 longest_patience limits.patience) h in
      and_from _ (is_within 0 longest_patience longest_patience) p.0 refl

  patience_within : is_within 0 longest_patience limits.patience ≡ true
  patience_within = (and_parts _ (is_within 0 longest_patience limits.patience) h).1

  limits_back : (heading : Heading) → FitsHeading heading limits → (rest : List (List ℕ)) → names_patience rest ≡ false
      → limits_at heading (limits_words limits ++ rest) ≡ Ok (limits, rest)
  limits_back heading fits rest other =
      let w = limits_within in
      let b1 = w.nodes in let b2 = w.arcs in let b3 = w.life in let b4 = w.spread in let b5 = w.churn in
      let b6 = w.remote in
      rw (
        number_word_back limits.nodes (omega arith),
        number_word_back limits.arcs (omega arith),
        number_word_back limits.life (omega arith),
        number_word_back limits.spread (omega arith),
        number_word_back limits.churn (omega arith),
        number_word_back limits.remote (omega arith),
        patience_back heading limits fits (let b7 = w.patience in omega arith) rest other,
        others_within,
        patience_within,
      ) refl

cost_back : (cost : ℤ) → is_cost cost ≡ true → (n : ℕ) × (cost ≡ pos n) × (cost_word (signed_decimal cost) ≡ Ok n)
cost_back (pos n) h =
    let few = leb-true n most_cost h in
    (n, refl, rw (number_word_back n (omega arith), h) refl)
cost_back (negsuc n) h = absurd (true≢false (sym h))

one_cost : (front : List ℤ) (cost : ℤ) → length front < 8 → with_cost front cost ≡ front ++ cost ∷ []
one_cost front cost few =
    ap (λ n. drop n (front ++ cost ∷ [])) (let more = length_push front cost in
    let none : length (front ++ cost ∷ []) - 8 ≡ 0 = omega arith in none)

costs_back : (front costs : List ℤ) → length front + length costs ≤ 8 → list_all is_cost costs ≡ true
    → costs_at front (map signed_decimal costs) ≡ Ok (front ++ costs)
costs_back front [] few h = ap Ok (sym (append-nil front))
costs_back front (cost ∷ costs) few h =
    let parts = and_parts (is_cost cost) (list_all is_cost costs) h in
    let one = cost_back cost parts.0 in
    ap (λ (r : Result ℕ FaultKind). r >>= λ n. costs_at (with_cost front (pos n)) (map signed_decimal costs)) one.2
    ∙ ap (λ (c : ℤ). costs_at (with_cost front c) (map signed_decimal costs)) (sym one.1)
    ∙ ap (λ (l : List ℤ). costs_at l (map signed_decimal costs)) (one_cost front cost (omega arith))
    ∙ costs_back (front ++ cost ∷ []) costs (omega (arith, length_push front cost)) parts.1
    ∙ ap Ok (append_assoc front (cost ∷ []) costs)

-- a name is none of those before it
pub apart : (names rest : List (List ℕ)) (name : List ℕ) → IsDistinct bytes_eq (names ++ name ∷ rest)
    → is_among names name ≡ false
unfolding IsDistinct
apart [] rest name differ = refl
apart (first ∷ names) rest name differ =
    ap (λ (b : Bool). b || is_among names name) (other name first (later names rest name first differ.0))
    ∙ apart names rest name differ.1
  where
    other : (name first : List ℕ) → bytes_eq first name ≡ false → bytes_eq name first ≡ false
    other name first e = elim (bytes_eq name first) as (λ b. bytes_eq name first ≡ b → b ≡ false) [
      | true ↦ λ f. absurd (true≢false
          (sym ((bytes_eq-Decides first name).1 (sym ((bytes_eq-Decides name first).0 f))) ∙ e))
      | false ↦ λ f. refl
    ] refl

    later : (names rest : List (List ℕ)) (name first : List ℕ)
        → AllByRecursion (λ y. bytes_eq first y ≡ false) (names ++ name ∷ rest) → bytes_eq first name ≡ false
    later [] rest name first h = h.0
    later (n ∷ names) rest name first h = later names rest name first h.1

names_back : (front names : List (List ℕ)) → length front + length names ≤ most_preferences
    → IsDistinct bytes_eq (front ++ names)
    → list_all is_name names ≡ true → names_at front names ≡ Ok (front ++ names)
names_back front [] few differ h = ap Ok (sym (append-nil front))
names_back front (name ∷ names) few differ h =
    let parts = and_parts (is_name name) (list_all is_name names) h in
    let room = lt-ltb (length front) most_preferences (omega arith) in
    let regrouped : front ++ name ∷ names
    ≡ (front ++ name ∷ []) ++ names = sym (append_assoc front (name ∷ []) names) in
    rw (room, name_word_back name parts.0, apart front names name differ)
    (names_back (front ++ name ∷ []) names (omega (arith, length_push front name))
    (subst (IsDistinct bytes_eq) regrouped differ) parts.1 ∙ ap Ok (sym regrouped))

preferred_back : (names : List (List ℕ)) → length names ≤ most_preferences → IsDistinct bytes_eq names
    → list_all is_name names ≡ true → preferred_at (preference_words names) ≡ Ok names
preferred_back [] few differ h = refl
preferred_back (name ∷ names) few differ h = names_back [] (name ∷ names) (omega (arith, few)) differ h

standing_back : (task : Task) → IsTaskRow task → (machine : Option (List ℕ)) → task.machine ≡ machine
    → standing_at (standing_words machine task.waited ++ preference_words task.preferred)
    ≡ Ok (machine, task.waited, task.preferred)
standing_back task sound (Some machine) is =
    let home = subst (λ o. IfSome o (λ name. (is_name name ≡ true) × (task.waited ≡ 0))) is sound.machine in
    rw (name_word_back machine home.0, preferred_back task.preferred sound.few sound.differ sound.preferred)
    (ap (λ (n : ℕ). Ok (Some machine, n, task.preferred)) (sym home.1))
standing_back task sound None is =
    let few = le-leb task.waited longest_patience sound.waited in
    let small : task.waited < 10 ^ 13 = let w = sound.waited in omega arith in
    rw (
      number_word_back task.waited small,
      few,
      preferred_back task.preferred sound.few sound.differ sound.preferred,
    ) refl

slots_back : (n : ℕ) → 1 ≤ n → n ≤ 64 → checked_at slots_from (decimal n ∷ []) ≡ Ok n
slots_back n low high = rw (number_back n (omega arith), le-leb 1 n low, le-leb n 64 high) refl

weight_back : (n : ℕ) → 1 ≤ n → n ≤ 1000000 → checked_at weight_from (decimal n ∷ []) ≡ Ok n
weight_back n low high = rw (number_back n (omega arith), le-leb 1 n low, le-leb n 1000000 high) refl

-- the words of a row determine it
words_back : (heading : Heading) (r : Row) → IsRow heading r → words_row heading (row_words r) ≡ Ok r
words_back heading (row.Place n) h = rw (number_word_back n h) refl
words_back heading (row.Rows n) h = rw (number_word_back n h) refl
words_back heading (row.Tenant name limits given) h =
    rw (
      name_word_back name h.named,
      limits_back limits h.ranges heading h.fits (labelled (codes "commands") given) refl,
      number_word_back given h.few,
    ) refl
words_back heading (row.Costs costs) h = rw (costs_back [] costs (let few = h.0 in omega arith) h.1) refl
words_back heading (row.Machine m) h = rw (name_word_back m.name h.0, slots_back m.slots h.1 h.2) refl
words_back heading (row.Job j) h = rw (name_word_back j.name h.0, weight_back j.weight h.1 h.2) refl
words_back heading (row.Task task) h =
    rw (name_word_back task.job h.job, name_word_back task.name h.named, standing_back task h task.machine refl) refl

-- the words of a row are between its spaces
row_clean : (heading : Heading) (r : Row) → IsRow heading r → list_all (above 32) (row_words r) ≡ true
row_clean heading (row.Place n) h = rw (decimal_clean n (omega arith)) refl
row_clean heading (row.Rows n) h = rw (decimal_clean n (omega arith)) refl
row_clean heading (row.Tenant name limits given) h =
    let w = limits_within limits h.ranges in
    let b1 = w.nodes in let b2 = w.arcs in let b3 = w.life in let b4 = w.spread in let b5 = w.churn in
    let b6 = w.remote in let b7 = h.few in
    let last : list_all (above 32) (labelled (codes "commands") given) ≡ true =
    rw (decimal_clean given (omega arith)) refl in
    rw (
      name_clean name h.named,
      decimal_clean limits.nodes (omega arith),
      decimal_clean limits.arcs (omega arith),
      decimal_clean limits.life (omega arith),
      decimal_clean limits.spread (omega arith),
      decimal_clean limits.churn (omega arith),
      decimal_clean limits.remote (omega arith),
    ) (patience_clean limits.patience w.patience (labelled (codes "commands") given) last)
row_clean heading (row.Costs costs) h = costs_clean costs h.1
  where
    costs_clean : (costs : List ℤ) → list_all is_cost costs ≡ true
        → list_all (above 32) (map signed_decimal costs) ≡ true
    costs_clean [] h = refl
    costs_clean (cost ∷ costs) h =
        let parts = and_parts (is_cost cost) (list_all is_cost costs) h in
        and_from (above 32 (signed_decimal cost)) (list_all (above 32) (map signed_decimal costs))
        (one cost parts.0) (costs_clean costs parts.1)
      where
        one : (cost : ℤ) → is_cost cost ≡ true → above 32 (signed_decimal cost) ≡ true
        one (pos n) h = decimal_clean n (let few = leb-true n most_cost h in omega arith)
        one (negsuc n) h = absurd (true≢false (sym h))
row_clean heading (row.Machine m) h = rw (name_clean m.name h.0, decimal_clean m.slots (omega arith)) refl
row_clean heading (row.Job j) h = rw (name_clean j.name h.0, decimal_clean j.weight (omega arith)) refl
row_clean heading (row.Task task) h =
    rw (name_clean task.job h.job, name_clean task.name h.named) (standing_clean task h task.machine refl)
  where
    names_clean : (names : List (List ℕ)) → list_all is_name names ≡ true → list_all (above 32) names ≡ true
    names_clean [] h = refl
    names_clean (name ∷ names) h =
        let parts = and_parts (is_name name) (list_all is_name names) h in
        and_from (above 32 name) (list_all (above 32) names) (name_clean name parts.0) (names_clean names parts.1)

    preferred_clean : (names : List (List ℕ)) → list_all is_name names ≡ true
        → list_all (above 32) (preference_words names) ≡ true
    preferred_clean [] h = refl
    preferred_clean (name ∷ names) h = names_clean (name ∷ names) h

    standing_clean : (task : Task) → IsTaskRow task → (machine : Option (List ℕ)) → task.machine ≡ machine
        → list_all (above 32) (standing_words machine task.waited ++ preference_words task.preferred) ≡ true
    standing_clean task sound (Some machine) is =
        let home = subst (λ o. IfSome o (λ name. (is_name name ≡ true) × (task.waited ≡ 0))) is sound.machine in
        rw (name_clean machine home.0) (preferred_clean task.preferred sound.preferred)
    standing_clean task sound None is =
        rw (decimal_clean task.waited (let w = sound.waited in omega arith))
        (preferred_clean task.preferred sound.preferred)

-- the line of a row has no line feed
pub line_clean : (heading : Heading) (r : Row) → IsRow heading r → above 10 (words_text (row_words r)) ≡ true
line_clean heading r h = line_above (row_words r) (row_clean heading r h)

-- the first word of a row, and the others
row_split : (heading : Heading) (r : Row) → IsRow heading r → words_of (words_text (row_words r)) ≡ row_words r
row_split heading r h = split (row_words r) (row_clean heading r h) (some r)
  where
    split : (words : List (List ℕ)) → list_all (above 32) words ≡ true → 0 < length words
        → words_of (words_text words) ≡ words
    split [] clean none = absurd (omega arith)
    split (first ∷ rest) clean some =
        let parts = and_parts (above 32 first) (list_all (above 32) rest) clean in
        words_split first rest parts.0 parts.1

    some : (r : Row) → 0 < length (row_words r)
    some (row.Place n) = omega arith
    some (row.Rows n) = omega arith
    some (row.Tenant name limits given) = omega arith
    some (row.Costs costs) = omega arith
    some (row.Machine m) = omega arith
    some (row.Job j) = omega arith
    some (row.Task task) = omega arith

-- the line of a row is read as that row
pub row_back : (heading : Heading) (r : Row) → IsRow heading r → row_of heading (words_text (row_words r)) ≡ Ok r
row_back heading r h =
    rw (
      row_split heading r h,
      words_back heading r h,
      (bytes_eq-Decides (words_text (row_words r)) (words_text (row_words r))).1 refl,
    ) refl

-- a line that is read as a row is the row's line
pub row_read : (heading : Heading) (line : List ℕ) (r : Row) → row_of heading line ≡ Ok r
    → words_text (row_words r) ≡ line
row_read heading line r e = read (words_row heading (words_of line)) e
  where
    read : (told : Result Row FaultKind) → (told >>= own_row line) ≡ Ok r → words_text (row_words r) ≡ line
    read (Err kind) e = absurd cc
    read (Ok told) e = elim (bytes_eq (words_text (row_words told)) line)
        as (λ b. bytes_eq (words_text (row_words told)) line ≡ b → cond b (Ok told) (Err fault.Row) ≡ Ok r
        → words_text (row_words r) ≡ line) [
          | true ↦ λ same e. let one : told ≡ r = cc in
              subst (λ (x : Row). words_text (row_words x) ≡ line) one
              ((bytes_eq-Decides (words_text (row_words told)) line).0 same)
          | false ↦ λ other e. absurd cc
        ] refl e
