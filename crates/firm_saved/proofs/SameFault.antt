-- The lines up to a fault determine it.
use Rattle.std.proofs.Common.{◌≡◌, ◌<◌, ◌≤◌, ◌+◌, ◌-◌, ◌∙◌, ℕ, zero, suc, Bool, true, false, cond, List, [], ◌∷◌}
use Rattle.std.proofs.Common.{length, take}
use Rattle.std.proofs.Common.{Option, Some, None, Result, Ok, Err, refl, sym, ap, subst, arith, true≢false, eqb, inl}
use Rattle.std.proofs.Common.{inr, bytes_eq}
use Rattle.std.specs.Prelude.{◌⊎◌, nat_lt}
use Rattle.std.specs.List.{slice_split}
use Rattle.std.proofs.lemmas.Bool.{cases_lt, lt-ltb, le-ltb, ltb-true, ltb-false}
use Rattle.firm_text.specs.Commands.{◌>>=◌}
use Rattle.firm_saved.specs.declared.faults.FaultKind.{FaultKind}
use Rattle.firm_saved.specs.declared.faults.FaultKind.TheVariants as fault
use Rattle.firm_saved.specs.declared.faults.StateFault.{StateFault}
use Rattle.firm_saved.specs.declared.saved.SavedPlace.{SavedPlace}
use Rattle.firm_saved.specs.Drafts.{Draft, empty_draft, finished}
use Rattle.firm_text.specs.Lines.{is_line_feed}
use Rattle.firm_text.specs.declared.headings.Heading.{Heading}
use Rattle.firm_text.specs.declared.headings.Heading.TheVariants.{Plain, Extended}
use Rattle.firm_rules.specs.SlotCosts.{LaterSlotsCostNoLess}
use Rattle.firm_saved.specs.Saved.{IsSoundSaved, SavedIs, saved_with}
use Rattle.firm_saved.specs.StateLaws.{BeginAlike}
use Rattle.firm_saved.specs.StateText.{first_line, state_text}
use Rattle.firm_saved.specs.Reading.{at_line, ended, fault_at, go_on, headed_state, is_end, last_row, line_read}
use Rattle.firm_saved.specs.Reading.{pieces_state, rows_from, state_of}
use Rattle.firm_saved.proofs.Runs.{line_ends, line_faults, line_goes}
use Rattle.firm_saved.proofs.States.{state_back}

-- the fault that an error is
err_is : {A E : Type 0} (x y : E) → (let r : Result A E = Err x in r) ≡ Err y → x ≡ y
err_is x y e = cc

pub no_err : {A E : Type 0} (x : A) (y : E) → (let r : Result A E = Ok x in r) ≡ Err y → ⊥
no_err x y e = absurd cc

-- a fault of the last row: of the row itself, or of the lines after it
data LastFault (line : ℕ) (d : Draft) (count : ℕ) (rest : List (List ℕ)) (f : StateFault) : Type 0 where
  Own : f.line ≡ line → ((other : List (List ℕ)) → last_row line d count other ≡ Err f) → LastFault line d count rest f
  Behind : f.line ≡ line + 1 → is_end rest ≡ false
      → ((other : List (List ℕ)) → is_end other ≡ false → last_row line d count other ≡ Err f)
      → LastFault line d count rest f

last_fault : (line : ℕ) (d : Draft) (count : ℕ) (rest : List (List ℕ)) (f : StateFault)
    → last_row line d count rest ≡ Err f → LastFault line d count rest f
last_fault line d count rest f e = counted (eqb count (line - 2)) refl e
  where
    closing : (state : Result (List SavedPlace) FaultKind) → eqb count (line - 2) ≡ true → finished d ≡ state
        → (at_line line state >>= ended line rest) ≡ Err f → LastFault line d count rest f
    closing (Err kind) same is e =
        let own : fault_at line kind ≡ f = err_is {A = List SavedPlace} (fault_at line kind) f e in
        Own (ap (λ (x : StateFault). x.line) (sym own)) (λ other. rw (same, is) (ap Err own))
    closing (Ok places) same is e = by (is_end rest) refl e
      where
        by : (b : Bool) → is_end rest ≡ b → cond b (Ok places) (Err (fault_at (line + 1) fault.Rows)) ≡ Err f
            → LastFault line d count rest f
        by true end e = absurd (no_err {E = StateFault} places f e)
        by false end e =
            let own : fault_at (line + 1) fault.Rows
            ≡ f = err_is {A = List SavedPlace} (fault_at (line + 1) fault.Rows) f e in
            Behind (ap (λ (x : StateFault). x.line) (sym own)) end
            (λ other not_end. rw (same, is, not_end) (ap Err own))

    counted : (b : Bool) → eqb count (line - 2) ≡ b
        → cond b (at_line line (finished d) >>= ended line rest) (Err (fault_at line fault.Rows)) ≡ Err f
        → LastFault line d count rest f
    counted true same e = closing (finished d) same refl e
    counted false other e =
        let own : fault_at line fault.Rows ≡ f = err_is {A = List SavedPlace} (fault_at line fault.Rows) f e in
        Own (ap (λ (x : StateFault). x.line) (sym own)) (λ rest. rw other (ap Err own))

-- two lists of pieces begin alike
pub record Alike (n : ℕ) (xs ys : List (List ℕ)) : Type 0 where
  pub same : take n xs ≡ take n ys
  pub ended : nat_lt n (length xs) ≡ nat_lt n (length ys)

longer : (n : ℕ) (xs ys : List (List ℕ)) → Alike n xs ys → n < length xs → n < length ys
longer n xs ys alike more = ltb-true n (length ys) (sym alike.ended ∙ lt-ltb n (length xs) more)

shorter : (n : ℕ) (xs ys : List (List ℕ)) → Alike n xs ys → length xs ≤ n → length ys ≤ n
shorter n xs ys alike few = ltb-false n (length ys) (sym alike.ended ∙ le-ltb n (length xs) few)

-- the first of them is the same, and the others begin alike
record First (n : ℕ) (x : List ℕ) (xs ys : List (List ℕ)) : Type 0 where
  rest : List (List ℕ)
  cut : ys ≡ x ∷ rest
  alike : Alike n xs rest

first : (n : ℕ) (x : List ℕ) (xs ys : List (List ℕ)) → Alike (suc n) (x ∷ xs) ys → First n x xs ys
first n x xs [] alike = absurd (let same = alike.same in cc)
first n x xs (y ∷ ys) alike =
    let same = alike.same in
    let head : y ≡ x = cc in
    record {
      rest = ys;
      cut = ap (λ (z : List ℕ). z ∷ ys) head;
      alike = record { same = cc; ended = by (cases_lt n (length xs)) };
    }
  where
    by : (n < length xs) ⊎ (length xs ≤ n) → nat_lt n (length xs) ≡ nat_lt n (length ys)
    by (inl more) =
        let other = longer (suc n) (x ∷ xs) (y ∷ ys) alike (omega arith) in
        lt-ltb n (length xs) more ∙ sym (lt-ltb n (length ys) (omega arith))
    by (inr few) =
        let other = shorter (suc n) (x ∷ xs) (y ∷ ys) alike (omega arith) in
        le-ltb n (length xs) few ∙ sym (le-ltb n (length ys) (omega arith))

-- no fault is of an earlier line
fault_late : (heading : Heading) (line : ℕ) (d : Draft) (xs : List (List ℕ)) (f : StateFault)
    → rows_from heading line d xs ≡ Err f → line ≤ f.line
fault_late heading line d [] f e =
    let own = ap (λ (x : StateFault). x.line)
    (err_is {A = List SavedPlace} (fault_at line fault.Rows) f e) in omega arith
fault_late heading line d (last ∷ []) f e =
    let own = ap (λ (x : StateFault). x.line)
    (err_is {A = List SavedPlace} (fault_at line fault.Rows) f e) in omega arith
fault_late heading line d (bytes ∷ next ∷ rest) f e =
    by (line_read heading d bytes) (λ d2 more. fault_late heading (line + 1) d2 (next ∷ rest) f more) e
  where
    by : (read : Result (Draft × Option ℕ) FaultKind)
        → ((d2 : Draft) → rows_from heading (line + 1) d2 (next ∷ rest) ≡ Err f → line + 1 ≤ f.line)
        → (at_line line read >>= λ read. go_on line (next ∷ rest)
        (λ after. rows_from heading (line + 1) after (next ∷ rest)) read.0
        read.1) ≡ Err f
        → line ≤ f.line
    by (Err kind) again e =
        let own = ap (λ (x : StateFault). x.line) (err_is {A = List SavedPlace} (fault_at line kind) f e) in omega arith
    by (Ok (d2, None)) again e = let more = again d2 e in omega arith
    by (Ok (d2, Some count)) again e = last (last_fault line d2 count (next ∷ rest) f e)
      where
        last : LastFault line d2 count (next ∷ rest) f → line ≤ f.line
        last (Own is all) = omega arith
        last (Behind is end all) = omega arith

-- the lines after the last row are alike
end_alike : (next : List ℕ) (rest other : List (List ℕ)) → Alike 0 rest other → is_end (next ∷ rest) ≡ false
    → is_end (next ∷ other) ≡ false
end_alike (b ∷ bytes) rest other alike e = refl
end_alike [] [] other alike e = absurd (true≢false e)
end_alike [] (r ∷ rest) [] alike e =
    absurd (let more = longer 0 (r ∷ rest) [] alike (omega arith) in omega arith)
end_alike [] (r ∷ rest) (o ∷ other) alike e = refl

-- lines that begin alike have the same fault
pub same_fault : (heading : Heading) (line : ℕ) (d : Draft) (xs ys : List (List ℕ)) (f : StateFault) (n : ℕ)
    → rows_from heading line d xs ≡ Err f
    → f.line + 1 ≡ line + n → Alike n xs ys → rows_from heading line d ys ≡ Err f
same_fault heading line d [] ys f n e at alike =
    let own = ap (λ (x : StateFault). x.line) (err_is {A = List SavedPlace} (fault_at line fault.Rows) f e) in
    let one : n ≡ 1 = omega arith in
    by ys (subst (λ k. Alike k [] ys) one alike)
  where
    by : (ys : List (List ℕ)) → Alike 1 [] ys → rows_from heading line d ys ≡ Err f
    by [] alike = e
    by (y ∷ ys) alike = absurd (let same = alike.same in cc)
same_fault heading line d (last ∷ []) ys f n e at alike =
    let own = ap (λ (x : StateFault). x.line) (err_is {A = List SavedPlace} (fault_at line fault.Rows) f e) in
    let one : n ≡ 1 = omega arith in
    by (first 0 last [] ys (subst (λ k. Alike k (last ∷ []) ys) one alike))
  where
    by : First 0 last [] ys → rows_from heading line d ys ≡ Err f
    by head = none head.rest head.cut head.alike
      where
        none : (rest : List (List ℕ)) → ys ≡ last ∷ rest → Alike 0 [] rest → rows_from heading line d ys ≡ Err f
        none [] cut alike = ap (rows_from heading line d) cut ∙ e
        none (r ∷ rest) cut alike = absurd (let few = shorter 0 [] (r ∷ rest) alike (omega arith) in omega arith)
same_fault heading line d (bytes ∷ next ∷ rest) ys f n e at alike =
    let late = fault_late heading line d (bytes ∷ next ∷ rest) f e in
    by n at alike late (line_read heading d bytes) refl
    (λ d2 zs m more here same. same_fault heading (line + 1) d2 (next ∷ rest) zs f m more here same) e
  where
    some : (m : ℕ) (zs : List (List ℕ)) → Alike m (next ∷ rest) zs → 0 < length zs
    some zero zs alike = longer zero (next ∷ rest) zs alike (omega arith)
    some (suc m) [] alike = absurd (let same = alike.same in cc)
    some (suc m) (z ∷ zs) alike = omega arith

    at_last : (d2 : Draft) (count m : ℕ) → line_read heading d bytes ≡ Ok (d2, Some count) → f.line + 1 ≡ line + suc m
        → First m bytes (next ∷ rest) ys → LastFault line d2 count (next ∷ rest) f → rows_from heading line d ys ≡ Err f
    at_last d2 count m is at head (Own here all) =
        line_ends heading line d ys bytes head.rest head.cut (some m head.rest head.alike) d2 count is ∙ all head.rest
    at_last d2 count m is at head (Behind here end all) =
        let one : m ≡ 1 = omega arith in
        let second = first 0 next rest head.rest (subst (λ k. Alike k (next ∷ rest) head.rest) one head.alike) in
        line_ends heading line d ys bytes head.rest head.cut (some m head.rest head.alike) d2 count is
        ∙ all head.rest (ap is_end second.cut ∙ end_alike next rest second.rest second.alike end)

    by : (n : ℕ) → f.line + 1 ≡ line + n → Alike n (bytes ∷ next ∷ rest) ys → line ≤ f.line
        → (read : Result (Draft × Option ℕ) FaultKind) → line_read heading d bytes ≡ read
        → ((d2 : Draft) (zs : List (List ℕ)) (m : ℕ) → rows_from heading (line + 1) d2 (next ∷ rest) ≡ Err f
        → f.line + 1 ≡ line + 1 + m → Alike m (next ∷ rest) zs → rows_from heading (line + 1) d2 zs ≡ Err f)
        → (at_line line read >>= λ read. go_on line (next ∷ rest)
        (λ after. rows_from heading (line + 1) after (next ∷ rest)) read.0
        read.1) ≡ Err f
        → rows_from heading line d ys ≡ Err f
    by zero at alike late read is again e = absurd (omega arith)
    by (suc m) at alike late (Err kind) is again e =
        let head = first m bytes (next ∷ rest) ys alike in
        line_faults heading line d ys bytes head.rest head.cut (some m head.rest head.alike) kind is
        ∙ ap Err (err_is {A = List SavedPlace} (fault_at line kind) f e)
    by (suc m) at alike late (Ok (d2, None)) is again e =
        let head = first m bytes (next ∷ rest) ys alike in
        line_goes heading line d ys bytes head.rest head.cut (some m head.rest head.alike) d2 is
        ∙ again d2 head.rest m e (omega arith) head.alike
    by (suc m) at alike late (Ok (d2, Some count)) is again e =
        at_last d2 count m is at (first m bytes (next ∷ rest) ys alike) (last_fault line d2 count (next ∷ rest) f e)

-- lines after the first that begin alike have the same fault
headed_fault : (heading : Heading) (xs ys : List (List ℕ)) (f : StateFault) (m : ℕ) → headed_state heading xs ≡ Err f
    → f.line + 1 ≡ 2 + m → Alike m xs ys → headed_state heading ys ≡ Err f
headed_fault heading xs ys f m e at alike = by (rows_from heading 2 empty_draft xs) refl e
  where
    by : (read : Result (List SavedPlace) StateFault) → rows_from heading 2 empty_draft xs ≡ read
        → (read >>= λ places. let r : Result SavedIs StateFault = Ok (saved_with heading places) in r) ≡ Err f
        → headed_state heading ys ≡ Err f
    by (Ok places) is e = absurd (no_err {E = StateFault} (saved_with heading places) f e)
    by (Err found) is e =
        let own : found ≡ f = err_is {A = SavedIs} found f e in
        ap (λ (r : Result (List SavedPlace) StateFault).
        r >>= λ places. let r : Result SavedIs StateFault = Ok (saved_with heading places) in r)
        (same_fault heading 2 empty_draft xs ys f m (is ∙ ap Err own) at alike)

headed_late : (heading : Heading) (xs : List (List ℕ)) (f : StateFault) → headed_state heading xs ≡ Err f → 2 ≤ f.line
headed_late heading xs f e = by (rows_from heading 2 empty_draft xs) refl e
  where
    by : (read : Result (List SavedPlace) StateFault) → rows_from heading 2 empty_draft xs ≡ read
        → (read >>= λ places. let r : Result SavedIs StateFault = Ok (saved_with heading places) in r) ≡ Err f
        → 2 ≤ f.line
    by (Ok places) is e = absurd (no_err {E = StateFault} (saved_with heading places) f e)
    by (Err found) is e =
        fault_late heading 2 empty_draft xs f (is ∙ ap Err (err_is {A = SavedIs} found f e))

-- what the first piece says
by_first : List ℕ → List (List ℕ) → Bool → Bool → Result SavedIs StateFault
by_first first rest plain extended =
    cond plain (headed_state Plain rest)
    (cond extended (headed_state Extended rest) (Err (fault_at 1 fault.Version)))

-- a text that begins as another up to its fault has the same
pub same_state : (xs ys : List (List ℕ)) (f : StateFault) → pieces_state xs ≡ Err f → Alike f.line xs ys
    → pieces_state ys ≡ Err f
unfolding by_first
same_state [] ys f e alike =
    let own : 1 ≡ f.line =
    ap (λ (x : StateFault). x.line) (err_is {A = SavedIs} (fault_at 1 fault.Version) f e) in
    by ys (subst (λ k. Alike k [] ys) (sym own) alike)
  where
    by : (ys : List (List ℕ)) → Alike 1 [] ys → pieces_state ys ≡ Err f
    by [] alike = e
    by (y ∷ ys) alike = absurd (let same = alike.same in cc)
same_state (x ∷ xs) ys f e alike =
    by (bytes_eq x (first_line Plain)) refl (bytes_eq x (first_line Extended)) refl e
  where
    told : (rest : List (List ℕ)) → pieces_state (x ∷ rest)
        ≡ by_first x rest (bytes_eq x (first_line Plain)) (bytes_eq x (first_line Extended))
    told rest = refl

    deeper : (heading : Heading) (n : ℕ) → f.line ≡ n → headed_state heading xs ≡ Err f
        → ((rest : List (List ℕ)) → pieces_state (x ∷ rest) ≡ headed_state heading rest)
        → pieces_state ys ≡ Err f
    deeper heading zero is e read = absurd (let late = headed_late heading xs f e in omega arith)
    deeper heading (suc m) is e read =
        let late = headed_late heading xs f e in
        let head = first m x xs ys (subst (λ k. Alike k (x ∷ xs) ys) is alike) in
        ap pieces_state head.cut ∙ read head.rest
        ∙ headed_fault heading xs head.rest f m e (omega arith) head.alike

    by : (plain : Bool) → bytes_eq x (first_line Plain) ≡ plain → (extended : Bool)
        → bytes_eq x (first_line Extended) ≡ extended → by_first x xs plain extended ≡ Err f → pieces_state ys ≡ Err f
    by true plain extended other e =
        deeper Plain f.line refl e
        (λ rest. told rest ∙ ap (λ b. by_first x rest b (bytes_eq x (first_line Extended))) plain)
    by false plain true extended e =
        deeper Extended f.line refl e
        (λ rest. told rest ∙ ap (λ b. by_first x rest b (bytes_eq x (first_line Extended))) plain
        ∙ ap (by_first x rest false) extended)
    by false plain false extended e =
        let own = err_is {A = SavedIs} (fault_at 1 fault.Version) f e in
        let one : 1 ≡ f.line = ap (λ (x : StateFault). x.line) own in
        let head = first 0 x xs ys (subst (λ k. Alike k (x ∷ xs) ys) (sym one) alike) in
        ap pieces_state head.cut ∙ told head.rest
        ∙ ap (λ b. by_first x head.rest b (bytes_eq x (first_line Extended))) plain
        ∙ ap (by_first x head.rest false) extended ∙ ap Err own

-- no text of a sound state begins as a text up to its fault
pub first_fault : LaterSlotsCostNoLess → (text : List ℕ) (f : StateFault) (saved : SavedIs)
    → state_of text ≡ Err f → IsSoundSaved saved → BeginAlike f.line (state_text saved) text → ⊥
first_fault rises text f saved e sound alike =
    no_err {E = StateFault} saved f (sym (state_back rises saved sound)
    ∙ same_state (slice_split is_line_feed text) (slice_split is_line_feed (state_text saved)) f e
    (record { same = sym alike.lines; ended = sym alike.ended }))
