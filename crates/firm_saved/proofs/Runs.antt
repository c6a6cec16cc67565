-- Lines that are read one after the other.
use Rattle.std.proofs.Common.{◌≡◌, ◌<◌, ◌+◌, ◌-◌, ℕ, Bool, true, false, cond, List, [], ◌∷◌, ◌++◌, length, map}
use Rattle.std.proofs.Common.{refl, sym, ap, subst, ◌∙◌, arith, append_assoc, Option, Some, None, Result, Ok, Err}
use Rattle.std.proofs.Common.{true≢false, eqb}
use Rattle.std.specs.List.{list_all, onto_first, slice_split, AllByRecursion}
use Rattle.std.proofs.lemmas.List.Splits.{length-slice_split}
use Rattle.firm_text.specs.Lines.{is_line_feed}
use Rattle.firm_text.specs.declared.headings.Heading.{Heading}
use Rattle.std.proofs.lemmas.Bool.{eqb-true, and_parts}
use Rattle.std.proofs.lemmas.List.{append-nil}
use Rattle.firm_text.specs.Commands.{◌>>=◌}
use Rattle.firm_saved.specs.StateText.{row_words, words_text}
use Rattle.firm_saved.specs.declared.faults.FaultKind.{FaultKind}
use Rattle.firm_saved.specs.declared.faults.FaultKind.TheVariants as fault
use Rattle.firm_saved.specs.declared.faults.StateFault.{StateFault}
use Rattle.firm_saved.specs.declared.rows.Row.{Row}
use Rattle.firm_saved.specs.declared.rows.Row.TheVariants as row
use Rattle.firm_saved.specs.declared.saved.SavedPlace.{SavedPlace}
use Rattle.firm_saved.specs.Drafts.{Draft, finished, taken}
use Rattle.firm_saved.specs.Lines.{row_of}
use Rattle.firm_saved.specs.Reading.{at_line, ended, fault_at, go_on, is_end, last_row, line_read, rows_from}
use Rattle.firm_saved.specs.Reading.{stepped}
use Rattle.firm_saved.proofs.Complete.{dsteps}
use Rattle.firm_saved.proofs.LineRows.{IsRow, row_back, row_read}
use Rattle.firm_saved.proofs.RowFits.{RowFits, row_fits}
use Rattle.firm_saved.proofs.Steps.{IsOrderly, bind_ok, draft_rows, ok_is, taken_rows}

-- the line of a row, without its line feed
abbrev pub row_line : Row → List ℕ
row_line r = words_text (row_words r)

-- a row that is not the last one
abbrev pub is_inner : Row → Bool
is_inner (row.Rows count) = false
is_inner (row.Place n) = true
is_inner (row.Tenant name limits given) = true
is_inner (row.Costs costs) = true
is_inner (row.Machine machine) = true
is_inner (row.Job job) = true
is_inner (row.Task task) = true

stepped_inner : (d : Draft) (r : Row) → is_inner r ≡ true → stepped d r ≡ (taken d r >>= λ after. Ok (after, None))
stepped_inner d (row.Rows count) e = absurd (true≢false (sym e))
stepped_inner d (row.Place n) e = refl
stepped_inner d (row.Tenant name limits given) e = refl
stepped_inner d (row.Costs costs) e = refl
stepped_inner d (row.Machine machine) e = refl
stepped_inner d (row.Job job) e = refl
stepped_inner d (row.Task task) e = refl

-- what a line makes of a draft, and then the lines behind
abbrev behind : Heading → ℕ → List (List ℕ) → Draft × Option ℕ → Result (List SavedPlace) StateFault
behind heading line rest read = go_on line rest (λ after. rows_from heading (line + 1) after rest) read.0 read.1

rows_from-cons : (heading : Heading) (line : ℕ) (d : Draft) (bytes : List ℕ) (rest : List (List ℕ)) → 0 < length rest
    → rows_from heading line d (bytes ∷ rest) ≡ (at_line line (line_read heading d bytes) >>= behind heading line rest)
rows_from-cons heading line d bytes [] some = absurd (omega arith)
rows_from-cons heading line d bytes (next ∷ rest) some = refl

-- the lines of rows that are taken are read
pub lines_run : (heading : Heading) (line : ℕ) (d : Draft) (rows : List Row) (d2 : Draft) (next : List ℕ)
    (more : List (List ℕ))
    → AllByRecursion (IsRow heading) rows → list_all is_inner rows ≡ true → dsteps d rows ≡ Ok d2
    → rows_from heading line d (map row_line rows ++ next ∷ more)
    ≡ rows_from heading (line + length rows) d2 (next ∷ more)
lines_run heading line d [] d2 next more each inner e =
    let same : d ≡ d2 = cc in
    let none : line ≡ line + length {A = Row} [] = omega arith in
    ap (λ (x : Draft). rows_from heading line x (next ∷ more)) same
    ∙ ap (λ n. rows_from heading n d2 (next ∷ more)) none
lines_run heading line d (r ∷ rows) d2 next more each inner e =
    let rest : List (List ℕ) = map row_line rows ++ next ∷ more in
    let parts = and_parts (is_inner r) (list_all is_inner rows) inner in
    let first = bind_ok (taken d r) (λ after. dsteps after rows) d2 e in
    let read : line_read heading d (row_line r) ≡ Ok (first.0, None) =
    ap (λ (x : Result Row FaultKind). x >>= stepped d) (row_back heading r each.0) ∙ stepped_inner d r parts.0
    ∙ ap (λ (x : Result Draft FaultKind). x >>= λ after. let y : Result (Draft × Option ℕ) FaultKind = Ok
    (after, None) in y)
    first.1 in
    let count : line + 1 + length rows ≡ line + length (r ∷ rows) = omega arith in
    rows_from-cons heading line d (row_line r) rest (some rows)
    ∙ ap (λ (x : Result (Draft × Option ℕ) FaultKind). at_line line x >>= behind heading line rest) read
    ∙ lines_run heading (line + 1) first.0 rows d2 next more each.1 parts.1 first.2
    ∙ ap (λ n. rows_from heading n d2 (next ∷ more)) count
  where
    some : (rows : List Row) → 0 < length (map row_line rows ++ next ∷ more)
    some [] = omega arith
    some (r ∷ rows) = omega arith

-- the rows that were read of lines that make a state
pub record AreRead (heading : Heading) (line : ℕ) (d : Draft) (pieces : List (List ℕ))
    (places : List SavedPlace) : Type 0 where
  pub rows : List Row
  pub last : Draft
  pub cut : pieces ≡ map row_line rows ++ row_line (row.Rows (line + length rows - 2)) ∷ [] ∷ []
  pub taken : draft_rows last ≡ draft_rows d ++ rows
  pub orderly : IsOrderly last
  pub done : finished last ≡ Ok places
  pub fit : AllByRecursion (RowFits heading) rows

at_line_ok : {A B : Type 0} (line : ℕ) (r : Result A FaultKind) (f : A → Result B StateFault) (y : B)
    → (at_line line r >>= f) ≡ Ok y
    → (x : A) × (r ≡ Ok x) × (f x ≡ Ok y)
at_line_ok line (Ok x) f y e = (x, refl, e)
at_line_ok line (Err kind) f y e = absurd cc

pub cond_ok : {A E : Type 0} (b : Bool) (r : Result A E) (d : E) (y : A) → cond b r (Err d) ≡ Ok y
    → (b ≡ true) × (r ≡ Ok y)
cond_ok true r d y e = (refl, e)
cond_ok false r d y e = absurd cc

end_is : (rest : List (List ℕ)) → is_end rest ≡ true → rest ≡ [] ∷ []
end_is [] e = absurd (true≢false (sym e))
end_is ([] ∷ []) e = refl
end_is ([] ∷ next ∷ rest) e = absurd (true≢false (sym e))
end_is ((b ∷ bytes) ∷ rest) e = absurd (true≢false (sym e))

-- a step to the last row is none to another
other : (d2 d : Draft) (count : ℕ) (end : Option ℕ) → end ≡ None
    → (let x : Draft × Option ℕ = (d, Some count) in x) ≡ (d2, end) → ⊥
other d2 d count end none e =
    absurd (let p : Some count ≡ end = ap (λ (p : Draft × Option ℕ). p.1) e in cc)

-- the row that a step took, if it was not the last
stepped_on : (d : Draft) (r : Row) (d2 : Draft) → stepped d r ≡ Ok (d2, None) → taken d r ≡ Ok d2
stepped_on d r d2 e = by r (is_inner r) refl e
  where
    by : (r : Row) (b : Bool) → is_inner r ≡ b → stepped d r ≡ Ok (d2, None) → taken d r ≡ Ok d2
    by r true inner e =
        let x = bind_ok (taken d r) (λ after. let y : Result (Draft × Option ℕ) FaultKind = Ok (after, None) in y)
        (d2, None)
        (sym (stepped_inner d r inner) ∙ e) in
        x.1 ∙ ap Ok (ap (λ (p : Draft × Option ℕ). p.0) (ok_is {E = FaultKind} (x.0, None) (d2, None) x.2))
    by (row.Rows count) false inner e = absurd
        (other d2 d count None refl (ok_is {E = FaultKind} (d, Some count) (d2, None) e))
    by (row.Place n) false inner e = absurd (true≢false inner)
    by (row.Tenant name limits given) false inner e = absurd (true≢false inner)
    by (row.Costs costs) false inner e = absurd (true≢false inner)
    by (row.Machine machine) false inner e = absurd (true≢false inner)
    by (row.Job job) false inner e = absurd (true≢false inner)
    by (row.Task task) false inner e = absurd (true≢false inner)

taken_none : (d : Draft) (r : Row) (d2 : Draft) (count : ℕ)
    → (taken d r >>= λ after. let y : Result (Draft × Option ℕ) FaultKind = Ok (after, None) in y) ≡ Ok (d2, Some count)
    → ⊥
taken_none d r d2 count e =
    let x = bind_ok (taken d r) (λ after. let y : Result (Draft × Option ℕ) FaultKind = Ok (after, None) in y)
    (d2, Some count)
    e in
    other x.0 d2 count None refl (sym (ok_is {E = FaultKind} (x.0, None) (d2, Some count) x.2))

stepped_last : (d : Draft) (r : Row) (d2 : Draft) (count : ℕ) → stepped d r ≡ Ok (d2, Some count)
    → (r ≡ row.Rows count) × (d ≡ d2)
stepped_last d (row.Rows n) d2 count e =
    let p = ok_is {E = FaultKind} (d, Some n) (d2, Some count) e in
    let ends : Some n ≡ Some count = ap (λ (p : Draft × Option ℕ). p.1) p in
    (cc, ap (λ (p : Draft × Option ℕ). p.0) p)
stepped_last d (row.Place n) d2 count e = absurd (taken_none d (row.Place n) d2 count e)
stepped_last d (row.Tenant name limits given) d2 count e =
    absurd (taken_none d (row.Tenant name limits given) d2 count e)
stepped_last d (row.Costs costs) d2 count e = absurd (taken_none d (row.Costs costs) d2 count e)
stepped_last d (row.Machine machine) d2 count e = absurd (taken_none d (row.Machine machine) d2 count e)
stepped_last d (row.Job job) d2 count e = absurd (taken_none d (row.Job job) d2 count e)
stepped_last d (row.Task task) d2 count e = absurd (taken_none d (row.Task task) d2 count e)

-- lines that make a state are those of its rows
pub lines_read : (heading : Heading) (line : ℕ) (d : Draft) (pieces : List (List ℕ)) (places : List SavedPlace)
    → IsOrderly d
    → rows_from heading line d pieces ≡ Ok places → AreRead heading line d pieces places
lines_read heading line d [] places orderly e = absurd cc
lines_read heading line d (last ∷ []) places orderly e = absurd cc
lines_read heading line d (bytes ∷ next ∷ rest) places orderly e =
    let x = at_line_ok line (line_read heading d bytes) (behind heading line (next ∷ rest)) places e in
    let y = bind_ok (row_of heading bytes) (stepped d) x.0 x.1 in
    by y.0 (row_read heading bytes y.0 y.1) (row_fits heading bytes y.0 y.1) x.0.0 x.0.1 y.2 x.2
    (λ d2 orderly more. lines_read heading (line + 1) d2 (next ∷ rest) places orderly more)
  where
    by : (r : Row) → row_line r ≡ bytes → RowFits heading r → (d2 : Draft) (end : Option ℕ) → stepped d r ≡ Ok (d2, end)
        → go_on line (next ∷ rest) (λ after. rows_from heading (line + 1) after (next ∷ rest)) d2 end ≡ Ok places
        → ((d2 : Draft) → IsOrderly d2 → rows_from heading (line + 1) d2 (next ∷ rest) ≡ Ok places
        → AreRead heading (line + 1) d2 (next ∷ rest) places)
        → AreRead heading line d (bytes ∷ next ∷ rest) places
    by r is fits d2 None step more again =
        let one = taken_rows d r d2 orderly (stepped_on d r d2 step) in
        let others = again d2 one.1 more in
        let count : line + 1 + length others.rows - 2 ≡ line + length (r ∷ others.rows) - 2 = omega arith in
        record {
          rows = r ∷ others.rows;
          last = others.last;
          cut = ap (λ (l : List (List ℕ)). bytes ∷ l) others.cut
              ∙ ap (λ (b : List ℕ). b ∷ (map row_line others.rows
              ++ row_line (row.Rows (line + 1 + length others.rows - 2)) ∷ [] ∷ [])) (sym is)
              ∙ ap (λ n. row_line r ∷ (map row_line others.rows ++ row_line (row.Rows n) ∷ [] ∷ [])) count;
          taken = others.taken ∙ ap (λ (l : List Row). l ++ others.rows) one.0
              ∙ append_assoc (draft_rows d) (r ∷ []) others.rows;
          orderly = others.orderly;
          done = others.done;
          fit = (fits, others.fit);
        }
    by r is fits d2 (Some count) step more again =
        let what = stepped_last d r d2 count step in
        let tested = cond_ok (eqb count (line - 2)) (at_line line (finished d2) >>= ended line (next ∷ rest))
        (fault_at line fault.Rows) places more in
        let state = at_line_ok line (finished d2) (ended line (next ∷ rest)) places tested.1 in
        let end = cond_ok (is_end (next ∷ rest)) (Ok state.0) (fault_at (line + 1) fault.Rows) places state.2 in
        let same : state.0 ≡ places = ok_is {E = StateFault} state.0 places end.1 in
        let counted : count ≡ line + length {A = Row} [] - 2 = let c = eqb-true count
        (line - 2) tested.0 in omega arith in
        record {
          rows = [];
          last = d2;
          cut = ap (λ (l : List (List ℕ)). bytes ∷ l) (end_is (next ∷ rest) end.0)
              ∙ ap (λ (b : List ℕ). b ∷ [] ∷ [])
              (sym is ∙ ap row_line what.0 ∙ ap (λ n. row_line (row.Rows n)) counted);
          taken = ap draft_rows (sym what.1) ∙ sym (append-nil (draft_rows d));
          orderly = subst IsOrderly what.1 orderly;
          done = state.1 ∙ ap Ok same;
          fit = tt;
        }

-- there is a piece at least
pub some_piece : (text : List ℕ) → 0 < length (slice_split is_line_feed text)
some_piece text = let pieces = length-slice_split is_line_feed text in omega arith

-- bytes after the last line feed are no end
pub not_end : (text : List ℕ) → 0 < length text → is_end (slice_split is_line_feed text) ≡ false
not_end [] some = absurd (omega arith)
not_end (b ∷ text) some = by (slice_split is_line_feed text) (some_piece text) (is_line_feed b)
  where
    by : (pieces : List (List ℕ)) → 0 < length pieces → (feed : Bool)
        → is_end (cond feed ([] ∷ pieces) (onto_first b pieces)) ≡ false
    by [] none feed = absurd (omega arith)
    by (piece ∷ pieces) some true = refl
    by (piece ∷ pieces) some false = refl

module _ (heading : Heading) (line : ℕ) (d : Draft) (pieces : List (List ℕ)) (bytes : List ℕ) (rest : List (List ℕ))
    (cut : pieces ≡ bytes ∷ rest) where
  -- a line that is the last piece, and no line
  pub line_missing : rest ≡ [] → rows_from heading line d pieces ≡ Err (fault_at line fault.Rows)
  line_missing none =
      ap (rows_from heading line d) (cut ∙ ap (λ (l : List (List ℕ)). bytes ∷ l) none)

  module _ (some : 0 < length rest) where
    read : rows_from heading line d pieces ≡ (at_line line (line_read heading d bytes) >>= behind heading line rest)
    read = ap (rows_from heading line d) cut ∙ rows_from-cons heading line d bytes rest some

    -- a line that goes on, ends the state or is at fault
    pub line_goes : (d2 : Draft) → line_read heading d bytes ≡ Ok (d2, None)
        → rows_from heading line d pieces ≡ rows_from heading (line + 1) d2 rest
    line_goes d2 e =
        read ∙ ap (λ (r : Result (Draft × Option ℕ) FaultKind). at_line line r >>= behind heading line rest) e

    pub line_ends : (d2 : Draft) (count : ℕ) → line_read heading d bytes ≡ Ok (d2, Some count)
        → rows_from heading line d pieces ≡ last_row line d2 count rest
    line_ends d2 count e = read ∙ ap
        (λ (r : Result (Draft × Option ℕ) FaultKind). at_line line r >>= behind heading line rest) e

    pub line_faults : (kind : FaultKind) → line_read heading d bytes ≡ Err kind
        → rows_from heading line d pieces ≡ Err (fault_at line kind)
    line_faults kind e =
        read ∙ ap (λ (r : Result (Draft × Option ℕ) FaultKind). at_line line r >>= behind heading line rest) e
