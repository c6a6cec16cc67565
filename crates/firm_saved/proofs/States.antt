-- A text that is read is the text of its state, and the text of a state is read as it.
use Rattle.std.proofs.Common.{◌≡◌, ◌<◌, ◌+◌, ◌-◌, ◌^◌, ℕ, zero, suc, Bool, true, false, cond, List, [], ◌∷◌}
use Rattle.std.proofs.Common.{◌++◌, length, map, refl, sym, ap, subst, ◌∙◌, arith, append_assoc, Option, Some, None}
use Rattle.std.proofs.Common.{Result}
use Rattle.std.proofs.Common.{Ok, Err, bytes_eq, eqb}
use Rattle.std.specs.Prelude.{All, AllPairs, IfSome, nat_lt, option_map, replicate}
use Rattle.std.specs.List.{flat_map, list_all, slice_split, join_with_byte, AllByRecursion}
use Rattle.std.proofs.lemmas.Bool.{and_from, le-ltb, lt-leb, lt-ltb, eq-eqb, ne_eqb}
use Rattle.std.proofs.lemmas.List.{append-nil, length-append, map-append}
use Rattle.std.proofs.lemmas.List.Concat.{flat_map-append}
use Rattle.std.proofs.lemmas.List.Elements.{All-append, All-from_recursion, All-replicate, recursion_from_All}
use Rattle.std.proofs.lemmas.List.Folds.{flat_map-map, list_all-append}
use Rattle.std.proofs.lemmas.List.Splits.{join_with_byte-slice_split}
use Rattle.std.proofs.lemmas.Slice.Eq.{bytes_eq-Decides}
use Rattle.firm_rules.specs.Book.{Book}
use Rattle.firm_rules.specs.Names.{is_name}
use Rattle.firm_text.specs.Commands.{◌>>=◌}
use Rattle.firm_text.specs.Lines.{is_line_feed}
use Rattle.firm_text.specs.declared.headings.Heading.{Heading}
use Rattle.firm_text.specs.declared.headings.Heading.TheVariants.{Plain, Extended}
use Rattle.firm_text.specs.Registers.{AreApart, IsCounted, most_admissions}
use Rattle.firm_text.specs.Rosters.{most_places}
use Rattle.firm_saved.specs.Saved.{AreSoundSaved, IsSoundPlace, IsSoundSaved, PlaceFits, SavedIs, entry_of, filled}
use Rattle.firm_saved.specs.Saved.{register_of, saved_with, tenant_name, untouched}
use Rattle.firm_rules.specs.SlotCosts.{LaterSlotsCostNoLess}
use Rattle.firm_rules.specs.SoundBook.{IsSoundBook, book_fault}
use Rattle.firm_saved.specs.StateText.{book_rows, first_line, given_places, place_rows, row_text, state_rows}
use Rattle.firm_saved.specs.StateText.{state_text}
use Rattle.firm_saved.specs.StateText.{tenant_rows}
use Rattle.firm_saved.specs.declared.faults.FaultKind.{FaultKind}
use Rattle.firm_saved.specs.declared.faults.FaultKind.TheVariants as fault
use Rattle.firm_saved.specs.declared.faults.StateFault.{StateFault}
use Rattle.firm_saved.specs.declared.rows.Row.{Row}
use Rattle.firm_saved.specs.declared.rows.Row.TheVariants as row
use Rattle.firm_saved.specs.declared.saved.SavedPlace.{SavedPlace}
use Rattle.firm_saved.specs.Drafts.{Draft, TenantDraft, closed, empty_draft, finished, has_tenant, kind_of}
use Rattle.firm_saved.specs.Drafts.{new_tenant, place_fault, tenant_fault, unless, whole}
use Rattle.firm_saved.specs.inner.Kept.{AreSoundPlaces, WasGiven}
use Rattle.firm_saved.specs.Reading.{fault_at, headed_state, pieces_state, rows_from, state_of}
use Rattle.firm_saved.proofs.Clean.{above, ended_line, lines_split}
use Rattle.firm_saved.proofs.Complete.{book_free, costs_run, draft_at, dsteps, jobs_run, machines_run, middle}
use Rattle.firm_saved.proofs.Complete.{rounds_read, tasks_run, unless_none}
use Rattle.firm_saved.proofs.LineRows.{IsRow, line_clean, row_back}
use Rattle.firm_saved.proofs.RowFacts.{places_inner, rows_are}
use Rattle.firm_saved.proofs.RowFits.{RowFits, places_fit}
use Rattle.firm_saved.proofs.Places.{all_given, all_left, given_back, given_sound, not_seated, pairs_middle, some_given}
use Rattle.firm_saved.proofs.Places.{state_filled}
use Rattle.firm_saved.proofs.Runs.{AreRead, lines_read, lines_run, row_line, cond_ok}
use Rattle.firm_saved.proofs.Steps.{IsOrderly, bind_ok, closed_given, closed_rows, ok_is}

-- ---- what is read is the text of its state

empty_orderly : IsOrderly empty_draft
empty_orderly = record { given = tt; some = λ n is. absurd cc; placed = λ _. refl; bare = λ t is none. absurd cc }

-- lines, each with its line feed
joined : (lines : List (List ℕ)) → join_with_byte 10 (lines ++ [] ∷ []) ≡ flat_map ended_line lines
joined [] = refl
joined (line ∷ []) = sym (append-nil (line ++ 10 ∷ []))
joined (line ∷ next ∷ lines) =
    ap (λ (l : List ℕ). line ++ (10 ∷ l)) (joined (next ∷ lines))
    ∙ sym (append_assoc line (10 ∷ []) (flat_map ended_line (next ∷ lines)))

-- the text of some rows, with the first and the last line
abbrev rows_text : Heading → List Row → ℕ → List ℕ
rows_text heading rows count =
    first_line heading ++ 10 ∷ [] ++ flat_map row_text rows ++ row_text (row.Rows count)

lines_text : (heading : Heading) (rows : List Row) (count : ℕ)
    → flat_map ended_line (first_line heading ∷ (map row_line rows ++ row_line (row.Rows count) ∷ []))
    ≡ rows_text heading rows count
lines_text heading rows count =
    ap (λ (l : List ℕ). ended_line (first_line heading) ++ l)
    (flat_map-append ended_line (map row_line rows) (row_line (row.Rows count) ∷ [])
    ∙ ap (λ (l : List ℕ). l ++ (row_text (row.Rows count) ++ [])) (flat_map-map ended_line row_line rows)
    ∙ ap (λ (l : List ℕ). flat_map row_text rows ++ l) (append-nil (row_text (row.Rows count))))
    ∙ sym (append_assoc (ended_line (first_line heading)) (flat_map row_text rows) (row_text (row.Rows count)))

-- the rows that were read are those of the places
record AreOfPlaces (heading : Heading) (rest : List (List ℕ)) (places : List SavedPlace) : Type 0 where
  read : AreRead heading 2 empty_draft rest places
  are : state_rows places ≡ read.rows
  whole : filled (given_places places) ≡ places

of_places : (heading : Heading) (rest : List (List ℕ)) (places : List SavedPlace)
    → rows_from heading 2 empty_draft rest ≡ Ok places → AreOfPlaces heading rest places
of_places heading rest places read =
    let r = lines_read heading 2 empty_draft rest places empty_orderly read in
    let given = bind_ok (whole r.last)
    (λ places. cond (nat_lt 0 (length places)) (Ok (filled places)) (Err fault.Places)) places r.done in
    let ends = cond_ok (nat_lt 0 (length given.0)) (Ok (filled given.0)) fault.Places places given.2 in
    let is : filled given.0 ≡ places = ok_is {E = FaultKind} (filled given.0) places ends.1 in
    let back : given_places places ≡ given.0 =
    ap given_places (sym is)
    ∙ given_back given.0 (most_places - length given.0) (closed_given r.last given.0 r.orderly given.1) in
    record {
      read = r;
      are = ap (flat_map place_rows) back
          ∙ closed_rows r.last.before r.last.present r.last.tenant given.0 r.orderly.placed given.1 ∙ r.taken;
      whole = ap filled back ∙ is;
    }

-- the tenants that were read fit the heading
pub rows_fit : (heading : Heading) (rest : List (List ℕ)) (places : List SavedPlace)
    → rows_from heading 2 empty_draft rest ≡ Ok places → All (PlaceFits heading) places
rows_fit heading rest places read =
    let r = of_places heading rest places read in
    let given : List SavedPlace = given_places places in
    let count : ℕ = most_places - length given in
    subst (All (PlaceFits heading)) r.whole
    (All-append (PlaceFits heading) given (replicate count untouched)
    (All-from_recursion (PlaceFits heading) given
    (places_fit heading given (subst (AllByRecursion (RowFits heading)) (sym r.are) r.read.fit)))
    (All-replicate (PlaceFits heading) count untouched tt))

pub text_is : (text : List ℕ) (saved : SavedIs) → state_of text ≡ Ok saved → text ≡ state_text saved
text_is text saved e = by (slice_split is_line_feed text) refl e
  where
    state : (heading : Heading) (rest : List (List ℕ)) (places : List SavedPlace)
        → rows_from heading 2 empty_draft rest ≡ Ok places
        → first_line heading ∷ rest ≡ slice_split is_line_feed text → text ≡ state_text (saved_with heading places)
    state heading rest places read cut =
        let of = of_places heading rest places read in
        let r = of.read in
        let count : 2 + length r.rows - 2 ≡ length r.rows = omega arith in
        let first : List ℕ = first_line heading in
        sym (join_with_byte-slice_split 10 text)
        ∙ ap (join_with_byte 10) (sym cut ∙ ap (λ (l : List (List ℕ)). first ∷ l) r.cut)
        ∙ ap (λ n. join_with_byte 10 (first ∷ (map row_line r.rows ++ row_line (row.Rows n) ∷ [] ∷ []))) count
        ∙ ap (λ (l : List (List ℕ)). join_with_byte 10 (first ∷ l))
        (sym (append_assoc (map row_line r.rows) (row_line (row.Rows (length r.rows)) ∷ []) ([] ∷ [])))
        ∙ joined (first ∷ (map row_line r.rows ++ row_line (row.Rows (length r.rows)) ∷ []))
        ∙ lines_text heading r.rows (length r.rows)
        ∙ ap (λ (rows : List Row). rows_text heading rows (length rows)) (sym of.are)

    headed : (heading : Heading) (first : List ℕ) (rest : List (List ℕ)) → slice_split is_line_feed text ≡ first ∷ rest
        → bytes_eq first (first_line heading) ≡ true → headed_state heading rest ≡ Ok saved → text ≡ state_text saved
    headed heading first rest is same e =
        let read = bind_ok (rows_from heading 2 empty_draft rest)
        (λ places. let r : Result SavedIs StateFault = Ok (saved_with heading places) in r) saved e in
        let front = (bytes_eq-Decides first (first_line heading)).0 same in
        state heading rest read.0 read.1 (sym (is ∙ ap (λ (f : List ℕ). f ∷ rest) front))
        ∙ ap state_text (ok_is {E = StateFault} (saved_with heading read.0) saved read.2)

    by : (pieces : List (List ℕ)) → slice_split is_line_feed text ≡ pieces → pieces_state pieces ≡ Ok saved
        → text ≡ state_text saved
    by [] is e = absurd cc
    by (first ∷ rest) is e =
        told (bytes_eq first (first_line Plain)) refl (bytes_eq first (first_line Extended)) refl e
      where
        told : (plain : Bool) → bytes_eq first (first_line Plain) ≡ plain → (extended : Bool)
            → bytes_eq first (first_line Extended) ≡ extended
            → cond plain (headed_state Plain rest)
            (cond extended (headed_state Extended rest) (Err (fault_at 1 fault.Version))) ≡ Ok saved
            → text ≡ state_text saved
        told true same extended other e = headed Plain first rest is same e
        told false plain true same e = headed Extended first rest is same e
        told false plain false other e = absurd cc

-- ---- the text of a state is read as it

-- the draft after a place is read into another draft
abbrev drafted : Option (List ℕ × Book) → Option TenantDraft
drafted None = None
drafted (Some tenant) =
    Some (record {
      name = tenant.0;
      rows = tenant.1.rows;
      costs = Some tenant.1.costs;
      given = tenant.1.given;
      rounds = rounds_read (length tenant.1.costs) tenant.1.rows.tasks;
    })

abbrev draft_after : List SavedPlace → SavedPlace → Draft
draft_after done place =
    record { before = done; present = Some place.admissions; tenant = drafted place.tenant }

-- a place that may follow some others
record MayFollow (done : List SavedPlace) (place : SavedPlace) : Type 0 where
  room : length done < most_places
  counted : IsCounted (entry_of place)
  given : WasGiven place
  sound : IsSoundPlace place
  free : (name : List ℕ) → tenant_name place ≡ Some name → has_tenant done name ≡ false

whole_after : (done : List SavedPlace) (place : SavedPlace) → IsSoundPlace place
    → whole (draft_after done place) ≡ Ok (done ++ place ∷ [])
whole_after done place sound = by place.tenant refl
  where
    by : (tenant : Option (List ℕ × Book)) → place.tenant ≡ tenant
        → whole (draft_after done place) ≡ Ok (done ++ place ∷ [])
    by None is =
        ap (λ (t : Option (List ℕ × Book)). closed done (Some place.admissions) (drafted t)) is
        ∙ ap (λ (t : Option (List ℕ × Book)).
        let r : Result (List SavedPlace) FaultKind = Ok
        (done ++ record { admissions = place.admissions; tenant = t } ∷ []) in r)
        (sym is)
    by (Some tenant) is =
        let book_sound = (subst (λ t. IfSome t
        (λ (x : List ℕ × Book). (is_name x.0 ≡ true) × IsSoundBook x.1)) is sound).1 in
        ap (λ (t : Option (List ℕ × Book)). closed done (Some place.admissions) (drafted t)) is
        ∙ ap (λ (r : Result (List ℕ × Book) FaultKind). r >>= (λ tenant.
        let r : Result SavedPlace FaultKind = Ok (record { admissions = place.admissions; tenant = Some tenant }) in r)
        >>= (λ place. let r : Result (List SavedPlace) FaultKind = Ok (done ++ place ∷ []) in r))
        (unless_none (option_map kind_of (book_fault tenant.1)) tenant (book_free tenant.1 book_sound))
        ∙ ap (λ (t : Option (List ℕ × Book)).
        let r : Result (List SavedPlace) FaultKind = Ok
        (done ++ record { admissions = place.admissions; tenant = t } ∷ []) in r)
        (sym is)

-- the rows of a tenant's book
book_run : LaterSlotsCostNoLess → (done : List SavedPlace) (admissions : ℕ) (name : List ℕ) (book : Book)
    (tail : List Row) → IsSoundBook book → has_tenant done name ≡ false
    → dsteps (record { before = done; present = Some admissions; tenant = None }) (book_rows name book ++ tail)
    ≡ dsteps (record { before = done; present = Some admissions; tenant = drafted (Some (name, book)) }) tail
book_run rises done admissions name book tail sound free =
    let start : Draft = record { before = done; present = Some admissions; tenant = None } in
    let seated : Draft =
    record start { tenant = Some (new_tenant name book.rows.limits book.given) } in
    let at = draft_at name book.costs book.given book.rows sound.rows sound.form sound.count sound.rounds
    sound.standing done (Some admissions) in
    let fault_none : tenant_fault start name book.rows.limits book.given ≡ None =
    rw (free, le-ltb book.rows.limits.life book.given sound.life) refl in
    let rows : List Row = map row.Machine book.rows.machines ++ map row.Job book.rows.jobs
    ++ map row.Task book.rows.tasks ++ tail in
    ap (λ (r : Result Draft FaultKind). r >>= λ after. dsteps after (row.Costs book.costs ∷ rows))
    (unless_none (tenant_fault start name book.rows.limits book.given) seated fault_none)
    ∙ costs_run name book.costs book.given book.rows sound.rows sound.form sound.count sound.rounds
    sound.standing done (Some admissions) rows
    ∙ ap (dsteps (at [] [] []))
    (append_assoc (map row.Machine book.rows.machines ++ map row.Job book.rows.jobs) (map row.Task book.rows.tasks) tail
    ∙ append_assoc (map row.Machine book.rows.machines) (map row.Job book.rows.jobs)
    (map row.Task book.rows.tasks ++ tail))
    ∙ machines_run name book.costs book.given book.rows sound.rows sound.form sound.count sound.rounds
    sound.standing done (Some admissions) [] book.rows.machines
    (map row.Job book.rows.jobs ++ (map row.Task book.rows.tasks ++ tail)) refl
    ∙ jobs_run name book.costs book.given book.rows sound.rows sound.form sound.count sound.rounds
    sound.standing done (Some admissions) [] book.rows.jobs
    (map row.Task book.rows.tasks ++ tail) refl
    ∙ tasks_run name book.costs book.given book.rows sound.rows sound.form sound.count sound.rounds
    sound.standing done (Some admissions) rises [] book.rows.tasks tail refl

-- the rows of a place
place_run : LaterSlotsCostNoLess → (d : Draft) (done : List SavedPlace) (place : SavedPlace) (tail : List Row)
    → whole d ≡ Ok done → MayFollow done place
    → dsteps d (place_rows place ++ tail) ≡ dsteps (draft_after done place) tail
place_run rises d done place tail is follows =
    let opening : Draft = record { before = done; present = Some place.admissions; tenant = None } in
    let room : place_fault done place.admissions ≡ None =
    rw (
      lt-leb most_places (length done) follows.room,
      ne_eqb place.admissions 0 (λ none. let some = follows.given in omega arith),
      le-ltb most_admissions place.admissions follows.counted.0,
    ) refl in
    ap (λ (r : Result (List SavedPlace) FaultKind). (r >>= λ places.
    unless (place_fault places place.admissions)
    (let x : Draft = record { before = places; present = Some place.admissions; tenant = None } in x))
    >>= λ after. dsteps after (tenant_rows place.tenant ++ tail)) is
    ∙ ap (λ (r : Result Draft FaultKind). r >>= λ after. dsteps after (tenant_rows place.tenant ++ tail))
    (unless_none (place_fault done place.admissions) opening room)
    ∙ by place.tenant refl
  where
    by : (tenant : Option (List ℕ × Book)) → place.tenant ≡ tenant
        → dsteps (record { before = done; present = Some place.admissions; tenant = None })
        (tenant_rows place.tenant ++ tail)
        ≡ dsteps (draft_after done place) tail
    by None is = rw is refl
    by (Some tenant) is =
        let sound = subst (λ t. IfSome t
        (λ (x : List ℕ × Book). (is_name x.0 ≡ true) × IsSoundBook x.1)) is follows.sound in
        rw is (book_run rises done place.admissions tenant.0 tenant.1 tail sound.1
        (follows.free tenant.0 (ap (option_map (λ (x : List ℕ × Book). x.0)) is)))

-- what the rows of some places behind others make
record AreTaken (d : Draft) (rows : List Row) (places : List SavedPlace) : Type 0 where
  last : Draft
  taken : dsteps d rows ≡ Ok last
  whole_is : whole last ≡ Ok places

follows_at : (done rest : List SavedPlace) (place : SavedPlace) → AreSoundPlaces (done ++ place ∷ rest)
    → WasGiven place → MayFollow done place
follows_at done rest place sound given =
    let wide : register_of (done ++ place ∷ rest) ≡ register_of done ++ entry_of place ∷ register_of rest =
    map-append entry_of done (place ∷ rest) in
    record {
      room = omega (arith, sound.few, length-append done (place ∷ rest));
      counted = middle IsCounted (register_of done) (register_of rest) (entry_of place)
          (subst (All IsCounted) wide sound.counted);
      given = given;
      sound = middle IsSoundPlace done rest place sound.books;
      free = λ name is. not_seated done place name
          (recursion_from_All (λ entry. AreApart entry (entry_of place)) (register_of done)
          (pairs_middle AreApart (register_of done) (register_of rest) (entry_of place)
          (subst (AllPairs AreApart) wide sound.apart))) is;
    }

places_run : LaterSlotsCostNoLess → (d : Draft) (done places : List SavedPlace) → whole d ≡ Ok done
    → AreSoundPlaces (done ++ places) → AllByRecursion WasGiven places
    → AreTaken d (flat_map place_rows places) (done ++ places)
places_run rises d done [] is sound given =
    record { last = d; taken = refl; whole_is = is ∙ ap Ok (sym (append-nil done)) }
places_run rises d done (place ∷ places) is sound given =
    let follows = follows_at done places place sound given.0 in
    let regrouped : done ++ place ∷ places
    ≡ (done ++ place ∷ []) ++ places = sym (append_assoc done (place ∷ []) places) in
    let others = places_run rises (draft_after done place) (done ++ place ∷ []) places
    (whole_after done place follows.sound) (subst AreSoundPlaces regrouped sound) given.1 in
    record {
      last = others.last;
      taken = place_run rises d done place (flat_map place_rows places) is follows ∙ others.taken;
      whole_is = others.whole_is ∙ ap Ok (sym regrouped);
    }

-- the lines of a state
abbrev state_lines : Heading → List Row → List (List ℕ)
state_lines heading rows = first_line heading ∷ (map row_line rows ++ row_line (row.Rows (length rows)) ∷ [])

first_clean : (heading : Heading) → above 10 (first_line heading) ≡ true
first_clean Plain = refl
first_clean Extended = refl

lines_clean : (heading : Heading) (rows : List Row) → AllByRecursion (IsRow heading) rows
    → list_all (above 10) (map row_line rows) ≡ true
lines_clean heading [] each = refl
lines_clean heading (r ∷ rows) each =
    and_from (above 10 (row_line r)) (list_all (above 10) (map row_line rows)) (line_clean heading r each.0)
    (lines_clean heading rows each.1)

state_split : (heading : Heading) (rows : List Row) → AllByRecursion (IsRow heading) rows → length rows < 10 ^ 13
    → slice_split is_line_feed (rows_text heading rows (length rows)) ≡ state_lines heading rows ++ [] ∷ []
state_split heading rows each few =
    let last : List ℕ = row_line (row.Rows (length rows)) in
    ap (slice_split is_line_feed) (sym (lines_text heading rows (length rows)))
    ∙ lines_split (state_lines heading rows)
    (and_from (above 10 (first_line heading)) (list_all (above 10) (map row_line rows ++ last ∷ []))
    (first_clean heading)
    (list_all-append (above 10) (map row_line rows) (last ∷ [])
    ∙ and_from (list_all (above 10) (map row_line rows)) (list_all (above 10) (last ∷ []))
    (lines_clean heading rows each)
    (and_from (above 10 last) true (line_clean heading (row.Rows (length rows)) few) refl)))

-- the places of the lines after the first
lines_state : LaterSlotsCostNoLess → (heading : Heading) (places : List SavedPlace) → AreSoundSaved places
    → All (PlaceFits heading) (given_places places)
    → rows_from heading 2 empty_draft
    ((map row_line (state_rows places) ++ row_line (row.Rows (length (state_rows places))) ∷ []) ++ [] ∷ [])
    ≡ Ok places
lines_state rises heading places sound fit =
    let given : List SavedPlace = given_places places in
    let rows : List Row = state_rows places in
    let good = given_sound places sound in
    let facts = rows_are heading given good fit in
    let run = places_run rises empty_draft [] given refl good (all_given places sound.in_order.before) in
    let n : ℕ = length rows in
    let tail : List (List ℕ) = row_line (row.Rows n) ∷ [] ∷ [] in
    let count : 2 + n - 2 ≡ n = omega arith in
    let done : finished run.last ≡ Ok places =
    ap (λ (r : Result (List SavedPlace) FaultKind). r >>= λ places.
    cond (nat_lt 0 (length places))
    (let x : Result (List SavedPlace) FaultKind = Ok (filled places) in x) (Err fault.Places)) run.whole_is
    ∙ ap (λ (b : Bool). cond b (let x : Result (List SavedPlace) FaultKind = Ok (filled given) in x) (Err fault.Places))
    (lt-ltb 0 (length given) (some_given places sound.in_order.first))
    ∙ ap Ok (state_filled places sound) in
    ap (λ (l : List (List ℕ)). rows_from heading 2 empty_draft l)
    (append_assoc (map row_line rows) (row_line (row.Rows n) ∷ []) ([] ∷ []))
    ∙ lines_run heading 2 empty_draft rows run.last (row_line (row.Rows n)) ([] ∷ []) facts.0 (places_inner given)
    run.taken
    ∙ last_line run.last n facts.1 done
  where
    last_line : (d : Draft) (n : ℕ) → n < 10 ^ 13 → finished d ≡ Ok places
        → rows_from heading (2 + n) d (row_line (row.Rows n) ∷ [] ∷ []) ≡ Ok places
    last_line d n few done =
        let counted : eqb n (2 + n - 2) ≡ true = eq-eqb n (2 + n - 2) (omega arith) in
        rw (row_back heading (row.Rows n) few, counted, done) refl

-- the first line says which heading it is
headed_back : (heading : Heading) (rest : List (List ℕ))
    → pieces_state (first_line heading ∷ rest) ≡ headed_state heading rest
headed_back Plain rest = refl
headed_back Extended rest = refl

-- the text of a sound state is read as this state
pub state_back : LaterSlotsCostNoLess → (saved : SavedIs) → IsSoundSaved saved → state_of (state_text saved) ≡ Ok saved
state_back rises saved sound =
    let places : List SavedPlace = saved.places in
    let heading : Heading = saved.heading in
    let rows : List Row = state_rows places in
    let whole : given_places places ++ replicate (most_places - length (given_places places)) untouched ≡ places =
    state_filled places sound.places in
    let fit = all_left (PlaceFits heading) (given_places places)
    (replicate (most_places - length (given_places places)) untouched)
    (subst (All (PlaceFits heading)) (sym whole) sound.fit) in
    let facts = rows_are heading (given_places places) (given_sound places sound.places) fit in
    ap pieces_state (state_split heading rows facts.0 facts.1)
    ∙ headed_back heading ((map row_line rows ++ row_line (row.Rows (length rows)) ∷ []) ++ [] ∷ [])
    ∙ ap (λ (r : Result (List SavedPlace) StateFault).
    r >>= λ places. let x : Result SavedIs StateFault = Ok (saved_with heading places) in x)
    (lines_state rises heading places sound.places fit)
