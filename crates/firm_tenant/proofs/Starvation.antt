-- A task that is there throughout is placed within its longest wait.
use Rattle.std.proofs.Common.{◌≡◌, ℕ, zero, suc, ◌+◌, ◌-◌, ◌<◌, ◌≤◌, Bool, true, false, cond, ◌||◌, List}
use Rattle.std.proofs.Common.{[], ◌∷◌, length, count_by, refl, sym, ap, subst, ◌∙◌, arith, ⊎_elim}
use Rattle.std.proofs.Common.{Some}
use Rattle.std.specs.Prelude.{nat_lt, slice_get, slice_index, if◌then◌else◌}
use Rattle.std.specs.List.{All, list_any}
use Rattle.std.proofs.Math.Nat.{le-max_right}
use Rattle.std.proofs.lemmas.Bool.{cases_Bool, cases_lt, ltb-true, ltb-false}
use Rattle.std.proofs.lemmas.List.{length-map, get_or-map}
use Rattle.std.proofs.lemmas.List.Elements.{All-head, All-tail}
use Rattle.std.proofs.lemmas.List.Sums.{sum_by-cons}
use Rattle.std.proofs.lemmas.Option.{slice_get_within, get_or_from_slice_get}
use Rattle.firm_rules.specs.Book.{Book, TenantRows, task_names}
use Rattle.firm_rules.specs.Names.{is_among}
use Rattle.firm_rules.specs.Limits.{TenantLimits}
use Rattle.firm_rules.specs.Placement.{IsPlace, slot_cost}
use Rattle.firm_rules.specs.Round.{IsRound, case_of, round_placement, rows_after, TheRoundIsTheFirst}
use Rattle.firm_rules.specs.Keeping.{AreSoundInForm, SoundRowsStaySound}
use Rattle.firm_rules.specs.Starvation.{WeighAtMost, long_wait, IsPassedOver, LongWaitsYieldToLongWaits}
use Rattle.firm_rules.specs.declared.book.Machine.{Machine}
use Rattle.firm_rules.specs.declared.commands.Command.{Command}
use Rattle.firm_rules.specs.declared.rounds.Choice.{Choice}
use Rattle.firm_rules.specs.declared.rounds.Choice.TheVariants.{On, Wait}
use Rattle.firm_tenant.specs.Step.{step}
use Rattle.firm_tenant.specs.Starvation.{IsInRange, books_through, is_round, rounds_among, had_machine, runs_after}
use Rattle.firm_tenant.specs.Starvation.{HasTask, NoTaskStarves}
use Rattle.firm_tenant.proofs.Calm.{HasWaited, count_waits, one_if, IsCalm, step-goes}
use Rattle.firm_tenant.proofs.Counting.{runs, waited-on, fewer-after, IsLeft, left-waiting, some-wait, few-waits}

module _ (first : TheRoundIsTheFirst) (yield : LongWaitsYieldToLongWaits) (stay : SoundRowsStaySound)
    (name : List ℕ) (most : ℕ) (limits : TenantLimits) where
  abbrev long : ℕ
  long = long_wait limits most

  -- after this many rounds, `with` of them over a book with a machine, that left the task waiting
  record IsDue (rows : TenantRows) (rounds with : ℕ) : Type 0 where
    well : AreSoundInForm rows
    same : rows.limits ≡ limits
    within : with ≤ rounds
    waited : HasWaited name rounds rows.tasks
    left : (past : ℕ) → past + long ≡ rounds → count_waits past rows.tasks + with ≤ limits.nodes + long

  -- at first all tasks may have waited for longer
  early : (rows : TenantRows) (rounds with past : ℕ) → AreSoundInForm rows → rows.limits ≡ limits → with ≤ rounds
      → past + long ≡ rounds → rounds ≤ long → count_waits past rows.tasks + with ≤ limits.nodes + long
  early rows rounds with past well same within is soon =
      omega (
        arith,
        within,
        is,
        soon,
        few-waits past rows.tasks,
        well.sound.fits.nodes,
        ap (λ (l : TenantLimits). l.nodes) same,
      )

  calm : (before after : TenantRows) (rounds with : ℕ) → IsDue before rounds with → IsCalm name before after
      → IsDue after rounds with
  calm before after rounds with due kept =
      let same : after.limits ≡ limits = kept.limits ∙ due.same in
      record {
        well = kept.well;
        same = same;
        within = due.within;
        waited = kept.waited rounds due.waited;
        left = λ past is. ⊎_elim
            (λ (some : 0 < past). omega (arith, due.left past is, kept.fewer past (omega (arith, some))))
            (λ (none : past ≤ 0). early after rounds with past kept.well same due.within is (omega (arith, is, none)))
            (cases_lt 0 past);
      }

  module _ (rows : TenantRows) (rounds with : ℕ) (due : IsDue rows rounds with)
      (there : is_among (task_names rows) name ≡ true) (light : WeighAtMost most rows)
      (few : suc rounds ≤ rows.limits.patience) where
    abbrev placement : List Choice
    placement = round_placement (case_of rows)

    abbrev after : TenantRows
    after = rows_after rows placement

    round : IsRound (case_of rows) placement
    round = (first (case_of rows)).is

    one-each : length placement ≡ length rows.tasks
    one-each = round.legal.one_each ∙ length-map rows.tasks _

    machines : length (case_of rows).slots ≡ length rows.machines
    machines = length-map rows.machines (λ (m : Machine). m.slots)

    abbrev place : ℕ
    place = cond (nat_lt 0 (length rows.machines)) 1 0

    -- past a long wait as many tasks as machines, at least, wait for long no more
    fewer : (past : ℕ) → past + long ≡ rounds → list_any (runs name) after.tasks ≡ false
        → count_waits (suc past) after.tasks + place ≤ count_waits past rows.tasks
    fewer past is none =
        ⊎_elim
        (λ (some : nat_lt 0 (length rows.machines) ≡ true).
        let l : 0 < length (case_of rows).slots = omega (arith, machines, ltb-true 0 (length rows.machines) some) in
        let passed : IsLeft rows name rounds rows.tasks placement =
        left-waiting rows name rounds rows.tasks placement one-each due.waited there none in
        let over : IsPassedOver rows placement most passed.place passed.task =
        record {
          there = passed.there;
          long = omega (arith, is, passed.long, ap (λ (x : TenantLimits). long_wait x most) due.same);
          waits = passed.waits;
        } in
        let gives = yield rows placement most due.well.sound due.well.form light round passed.place passed.task over in
        let any : Machine = record { name = []; slots = 0 } in
        let slots : 1 ≤ slice_index (case_of rows).slots 0 =
        omega (
          arith,
          get_or-map (λ (m : Machine). m.slots) rows.machines 0 any 0 (omega (arith, l, machines)),
          (due.well.sound.slots 0 any (omega (arith, l, machines))).0,
        ) in
        omega (
          arith,
          fewer-after rows 0 past rows.tasks placement one-each (λ at task beside goes.
              omega (
                arith,
                is,
                passed.long,
                (gives.1 at 0 task beside goes).1,
                le-max_right (slot_cost limits.spread 63) (most + limits.churn),
                ap (λ (x : TenantLimits). x.remote) due.same,
              )),
          gives.0 0 l,
          slots,
          ap one_if some,
        ))
        (λ (other : nat_lt 0 (length rows.machines) ≡ false).
        omega (
          arith,
          fewer-after rows 0 past rows.tasks placement one-each (λ at task beside goes.
              absurd (nowhere at (ltb-false 0 (length rows.machines) other) goes)),
          ap one_if other,
        ))
        (cases_Bool (nat_lt 0 (length rows.machines)))
      where
        nowhere : (at : ℕ) → length rows.machines ≤ 0 → slice_get placement at ≡ Some (On 0) → ⊥
        nowhere at none goes =
            let below : 0 < length (case_of rows).slots =
            subst (IsPlace (length (case_of rows).slots)) (get_or_from_slice_get placement at (On 0) Wait goes)
            (round.legal.places at Wait (slice_get_within placement at (On 0) goes)) in
            omega (arith, below, machines, none)

    goes-on : list_any (runs name) after.tasks ≡ false → IsDue after (suc rounds) (with + place)
    goes-on none =
        record {
          well = well;
          same = due.same;
          within = within;
          waited = waited-on rows name rounds rows.tasks placement few due.waited none;
          left = λ past is. ⊎_elim
              (λ (some : 0 < past). later past is some)
              (λ (zero : past ≤ 0). early after (suc rounds) (with + place) past well due.same within is
              (omega (arith, is, zero)))
              (cases_lt 0 past);
        }
      where
        well : AreSoundInForm after
        well = (stay rows due.well).placed placement round.legal

        one : place ≤ 1
        one = if-most (nat_lt 0 (length rows.machines))
          where
            if-most : (b : Bool) → one_if b ≤ 1
            if-most true = omega arith
            if-most false = omega arith

        within : with + place ≤ suc rounds
        within = omega (arith, one, due.within)

        later : (past : ℕ) → past + long ≡ suc rounds → 0 < past
            → count_waits past after.tasks + (with + place) ≤ limits.nodes + long
        later zero is some = absurd (omega (arith, some))
        later (suc past) is some = omega (arith, fewer past (omega (arith, is)) none, due.left past (omega (arith, is)))

  abbrev IsPlaced : List (TenantRows × TenantRows) → Type 0
  IsPlaced rounds = list_any (runs_after name) rounds ≡ true

  -- this many rounds over a book with a machine are one too many
  over : (rows : TenantRows) (rounds with : ℕ) → IsDue rows rounds with → is_among (task_names rows) name ≡ true
      → long + limits.nodes ≤ with → ⊥
  over rows rounds with due there many =
      let past : ℕ = rounds - long in
      let is : past + long ≡ rounds = omega (arith, many, due.within) in
      omega (
        arith,
        many,
        due.left past is,
        some-wait name past rounds rows.tasks (omega (arith, is)) due.waited there,
      )

  -- a round that left the task waiting is one more that did
  next-due : (before after : TenantRows) (rounds with : ℕ) → IsDue before rounds with
      → is_among (task_names before) name ≡ true → WeighAtMost most before → suc rounds ≤ limits.patience
      → after ≡ rows_after before (round_placement (case_of before)) → runs_after name (before, after) ≡ false
      → IsDue after (suc rounds) (with + one_if (had_machine (before, after)))
  next-due before after rounds with due there light few is none =
      let more : ℕ = with + one_if (nat_lt 0 (length before.machines)) in
      subst (λ (rows : TenantRows). IsDue rows (suc rounds) more) (sym is)
      (goes-on before rounds with due there light (omega (arith, few, ap (λ (l : TenantLimits). l.patience) due.same))
      (ap (λ (rows : TenantRows). list_any (runs name) rows.tasks) (sym is) ∙ none))

  abbrev next : Book → Command × Bool → Book
  next book given = (step book given.0 given.1).1

  abbrev goes_round : Book → Command × Bool → Bool
  goes_round book given = is_round (step book given.0 given.1).0.outcome

  abbrev one : Book → Command × Bool → TenantRows × TenantRows
  one book given = (book.rows, (next book given).rows)

  -- the rounds that follow a command, with its own, if it is one
  rounds-with : (book : Book) (given : Command × Bool) (rest : List (Command × Bool)) → goes_round book given ≡ true
      → rounds_among book (given ∷ rest) ≡ one book given ∷ rounds_among (next book given) rest
  rounds-with book given rest is =
      let after : List (TenantRows × TenantRows) = rounds_among (next book given) rest in
      ap (λ (b : Bool). if b then one book given ∷ after else after) is

  rounds-without : (book : Book) (given : Command × Bool) (rest : List (Command × Bool)) → goes_round book given ≡ false
      → rounds_among book (given ∷ rest) ≡ rounds_among (next book given) rest
  rounds-without book given rest is =
      let after : List (TenantRows × TenantRows) = rounds_among (next book given) rest in
      ap (λ (b : Bool). if b then one book given ∷ after else after) is

  placed : (book : Book) (commands : List (Command × Bool)) (rounds with : ℕ) → IsDue book.rows rounds with
      → All (λ (given : Command × Bool). IsInRange given.0) commands
      → All (HasTask name most) (books_through book commands)
      → long + limits.nodes ≤ with + count_by had_machine (rounds_among book commands)
      → rounds + length (rounds_among book commands) ≤ limits.patience
      → IsPlaced (rounds_among book commands)
  placed book [] rounds with due ranges stays many few =
      absurd (over book.rows rounds with due (All-head (HasTask name most) book [] stays).there (omega (arith, many)))
  placed book (given ∷ rest) rounds with due ranges stays many few =
      ⊎_elim
      (λ (other : (goes_round book given ≡ false) × IsCalm name book.rows (next book given).rows).
      let same = rounds-without book given rest other.0 in
      ap (list_any (runs_after name)) same
      ∙ placed (next book given) rest rounds with (calm book.rows (next book given).rows rounds with due other.1)
      ranges-left stays-left
      (omega (arith, many, ap (count_by had_machine) same))
      (omega (arith, few, ap (λ (l : List (TenantRows × TenantRows)). length l) same)))
      (λ (round : (goes_round book given ≡ true)
      × ((next book given).rows ≡ rows_after book.rows (round_placement (case_of book.rows)))).
      let same = rounds-with book given rest round.0 in
      let longer = ap (λ (l : List (TenantRows × TenantRows)). length l) same in
      ap (list_any (runs_after name)) same
      ∙ ⊎_elim
      (λ (yes : runs_after name (one book given) ≡ true).
      ap (λ (b : Bool). b || list_any (runs_after name) (rounds_among (next book given) rest)) yes)
      (λ (no : runs_after name (one book given) ≡ false).
      ap (λ (b : Bool). b || list_any (runs_after name) (rounds_among (next book given) rest)) no
      ∙ placed (next book given) rest (suc rounds) (with + one_if (had_machine (one book given)))
      (next-due book.rows (next book given).rows rounds with due has.there has.light (omega (arith, few, longer))
      round.1 no)
      ranges-left stays-left
      (omega (
        arith,
        many,
        ap (count_by had_machine) same,
        sum_by-cons (λ (r : TenantRows × TenantRows). one_if (had_machine r)) (one book given)
            (rounds_among (next book given) rest),
      ))
      (omega (arith, few, longer)))
      (cases_Bool (runs_after name (one book given))))
      (step-goes stay name book due.well has.there given.0 given.1
      (All-head (λ (g : Command × Bool). IsInRange g.0) given rest ranges))
    where
      has : HasTask name most book
      has = All-head (HasTask name most) book (books_through (next book given) rest) stays

      ranges-left : All (λ (g : Command × Bool). IsInRange g.0) rest
      ranges-left = All-tail (λ (g : Command × Bool). IsInRange g.0) given rest ranges

      stays-left : All (HasTask name most) (books_through (next book given) rest)
      stays-left = All-tail (HasTask name most) book (books_through (next book given) rest) stays

pub none_starves : TheRoundIsTheFirst → LongWaitsYieldToLongWaits → SoundRowsStaySound → NoTaskStarves
none_starves first yield stay book commands name most well ranges stays many few =
    placed first yield stay name most book.rows.limits book commands 0 0 (record {
      well = well;
      same = refl;
      within = omega arith;
      waited = λ k d l e. omega arith;
      left = λ past is. early first yield stay name most book.rows.limits book.rows 0 0 past well refl (omega arith) is
          (omega arith);
    }) ranges stays (omega (arith, many)) (omega (arith, few))
