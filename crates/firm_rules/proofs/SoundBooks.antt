-- Which books are sound.
use Rattle.std.proofs.Common.{◌≡◌, ℕ, pos, ◌≤◌, ◌&&◌, Bool, true, false, List, [], ◌∷◌, length, All, bytes_eq}
use Rattle.std.proofs.Common.{true≢false, refl, sym, ap, ◌∙◌, arith, ◌<◌, not, cond, ltb, Option, Some, None}
use Rattle.std.specs.Prelude.{nat_le}
use Rattle.std.specs.List.{IsDistinct, list_all}
use Rattle.std.proofs.lemmas.Bool.{and_from, and_parts, cond-true, cond-false, le-leb, leb-true, lt-ltb, le-ltb}
use Rattle.std.proofs.lemmas.List.Elements.{All-nil, All-cons, All-head, All-tail}
use Rattle.firm_rules.specs.Limits.{TenantLimits, are_limits, is_within, longest_patience}
use Rattle.firm_rules.specs.Book.{Book, opening_rows}
use Rattle.firm_rules.specs.Sound.{AreSound}
use Rattle.firm_rules.specs.SoundBook.{AreInForm, IsSoundBook, OpeningBooksAreSound, is_cost, most_cost, entry_count}
use Rattle.firm_rules.specs.SoundBook.{book_fault, may_stand, most_rounds, rounds_shown}
use Rattle.firm_rules.specs.declared.book.Task.{Task}
use Rattle.firm_rules.specs.declared.books.BookFault.{BookFault}
use Rattle.firm_rules.specs.declared.books.BookFault.TheVariants.{Cost, Life, Count, Rounds, Crowded}

-- what passes a test throughout
pub all-pass : {X : Type 0} (p : X → Bool) (xs : List X) → list_all p xs ≡ true → All (λ x. p x ≡ true) xs
all-pass p [] h = All-nil (λ x. p x ≡ true)
all-pass p (x ∷ xs) h =
    let both = and_parts (p x) (list_all p xs) h in
    All-cons (λ y. p y ≡ true) x xs both.0 (all-pass p xs both.1)

pub pass-all : {X : Type 0} (p : X → Bool) (xs : List X) → All (λ x. p x ≡ true) xs → list_all p xs ≡ true
pass-all p [] h = refl
pass-all p (x ∷ xs) h =
    and_from (p x) (list_all p xs) (All-head (λ y. p y ≡ true) x xs h)
    (pass-all p xs (All-tail (λ y. p y ≡ true) x xs h))

-- a number up to the most is a cost
pub cost-up_to : (n : ℕ) → n ≤ most_cost → is_cost (pos n) ≡ true
cost-up_to n h = le-leb n most_cost h

nil-differ : IsDistinct bytes_eq []
unfolding IsDistinct
nil-differ = tt

-- what a number within a range is
range : (low high number : ℕ) → is_within low high number ≡ true → (low ≤ number) × (number ≤ high)
range low high number h =
    let both = and_parts (nat_le low number) (nat_le number high) h in
    (leb-true low number both.0, leb-true number high both.1)

-- the rows of a tenant that has nothing yet
pub opening-sound : (limits : TenantLimits) → are_limits limits ≡ true → AreSound (opening_rows limits)
opening-sound limits within =
    let nodes : Bool = is_within 2 4096 limits.nodes in
    let arcs : Bool = is_within 0 65536 limits.arcs in
    let life : Bool = is_within 1 1099511627776 limits.life in
    let spread : Bool = is_within 0 1000 limits.spread in
    let churn : Bool = is_within 0 1000000 limits.churn in
    let remote : Bool = is_within 0 1000000 limits.remote in
    let patience : Bool = is_within 0 longest_patience limits.patience in
    let last = and_parts (nodes && arcs && life && spread && churn && remote) patience within in
    let sixth = and_parts (nodes && arcs && life && spread && churn) remote last.0 in
    let fifth = and_parts (nodes && arcs && life && spread) churn sixth.0 in
    let fourth = and_parts (nodes && arcs && life) spread fifth.0 in
    let third = and_parts (nodes && arcs) life fourth.0 in
    let first = and_parts nodes arcs third.0 in
    let most_nodes = range 2 4096 limits.nodes first.0 in
    record {
      machine_names_differ = nil-differ;
      job_names_differ = nil-differ;
      task_names_differ = nil-differ;
      jobs_there = λ k d l. absurd (omega arith);
      machines_there = λ k d l. absurd (omega arith);
      preferred_there = λ k d l. absurd (omega arith);
      preferred_few = λ k d l. absurd (omega arith);
      preferred_differ = λ k d l. absurd (omega arith);
      room = λ k d l. absurd (omega arith);
      waited = λ k d l. absurd (omega arith);
      fits = record { nodes = omega (arith, most_nodes.0); arcs = omega arith };
      slots = λ k d l. absurd (omega arith);
      weights = λ k d l. absurd (omega arith);
      most_nodes = most_nodes.1;
      most_arcs = (range 0 65536 limits.arcs first.1).1;
      most_spread = (range 0 1000 limits.spread fourth.1).1;
      most_churn = (range 0 1000000 limits.churn fifth.1).1;
      most_remote = (range 0 1000000 limits.remote sixth.1).1;
      most_patience = (range 0 longest_patience limits.patience last.1).1;
    }

pub opening-form : (limits : TenantLimits) → are_limits limits ≡ true → AreInForm (opening_rows limits)
opening-form limits within =
    record {
      limits = within;
      machines = λ k d l. absurd (omega arith);
      jobs = λ k d l. absurd (omega arith);
      tasks = λ k d l. absurd (omega arith);
      running = λ k d l. absurd (omega arith);
    }

pub openings : OpeningBooksAreSound
openings limits within =
    record {
      rows = opening-sound limits within;
      form = opening-form limits within;
      few_costs = omega arith;
      costs = λ k d l. absurd (omega arith);
      life = omega arith;
      count = omega arith;
      rounds = λ k d l. absurd (omega arith);
      standing = λ k d l. absurd (omega arith);
    }

-- a book of sound rows in form whose costs are few and pass the test, and whose count of commands is in its range
pub sound-book : (book : Book) → AreSound book.rows → AreInForm book.rows → length book.costs ≤ 8
    → list_all is_cost book.costs ≡ true → book.given ≤ book.rows.limits.life → entry_count book ≤ book.given
    → list_all (λ task. nat_le (rounds_shown task) (most_rounds book)) book.rows.tasks ≡ true
    → list_all (λ task. may_stand book.rows (most_rounds book) task task.machine) book.rows.tasks ≡ true
    → IsSoundBook book
sound-book book sound form few costs life count rounds standing =
    record {
      rows = sound;
      form = form;
      few_costs = few;
      costs = all-pass is_cost book.costs costs;
      life = life;
      count = count;
      rounds = λ k d l. leb-true _ _ (all-pass (λ (task : Task). nat_le (rounds_shown task) (most_rounds book))
          book.rows.tasks rounds k d l);
      standing = all-pass (λ (task : Task). may_stand book.rows (most_rounds book) task task.machine) book.rows.tasks
          standing;
    }

-- one whose tasks show more rounds than there may have been is not sound
pub other-rounds : (book : Book)
    → list_all (λ task. nat_le (rounds_shown task) (most_rounds book)) book.rows.tasks ≡ false → IsSoundBook book → ⊥
other-rounds book failed sound =
    true≢false (sym (pass-all (λ (task : Task). nat_le (rounds_shown task) (most_rounds book)) book.rows.tasks
    (λ k d l. le-leb _ _ (sound.rounds k d l))) ∙ failed)

-- nor is one with a task that no round may have left where it runs
pub other-standing : (book : Book)
    → list_all (λ task. may_stand book.rows (most_rounds book) task task.machine) book.rows.tasks ≡ false
    → IsSoundBook book → ⊥
other-standing book failed sound =
    true≢false (sym (pass-all (λ (task : Task). may_stand book.rows (most_rounds book) task task.machine)
    book.rows.tasks sound.standing) ∙ failed)

-- one whose costs do not pass the test is not sound
pub other-costs : (book : Book) → list_all is_cost book.costs ≡ false → IsSoundBook book → ⊥
other-costs book failed sound = true≢false (sym (pass-all is_cost book.costs sound.costs) ∙ failed)

-- what first keeps a book from being sound, fault by fault
module _ (book : Book) where
  abbrev shown : Bool
  shown = list_all (λ task. nat_le (rounds_shown task) (most_rounds book)) book.rows.tasks

  abbrev stands : Bool
  stands = list_all (λ task. may_stand book.rows (most_rounds book) task task.machine) book.rows.tasks

  abbrev standing_fault : Option BookFault
  standing_fault = cond stands None (Some Crowded)

  abbrev rounds_fault : Option BookFault
  rounds_fault = cond (not shown) (Some Rounds) standing_fault

  abbrev count_fault : Option BookFault
  count_fault = cond (ltb book.given (entry_count book)) (Some Count) rounds_fault

  abbrev life_fault : Option BookFault
  life_fault = cond (ltb book.rows.limits.life book.given) (Some Life) count_fault

  pub fault-costs : list_all is_cost book.costs ≡ false → Some Cost ≡ book_fault book
  fault-costs is = sym (ap (λ (b : Bool). cond (not b) (Some Cost) life_fault) is)

  module _ (costs : list_all is_cost book.costs ≡ true) where
    to-life : book_fault book ≡ life_fault
    to-life = ap (λ (b : Bool). cond (not b) (Some Cost) life_fault) costs

    pub fault-life : book.rows.limits.life < book.given → Some Life ≡ book_fault book
    fault-life is =
        sym (to-life ∙ cond-true (ltb book.rows.limits.life book.given) (Some Life) count_fault
        (lt-ltb book.rows.limits.life book.given is))

    module _ (life : book.given ≤ book.rows.limits.life) where
      to-count : book_fault book ≡ count_fault
      to-count =
          to-life ∙ cond-false (ltb book.rows.limits.life book.given) (Some Life) count_fault
          (le-ltb book.rows.limits.life book.given life)

      pub fault-count : book.given < entry_count book → Some Count ≡ book_fault book
      fault-count is =
          sym (to-count ∙ cond-true (ltb book.given (entry_count book)) (Some Count) rounds_fault
          (lt-ltb book.given (entry_count book) is))

      module _ (count : entry_count book ≤ book.given) where
        to-rounds : book_fault book ≡ rounds_fault
        to-rounds =
            to-count ∙ cond-false (ltb book.given (entry_count book)) (Some Count) rounds_fault
            (le-ltb book.given (entry_count book) count)

        pub fault-rounds : shown ≡ false → Some Rounds ≡ book_fault book
        fault-rounds is = sym (to-rounds ∙ ap (λ (b : Bool). cond (not b) (Some Rounds) standing_fault) is)

        pub fault-standing : (passed : Bool) → shown ≡ true → stands ≡ passed
            → cond passed None (Some Crowded) ≡ book_fault book
        fault-standing passed rounds is =
            sym (to-rounds ∙ ap (λ (b : Bool). cond (not b) (Some Rounds) standing_fault) rounds
            ∙ ap (λ (b : Bool). cond b None (Some Crowded)) is)
