use Rattle.std.proofs.Common.{◌≡◌, ◌<◌, ◌≤◌, ℕ, Bool, true, false, sym, ap, subst, ◌∙◌}
use Rattle.std.specs.Prelude.{nat_le}
use Rattle.std.specs.List.{list_all}
use Rattle.firm_rules.specs.Book.{Book}
use Rattle.firm_rules.specs.Limits.{TenantLimits}
use Rattle.firm_rules.specs.SoundBook.{entry_count, is_cost, may_stand, most_rounds, rounds_shown}
use Rattle.firm_rules.specs.declared.book.Task.{Task}
use Rattle.firm_rules.proofs.SoundBooks.{fault-costs, fault-count, fault-rounds, fault-standing, sound-book}
use Rattle.firm_rules.proofs.SoundBooks.{other-costs, other-rounds, other-standing}
use Rattle.firm_rules.proofs.books.fault_of.Goals as goal

-- the tests of tasks, at the most rounds that there may have been
shown : (book : Book) (most : ℕ) (passed b : Bool) → most ≡ most_rounds book
    → passed ≡ list_all (λ task. nat_le (rounds_shown task) most) book.rows.tasks → passed ≡ b
    → list_all (λ task. nat_le (rounds_shown task) (most_rounds book)) book.rows.tasks ≡ b
shown book most passed b is made answer =
    ap (λ (n : ℕ). list_all (λ (task : Task). nat_le (rounds_shown task) n) book.rows.tasks) (sym is) ∙ sym made
    ∙ answer

stands : (book : Book) (most : ℕ) (passed b : Bool) → most ≡ most_rounds book
    → passed ≡ list_all (λ task. may_stand book.rows most task task.machine) book.rows.tasks → passed ≡ b
    → list_all (λ task. may_stand book.rows (most_rounds book) task task.machine) book.rows.tasks ≡ b
stands book most passed b is made answer =
    ap (λ (n : ℕ). list_all (λ (task : Task). may_stand book.rows n task task.machine) book.rows.tasks) (sym is)
    ∙ sym made ∙ answer

pub returns-then-not-are_costs-clause-fault : goal.returns-then-not-are_costs-clause-fault
returns-then-not-are_costs-clause-fault c =
    let book : Book = record { rows = c.args.rows.now; costs = c.args.costs; given = c.args.given } in
    fault-costs book (ap (list_all is_cost) (sym c.as_slice.ensures.costs) ∙ sym c.are_costs.ensures
    ∙ c.if-not-are_costs.true)

pub returns-then-not-are_costs-clause-unsound : goal.returns-then-not-are_costs-clause-unsound
returns-then-not-are_costs-clause-unsound c =
    let book : Book = record { rows = c.args.rows.now; costs = c.args.costs; given = c.args.given } in
    other-costs book (ap (list_all is_cost) (sym c.as_slice.ensures.costs) ∙ sym c.are_costs.ensures
    ∙ c.if-not-are_costs.true)

pub returns-then-given-entries_of-clause-fault : goal.returns-then-given-entries_of-clause-fault
returns-then-given-entries_of-clause-fault c =
    let book : Book = record { rows = c.args.rows.now; costs = c.args.costs; given = c.args.given } in
    fault-count book
    (ap (list_all is_cost) (sym c.as_slice.ensures.costs) ∙ sym c.are_costs.ensures ∙ c.if-not-are_costs.false)
    (subst (λ n. c.args.given ≤ n)
    (c.life-life.ensures.value ∙ ap (λ (l : TenantLimits). l.life) c.limits.ensures.limits) c.if-life-given.false)
    (subst (λ n. c.args.given < n) c.entries_of.ensures c.if-given-entries_of.true)

pub returns-then-not-are_shown-clause-fault : goal.returns-then-not-are_shown-clause-fault
returns-then-not-are_shown-clause-fault c =
    let book : Book = record { rows = c.args.rows.now; costs = c.args.costs; given = c.args.given } in
    fault-rounds book
    (ap (list_all is_cost) (sym c.as_slice.ensures.costs) ∙ sym c.are_costs.ensures ∙ c.if-not-are_costs.false)
    (subst (λ n. c.args.given ≤ n)
    (c.life-life.ensures.value ∙ ap (λ (l : TenantLimits). l.life) c.limits.ensures.limits) c.if-life-given.false)
    (subst (λ n. n ≤ c.args.given) c.entries_of.ensures c.if-given-entries_of.false)
    (shown book c.most_rounds-rounds.result c.are_shown.result false c.most_rounds-rounds.ensures c.are_shown.ensures
    c.if-not-are_shown.true)

pub returns-then-not-are_shown-clause-unsound : goal.returns-then-not-are_shown-clause-unsound
returns-then-not-are_shown-clause-unsound c =
    let book : Book = record { rows = c.args.rows.now; costs = c.args.costs; given = c.args.given } in
    other-rounds book (shown book c.most_rounds-rounds.result c.are_shown.result false c.most_rounds-rounds.ensures
    c.are_shown.ensures c.if-not-are_shown.true)

pub returns-then-not-may_stand-clause-fault : goal.returns-then-not-may_stand-clause-fault
returns-then-not-may_stand-clause-fault c =
    let book : Book = record { rows = c.args.rows.now; costs = c.args.costs; given = c.args.given } in
    fault-standing book
    (ap (list_all is_cost) (sym c.as_slice.ensures.costs) ∙ sym c.are_costs.ensures ∙ c.if-not-are_costs.false)
    (subst (λ n. c.args.given ≤ n)
    (c.life-life.ensures.value ∙ ap (λ (l : TenantLimits). l.life) c.limits.ensures.limits) c.if-life-given.false)
    (subst (λ n. n ≤ c.args.given) c.entries_of.ensures c.if-given-entries_of.false) false
    (shown book c.most_rounds-rounds.result c.are_shown.result true c.most_rounds-rounds.ensures c.are_shown.ensures
    c.if-not-are_shown.false)
    (stands book c.most_rounds-rounds.result c.may_stand.result false c.most_rounds-rounds.ensures c.may_stand.ensures
    c.if-not-may_stand.true)

pub returns-then-not-may_stand-clause-unsound : goal.returns-then-not-may_stand-clause-unsound
returns-then-not-may_stand-clause-unsound c =
    let book : Book = record { rows = c.args.rows.now; costs = c.args.costs; given = c.args.given } in
    other-standing book (stands book c.most_rounds-rounds.result c.may_stand.result false c.most_rounds-rounds.ensures
    c.may_stand.ensures c.if-not-may_stand.true)

pub returns : goal.returns
returns c =
    let book : Book = record { rows = c.args.rows.now; costs = c.args.costs; given = c.args.given } in
    let costs : list_all is_cost book.costs ≡ true =
    ap (list_all is_cost) (sym c.as_slice.ensures.costs) ∙ sym c.are_costs.ensures ∙ c.if-not-are_costs.false in
    let life : c.args.given ≤ c.args.rows.now.limits.life =
    subst (λ n. c.args.given ≤ n)
    (c.life-life.ensures.value ∙ ap (λ (l : TenantLimits). l.life) c.limits.ensures.limits) c.if-life-given.false in
    let count : entry_count book ≤ c.args.given =
    subst (λ n. n ≤ c.args.given) c.entries_of.ensures c.if-given-entries_of.false in
    let rounds : list_all (λ task. nat_le (rounds_shown task) (most_rounds book)) book.rows.tasks ≡ true =
    shown book c.most_rounds-rounds.result c.are_shown.result true c.most_rounds-rounds.ensures c.are_shown.ensures
    c.if-not-are_shown.false in
    let standing : list_all (λ task. may_stand book.rows (most_rounds book) task task.machine) book.rows.tasks ≡ true =
    stands book c.most_rounds-rounds.result c.may_stand.result true c.most_rounds-rounds.ensures c.may_stand.ensures
    c.if-not-may_stand.false in
    record {
      fault = fault-standing book costs life count true rounds standing;
      sound = sound-book book c.limits.ensures.sound c.limits.ensures.form
          c.as_slice.ensures.few costs life count rounds standing;
      unsound = tt;
    }
