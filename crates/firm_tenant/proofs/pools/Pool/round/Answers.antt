use Rattle.std.proofs.Common.{◌≡◌, ◌+◌, ◌*◌, ◌≤◌, ℕ, length, Bool, true, false, List}
use Rattle.std.proofs.Common.{refl, ap, sym, subst, ◌∙◌, rules}
use Rattle.std.specs.Prelude.{if◌then◌else◌}
use Rattle.firm_paths.specs.Workspace.{HasCounted}
use Rattle.firm_rules.specs.ArenaUse.{arena_arcs}
use Rattle.firm_rules.specs.Book.{Book, TenantRows}
use Rattle.firm_rules.specs.Placement.{is_legal}
use Rattle.firm_rules.specs.Round.{case_of, round_placement}
use Rattle.firm_rules.specs.declared.rounds.Choice.{Choice}
use Rattle.firm_rules.specs.declared.replies.Outcome.{Outcome}
use Rattle.firm_rules.specs.declared.replies.Outcome.TheVariants.{Refused}
use Rattle.firm_rules.specs.declared.replies.Refusal.TheVariants.{Memory}
use Rattle.firm_tenant.specs.Step.{is_memory_outcome, refused, round_effect}
use Rattle.firm_tenant.specs.inner.Outcomes.{outcome_of}
use Rattle.firm_tenant.specs.inner.Pools.{Pool, Counts, HasBegunOnce, book_of, placed_in}
use Rattle.firm_tenant.proofs.pools.Pool.round.Goals as goal

-- what a round makes of a book, or that it was refused memory
abbrev made_of : Book → Bool → Outcome × Book
made_of book mark =
    if mark then refused book Memory else round_effect book (round_placement (case_of book.rows))

same_book : (chosen old : Pool) (given : ℕ) → chosen ≡ record old { workspace = chosen.workspace }
    → book_of chosen given ≡ book_of old given
same_book chosen old given same = ap (λ (pool : Pool). book_of pool given) same

round_done : (outcome : Outcome) (old chosen new : Pool) (placement : List Choice) (given : ℕ)
    → (outcome, new) ≡ placed_in chosen placement → chosen ≡ record old { workspace = chosen.workspace }
    → placement ≡ round_placement (case_of old.rows)
    → (outcome, book_of new given) ≡ made_of (book_of old given) (is_memory_outcome outcome)
round_done outcome old chosen new placement given made same is =
    let granted : is_memory_outcome outcome ≡ false = ap (λ (m : Outcome × Pool). is_memory_outcome m.0) made in
    ap (λ (m : Outcome × Pool). (m.0, book_of m.1 given)) made
    ∙ (ap (λ (book : Book). round_effect book placement) (same_book chosen old given same)
    ∙ (ap (round_effect (book_of old given)) is ∙ sym (ap (made_of (book_of old given)) granted)))

round_refused : (outcome : Outcome) (old chosen new : Pool) (given : ℕ) → outcome ≡ Refused Memory → new ≡ chosen
    → chosen ≡ record old { workspace = chosen.workspace }
    → (outcome, book_of new given) ≡ made_of (book_of old given) (is_memory_outcome outcome)
round_refused outcome old chosen new given none kept same =
    let mark : is_memory_outcome outcome ≡ true = ap is_memory_outcome none in
    ap (λ (o : Outcome). (o, book_of new given)) none
    ∙ (ap (λ (book : Book). refused book Memory)
    (ap (λ (pool : Pool). book_of pool given) kept ∙ same_book chosen old given same)
    ∙ sym (ap (made_of (book_of old given)) mark))

begun_on : (old chosen new : Pool) → new.workspace ≡ chosen.workspace → HasBegunOnce old chosen → HasBegunOnce old new
begun_on old chosen new same begun =
    let room : ℕ = length old.rows.tasks * (length old.rows.machines + 4) in
    let entries : ℕ = length old.rows.tasks + length old.rows.machines in
    let allowed : ℕ = old.workspace.proposed.allowed in
    record {
      begins = subst (λ (w : Counts). HasCounted old.workspace.net.begins w.net.begins 1) (sym same) begun.begins;
      searches = subst (λ (w : Counts). w.net.searches ≤ room) (sym same) begun.searches;
      looks = subst (λ (w : Counts). w.net.looks ≤ room * (2 * arena_arcs old.rows)) (sym same) begun.looks;
      tries = subst (λ (w : Counts). w.proposed.tries ≤ old.workspace.proposed.tries + 1) (sym same) begun.tries;
      allowed = subst (λ (w : Counts). w.proposed.allowed ≡ allowed) (sym same) begun.allowed;
      proposed = subst (λ (w : Counts). w.proposed.looks ≤ allowed) (sym same) begun.proposed;
      entries = subst (λ (w : Counts). entries ≤ allowed → entries ≤ w.proposed.looks) (sym same) begun.entries;
    }

pub place-requires : goal.place-requires
place-requires c =
    let rows : c.args.self.now.rows ≡ c.choose.new.self.rows =
    sym (ap (λ (pool : Pool). pool.rows) c.choose.ensures.same) in
    record {
      legal = ap (is_legal (case_of c.choose.new.self.rows)) c.deref.ensures.value
          ∙ (sym (ap (λ (r : TenantRows). is_legal (case_of r) c.in_ok-placement.placement.items) rows)
          ∙ c.in_ok-placement.ensures.legal);
    }

pub returns-clause-effect : goal.returns-clause-effect
returns-clause-effect c given =
    round_done c.in_ok-place.field-0 c.args.self.now c.choose.new.self c.place.new.self c.deref.result.now given
    c.in_ok-place.ensures c.choose.ensures.same (c.deref.ensures.value ∙ c.in_ok-placement.ensures.round)

pub returns-clause-asked : goal.returns-clause-asked
returns-clause-asked c =
    ap (λ (m : Outcome × Pool). m.1.asked) c.in_ok-place.ensures
    ∙ ap (λ (pool : Pool). pool.asked) c.choose.ensures.same

pub returns-clause-counts : goal.returns-clause-counts
returns-clause-counts c =
    begun_on c.args.self.now c.choose.new.self c.place.new.self
    (ap (λ (m : Outcome × Pool). m.1.workspace) c.in_ok-place.ensures) c.choose.ensures.counts

pub returns-in_err-placement-clause-effect : goal.returns-in_err-placement-clause-effect
returns-in_err-placement-clause-effect c given =
    let none : outcome_of c.from_residual.result ≡ Refused Memory = search rules in
    round_refused (outcome_of c.from_residual.result) c.args.self.now c.choose.new.self c.choose.new.self given none
    refl c.choose.ensures.same

pub returns-in_err-place-clause-effect : goal.returns-in_err-place-clause-effect
returns-in_err-place-clause-effect c given =
    let none : outcome_of c.from_residual-in_err-place.result ≡ Refused Memory = search rules in
    round_refused (outcome_of c.from_residual-in_err-place.result) c.args.self.now c.choose.new.self c.place.new.self
    given none c.in_err-place.ensures c.choose.ensures.same

pub returns-in_err-place-clause-asked : goal.returns-in_err-place-clause-asked
returns-in_err-place-clause-asked c =
    ap (λ (pool : Pool). pool.asked) c.in_err-place.ensures ∙ ap (λ (pool : Pool). pool.asked) c.choose.ensures.same

pub returns-in_err-placement-clause-counts : goal.returns-in_err-placement-clause-counts
returns-in_err-placement-clause-counts c = c.choose.ensures.counts

pub returns-in_err-place-clause-counts : goal.returns-in_err-place-clause-counts
returns-in_err-place-clause-counts c =
    begun_on c.args.self.now c.choose.new.self c.place.new.self
    (ap (λ (pool : Pool). pool.workspace) c.in_err-place.ensures) c.choose.ensures.counts
