use Rattle.std.proofs.Common.{◌≡◌, ◌↔◌, ℕ, Bool, true, false, List, Result, Err, OnOk, OnErr}
use Rattle.std.proofs.Common.{refl, ap, sym, subst, ◌∙◌, rules}
use Rattle.firm_graph.specs.Graph.{LackNodes, LackArcs}
use Rattle.firm_graph.specs.declared.ids.GraphRefusal.{GraphRefusal}
use Rattle.firm_graph.specs.declared.ids.GraphRefusal.TheVariants.{Nodes, Arcs}
use Rattle.firm_rules.specs.Book.{Book, TenantRows, are_machines, job_names, task_names, with_task}
use Rattle.firm_rules.specs.Names.{is_among}
use Rattle.firm_rules.specs.declared.commands.Command.TheVariants.{AddTask}
use Rattle.firm_rules.specs.declared.replies.Outcome.{Outcome}
use Rattle.firm_rules.specs.declared.replies.Outcome.TheVariants.{Refused}
use Rattle.firm_rules.specs.declared.replies.Refusal.TheVariants.{NoSuchMachine, NoSuchJob}
use Rattle.firm_tenant.specs.Step.{effect, grown, is_memory_outcome}
use Rattle.firm_tenant.specs.inner.Outcomes.{outcome_of, plain_or}
use Rattle.firm_tenant.specs.inner.Pools.{Pool, book_of}
use Rattle.firm_tenant.proofs.pools.Pool.add_task.Goals as goal

no_machine : (book : Book) (job name : List ℕ) (preferred : List (List ℕ)) (mark : Bool)
    → are_machines book.rows preferred ≡ false
    → (Refused NoSuchMachine, book) ≡ effect book (AddTask job name preferred) mark
no_machine book job name preferred mark e = rw e refl

no_job : (book : Book) (job name : List ℕ) (preferred : List (List ℕ)) (mark : Bool)
    → are_machines book.rows preferred ≡ true → is_among (job_names book.rows) job ≡ false
    → (Refused NoSuchJob, book) ≡ effect book (AddTask job name preferred) mark
no_job book job name preferred mark e f = rw (e, f) refl

added : (book : Book) (job name : List ℕ) (preferred : List (List ℕ)) (mark : Bool)
    → are_machines book.rows preferred ≡ true → is_among (job_names book.rows) job ≡ true
    → is_among (task_names book.rows) name ≡ false
    → grown book (with_task book.rows job name preferred) mark ≡ effect book (AddTask job name preferred) mark
added book job name preferred mark e f g = rw (e, f, g) refl

-- what adding rows comes to
grown_is : {A : Type 0} (rows_of : A → TenantRows) (new old : A) (book : Book) (rows : TenantRows)
    (done : Result (Unit {0}) GraphRefusal) (outcome : Outcome) → outcome ≡ plain_or done
    → OnOk done (rows_of new ≡ rows) → OnErr done (new ≡ old) → rows_of old ≡ book.rows
    → (done ≡ Err Nodes) ↔ LackNodes rows → (done ≡ Err Arcs) ↔ LackArcs rows
    → (outcome, record book { rows = rows_of new }) ≡ grown book rows (is_memory_outcome outcome)
grown_is rows_of new old book rows done outcome = search rules

pub returns-in_default-clause-effect : goal.returns-in_default-clause-effect
returns-in_default-clause-effect c given =
    let none : are_machines c.rows-rows.result.now c.as_slice.result.now ≡ false = search rules in
    subst (λ (pool : Pool). (Refused NoSuchMachine, book_of pool given)
    ≡ effect (book_of pool given) (AddTask c.args.job c.args.name c.args.preferred) false) c.self.view_is
    (no_machine _ _ _ c.args.preferred false
    (ap (λ (r : TenantRows). are_machines r c.args.preferred) (sym c.rows-rows.ensures.value)
    ∙ (ap (are_machines c.rows-rows.result.now) (sym c.as_slice.ensures.names) ∙ none)))

pub returns-in_default-job_place-clause-effect : goal.returns-in_default-job_place-clause-effect
returns-in_default-job_place-clause-effect c given =
    let none : is_among (job_names c.rows-rows.result.now) c.args.job ≡ false = search rules in
    subst (λ (pool : Pool). (Refused NoSuchJob, book_of pool given)
    ≡ effect (book_of pool given) (AddTask c.args.job c.args.name c.args.preferred) false) c.self.view_is
    (no_job _ c.args.job _ c.args.preferred false
    (ap (λ (r : TenantRows). are_machines r c.args.preferred) (sym c.rows-rows.ensures.value)
    ∙ (ap (are_machines c.rows-rows.result.now) (sym c.as_slice.ensures.names) ∙ sym c.in-Some.ensures.found))
    (ap (λ (r : TenantRows). is_among (job_names r) c.args.job) (sym c.rows-rows.ensures.value) ∙ none))

pub returns-clause-effect : goal.returns-clause-effect
returns-clause-effect c given =
    let book : Book = record { rows = c.self.inside.graph.rows; costs = c.self.inside.costs.items; given = given } in
    let mark : Bool = is_memory_outcome (outcome_of c.grown.result) in
    let now : Book =
    record { rows = c.add_new_task.new.self.rows; costs = c.self.inside.costs.items; given = given } in
    subst (λ (pool : Pool). (outcome_of c.grown.result, now)
    ≡ effect (book_of pool given) (AddTask c.args.job c.args.name c.args.preferred) mark) c.self.view_is
    (grown_is (λ graph. graph.rows) c.add_new_task.new.self c.self.inside.graph book
    (with_task c.self.inside.graph.rows c.args.job c.args.name c.args.preferred) c.add_new_task.result
    (outcome_of c.grown.result) c.grown.ensures c.add_new_task.ensures.ok c.add_new_task.ensures.unchanged refl
    c.add_new_task.ensures.nodes c.add_new_task.ensures.arcs
    ∙ added book c.args.job c.args.name c.args.preferred mark
    (ap (λ (r : TenantRows). are_machines r c.args.preferred) (sym c.rows-rows.ensures.value)
    ∙ (ap (are_machines c.rows-rows.result.now) (sym c.as_slice.ensures.names) ∙ sym c.in-Some.ensures.found))
    (ap (λ (r : TenantRows). is_among (job_names r) c.args.job) (sym c.rows-rows.ensures.value)
    ∙ sym c.in-Some-job_place.ensures.found)
    (ap (λ (r : TenantRows). is_among (task_names r) c.args.name) (sym c.rows-rows.ensures.value)
    ∙ sym c.if-has_task.ensures))
