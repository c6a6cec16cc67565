-- The passes with which a queue is opened, one by one.
use Rattle.std.proofs.Common.{◌≡◌, ℕ, zero, suc, ◌+◌, ◌<◌, Bool, false, List, [], ◌∷◌, ◌++◌, All, length}
use Rattle.std.proofs.Common.{refl, ap, ◌∙◌, add-one, arith}
use Rattle.std.proofs.lemmas.List.Elements.{All-append}
use Rattle.atomic_table.specs.Seated.{TableId}
use Rattle.firm_rules.specs.declared.tickets.Ticket.{Ticket}
use Rattle.firm_rounds.specs.Passes.{QueueId, PutIs, PopIs, put_is, pop_at, pop_is, new_puts, new_pops}

abbrev queue_id : TableId → ℕ → TableId → QueueId
queue_id table all bell = record { table = table; all = all; bell = bell }

one : {A : Type 0} (P : A → Type 0) (x : A) → P x → All P (x ∷ [])
one P x p zero d low = p
one P x p (suc k) d low = absurd (omega arith)

pub puts_of : (id : QueueId) (n : ℕ) → All (λ (p : PutIs). p.queue ≡ id) (new_puts id n)
puts_of id zero = λ k d low. absurd (omega arith)
puts_of id (suc n) =
    let P : PutIs → Type 0 = λ (p : PutIs). p.queue ≡ id in
    All-append P (new_puts id n) (put_is id n 0 ∷ []) (puts_of id n) (one P (put_is id n 0) refl)

pub puts_unused : (id : QueueId) (n : ℕ) → All (λ (p : PutIs). p.put ≡ 0) (new_puts id n)
puts_unused id zero = λ k d low. absurd (omega arith)
puts_unused id (suc n) =
    let P : PutIs → Type 0 = λ (p : PutIs). p.put ≡ 0 in
    All-append P (new_puts id n) (put_is id n 0 ∷ []) (puts_unused id n) (one P (put_is id n 0) refl)

pub pops_of : (id : QueueId) (n : ℕ) → All (λ (p : PopIs). p.queue ≡ id) (new_pops id n)
pops_of id zero = λ k d low. absurd (omega arith)
pops_of id (suc n) =
    let P : PopIs → Type 0 = λ (p : PopIs). p.queue ≡ id in
    All-append P (new_pops id n) (pop_is id [] ∷ []) (pops_of id n) (one P (pop_is id []) refl)

pub same_queue : (queue other : QueueId) → queue.table ≡ other.table → queue.all ≡ other.all
    → queue.bell ≡ other.bell → queue ≡ other
same_queue queue other table all bell =
    ap (λ (t : TableId). queue_id t queue.all queue.bell) table
    ∙ (ap (λ (n : ℕ). queue_id other.table n queue.bell) all ∙ ap (queue_id other.table other.all) bell)

-- one pass more
pub more_puts : (queue : QueueId) (place : ℕ) (new old : List PutIs) (pass : PutIs)
    → new ≡ old ++ pass ∷ [] → old ≡ new_puts queue place
    → pass.queue.table ≡ queue.table → pass.queue.all ≡ queue.all → pass.place ≡ place → pass.put ≡ 0
    → pass.queue.bell ≡ queue.bell → new ≡ new_puts queue (place + 1)
more_puts queue place new old pass e before table all at unused bell =
    let is : pass ≡ put_is queue place 0 =
    ap (λ (q : QueueId). put_is q pass.place pass.put) (same_queue pass.queue queue table all bell)
    ∙ (ap (λ (p : ℕ). put_is queue p pass.put) at ∙ ap (put_is queue place) unused) in
    rw (e, before, is, add-one) refl

pub more_pops : (queue : QueueId) (k : ℕ) (new old : List PopIs) (pass : PopIs)
    → new ≡ old ++ pass ∷ [] → old ≡ new_pops queue k
    → pass.queue.table ≡ queue.table → pass.queue.all ≡ queue.all → pass.got ≡ []
    → pass.queue.bell ≡ queue.bell → pass.knows_shut ≡ false → pass.owes_call ≡ false → pass.found_none ≡ false
    → new ≡ new_pops queue (k + 1)
more_pops queue k new old pass e before table all unused bell knows owes found =
    let is : pass ≡ pop_is queue [] =
    ap (λ (q : QueueId). pop_at q pass.got pass.knows_shut pass.owes_call pass.found_none)
    (same_queue pass.queue queue table all bell)
    ∙ (ap (λ (got : List Ticket). pop_at queue got pass.knows_shut pass.owes_call pass.found_none) unused
    ∙ (ap (λ (b : Bool). pop_at queue [] b pass.owes_call pass.found_none) knows
    ∙ (ap (λ (b : Bool). pop_at queue [] false b pass.found_none) owes
    ∙ ap (pop_at queue [] false false) found))) in
    rw (e, before, is, add-one) refl
