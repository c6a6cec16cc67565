use Rattle.std.proofs.Common.{rules, arith, ◌≡◌, ◌==◌, ◌<◌, ◌≤◌, ◌++◌, ℕ, Bool, true, false, List, All}
use Rattle.std.proofs.Common.{map, length, take, drop}
use Rattle.std.proofs.Common.{ap, subst, sym, ◌∙◌, refl, inl, inr}
use Rattle.std.proofs.lemmas.List.{append-nil, drop_all, length-map, nil_from_length, take_all}
use Rattle.firm_rounds.specs.Passes.{QueueIs, PutIs, PopIs, JobIs, spent_put, spent_pop}
use Rattle.firm_rounds.specs.Closed.{AsOften}
use Rattle.firm_rounds.proofs.queue.Queue.close.Goals as goal
use Rattle.firm_rounds.proofs.queue.Queue.close.Goals.{then-len-self-via-then-len-self}
use Rattle.firm_rounds.proofs.queue.Queue.close.Goals.{then-len-self-via-else-len-self+then-len-self-2}

enough : (own inside count all given : ℕ) → inside ≤ count → count ≡ all → given ≡ all → inside ≡ own → own ≤ given
enough own inside count all given = omega arith

fewer : (own inside count all long : ℕ) → count < inside → count ≡ all → inside ≡ own → all ≡ long → long < own
fewer own inside count all long = omega arith

none_left : (n : ℕ) (b : Bool) → b ≡ (n == 0) → b ≡ true → n ≡ 0
none_left n b = search rules

some_left : (n : ℕ) (b : Bool) → b ≡ (n == 0) → b ≡ false → 0 < n
some_left n b = search rules

often_at : (puts given : List PutIs) (pops lent : List PopIs) (jobs left : List JobIs) → given ≡ puts → lent ≡ pops
    → left ≡ jobs → AsOften given lent left → AsOften puts pops jobs
often_at puts given pops lent jobs left e f g often =
    subst (λ ps. AsOften ps pops jobs) e (subst (λ ps. AsOften given ps jobs) f (subst (AsOften given lent) g often))

-- a vector whose whole slice was written
written : {A : Type 0} (f : A → A) (n : ℕ) (new given old : List A) → new ≡ map f given → given ≡ old
    → n ≡ length old → take n (new ++ drop (length new) old) ≡ map f old
written f n new given old e same long =
    let whole : new ≡ map f old = e ∙ ap (map f) same in
    let far : length new ≡ length old = ap length whole ∙ length-map old f in
    rw (drop_all (length new) old (omega arith), append-nil new) (take_all n new (omega arith) ∙ whole)

pub returns-then-len-self : goal.returns-then-len-self
returns-then-len-self g c =
    let puts : c.self.inside.puts ≡ c.args.self.puts = ap (λ (q : QueueIs). q.puts) c.self.view_is in
    let pops : c.self.inside.pops ≡ c.args.self.pops = ap (λ (q : QueueIs). q.pops) c.self.view_is in (
      refl,
      refl,
      refl,
      elim c.then-len-self.branch [
        | then-len-self-via-then-len-self w ↦
            inl (fewer _ _ _ _ _ w.if-len-self.true c.len.ensures puts c.args.puts.ok.0)
        | then-len-self-via-else-len-self+then-len-self-2 w ↦
            inr (fewer _ _ _ _ _ w.if-len-self-2.true w.len-else-len-self.ensures pops c.args.pops.ok.0)
      ],
    )

pub settle-jobs-requires-clause-counts : goal.settle-jobs-requires-clause-counts
settle-jobs-requires-clause-counts g c = (
  enough _ _ _ _ _ c.if-len-self.false c.len.ensures c.as_mut_slice.ensures.len
      (ap (λ (q : QueueIs). q.puts) c.self.view_is),
  enough _ _ _ _ _ c.if-len-self-2.false c.len-else-len-self.ensures c.as_mut_slice-2.ensures.len
      (ap (λ (q : QueueIs). q.pops) c.self.view_is),
)

pub settle-jobs-requires-clause-puts : goal.settle-jobs-requires-clause-puts
settle-jobs-requires-clause-puts g c =
    subst (All (λ p. p.queue ≡ c.args.self.id)) (sym c.as_mut_slice.ensures.value) c.requires.puts

pub settle-jobs-requires-clause-pops : goal.settle-jobs-requires-clause-pops
settle-jobs-requires-clause-pops g c =
    subst (All (λ p. p.queue ≡ c.args.self.id)) (sym c.as_mut_slice-2.ensures.value) c.requires.pops

pub returns-then-is_empty : goal.returns-then-is_empty
returns-then-is_empty g c =
    let none : length c.settle-jobs.result.items ≡ 0 =
    sym c.settle-jobs.result.ok.0 ∙ none_left c.settle-jobs.result.len _ c.is_empty.ensures c.if-is_empty.true in
    often_at _ _ _ _ _ _ c.as_mut_slice.ensures.value c.as_mut_slice-2.ensures.value
    (nil_from_length c.settle-jobs.result.items none) c.settle-jobs.ensures.often

pub returns : goal.returns
returns g c = (
  written spent_put _ _ _ _ c.settle-jobs.ensures.puts c.as_mut_slice.ensures.value c.args.puts.ok.0,
  written spent_pop _ _ _ _ c.settle-jobs.ensures.pops c.as_mut_slice-2.ensures.value c.args.pops.ok.0,
  subst (λ n. 0 < n) c.settle-jobs.result.ok.0
      (some_left c.settle-jobs.result.len _ c.is_empty.ensures c.if-is_empty.false),
  often_at _ _ _ _ _ _ c.as_mut_slice.ensures.value c.as_mut_slice-2.ensures.value refl c.settle-jobs.ensures.often,
)
