use Rattle.std.proofs.Common.{◌≡◌, ℕ, ◌≤◌, Option, Some, None, length, refl, sym, ap, ◌∙◌}
use Rattle.std.proofs.lemmas.Bool.{false≢true}
use Rattle.firm_rules.specs.Placement.{runs_at}
use Rattle.firm_graph.specs.View.{flows}
use Rattle.firm_graph.specs.declared.network.Key.TheVariants.{Stay}
use Rattle.firm_canon.specs.inner.State.{prefix, price, view}
use Rattle.firm_canon.specs.declared.choosing.Choosing.{Choosing}
use Rattle.firm_canon.proofs.Choices.{chose_own, no_stay_home}
use Rattle.firm_canon.proofs.Ends.{passed_own}
use Rattle.firm_canon.proofs.States.{kept_on, ready_on, goes_still}
use Rattle.firm_canon.proofs.choosing.Choosing.reach_own.Goals as goal

none_of : (o : Option ℕ) → ((x : ℕ) → o ≡ Some x → ⊥) → o ≡ None
none_of None h = refl
none_of (Some x) h = absurd (h x refl)

pub returns-in_default-clause-idle : goal.returns-in_default-clause-idle
returns-in_default-clause-idle c =
    let s : Choosing = c.args.self.now in
    let ready = c.requires.ready in
    no_stay_home (view s) (price s) (prefix s) (length (prefix s)) ready.ready.keeps ready.next
    (sym ready.home ∙ none_of c.args.wishes.now.home c.in_default.not-Some)

pub returns-then-not-take-clause-passed : goal.returns-then-not-take-clause-passed
returns-then-not-take-clause-passed c j own =
    let s : Choosing = c.args.self.now in
    let ready = c.requires.ready in
    let lost = c.if-not-take.ensures in
    passed_own (view s) (price s) (prefix s) ready.ready.keeps ready.next c.args.at_hub (lost.spent refl)
    (lost.bare refl) j (ap (λ (h : Option ℕ). runs_at h j) (sym ready.home) ∙ own)

pub returns-clause-some : goal.returns-clause-some
returns-clause-some c =
    let s : Choosing = c.args.self.now in
    let now : Choosing = c.take.new.self in
    let taken = c.if-not-take.ensures in
    let ready = ready_on s now 0 c.args.wishes.now taken.goes_on c.requires.ready in
    chose_own (view now) (price now) (prefix now) c.in-Some.own ready.ready.keeps ready.next
    (sym ready.home ∙ c.in-Some.is)
    (kept_on (λ b. 1 ≤ flows (view now) (Stay (length b))) s now 0 taken.goes_on (taken.yes refl))

pub returns-in_default-clause-goes_on : goal.returns-in_default-clause-goes_on
returns-in_default-clause-goes_on c = goes_still c.args.self.now c.requires.ready.ready

pub returns-in_default-clause-passed : goal.returns-in_default-clause-passed
returns-in_default-clause-passed c j own =
    absurd (false≢true (ap (λ (h : Option ℕ). runs_at h j)
    (sym (none_of c.args.wishes.now.home c.in_default.not-Some)) ∙ own))
