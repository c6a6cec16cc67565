use Rattle.std.proofs.Common.{◌≡◌, ◌∙◌, ℕ, Some, sym, ap, false, true}
use Rattle.std.proofs.lemmas.List.{get_or_default}
use Rattle.firm_paths.specs.inner.Spread.{is}
use Rattle.firm_paths.proofs.Spreading.{number_seen, number_unseen}
use Rattle.firm_paths.proofs.tight.Reach.number_at.Goals as goal

pub returns-then-not-index : goal.returns-then-not-index
returns-then-not-index c =
    let seen = c.args.self.now.seen.items in
    let free : is seen c.args.place ≡ false =
    sym (c.index.ensures ∙ get_or_default seen c.args.place _ _ c.requires.place.0) ∙ c.if-not-index.true in
    sym (number_unseen seen c.args.self.now.visits.items c.args.place c.requires.agree free)

pub returns : goal.returns
returns c =
    let seen = c.args.self.now.seen.items in
    let numbers = c.args.numbers.now in
    let there : is seen c.args.place ≡ true =
    sym (c.index.ensures ∙ get_or_default seen c.args.place _ _ c.requires.place.0) ∙ c.if-not-index.false in
    ap (λ (n : ℕ). Some n) (get_or_default numbers c.args.place _ _ c.requires.place.1)
    ∙ number_seen seen numbers c.args.self.now.visits.items c.args.place c.requires.agree c.requires.numbered there
