use Rattle.std.proofs.Common.{◌≡◌, ◌∙◌, ℕ, List, All, get_or, is_some, subst, sym, take, true}
use Rattle.std.proofs.lemmas.List.{take_all, take_more}
use Rattle.std.proofs.lemmas.List.Elements.{All-push}
use Rattle.firm_parts.specs.Parts.{book_in}
use Rattle.firm_state.proofs.states.missing.Goals as goal

pub loop-name-preserved : goal.loop-name-preserved
loop-name-preserved c =
    let names = c.args.names.now in
    let at = c.loop-name.name-index in
    let IsThere : List ℕ → Type 0 = λ name. is_some (book_in c.args.saved.now.places name) ≡ true in
    subst (All IsThere) (sym (take_more names at c.name-item.result c.loop-name-test.true))
    (All-push IsThere (take at names) (get_or names at c.name-item.result) c.loop-name.invariant
    (subst IsThere c.name-item.is (sym c.has_tenant.ensures ∙ c.if-not-has_tenant.false)))

pub returns-then-not-has_tenant-clause-some : goal.returns-then-not-has_tenant-clause-some
returns-then-not-has_tenant-clause-some c = record {
  at = c.loop-name.name-index;
  within = c.loop-name-test.true;
  found = sym c.name-item.is;
  before = c.loop-name.invariant;
  gone = sym c.has_tenant.ensures ∙ c.if-not-has_tenant.true;
}

pub returns-clause-none : goal.returns-clause-none
returns-clause-none c =
    subst (All (λ name. is_some (book_in c.args.saved.now.places name) ≡ true))
    (take_all c.loop-name.name-index c.args.names.now c.loop-name-test.false) c.loop-name.invariant
