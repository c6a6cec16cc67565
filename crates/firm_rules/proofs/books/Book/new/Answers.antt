use Rattle.std.proofs.Common.{◌≡◌, true, false, true≢false, refl, sym}
use Rattle.firm_rules.proofs.books.Book.new.Goals as goal

pub invariant_of-result : goal.invariant_of-result
invariant_of-result c = c.in-None.ensures.sound

pub returns-in-Some-clause-exact : goal.returns-in-Some-clause-exact
returns-in-Some-clause-exact c =
    (λ (e : false ≡ true). absurd (true≢false (sym e)), λ sound. absurd (c.in-Some.ensures.unsound sound))

pub returns-in-Some-clause-err : goal.returns-in-Some-clause-err
returns-in-Some-clause-err c = sym c.in-Some.ensures.fault

pub returns-in-None-clause-ok : goal.returns-in-None-clause-ok
returns-in-None-clause-ok c = refl

pub returns-in-None-clause-exact : goal.returns-in-None-clause-exact
returns-in-None-clause-exact c = (λ _. c.in-None.ensures.sound, λ _. refl)
