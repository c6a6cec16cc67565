-- The first answer that waits for a place, and the list after it is known.
use Rattle.std.proofs.Common.{◌≡◌, ℕ, zero, suc, ◌+◌, ◌<◌, ◌≤◌, List, [], ◌∷◌, length, take, set, get_or}
use Rattle.std.proofs.Common.{refl, sym, ap, ◌∙◌, subst, arith, add-one}
use Rattle.std.specs.Prelude.{true, false, Option, Some, None, MatchOption}
use Rattle.std.specs.Option.{is_some}
use Rattle.std.proofs.lemmas.List.{take_all}
use Rattle.firm_rules.specs.declared.commands.Command.{Command}
use Rattle.firm_rules.specs.declared.replies.Reply.{Reply}
use Rattle.firm_held.specs.Held.{FirstIs, FirstIsAt, IsWaiting, NoneWaits, answered, filled, waits_for}
use Rattle.firm_held.specs.declared.held.HeldAnswer.{HeldAnswer}
use Rattle.firm_held.specs.declared.held.HeldAnswer.TheVariants.{Known, Waiting}
use Rattle.firm_held.specs.Laws.{not_none, waits_here}

pub first_within : (place : ℕ) (command : Command) (at : ℕ) (answers : List HeldAnswer)
    → FirstIsAt place command at answers → at < length answers
first_within place command at [] first = absurd first
first_within place command zero (answer ∷ rest) first = omega arith
first_within place command (suc at) (answer ∷ rest) first =
    let there : at < length rest = first_within place command at rest first.1 in omega arith

pub first_waiting : (place : ℕ) (command : Command) (at : ℕ) (answers : List HeldAnswer) (default : HeldAnswer)
    → FirstIsAt place command at answers → IsWaiting place command (get_or answers at default)
first_waiting place command at [] default first = absurd first
first_waiting place command zero (answer ∷ rest) default first = first
first_waiting place command (suc at) (answer ∷ rest) default first =
    first_waiting place command at rest default first.1

-- so that answer is the one that is filled
pub filled_at : (place : ℕ) (command : Command) (reply : Reply) (at : ℕ) (answers : List HeldAnswer)
    (default : HeldAnswer)
    → FirstIsAt place command at answers
    → set answers at (answered reply (get_or answers at default)) ≡ filled place reply answers
filled_at place command reply at [] default first = absurd first
filled_at place command reply zero (answer ∷ rest) default first = rw (waits_here place command answer first) refl
filled_at place command reply (suc at) (answer ∷ rest) default first =
    rw first.0 (ap (λ (xs : List HeldAnswer). answer ∷ xs)
    (filled_at place command reply at rest default first.1))

-- how a search finds it
none_more : (place : ℕ) (answers : List HeldAnswer) (at : ℕ) (default : HeldAnswer) → NoneWaits place (take at answers)
    → at < length answers
    → waits_for place (get_or answers at default) ≡ false → NoneWaits place (take (suc at) answers)
none_more place [] at default none low out = absurd (omega arith)
none_more place (answer ∷ rest) zero default none low out = (out, tt)
none_more place (answer ∷ rest) (suc at) default none low out =
    (none.0, none_more place rest at default none.1 (omega arith) out)

pub none_take : (place : ℕ) (answers : List HeldAnswer) (at : ℕ) (default : HeldAnswer)
    → NoneWaits place (take at answers)
    → at < length answers
    → waits_for place (get_or answers at default) ≡ false → NoneWaits place (take (at + 1) answers)
none_take place answers at default none low out =
    subst (λ (n : ℕ). NoneWaits place (take n answers)) (sym (add-one at))
    (none_more place answers at default none low out)

pub found_first : (place : ℕ) (command : Command) (at : ℕ) (answers : List HeldAnswer) (default : HeldAnswer)
    → NoneWaits place (take at answers) → at < length answers
    → IsWaiting place command (get_or answers at default) → FirstIsAt place command at answers
found_first place command at [] default none low is = absurd (omega arith)
found_first place command zero (answer ∷ rest) default none low is = is
found_first place command (suc at) (answer ∷ rest) default none low is =
    (none.0, found_first place command at rest default none.1 (omega arith) is)

-- the result of a look at one answer
pub looked_at : (place : ℕ) (at : ℕ) (answers : List HeldAnswer) (seen default : HeldAnswer) (found : Option Command)
    → seen ≡ get_or answers at default → at < length answers
    → MatchOption found (waits_for place seen ≡ false) (λ command. IsWaiting place command seen)
    → NoneWaits place (take at answers)
    → MatchOption found (NoneWaits place (take (at + 1) answers)) (λ command. FirstIsAt place command at answers)
looked_at place at answers seen default None is low out none =
    none_take place answers at default none low (ap (waits_for place) (sym is) ∙ out)
looked_at place at answers seen default (Some command) is low waits none =
    found_first place command at answers default none low (subst (IsWaiting place command) is waits)

pub none_left : {X : Type 0} (place : ℕ) (command : Command) (answers : List HeldAnswer) (at : ℕ)
    → NoneWaits place (take at answers) → length answers ≤ at → FirstIs place command answers → X
none_left place command answers at none long first =
    not_none place command answers first (subst (NoneWaits place) (take_all at answers long) none)

-- and one command
same_waiting : (place : ℕ) (one other : Command) (answer : HeldAnswer) → IsWaiting place one answer
    → IsWaiting place other answer → one ≡ other
same_waiting place one other (Waiting at name given) is is' = sym is.1 ∙ is'.1
same_waiting place one other (Known answer) is is' = absurd is

pub same_first : (place : ℕ) (one other : Command) (at : ℕ) (answers : List HeldAnswer)
    → FirstIs place one answers → FirstIsAt place other at answers → FirstIsAt place one at answers
same_first place one other at [] first found = absurd first
same_first place one other zero (answer ∷ rest) first found =
    let is : IsWaiting place one answer = rw (waits_here place other answer found) at first in is
same_first place one other (suc at) (answer ∷ rest) first found =
    let there : FirstIs place one rest = rw found.0 at first in
    (found.0, same_first place one other at rest there found.1)

-- so a search finds it, or goes on
pub found_here : (place : ℕ) (command : Command) (at : ℕ) (answers : List HeldAnswer) (found : Option Command)
    → is_some found ≡ true
    → MatchOption found (NoneWaits place (take (at + 1) answers)) (λ other. FirstIsAt place other at answers)
    → FirstIs place command answers → FirstIsAt place command at answers
found_here place command at answers None some tells first = absurd (cc)
found_here place command at answers (Some other) some tells first =
    same_first place command other at answers first tells

pub none_here : (place : ℕ) (at : ℕ) (answers : List HeldAnswer) (found : Option Command) → is_some found ≡ false
    → MatchOption found (NoneWaits place (take (at + 1) answers)) (λ other. FirstIsAt place other at answers)
    → NoneWaits place (take (at + 1) answers)
none_here place at answers None none tells = tells
none_here place at answers (Some other) none tells = absurd (cc)
