use Rattle.std.proofs.Common.{◌≡◌, All, is_some, take, true}
use Rattle.firm_parts.specs.Parts.{book_in}
use Rattle.firm_state.proofs.states.missing.Given as goal

-- the first names, `name-index` in number, are there
abbrev pub invariant-loop-name : goal.invariant-loop-name
invariant-loop-name l = All (λ name. is_some (book_in l.saved.places name) ≡ true) (take l.name-index l.names)
