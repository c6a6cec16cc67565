use Rattle.std.proofs.Common.{◌≡◌, ℕ, All, drop, length, List}
use Rattle.firm_parts.specs.Parts.{joined}
use Rattle.firm_saved.specs.Saved.{AreGivenInOrder, IsSoundPlace, register_of}
use Rattle.firm_saved.specs.declared.saved.SavedPlace.{SavedPlace}
use Rattle.firm_text.specs.declared.registers.Entry.{Entry}
use Rattle.firm_parts.proofs.joining.settle_all.Given as goal

-- the tenants of the first others, `at` in number, have come
pub record HaveCome (at : ℕ) (places others first rest : List SavedPlace) (register : List Entry) : Type 0 where
  pub register_is : register ≡ register_of places
  pub in_order : AreGivenInOrder register
  pub books : All IsSoundPlace places
  pub as_many : length rest ≡ length others
  pub left : drop at rest ≡ drop at others
  pub so_far : joined places (drop at others) ≡ joined first others

abbrev pub invariant-loop-at : goal.invariant-loop-at
invariant-loop-at l =
    HaveCome l.at l.places.items l.initial.others.items l.initial.places.items l.others.items l.register
