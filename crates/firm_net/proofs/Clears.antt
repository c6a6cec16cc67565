-- All rows cleared, place by place.
use Rattle.std.proofs.Common.{◌≡◌, ℕ, ◌≤◌, inl, inr, sym, ap, ◌∙◌, Option, None}
use Rattle.std.proofs.lemmas.Bool.{cases_lt}
use Rattle.firm_arena.specs.Arena.{Arena, held_at, changed_all, slot_changed}
use Rattle.firm_net.specs.inner.Links.{cleared_link, IsClearedTo}
use Rattle.firm_net.specs.declared.links.Link.{Link}
use Rattle.firm_arena.specs.Changes.{held_at-changed_all}
use Rattle.firm_arena.specs.Changes.{capacity_of-changed_all, same_arenas, changed_all-changed_all}

pub cleared-end : (old now : Arena Link) (k : ℕ) → IsClearedTo old now k → ((p : ℕ) → k ≤ p → held_at old p ≡ None)
    → now ≡ changed_all old cleared_link
cleared-end old now k is empty =
    same_arenas now (changed_all old cleared_link) (is.places ∙ sym (capacity_of-changed_all old cleared_link))
    is.same_counter
    (λ p.
    elim (cases_lt p k) [
      | inl below ↦ is.cleared p below ∙ sym (held_at-changed_all old p cleared_link)
      | inr past ↦
          let nothing : held_at old p ≡ None = empty p past in
          is.same p past ∙ nothing
          ∙ ap (λ (s : Option (ℕ × Link)). slot_changed cleared_link s) (sym nothing)
          ∙ sym (held_at-changed_all old p cleared_link)
    ])

-- cleared arcs stay as they are where they are cleared again
pub cleared-again : (old now : Arena Link) → now ≡ changed_all old cleared_link → changed_all now cleared_link ≡ now
cleared-again old now is =
    ap (λ (l : Arena Link). changed_all l cleared_link) is
    ∙ (changed_all-changed_all old cleared_link cleared_link ∙ sym is)
