-- The desk states fit the register: what it says of a place stands there.
use Rattle.std.proofs.Common.{◌≡◌, ℕ, ◌<◌, List, length, get_or, refl, sym, ap, ◌∙◌, subst, arith}
use Rattle.std.specs.Prelude.{Bool, true, false, ◌&&◌, Option, Some, None, Ok, Err, position, nat_lt, if◌then◌else◌}
use Rattle.std.specs.Option.{is_some, is_none, ok_or}
use Rattle.std.proofs.Math.ListN.{get_or-map}
use Rattle.std.proofs.lemmas.Bool.Decides.{nat_tests}
use Rattle.std.proofs.lemmas.List.{get_or_default}
use Rattle.std.proofs.lemmas.List.Quantifiers.{position-Some}
use Rattle.firm_text.specs.Registers.{is_free, is_named, most_admissions, place_for, place_in, vacant}
use Rattle.firm_text.specs.Rosters.{most_places}
use Rattle.firm_text.specs.declared.operator.OperatorRefusal.{OperatorRefusal}
use Rattle.firm_text.specs.declared.operator.OperatorRefusal.TheVariants.{TenantExists, Full}
use Rattle.firm_text.specs.declared.registers.Entry.{Entry}
use Rattle.firm_rounds.specs.Passes.{QueueId}
use Rattle.firm_hall.specs.inner.DeskStates.{IsBack, IsFree, IsHome, IsHomeOf}
use Rattle.firm_hall.specs.inner.Serving.{AreDeskStates, DeskStateIs, Fits, IsBackAt}
use Rattle.firm_hall.specs.inner.Serving.{desk_state_counts, place_counts}
use Rattle.firm_hall.specs.declared.desk_states.DeskState.{DeskState}
use Rattle.firm_hall.specs.declared.desk_states.DeskState.TheVariants.{Home, Away, Empty, Gone}
use Rattle.firm_held.specs.declared.held.HeldAnswer.{HeldAnswer}

module _ (register : List Entry) (desk_states : List DeskState) (fits : Fits register desk_states) (place : ℕ)
    (before default : DeskState) (low : place < length desk_states)
    (at : before ≡ get_or desk_states place default) where
  pub counts_at : desk_state_counts before ≡ place_counts (get_or register place (vacant 0))
  counts_at =
      ap desk_state_counts (at ∙ get_or_default desk_states place default Gone low)
      ∙ sym (get_or-map desk_state_counts desk_states place Gone)
      ∙ ap (λ (counts : List (Bool × ℕ)). get_or counts place (false, 0)) fits
      ∙ get_or-map place_counts register place (vacant 0)

  -- a tenant that has the place is there
  pub has_tenant : (name : List ℕ) → place_in register name ≡ Some place → (desk_state_counts before).0 ≡ true
  has_tenant name found =
      ap (λ (c : Bool × ℕ). c.0) counts_at
      ∙ named (get_or register place (vacant 0)).tenant
      (position-Some (λ (p : Entry). is_named name p.tenant) register place (vacant 0) found).1
    where
      named : (tenant : Option (List ℕ)) → is_named name tenant ≡ true → is_some tenant ≡ true
      named None e = cc
      named (Some tenant) e = refl

  -- nobody has a place that the register gives, and it has an admission left
  pub has_none : (name : List ℕ) → place_for register name ≡ Ok place
      → ((desk_state_counts before).0 ≡ false) × ((desk_state_counts before).1 < most_admissions)
  has_none name given =
      let free = (position-Some is_free register place (vacant 0)
      (given_place (is_some (place_in register name)) (position is_free register) given)).1 in
      let parts = free_parts (get_or register place (vacant 0)) free in (
        ap (λ (c : Bool × ℕ). c.0) counts_at
            ∙ parts.0,
        subst (λ (n : ℕ). n < most_admissions) (sym (ap (λ (c : Bool × ℕ). c.1) counts_at)) parts.1,
      )
    where
      given_place : (held : Bool) (found : Option ℕ)
          → (if held then Err TenantExists else ok_or {E = OperatorRefusal} found Full) ≡ Ok place → found ≡ Some place
      given_place true found e = absurd (cc)
      given_place false None e = absurd (cc)
      given_place false (Some i) e = cc

      none_some : (tenant : Option (List ℕ)) → is_none tenant ≡ true → is_some tenant ≡ false
      none_some None e = refl
      none_some (Some tenant) e = cc

      free_parts : (p : Entry) → is_free p ≡ true → (is_some p.tenant ≡ false) × (p.admissions < most_admissions)
      free_parts p e = by (is_none p.tenant) (nat_lt p.admissions most_admissions) refl refl e
        where
          by : (a b : Bool) → is_none p.tenant ≡ a → nat_lt p.admissions most_admissions ≡ b → (a && b) ≡ true
              → (is_some p.tenant ≡ false) × (p.admissions < most_admissions)
          by true true none few both = (none_some p.tenant none, grind (arith, nat_tests))
          by true false none few both = absurd (cc)
          by false b none few both = absurd (cc)

-- what one look finds at a place, another finds there
pub same_here : (desk_states : List DeskState) (place : ℕ) (one other default fallback : DeskState)
    → place < length desk_states
    → one ≡ get_or desk_states place default → other ≡ get_or desk_states place fallback → one ≡ other
same_here desk_states place one other default fallback low at there =
    at ∙ get_or_default desk_states place default fallback low ∙ sym there

-- the desk of a tenant whose round is not away is home
pub home_there : (queue : QueueId) (place : ℕ) (answers : List HeldAnswer) (desk_state : DeskState)
    → DeskStateIs queue place answers desk_state
    → IsBack desk_state → (desk_state_counts desk_state).0 ≡ true → IsHomeOf queue desk_state
home_there queue place answers (Home desk waits) is back has = is.0
home_there queue place answers (Away asked) is back has = absurd back
home_there queue place answers (Empty empty) is back has = absurd (cc)
home_there queue place answers Gone is back has = absurd is

pub is_home : (queue : QueueId) (desk_state : DeskState) → IsHomeOf queue desk_state → IsHome desk_state
is_home queue (Home desk waits) is = tt
is_home queue (Away asked) is = absurd is
is_home queue (Empty empty) is = absurd is
is_home queue Gone is = absurd is

pub free_there : (queue : QueueId) (place : ℕ) (answers : List HeldAnswer) (desk_state : DeskState)
    → DeskStateIs queue place answers desk_state
    → (desk_state_counts desk_state).0 ≡ false → (desk_state_counts desk_state).1 < most_admissions → IsFree desk_state
free_there queue place answers (Home desk waits) is none few = absurd (cc)
free_there queue place answers (Away asked) is none few = absurd (cc)
free_there queue place answers (Empty empty) is none few = few
free_there queue place answers Gone is none few = absurd is

-- the same, of what a body finds at a place
module _ (queue : QueueId) (register : List Entry) (answers : List HeldAnswer) (desk_states : List DeskState)
    (are : AreDeskStates queue answers desk_states) (fits : Fits register desk_states) (place : ℕ)
    (before default : DeskState) (low : place < most_places) (at : before ≡ get_or desk_states place default) where
  within : place < length desk_states
  within = omega (arith, are.long)

  here : DeskStateIs queue place answers before
  here = subst (DeskStateIs queue place answers) (sym at) (are.each place default low)

  pub home_of : (name : List ℕ) → place_in register name ≡ Some place → IsBackAt place desk_states
      → IsHomeOf queue before
  home_of name found back =
      home_there queue place answers before here (subst IsBack (sym at) (back default low))
      (has_tenant register desk_states fits place before default within at name found)

  pub free_of : (name : List ℕ) → place_for register name ≡ Ok place → IsFree before
  free_of name given =
      let none = has_none register desk_states fits place before default within at name given in
      free_there queue place answers before here none.0 none.1

-- what is known of a place is known of what a body finds there
pub back_here : (place : ℕ) (desk_states : List DeskState) (before default : DeskState) → place < most_places
    → before ≡ get_or desk_states place default → IsBackAt place desk_states → IsBack before
back_here place desk_states before default low at back = subst IsBack (sym at) (back default low)
