use Rattle.std.proofs.Common.{◌≡◌, ◌∙◌, Ok, Option, sym, ap, subst, true}
use Rattle.std.specs.Prelude.{All, IfSome, option_map}
use Rattle.firm_rules.specs.Names.{is_name}
use Rattle.firm_saved.specs.Saved.{IsSoundPlace}
use Rattle.firm_saved.specs.declared.tenant_drafts.TenantDraft.{TenantDraft as KeptTenant}
use Rattle.firm_saved.specs.Drafts.{place_of}
use Rattle.firm_saved.specs.inner.Kept.{AreSoundPlaces, WasGiven}
use Rattle.firm_saved.specs.inner.Loads.{view as tenant_view}
use Rattle.firm_saved.proofs.Keeping.{no_tenant, none_if, placed, placed_given}
use Rattle.firm_saved.proofs.drafts.Draft.close.Goals as goal

pub returns-in_default-clause-none : goal.returns-in_default-clause-none
returns-in_default-clause-none c = (
  c.take.ensures.after,
  no_tenant c.args.self.now c.requires (sym c.take.ensures.value ∙ none_if c.take.result c.in_default.not-Some),
)

-- the present place, as the draft has it
made : (c : goal.In_ok-push) → place_of c.in-Some.admissions (option_map tenant_view c.args.self.now.tenant)
    ≡ Ok c.in_ok-place.place
made c =
    sym (c.in_ok-place.ensures.value
    ∙ ap (λ (t : Option KeptTenant). place_of c.in-Some.admissions
    (option_map tenant_view t)) c.take-2.ensures.value)

pub returns-clause-sound : goal.returns-clause-sound
returns-clause-sound c =
    subst AreSoundPlaces (sym c.in_ok-push.ensures.items)
    (placed c.args.self.now c.in-Some.admissions c.in_ok-place.place c.requires
    (sym c.take.ensures.value ∙ c.in-Some.is) (made c)
    (subst
    (λ (t : Option KeptTenant). IfSome t (λ kept. is_name kept.name ≡ true) → IsSoundPlace c.in_ok-place.place)
    c.take-2.ensures.value c.in_ok-place.ensures.sound))

pub returns-clause-given : goal.returns-clause-given
returns-clause-given c =
    subst (All WasGiven) (sym c.in_ok-push.ensures.items)
    (placed_given c.args.self.now c.in-Some.admissions c.in_ok-place.place c.requires
    (sym c.take.ensures.value ∙ c.in-Some.is) (made c))
