use Rattle.std.proofs.Common.{◌∙◌, ◌++◌, ℕ, List, ap, subst, sym}
use Rattle.firm_text.specs.declared.headings.Heading.{Heading}
use Rattle.firm_saved.specs.Saved.{IsSoundSaved, saved_with}
use Rattle.firm_saved.specs.StateText.{state_text}
use Rattle.firm_table.specs.Ends.{TenantsFit, tenants_state}
use Rattle.firm_table.specs.Openings.{opened}
use Rattle.firm_state.proofs.Stopping.{folds_served, lacks_memory, stops_reading}
use Rattle.firm_state.proofs.program.fold.Goals as goal

pub returns-in-Err : goal.returns-in-Err
returns-in-Err g c = stops_reading _ _ _ _ _ c.in-Err.ensures.stopped

pub put_state-requires : goal.put_state-requires
put_state-requires g c =
    subst (λ (h : Heading). TenantsFit h c.in-Ok.tenants) (sym c.heading.ensures.heading) c.in-Ok.ensures.fit

pub returns-in-Ok-put_state : goal.returns-in-Ok-put_state
returns-in-Ok-put_state g c =
    let places = tenants_state c.in-Ok.tenants in
    let same = c.heading.ensures.heading in
    record {
      saved = saved_with (opened c.args.opening).heading places;
      sound = subst (λ (h : Heading). IsSoundSaved (saved_with h places)) same c.in-Ok-put_state.ensures.sound;
      folds = folds_served _ _ _ _ c.in-Ok.ensures.served;
      is = c.in-Ok-put_state.ensures.text
          ∙ ap (λ (before : List ℕ). before ++ state_text (saved_with c.heading.result places)) c.new-text.ensures.items
          ∙ ap (λ (h : Heading). state_text (saved_with h places)) same;
    }

pub returns : goal.returns
returns g c = lacks_memory _ _ _ (folds_served _ _ _ _ c.in-Ok.ensures.served)
