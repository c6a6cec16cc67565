use Rattle.std.proofs.Common.{◌≡◌, ◌+◌, ◌<◌, ◌≤◌, ◌++◌, ◌∷◌, ℕ, List, [], Option, None, Some, IfSome, length, map}
use Rattle.std.proofs.Common.{sym, ap, subst, ◌∙◌, arith}
use Rattle.std.specs.List.{All}
use Rattle.std.proofs.lemmas.List.{length_push}
use Rattle.std.proofs.lemmas.List.Elements.{All-push}
use Rattle.firm_rules.specs.Limits.{TenantLimits}
use Rattle.firm_rules.specs.Placement.{Case}
use Rattle.firm_rules.specs.inner.Demands.{seen, case_seen, Fits, CaseFits}
use Rattle.firm_rules.specs.declared.demands.Demand.{Demand}
use Rattle.firm_rules.proofs.cases.Case.add_machine.Goals as goal

wider : (home : Option ℕ) (n : ℕ) → IfSome home (λ place. place < n) → IfSome home (λ place. place < n + 1)
wider None n there = tt
wider (Some place) n there = omega (arith, there)

module _ (limits : TenantLimits) (jobs : ℕ) (slots new : List ℕ) (demands : List Demand) (count : ℕ)
    (is : new ≡ slots ++ count ∷ []) where
  fits-with_machine : CaseFits (case_seen limits jobs slots demands) → count ≤ 64 → length slots < 4096
      → CaseFits (case_seen limits jobs new demands)
  fits-with_machine fits most room =
      let long : length new ≡ length slots + 1 = ap (λ (l : List ℕ). length l) is ∙ length_push slots count in
      record {
        tasks = subst (λ n. All (Fits n) (map seen demands)) (sym long) (λ k d l.
            let f = fits.tasks k d l in
            record {
              home = wider _ (length slots) f.home;
              preferred = λ i e b. omega (arith, f.preferred i e b);
              few = f.few;
              delay = f.delay;
            });
        slots = subst (All (λ n. n ≤ 64)) (sym is) (All-push (λ (n : ℕ). n ≤ 64) slots count fits.slots most);
        few_machines = omega (arith, long, room);
        few_tasks = fits.few_tasks;
      }

  grown : (given : ℕ) (case : Case) → case_seen limits jobs slots demands ≡ case → count ≡ given
      → (let after : Case = record case {
        slots = case.slots ++ given ∷ [];
      } in case_seen limits jobs new demands ≡ after)
  grown given case view same =
      ap (λ (l : List ℕ). case_seen limits jobs l demands) is
      ∙ ap (λ n. case_seen limits jobs (slots ++ n ∷ []) demands) same
      ∙ ap (λ (c : Case). let k : Case = record c { slots = c.slots ++ given ∷ [] } in k) view

pub invariant_of-self : goal.invariant_of-self
invariant_of-self g c =
    subst
    (λ (l : List ℕ). CaseFits (case_seen c.self.inside.limits c.self.inside.jobs l c.self.inside.demands.items))
    (sym c.in_err-push.ensures.items) c.self.invariant

pub invariant_of-self-2 : goal.invariant_of-self-2
invariant_of-self-2 g c =
    fits-with_machine c.self.inside.limits c.self.inside.jobs c.self.inside.slots.items c.push.new.self.items
    c.self.inside.demands.items c.get.result c.in_ok-push.ensures.items c.self.invariant c.get.ensures.most
    (subst (λ n. n < 4096) (sym (ap (λ (case : Case). length case.slots) c.self.view_is)) c.requires)

pub returns-clause-ok : goal.returns-clause-ok
returns-clause-ok g c =
    grown c.self.inside.limits c.self.inside.jobs c.self.inside.slots.items c.push.new.self.items
    c.self.inside.demands.items c.get.result c.in_ok-push.ensures.items c.args.slots c.args.self.now c.self.view_is
    c.get.ensures.value
