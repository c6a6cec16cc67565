-- A draft stays sound while rows are read.
use Rattle.std.proofs.Common.{◌≡◌, ◌<◌, ◌≤◌, ◌-◌, ◌∙◌, ℕ, suc, true, false, List, [], ◌∷◌, ◌++◌, length}
use Rattle.std.proofs.Common.{Option, Some, None, Result, Ok, Err, refl, sym, ap, subst, arith, append_assoc}
use Rattle.std.specs.Prelude.{◌||◌, ℤ, All, Bool, IfSome, IsSome, OnOk, if◌then◌else◌, is_some, nat_lt, option_map}
use Rattle.std.specs.Prelude.{replicate}
use Rattle.std.specs.Option.{is_none}
use Rattle.std.proofs.lemmas.List.{length_push}
use Rattle.std.proofs.lemmas.List.Elements.{All-push}
use Rattle.firm_rules.specs.Book.{Book}
use Rattle.firm_rules.specs.Limits.{TenantLimits}
use Rattle.firm_rules.specs.Names.{is_name}
use Rattle.firm_text.specs.Rosters.{most_places}
use Rattle.firm_saved.specs.Saved.{IsSoundPlace, filled, tenant_name, untouched}
use Rattle.firm_saved.specs.declared.drafts.Draft.{Draft as Kept}
use Rattle.firm_saved.specs.declared.faults.FaultKind.{FaultKind}
use Rattle.firm_saved.specs.declared.faults.FaultKind.TheVariants as fault
use Rattle.firm_saved.specs.declared.rows.Row.{Row}
use Rattle.firm_saved.specs.declared.rows.Row.TheVariants as row
use Rattle.firm_saved.specs.declared.saved.SavedPlace.{SavedPlace}
use Rattle.firm_saved.specs.declared.tenant_drafts.TenantDraft.{TenantDraft as KeptTenant}
use Rattle.firm_saved.specs.Drafts.{TenantDraft, booked, costs_fault, grown, has_tenant}
use Rattle.firm_saved.specs.Drafts.{job_fault, machine_fault, new_tenant, place_of, task_fault, tenant_fault}
use Rattle.firm_saved.specs.inner.Kept.{AreSoundPlaces, IsSoundDraft, IsSoundTenant, WasGiven, view}
use Rattle.firm_saved.specs.inner.Loads.{AreLoads, view as tenant_view}
use Rattle.firm_saved.specs.inner.Returned.{Gives}
use Rattle.firm_saved.proofs.Places.{sound_push}
use Rattle.firm_saved.proofs.Steps.{bind_ok, ok_is, place_count, unless_ok}

-- filling up may begin with one
pub fill_more : (places : List SavedPlace) → length places < most_places
    → filled (places ++ untouched ∷ []) ≡ filled places
fill_more places few =
    let long = length_push places untouched in
    let one : suc (most_places - length (places ++ untouched ∷ [])) ≡ most_places - length places = omega arith in
    append_assoc places (untouched ∷ []) (replicate (most_places - length (places ++ untouched ∷ [])) untouched)
    ∙ ap (λ n. places ++ replicate n untouched) one

pub none_if : {A : Type 0} (o : Option A) → ((x : A) → o ≡ Some x → ⊥) → o ≡ None
none_if None none = refl
none_if (Some x) none = absurd (none x refl)

-- where there is no place, no tenant stays
pub no_tenant : (kept : Kept) → IsSoundDraft kept → kept.present ≡ None → kept.tenant ≡ None
no_tenant kept sound none = none_if kept.tenant (λ t is. (sound.tenant t is).placed none)

-- where there is no fault, there is a place, and the name is new
cleared : (present : Option ℕ) (some named : Bool) (rest : Option FaultKind)
    → (if is_none present || some then Some fault.Row else if named then Some fault.Repeated else rest) ≡ None
    → (present ≡ None → ⊥) × (named ≡ false)
cleared None some named rest e = absurd cc
cleared (Some n) true named rest e = absurd cc
cleared (Some n) false true rest e = absurd cc
cleared (Some n) false false rest e = ((λ none. absurd cc), refl)

-- a tenant without a fault may stay at the present place
pub kept_tenant : (kept : Kept) (name : List ℕ) (limits : TenantLimits) (given : ℕ) (tenant : KeptTenant)
    → IsSoundDraft kept → tenant_fault (view kept) name limits given ≡ None → is_name name ≡ true
    → tenant_view tenant ≡ new_tenant name limits given → AreLoads tenant
    → IsSoundDraft (record kept { tenant = Some tenant })
kept_tenant kept name limits given tenant sound clear formed made loads =
    record {
      before = sound.before;
      given = sound.given;
      some = sound.some;
      room = sound.room;
      counted = sound.counted;
      tenant = λ other is. subst (IsSoundTenant kept.before.items kept.present) (the_same other is) stays;
    }
  where
    free : (kept.present ≡ None → ⊥) × (has_tenant kept.before.items name ≡ false)
    free =
        cleared kept.present (is_some (option_map tenant_view kept.tenant)) (has_tenant kept.before.items name)
        (if nat_lt limits.life given then Some fault.Commands else None) clear

    its : tenant.name ≡ name
    its = ap (λ (t : TenantDraft). t.name) made

    stays : IsSoundTenant kept.before.items kept.present tenant
    stays =
        record {
          loads = loads;
          named = subst (λ n. is_name n ≡ true) (sym its) formed;
          new = subst (λ n. has_tenant kept.before.items n ≡ false) (sym its) free.1;
          placed = free.0;
        }

    the_same : (other : KeptTenant) → Some tenant ≡ Some other → tenant ≡ other
    the_same other is = cc

vacant : {A : Type 0} (o : Option A) → o ≡ None → IsSome o → ⊥
vacant None e some = absurd (cc)
vacant (Some x) e some = absurd (cc)

-- a tenant's name is that of its rows
booked_name : (t : TenantDraft) (costs : Option (List ℤ)) (tenant : List ℕ × Book) → booked t costs ≡ Ok tenant
    → t.name ≡ tenant.0
booked_name t None tenant e = absurd cc
booked_name t (Some costs) tenant e =
    ap (λ (x : List ℕ × Book). x.0)
    (unless_ok _ (t.name, record { rows = t.rows; costs = costs; given = t.given }) tenant e).1

-- the present place was given, as those before it were
pub placed_given : (kept : Kept) (admissions : ℕ) (place : SavedPlace) → IsSoundDraft kept
    → kept.present ≡ Some admissions → place_of admissions (option_map tenant_view kept.tenant) ≡ Ok place
    → All WasGiven (kept.before.items ++ place ∷ [])
placed_given kept admissions place sound is made =
    All-push WasGiven kept.before.items place sound.given
    (subst (λ (n : ℕ). 0 < n) (place_count admissions (option_map tenant_view kept.tenant) place made)
    (sound.some admissions is))

-- the present place among those before it
pub placed : (kept : Kept) (admissions : ℕ) (place : SavedPlace) → IsSoundDraft kept → kept.present ≡ Some admissions
    → place_of admissions (option_map tenant_view kept.tenant) ≡ Ok place
    → (IfSome kept.tenant (λ t. is_name t.name ≡ true) → IsSoundPlace place)
    → AreSoundPlaces (kept.before.items ++ place ∷ [])
placed kept admissions place sound is made whole = by kept.tenant refl made whole
  where
    by : (tenant : Option KeptTenant) → kept.tenant ≡ tenant
        → place_of admissions (option_map tenant_view tenant) ≡ Ok place
        → (IfSome tenant (λ t. is_name t.name ≡ true) → IsSoundPlace place)
        → AreSoundPlaces (kept.before.items ++ place ∷ [])
    by None t-is made whole =
        let here : record { admissions = admissions; tenant = None } ≡ place = ok_is {E = FaultKind} _ _ made in
        let given : admissions ≡ place.admissions = ap (λ (p : SavedPlace). p.admissions) here in
        let none : None ≡ place.tenant = ap (λ (p : SavedPlace). p.tenant) here in
        let few = sound.counted admissions is in
        sound_push kept.before.items place sound.before (sound.room admissions is) (
          omega arith,
          λ some. absurd (vacant (tenant_name place)
              (sym (ap (option_map (λ (x : List ℕ × Book). x.0)) none)) some),
        ) (whole tt)
        (λ name named. absurd (let h : None ≡ Some name = ap (option_map (λ (x : List ℕ × Book). x.0)) none
        ∙ named in cc))
    by (Some t) t-is made whole =
        let good = sound.tenant t t-is in
        let tenant = bind_ok (booked (tenant_view t) t.costs)
        (λ tenant. let r : Result SavedPlace FaultKind = Ok
        (record { admissions = admissions; tenant = Some tenant }) in r)
        place made in
        let here : record { admissions = admissions; tenant = Some tenant.0 }
        ≡ place = ok_is {E = FaultKind} _ _ tenant.2 in
        let given : admissions ≡ place.admissions = ap (λ (p : SavedPlace). p.admissions) here in
        let named : t.name ≡ tenant.0.0 = booked_name (tenant_view t) t.costs tenant.0 tenant.1 in
        let few = sound.counted admissions is in
        let some = sound.some admissions is in
        sound_push kept.before.items place sound.before (sound.room admissions is) (omega arith, λ _. omega arith)
        (whole good.named)
        (λ name is-name.
        let own : Some tenant.0.0 ≡ Some name =
        ap (option_map (λ (x : List ℕ × Book). x.0)) (ap (λ (p : SavedPlace). p.tenant) here) ∙ is-name in
        let same : t.name ≡ name = named ∙ (cc) in
        subst (λ n. has_tenant kept.before.items n ≡ false) same good.new)

-- a tenant keeps its name
grown_name : (t : TenantDraft) (r : Row) (t2 : TenantDraft) → grown t r ≡ Ok t2 → t.name ≡ t2.name
grown_name t (row.Costs costs) t2 e =
    ap (λ (x : TenantDraft). x.name)
    (unless_ok (costs_fault t costs) (record t { costs = Some costs; rounds = length costs }) t2 e).1
grown_name t (row.Machine m) t2 e = ap (λ (x : TenantDraft). x.name) (unless_ok (machine_fault t m) _ t2 e).1
grown_name t (row.Job j) t2 e = ap (λ (x : TenantDraft). x.name) (unless_ok (job_fault t j) _ t2 e).1
grown_name t (row.Task task) t2 e = ap (λ (x : TenantDraft). x.name) (unless_ok (task_fault t task) _ t2 e).1
grown_name t (row.Place n) t2 e = absurd cc
grown_name t (row.Tenant name limits given) t2 e = absurd cc
grown_name t (row.Rows n) t2 e = absurd cc

-- a draft whose tenant has grown
pub kept_grown : {A : Type 0} (kept : Kept) (t t2 : KeptTenant) (r : Row) (result : Result A FaultKind)
    → IsSoundDraft kept
    → kept.tenant ≡ Some t
    → Gives (λ _. tenant_view t2) result (grown (tenant_view t) r) → OnOk result (AreLoads t2)
    → OnOk result (IsSoundDraft (record { before = kept.before; present = kept.present; tenant = Some t2 }))
kept_grown kept t t2 r (Err kind) sound is gives loads = tt
kept_grown kept t t2 r (Ok done) sound is gives loads =
    let good = sound.tenant t is in
    let name : t.name ≡ t2.name = grown_name (tenant_view t) r (tenant_view t2) gives in
    record {
      before = sound.before;
      given = sound.given;
      some = sound.some;
      room = sound.room;
      counted = sound.counted;
      tenant = λ x x-is. let same : t2 ≡ x = cc in subst (IsSoundTenant kept.before.items kept.present) same (record {
        loads = loads;
        named = subst (λ n. is_name n ≡ true) name good.named;
        new = subst (λ n. has_tenant kept.before.items n ≡ false) name good.new;
        placed = good.placed;
      });
    }
