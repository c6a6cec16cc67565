-- The representation of a state while its rows are read.
use Rattle.std.specs.Prelude.{◌≡◌, ◌<◌, ◌≤◌, ℕ, true, false, All, AllPairs, List, length, option_map, Option}
use Rattle.std.specs.Prelude.{Some, None}
use Rattle.firm_rules.specs.Names.{is_name}
use Rattle.firm_text.specs.Registers.{AreApart, IsCounted, most_admissions}
use Rattle.firm_text.specs.Rosters.{most_places}
use Rattle.firm_saved.specs.Saved.{IsSoundPlace, register_of}
use Rattle.firm_saved.specs.declared.drafts.Draft.{Draft as Kept}
use Rattle.firm_saved.specs.declared.saved.SavedPlace.{SavedPlace}
use Rattle.firm_saved.specs.Drafts.{Draft, has_tenant}
use Rattle.firm_saved.specs.inner.Loads.{AreLoads, view as tenant_view}
use Rattle.firm_saved.specs.declared.tenant_drafts.TenantDraft.{TenantDraft as KeptTenant}

-- the draft represented
abbrev pub view : Kept → Draft
view kept =
    record {
      before = kept.before.items;
      present = kept.present;
      tenant = option_map tenant_view kept.tenant;
    }

-- the places are as those of a sound state are, and no more
pub record AreSoundPlaces (places : List SavedPlace) : Type 0 where
  pub few : length places ≤ most_places
  pub apart : AllPairs AreApart (register_of places)
  pub counted : All IsCounted (register_of places)
  pub books : All IsSoundPlace places

-- the place was given
abbrev pub WasGiven : SavedPlace → Type 0
WasGiven place = 0 < place.admissions

-- the tenant of the present place may stay there
pub record IsSoundTenant (before : List SavedPlace) (present : Option ℕ) (kept : KeptTenant) : Type 0 where
  pub loads : AreLoads kept
  pub named : is_name kept.name ≡ true
  pub new : has_tenant before kept.name ≡ false
  pub placed : present ≡ None → ⊥

-- each place was given; there is room for the present one, and it was given no more often than it may be
pub record IsSoundDraft (kept : Kept) : Type 0 where
  pub before : AreSoundPlaces kept.before.items
  pub given : All WasGiven kept.before.items
  pub some : (admissions : ℕ) → kept.present ≡ Some admissions → 0 < admissions
  pub room : (admissions : ℕ) → kept.present ≡ Some admissions → length kept.before.items < most_places
  pub counted : (admissions : ℕ) → kept.present ≡ Some admissions → admissions ≤ most_admissions
  pub tenant : (tenant : KeptTenant) → kept.tenant ≡ Some tenant
      → IsSoundTenant kept.before.items kept.present tenant
