-- Why no tenant was admitted to an empty desk.
use Rattle.std.specs.Prelude.{◌≡◌, ◌<◌, ◌≤◌}
use Rattle.firm_text.specs.Registers.{most_admissions}
use Rattle.firm_hall.specs.Desks.{PlaceIs}
use Rattle.firm_hall.specs.declared.empty.AdmitFault.{AdmitFault}
use Rattle.firm_hall.specs.declared.empty.AdmitFault.TheVariants.{Worn, Memory}

-- the place has no admission left, or it has one and memory was refused; the empty desk is given back unchanged
abbrev pub IsAdmitFault : PlaceIs → AdmitFault → Type 0
IsAdmitFault before (Worn same) = (same ≡ before) × (most_admissions ≤ before.admissions)
IsAdmitFault before (Memory same) = (same ≡ before) × (before.admissions < most_admissions)
